-- What is decoded of a body stays, whatever follows.
use Rattle.std.proofs.Common.{◌≡◌, ℕ, zero, suc, ◌+◌, ◌-◌, ◌≤◌, ◌<◌, ◌⊎◌, inl, inr, Bool, true, false, ◌||◌, ◌&&◌, ◌==◌, nat_lt, List, [], ◌∷◌, ◌++◌, length, take, drop, refl, sym, ap, ◌∙◌, subst, arith, append_assoc, append-nil, length-append, length-drop, Option, Some, None, if◌then◌else◌}
use lib.Seq.{take-append-le, drop-append-le, take-append-add}
use Rattle.std.specs.Prelude.{⊤}
use Rattle.std.proofs.lemmas.Bool.{lt-ltb, le-ltb, cases_lt}
use Rattle.httparse.specs.Grammar.{Field, ChunkLine, chunk_size}
use Rattle.http1_requests.specs.HeadEnd.{begins_with, line_size, size_to_empty_line, section_size, line_feeds, Cut, NoEnd, TooLarge, Ends, cut_by, cut_at}
use Rattle.http1_requests.specs.GrammarReading.{section_in, chunk_line_in}
use Rattle.gate_world.specs.declared.body_length.BodyLength.{BodyLength}
use Rattle.gate_world.specs.declared.body_length.BodyLength.TheVariants.{Nothing, Length, Chunked}
use Rattle.http1_requests.specs.ChunkedBody.{BodyEnd, GoesOn, Breaks, EndsBefore, Body, Chunk, Stops, Whole, behind_data, trailers_end, trailers, sized_chunk, chunk_behind, chunk_by, chunk_of, behind, then_chunks, decoded_within, decoded, counted, body_of}
use Rattle.http1_requests.specs.PartGrowth.{GrowsCut}
use Rattle.http1_requests.proofs.GrowLemmas.{Stays, stays_none, stays_same, alone, line_size_grows, in_line_grows}
use Rattle.http1_requests.proofs.CutLemmas.{Within, within_if, within_take, line_size_within, in_line_within, cut_at_grows}

-- ---- trailer sections

one_feed : (s t v : Bool) (x old new : Option ℕ) → old ≡ None
    → Stays (if s || (t && false) then x else old) (if s || (t && v) then x else new)
one_feed true t v x old new none = λ a e. e
one_feed false true v x old new none = stays_none old _ none
one_feed false false v x old new none = stays_none old _ none

-- the size of a section stays
pub section_size_grows : (bytes more : List ℕ) → Stays (section_size bytes) (section_size (bytes ++ more))
unfolding size_to_empty_line
section_size_grows [] more = stays_none None _ refl
section_size_grows (b ∷ []) more =
    one_feed (b == 10) (b == 13) (begins_with 10 more) (Some (if b == 10 then 1 else 2)) _ _ (alone b)
section_size_grows (b ∷ c ∷ bytes) more =
    stays_same (b == 10 || (b == 13 && c == 10)) (Some (if b == 10 then 1 else 2)) _ _
    (in_line_grows (b ∷ c ∷ bytes) more)

one_within : (s t : Bool) (y : Option ℕ) → Within y 1
    → Within (if s || (t && false) then Some (if s then 1 else 2) else y) 1
one_within true t y h = (omega arith, omega arith)
one_within false true y h = h
one_within false false y h = h

two_long : (t : Bool) (n : ℕ) → (0 < (if t then 1 else 2)) × ((if t then 1 else 2) ≤ suc (suc n))
two_long true n = (omega arith, omega arith)
two_long false n = (omega arith, omega arith)

-- a section has a byte at least, and at most all
pub section_size_within : (bytes : List ℕ) → Within (section_size bytes) (length bytes)
unfolding size_to_empty_line
section_size_within [] = tt
section_size_within (b ∷ []) = one_within (b == 10) (b == 13) _ (in_line_within (b ∷ []))
section_size_within (b ∷ c ∷ bytes) =
    within_if (b == 10 || (b == 13 && c == 10)) (Some (if b == 10 then 1 else 2)) _ _
    (two_long (b == 10) (length bytes)) (in_line_within (b ∷ c ∷ bytes))

-- ---- what is left is shorter

-- what stands behind a cut is shorter
abbrev pub ShortCut : Cut → ℕ → Type 0
ShortCut NoEnd k = ⊤
ShortCut TooLarge k = ⊤
ShortCut (Ends part rest) k = length rest < k

-- what stands behind a cut is shorter
pub cut_at_shorter : (size : List ℕ → Option ℕ) → ((b : List ℕ) → Within (size b) (length b)) → (bytes : List ℕ)
    → ShortCut (cut_at size bytes) (length bytes)
cut_at_shorter size within bytes =
    by (size (take 16384 bytes)) (within_take 16384 (size (take 16384 bytes)) bytes (within (take 16384 bytes)))
  where
    two : (t : Bool) → ShortCut (if t then NoEnd else TooLarge) (length bytes)
    two true = tt
    two false = tt

    by : (x : Option ℕ) → Within x (length bytes) → ShortCut (cut_by x bytes) (length bytes)
    by None h = two (nat_lt (length bytes) 16384)
    by (Some n) h = omega (arith, h.0, h.1, length-drop n bytes)

-- what stands behind a body is no longer
abbrev pub ShortEnd : BodyEnd → ℕ → Type 0
ShortEnd GoesOn k = ⊤
ShortEnd Breaks k = ⊤
ShortEnd (EndsBefore rest) k = length rest ≤ k

-- what stands behind a chunk is shorter
abbrev pub Short : Chunk → ℕ → Type 0
Short (Stops d over) k = ShortEnd over k
Short (Whole d rest) k = length rest < k

end_weaken : (o : BodyEnd) (j k : ℕ) → j ≤ k → ShortEnd o j → ShortEnd o k
end_weaken GoesOn j k l h = tt
end_weaken Breaks j k l h = tt
end_weaken (EndsBefore rest) j k l h = omega (arith, l, h)

weaken : (c : Chunk) (j k : ℕ) → j ≤ k → Short c j → Short c k
weaken (Stops d over) j k l h = end_weaken over j k l h
weaken (Whole d rest) j k l h = omega (arith, l, h)

data_shorter : (d x : List ℕ) → Short (behind_data d x) (length x)
data_shorter d [] = tt
data_shorter d (b ∷ []) = by (b == 13)
  where
    by : (t : Bool) → Short (if t then Stops d GoesOn else Stops d Breaks) 1
    by true = tt
    by false = tt
data_shorter d (b ∷ c ∷ rest) = by (b == 13) (c == 10)
  where
    by : (s t : Bool) → Short (if s then (if t then Whole d rest else Stops d Breaks) else Stops d Breaks)
        (suc (suc (length rest)))
    by true true = omega arith
    by true false = tt
    by false t = tt

trailers_shorter : (c : Cut) (k : ℕ) → ShortCut c k → ShortEnd (trailers c) k
trailers_shorter NoEnd k h = tt
trailers_shorter TooLarge k h = tt
trailers_shorter (Ends s rest) k h = by (section_in s)
  where
    two : (t : Bool) → ShortEnd (if t then Breaks else EndsBefore rest) k
    two true = tt
    two false = omega (arith, h)

    by : (x : Option (List Field)) → ShortEnd (trailers_end x (line_feeds s) rest) k
    by None = tt
    by (Some fields) = two (nat_lt 65 (line_feeds s))

sized_shorter : (size : ℕ) (bytes : List ℕ) → Short (sized_chunk size bytes) (length bytes)
sized_shorter size bytes = by (size == 0) (nat_lt (length bytes) size)
  where
    by : (s t : Bool) → Short
        (if s then Stops [] (trailers (cut_at section_size bytes)) else
        (if t then Stops bytes GoesOn else behind_data (take size bytes) (drop size bytes))) (length bytes)
    by true t =
        trailers_shorter (cut_at section_size bytes) (length bytes)
        (cut_at_shorter section_size section_size_within bytes)
    by false true = tt
    by false false =
        weaken (behind_data (take size bytes) (drop size bytes)) (length (drop size bytes)) (length bytes)
        (omega (arith, length-drop size bytes)) (data_shorter (take size bytes) (drop size bytes))

-- what stands behind a chunk is shorter
pub chunk_of_shorter : (bytes : List ℕ) → Short (chunk_of bytes) (length bytes)
chunk_of_shorter bytes = by (cut_at line_size bytes) (cut_at_shorter line_size line_size_within bytes)
  where
    line : (x : Option ChunkLine) (rest : List ℕ) → length rest < length bytes
        → Short (chunk_behind x rest) (length bytes)
    line None rest h = tt
    line (Some l) rest h =
        weaken (sized_chunk (chunk_size l) rest) (length rest) (length bytes) (omega (arith, h))
        (sized_shorter (chunk_size l) rest)

    by : (c : Cut) → ShortCut c (length bytes) → Short (chunk_by c) (length bytes)
    by NoEnd h = tt
    by TooLarge h = tt
    by (Ends l rest) h = line (chunk_line_in l) rest h

-- what stands behind a body in chunks is no longer
pub decoded_shorter : (k : ℕ) (bytes : List ℕ) → ShortEnd (decoded_within k bytes).over (length bytes)
unfolding decoded_within
decoded_shorter zero bytes = tt
decoded_shorter (suc k) bytes = by (chunk_of bytes) (chunk_of_shorter bytes) (λ r. decoded_shorter k r)
  where
    by : (c : Chunk) → Short c (length bytes) → ((r : List ℕ) → ShortEnd (decoded_within k r).over (length r))
        → ShortEnd (then_chunks (decoded_within k) c).over (length bytes)
    by (Stops d over) h go = h
    by (Whole d rest) h go =
        end_weaken (decoded_within k rest).over (length rest) (length bytes) (omega (arith, h)) (go rest)

-- ---- what was there stays

-- the end of a body, as more comes
abbrev pub GrowsEnd : BodyEnd → BodyEnd → List ℕ → Type 0
GrowsEnd GoesOn new more = ⊤
GrowsEnd Breaks new more = new ≡ Breaks
GrowsEnd (EndsBefore rest) new more = new ≡ EndsBefore (rest ++ more)

-- the data of a chunk
abbrev pub data_of : Chunk → List ℕ
data_of (Stops d over) = d
data_of (Whole d rest) = d

-- the last chunk, as more comes
abbrev pub GrowsStop : BodyEnd → List ℕ → Chunk → List ℕ → Type 0
GrowsStop GoesOn d new more = (x : List ℕ) × (data_of new ≡ d ++ x)
GrowsStop Breaks d new more = new ≡ Stops d Breaks
GrowsStop (EndsBefore rest) d new more = new ≡ Stops d (EndsBefore (rest ++ more))

-- a chunk, as more comes
abbrev pub GrowsChunk : Chunk → Chunk → List ℕ → Type 0
GrowsChunk (Stops d over) new more = GrowsStop over d new more
GrowsChunk (Whole d rest) new more = new ≡ Whole d (rest ++ more)

data_is : (d x : List ℕ) → data_of (behind_data d x) ≡ d
data_is d [] = refl
data_is d (b ∷ []) = by (b == 13)
  where
    by : (t : Bool) → data_of (if t then Stops d GoesOn else Stops d Breaks) ≡ d
    by true = refl
    by false = refl
data_is d (b ∷ c ∷ rest) = by (b == 13) (c == 10)
  where
    by : (s t : Bool) → data_of (if s then (if t then Whole d rest else Stops d Breaks) else Stops d Breaks) ≡ d
    by true true = refl
    by true false = refl
    by false t = refl

data_grows : (d x more : List ℕ) → GrowsChunk (behind_data d x) (behind_data d (x ++ more)) more
data_grows d [] more = ([], data_is d more ∙ sym (append-nil d))
data_grows d (b ∷ []) [] = by (b == 13)
  where
    by : (t : Bool) → GrowsChunk (if t then Stops d GoesOn else Stops d Breaks)
        (if t then Stops d GoesOn else Stops d Breaks) []
    by true = ([], sym (append-nil d))
    by false = refl
data_grows d (b ∷ []) (c ∷ more) = by (b == 13) (c == 10)
  where
    by : (s t : Bool) → GrowsChunk (if s then Stops d GoesOn else Stops d Breaks)
        (if s then (if t then Whole d more else Stops d Breaks) else Stops d Breaks) (c ∷ more)
    by true true = ([], sym (append-nil d))
    by true false = ([], sym (append-nil d))
    by false t = refl
data_grows d (b ∷ c ∷ rest) more = by (b == 13) (c == 10)
  where
    by : (s t : Bool) → GrowsChunk (if s then (if t then Whole d rest else Stops d Breaks) else Stops d Breaks)
        (if s then (if t then Whole d (rest ++ more) else Stops d Breaks) else Stops d Breaks) more
    by true true = refl
    by true false = refl
    by false t = refl

trailers_grow : (c e : Cut) (more : List ℕ) → GrowsCut c e more → GrowsEnd (trailers c) (trailers e) more
trailers_grow NoEnd e more g = tt
trailers_grow TooLarge e more g = ap trailers g
trailers_grow (Ends s rest) e more g = by (section_in s) (nat_lt 65 (line_feeds s)) (ap trailers g)
  where
    two : (t : Bool) (new : BodyEnd) → new ≡ (if t then Breaks else EndsBefore (rest ++ more))
        → GrowsEnd (if t then Breaks else EndsBefore rest) new more
    two true new e = e
    two false new e = e

    by : (x : Option (List Field)) (t : Bool) {new : BodyEnd} → new ≡ trailers_end x (line_feeds s) (rest ++ more)
        → GrowsEnd (trailers_end x (line_feeds s) rest) new more
    by None t h = h
    by (Some fields) t h = two (nat_lt 65 (line_feeds s)) _ h

stop_grows : (o e : BodyEnd) (d more : List ℕ) → GrowsEnd o e more → GrowsChunk (Stops d o) (Stops d e) more
stop_grows GoesOn e d more g = ([], sym (append-nil d))
stop_grows Breaks e d more g = ap (λ (x : BodyEnd). Stops d x) g
stop_grows (EndsBefore rest) e d more g = ap (λ (x : BodyEnd). Stops d x) g

first_data : (size : ℕ) (bytes more : List ℕ) → length bytes < size → (t : Bool)
    → (x : List ℕ) × (data_of
    (if t then Stops (bytes ++ more) GoesOn else behind_data (take size (bytes ++ more))
    (drop size (bytes ++ more))) ≡ bytes ++ x)
first_data size bytes more few true = (more, refl)
first_data size bytes more few false =
    let there : length bytes + (size - length bytes) ≡ size = omega (arith, few) in (
      take (size - length bytes) more,
      data_is (take size (bytes ++ more)) (drop size (bytes ++ more))
          ∙ ap (λ (n : ℕ). take n (bytes ++ more)) (sym there) ∙ take-append-add bytes more (size - length bytes),
    )

sized_grows : (size : ℕ) (bytes more : List ℕ)
    → GrowsChunk (sized_chunk size bytes) (sized_chunk size (bytes ++ more)) more
sized_grows size bytes more = by (size == 0) (cases_lt (length bytes) size)
  where
    by : (s : Bool) → (length bytes < size) ⊎ (size ≤ length bytes) → GrowsChunk
        (if s then Stops [] (trailers (cut_at section_size bytes)) else
        (if nat_lt (length bytes) size then Stops bytes GoesOn else behind_data (take size bytes)
        (drop size bytes)))
        (if s then Stops [] (trailers (cut_at section_size (bytes ++ more))) else
        (if nat_lt (length (bytes ++ more)) size then Stops (bytes ++ more) GoesOn else behind_data
        (take size (bytes ++ more)) (drop size (bytes ++ more)))) more
    by true h =
        stop_grows _ _ [] more
        (trailers_grow (cut_at section_size bytes) (cut_at section_size (bytes ++ more)) more
        (cut_at_grows section_size section_size_grows section_size_within bytes more))
    by false (inl few) = rw (lt-ltb _ _ few) (first_data size bytes more few (nat_lt (length (bytes ++ more)) size))
    by false (inr many) =
        let still : size ≤ length (bytes ++ more) = omega (arith, length-append bytes more, many) in
        rw (
          le-ltb _ _ many,
          le-ltb _ _ still,
          take-append-le size bytes more many,
          drop-append-le size bytes more many,
        ) (data_grows (take size bytes) (drop size bytes) more)

line_grows : (x : Option ChunkLine) (rest more : List ℕ)
    → GrowsChunk (chunk_behind x rest) (chunk_behind x (rest ++ more)) more
line_grows None rest more = refl
line_grows (Some l) rest more = sized_grows (chunk_size l) rest more

cut_chunk_grows : (c e : Cut) (more : List ℕ) → GrowsCut c e more → GrowsChunk (chunk_by c) (chunk_by e) more
cut_chunk_grows NoEnd e more g = (data_of (chunk_by e), refl)
cut_chunk_grows TooLarge e more g = ap chunk_by g
cut_chunk_grows (Ends l rest) e more g =
    subst (λ (n : Cut). GrowsChunk (chunk_behind (chunk_line_in l) rest) (chunk_by n) more) (sym g)
    (line_grows (chunk_line_in l) rest more)

-- a chunk stays as more comes, and one that goes on begins with its data
pub chunk_of_grows : (bytes more : List ℕ) → GrowsChunk (chunk_of bytes) (chunk_of (bytes ++ more)) more
chunk_of_grows bytes more =
    cut_chunk_grows _ _ more (cut_at_grows line_size line_size_grows line_size_within bytes more)

-- ---- bodies

-- a body, as more comes
abbrev pub GrowsBy : BodyEnd → List ℕ → Body → List ℕ → Type 0
GrowsBy GoesOn d new more = (x : List ℕ) × (new.bytes ≡ d ++ x)
GrowsBy Breaks d new more = new ≡ record { bytes = d; over = Breaks }
GrowsBy (EndsBefore rest) d new more = new ≡ record { bytes = d; over = EndsBefore (rest ++ more) }

behind_grows : (d : List ℕ) (o : BodyEnd) (b : List ℕ) (new : Body) (more : List ℕ) → GrowsBy o b new more
    → GrowsBy o (d ++ b) (behind d new) more
behind_grows d GoesOn b new more g = (g.0, ap (λ (t : List ℕ). d ++ t) g.1 ∙ sym (append_assoc d b g.0))
behind_grows d Breaks b new more g = ap (behind d) g
behind_grows d (EndsBefore rest) b new more g = ap (behind d) g

data_first : (go : List ℕ → Body) (e : Chunk) → (y : List ℕ) × ((then_chunks go e).bytes ≡ data_of e ++ y)
data_first go (Stops d over) = ([], sym (append-nil d))
data_first go (Whole d rest) = ((go rest).bytes, refl)

-- a body in chunks stays as more comes, within any two bounds that are large enough
pub decoded_grows : (j k : ℕ) (bytes more : List ℕ) → length bytes < j → length bytes + length more < k
    → GrowsBy (decoded_within j bytes).over (decoded_within j bytes).bytes (decoded_within k (bytes ++ more)) more
unfolding decoded_within
decoded_grows zero k bytes more a b = absurd (omega arith)
decoded_grows (suc j) zero bytes more a b = absurd (omega arith)
decoded_grows (suc j) (suc k) bytes more a b =
    by (chunk_of bytes) (chunk_of (bytes ++ more)) (chunk_of_grows bytes more) (chunk_of_shorter bytes)
    (λ r h. decoded_grows j k r more (omega (arith, h, a)) (omega (arith, h, b)))
  where
    by : (c e : Chunk) → GrowsChunk c e more → Short c (length bytes)
        → ((r : List ℕ) → length r < length bytes
        → GrowsBy (decoded_within j r).over (decoded_within j r).bytes (decoded_within k (r ++ more)) more)
        → GrowsBy (then_chunks (decoded_within j) c).over (then_chunks (decoded_within j) c).bytes
        (then_chunks (decoded_within k) e) more
    by (Stops d GoesOn) e g h go =
        let first = data_first (decoded_within k) e in
        (g.0 ++ first.0, first.1 ∙ ap (λ (t : List ℕ). t ++ first.0) g.1 ∙ append_assoc d g.0 first.0)
    by (Stops d Breaks) e g h go = ap (then_chunks (decoded_within k)) g
    by (Stops d (EndsBefore rest)) e g h go = ap (then_chunks (decoded_within k)) g
    by (Whole d rest) e g h go =
        subst (λ (n : Chunk). GrowsBy (decoded_within j rest).over (d ++ (decoded_within j rest).bytes)
        (then_chunks (decoded_within k) n) more) (sym g)
        (behind_grows d (decoded_within j rest).over (decoded_within j rest).bytes
        (decoded_within k (rest ++ more)) more (go rest h))

few_counted : (size : ℕ) (bytes more : List ℕ) → length bytes < size → (t : Bool)
    → (x : List ℕ) × ((if◌then◌else◌ {A = Body} t (record { bytes = bytes ++ more; over = GoesOn })
    (record {
      bytes = take size (bytes ++ more);
      over = EndsBefore
          (drop size (bytes ++ more));
    })).bytes ≡ bytes ++ x)
few_counted size bytes more few true = (more, refl)
few_counted size bytes more few false =
    let there : length bytes + (size - length bytes) ≡ size = omega (arith, few) in (
      take (size - length bytes) more,
      ap (λ (n : ℕ). take n (bytes ++ more)) (sym there)
          ∙ take-append-add bytes more (size - length bytes),
    )

counted_grows : (size : ℕ) (bytes more : List ℕ)
    → GrowsBy (counted size bytes).over (counted size bytes).bytes (counted size (bytes ++ more)) more
counted_grows size bytes more = by (cases_lt (length bytes) size)
  where
    by : (length bytes < size) ⊎ (size ≤ length bytes)
        → GrowsBy (counted size bytes).over (counted size bytes).bytes (counted size (bytes ++ more)) more
    by (inl few) = rw (lt-ltb _ _ few) (few_counted size bytes more few (nat_lt (length (bytes ++ more)) size))
    by (inr many) =
        let still : size ≤ length (bytes ++ more) = omega (arith, length-append bytes more, many) in
        rw (
          le-ltb _ _ many,
          le-ltb _ _ still,
          take-append-le size bytes more many,
          drop-append-le size bytes more many,
        ) refl

-- a body stays as more comes, and one that goes on begins with its bytes
pub body_grows : (l : BodyLength) (bytes more : List ℕ)
    → GrowsBy (body_of l bytes).over (body_of l bytes).bytes (body_of l (bytes ++ more)) more
unfolding decoded
body_grows Nothing bytes more = refl
body_grows (Length size) bytes more = counted_grows size bytes more
body_grows Chunked bytes more =
    decoded_grows (suc (length bytes)) (suc (length (bytes ++ more))) bytes more (omega arith)
    (omega (arith, length-append bytes more))

-- what stands behind a body is no longer
pub body_shorter : (l : BodyLength) (bytes : List ℕ) → ShortEnd (body_of l bytes).over (length bytes)
unfolding decoded
body_shorter Nothing bytes = omega arith
body_shorter (Length size) bytes = by (nat_lt (length bytes) size)
  where
    by : (t : Bool) → ShortEnd
        (if◌then◌else◌ {A = Body} t (record { bytes = bytes; over = GoesOn })
        (record { bytes = take size bytes; over = EndsBefore (drop size bytes) })).over (length bytes)
    by true = tt
    by false = omega (arith, length-drop size bytes)
body_shorter Chunked bytes = decoded_shorter (suc (length bytes)) bytes
