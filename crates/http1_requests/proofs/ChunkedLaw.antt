-- Chunks follow one another, as the grammar prints them: `laws::chunks_follow_one_another`.
use Rattle.std.proofs.Common.{◌≡◌, ℕ, zero, suc, ◌+◌, ◌≤◌, ◌<◌, ◌⊎◌, inl, inr, Bool, true, false, ◌==◌, nat_lt, All, List, [], ◌∷◌, ◌++◌, length, take, drop, refl, sym, ap, ◌∙◌, subst, arith, append_assoc, append-nil, length-append, length-take, ne_eqb, Option, Some, None, if◌then◌else◌}
use Rattle.std.specs.Prelude.{⊤}
use Rattle.std.specs.List.{flat_map}
use Rattle.std.proofs.Math.Seq.{take-append_seam, drop-append_seam}
use Rattle.std.proofs.lemmas.Bool.{eqb-true, lt-ltb, le-ltb, cases_lt}
use Rattle.std.proofs.lemmas.List.{take-append-drop}
use Rattle.std.proofs.lemmas.List.Elements.{All-head, All-tail, All-cons, All-nil}
use Rattle.httparse.specs.Grammar.{Field, IsField, LineEnd, print_section, ReadsSection, ChunkLine, chunk_size, print_chunk_line}
use Rattle.http1_requests.specs.HeadEnd.{line_size, section_size, line_feeds, Cut, NoEnd, TooLarge, Ends, cut_at}
use Rattle.http1_requests.specs.GrammarReading.{section_in, chunk_line_in}
use Rattle.http1_requests.specs.ChunkedBody.{BodyEnd, GoesOn, Breaks, EndsBefore, Body, Chunk, Stops, Whole, behind_data, trailers_end, trailers, sized_chunk, chunk_behind, chunk_by, chunk_of, behind, then_chunks, decoded_within, decoded}
use Rattle.http1_requests.specs.ChunkedText.{DataChunk, print_chunk, IsSizeLine, IsDataChunk, BodyTail, print_tail, IsBodyTail, ReadsChunked}
use Rattle.http1_requests.proofs.SectionLaw.{section_read, section_reads}
use Rattle.http1_requests.proofs.ChunkLaw.{line_read, line_reads}
use Rattle.http1_requests.proofs.LineLemmas.{line_feeds_print_section}
use Rattle.http1_requests.proofs.BodyLemmas.{Short, chunk_of_shorter}
use Rattle.http1_requests.proofs.CutLaw.{sections_cut, lines_cut, cut_line, cut_section}

-- ---- one step

-- a bound that is large enough is none
same_decoded : (j k : ℕ) (bytes : List ℕ) → length bytes < j → length bytes < k
    → decoded_within j bytes ≡ decoded_within k bytes
unfolding decoded_within
same_decoded zero k bytes enough fits = absurd (omega arith)
same_decoded (suc j) zero bytes enough fits = absurd (omega arith)
same_decoded (suc j) (suc k) bytes enough fits =
    by (chunk_of bytes) (chunk_of_shorter bytes)
    (λ r h. same_decoded j k r (omega (arith, h, enough)) (omega (arith, h, fits)))
  where
    by : (c : Chunk) → Short c (length bytes)
        → ((r : List ℕ) → length r < length bytes → decoded_within j r ≡ decoded_within k r)
        → then_chunks (decoded_within j) c ≡ then_chunks (decoded_within k) c
    by (Stops d over) h go = refl
    by (Whole d rest) h go = ap (behind d) (go rest h)

-- a body in chunks is what its first chunk gives, and the body of the bytes behind it
pub decoded_step : (bytes : List ℕ) → decoded bytes ≡ then_chunks decoded (chunk_of bytes)
unfolding decoded decoded_within
decoded_step bytes = by (chunk_of bytes) (chunk_of_shorter bytes)
  where
    by : (c : Chunk) → Short c (length bytes)
        → then_chunks (decoded_within (length bytes)) c ≡ then_chunks
        (λ rest. decoded_within (suc (length rest)) rest) c
    by (Stops d over) h = refl
    by (Whole d rest) h = ap (behind d) (same_decoded (length bytes) (suc (length rest)) rest h (omega arith))

-- ---- what a chunk is of

-- a last chunk stands at the front
abbrev EndsSo : List ℕ → List ℕ → BodyEnd → Type 0
EndsSo bytes d GoesOn = ⊤
EndsSo bytes d Breaks = ⊤
EndsSo bytes d (EndsBefore rest) =
    (d ≡ []) × ((t : BodyTail) × IsBodyTail t × (bytes ≡ print_tail t ++ rest))

-- a chunk stands at the front
abbrev pub Says : List ℕ → Chunk → Type 0
Says bytes (Stops d over) = EndsSo bytes d over
Says bytes (Whole d rest) = (c : DataChunk) × IsDataChunk c × (d ≡ c.data_bytes) × (bytes ≡ print_chunk c ++ rest)

-- a trailer section stands at the front
abbrev SectionSo : List ℕ → BodyEnd → Type 0
SectionSo bytes GoesOn = ⊤
SectionSo bytes Breaks = ⊤
SectionSo bytes (EndsBefore rest) =
    (fields : List Field) × (last : LineEnd) × All IsField fields × (length fields ≤ 64)
    × (length (print_section fields last) ≤ 16384) × (bytes ≡ print_section fields last ++ rest)

few_fields : (fields : List Field) (last : LineEnd) (section : List ℕ) → ReadsSection section fields last []
    → nat_lt 65 (line_feeds section) ≡ false → length fields ≤ 64
few_fields fields last section read few =
    let count : line_feeds section ≡ length fields + 1 =
    ap line_feeds (read.1 ∙ append-nil (print_section fields last)) ∙ line_feeds_print_section fields last read.0 in
    by (cases_lt 65 (line_feeds section)) count
  where
    both : {t : Bool} → t ≡ false → t ≡ true → ⊥
    both e f = absurd (cc)

    by : (65 < line_feeds section) ⊎ (line_feeds section ≤ 65) → line_feeds section ≡ length fields + 1
        → length fields ≤ 64
    by (inl more) count = absurd (both few (lt-ltb _ _ more))
    by (inr less) count = omega (arith, less, count)

section_says : (bytes : List ℕ) → SectionSo bytes (trailers (cut_at section_size bytes))
section_says bytes = by (cut_at section_size bytes) refl
  where
    found : (section rest : List ℕ) → cut_at section_size bytes ≡ Ends section rest → (x : Option (List Field))
        → section_in section ≡ x → (t : Bool) → nat_lt 65 (line_feeds section) ≡ t
        → SectionSo bytes (trailers_end x (line_feeds section) rest)
    found section rest e None is t few = tt
    found section rest e (Some fields) is true few = rw few tt
    found section rest e (Some fields) is false few =
        let read = section_reads section fields is in
        let off = sections_cut.ends bytes section rest e in
        let printed : section ≡ print_section fields read.0 =
        read.1.1 ∙ append-nil (print_section fields read.0) in
        rw few (
          fields,
          read.0,
          read.1.0,
          few_fields fields read.0 section read.1 few,
          omega (arith, off.room, ap (λ (w : List ℕ). length w) printed),
          off.front ∙ ap (λ (w : List ℕ). w ++ rest) printed,
        )

    by : (c : Cut) → cut_at section_size bytes ≡ c → SectionSo bytes (trailers c)
    by NoEnd e = tt
    by TooLarge e = tt
    by (Ends section rest) e = found section rest e (section_in section) refl (nat_lt 65 (line_feeds section)) refl

-- what stands behind data
data_says : (d x : List ℕ) → (line : List ℕ)
    → ((c : DataChunk) × IsDataChunk c × (d ≡ c.data_bytes) × (line ≡ print_chunk_line c.line))
    → Says (line ++ (d ++ x)) (behind_data d x)
data_says d [] line c = tt
data_says d (b ∷ []) line c = by (b == 13)
  where
    by : (t : Bool) → Says (line ++ (d ++ b ∷ [])) (if t then Stops d GoesOn else Stops d Breaks)
    by true = tt
    by false = tt
data_says d (b ∷ e ∷ rest) line c = by (b == 13) refl (e == 10) refl
  where
    grouped : (l v r : List ℕ) → l ++ (v ++ 13 ∷ 10 ∷ r) ≡ (l ++ (v ++ 13 ∷ 10 ∷ [])) ++ r
    grouped l v r =
        sym (append_assoc l (v ++ 13 ∷ 10 ∷ []) r ∙ ap (λ (w : List ℕ). l ++ w) (append_assoc v (13 ∷ 10 ∷ []) r))

    by : (s : Bool) → (b == 13) ≡ s → (t : Bool) → (e == 10) ≡ t → Says (line ++ (d ++ b ∷ e ∷ rest))
        (if s then (if t then Whole d rest else Stops d Breaks) else Stops d Breaks)
    by true is true so = (
      c.0,
      c.1,
      c.2,
      ap (λ (n : ℕ). line ++ (d ++ n ∷ e ∷ rest)) (eqb-true _ _ is)
          ∙ ap (λ (n : ℕ). line ++ (d ++ 13 ∷ n ∷ rest)) (eqb-true _ _ so) ∙ grouped line d rest
          ∙ ap (λ (w : List ℕ). (w ++ (d ++ 13 ∷ 10 ∷ [])) ++ rest) c.3
          ∙ ap (λ (w : List ℕ). (print_chunk_line c.0.line ++ (w ++ 13 ∷ 10 ∷ [])) ++ rest) c.2,
    )
    by true is false so = tt
    by false is t so = tt

-- a chunk of this size
sized_says : (l : ChunkLine) → IsSizeLine l → (rest : List ℕ)
    → Says (print_chunk_line l ++ rest) (sized_chunk (chunk_size l) rest)
sized_says l valid rest = by (chunk_size l == 0) refl (cases_lt (length rest) (chunk_size l))
  where
    tail : (o : BodyEnd) → chunk_size l ≡ 0 → SectionSo rest o → Says (print_chunk_line l ++ rest) (Stops [] o)
    tail GoesOn none s = tt
    tail Breaks none s = tt
    tail (EndsBefore more) none s = (
      refl,
      (
        record { line = l; fields = s.0; last = s.1 },
        record { line = valid; size = none; fields = s.2; few = s.3; room = s.4 },
        ap (λ (w : List ℕ). print_chunk_line l ++ w) s.5
            ∙ sym (append_assoc (print_chunk_line l) (print_section s.0 s.1) more),
      ),
    )

    by : (s : Bool) → (chunk_size l == 0) ≡ s → (length rest < chunk_size l) ⊎ (chunk_size l ≤ length rest)
        → Says (print_chunk_line l ++ rest)
        (if s then Stops [] (trailers (cut_at section_size rest)) else
        (if nat_lt (length rest) (chunk_size l) then Stops rest GoesOn else
        behind_data (take (chunk_size l) rest) (drop (chunk_size l) rest)))
    by true is h = tail (trailers (cut_at section_size rest)) (eqb-true _ _ is) (section_says rest)
    by false is (inl few) = rw (lt-ltb _ _ few) tt
    by false is (inr many) =
        let n = chunk_size l in
        let size : length (take n rest) ≡ n = omega (arith, length-take n rest, many) in
        rw (le-ltb _ _ many)
        (subst (λ (w : List ℕ). Says (print_chunk_line l ++ w) (behind_data (take n rest) (drop n rest)))
        (take-append-drop n rest)
        (data_says (take n rest) (drop n rest) (print_chunk_line l) (
          record { line = l; data_bytes = take n rest },
          record { line = valid; size = sym size; some = positive n (take n rest) size is },
          refl,
          refl,
        )))
      where
        positive : (n : ℕ) (w : List ℕ) → length w ≡ n → (n == 0) ≡ false → 0 < length w
        positive zero w e f = absurd (cc)
        positive (suc n) w e f = omega (arith, e)

-- what the chunk at the front says of the bytes
pub chunk_says : (bytes : List ℕ) → Says bytes (chunk_of bytes)
chunk_says bytes = by (cut_at line_size bytes) refl
  where
    found : (part rest : List ℕ) → cut_at line_size bytes ≡ Ends part rest → (x : Option ChunkLine)
        → chunk_line_in part ≡ x → Says bytes (chunk_behind x rest)
    found part rest e None is = tt
    found part rest e (Some l) is =
        let read = line_reads part l is in
        let off = lines_cut.ends bytes part rest e in
        let printed : part ≡ print_chunk_line l = read.1 ∙ append-nil (print_chunk_line l) in
        subst (λ (w : List ℕ). Says w (sized_chunk (chunk_size l) rest))
        (sym (off.front ∙ ap (λ (w : List ℕ). w ++ rest) printed))
        (sized_says l (read.0, omega (arith, off.room, ap (λ (w : List ℕ). length w) printed)) rest)

    by : (c : Cut) → cut_at line_size bytes ≡ c → Says bytes (chunk_by c)
    by NoEnd e = tt
    by TooLarge e = tt
    by (Ends part rest) e = found part rest e (chunk_line_in part) refl

-- ---- a body that has ended is one of the grammar

whole_within : (k : ℕ) (bytes rest : List ℕ) → (decoded_within k bytes).over ≡ EndsBefore rest
    → ReadsChunked bytes (decoded_within k bytes).bytes rest
unfolding decoded_within
whole_within zero bytes rest e = absurd (never e)
  where
    never : GoesOn ≡ EndsBefore rest → ⊥
    never x = absurd (cc)
whole_within (suc k) bytes rest e =
    by (chunk_of bytes) (chunk_says bytes) (λ r. whole_within k r rest) e
  where
    same : (a b : List ℕ) → ◌≡◌ {A = BodyEnd} (EndsBefore a) (EndsBefore b) → a ≡ b
    same a b x = cc

    last : (d : List ℕ) (o : BodyEnd) → EndsSo bytes d o → o ≡ EndsBefore rest → ReadsChunked bytes d rest
    last d GoesOn s x = absurd (cc)
    last d Breaks s x = absurd (cc)
    last d (EndsBefore more) s x = record {
      chunks = [];
      tail = s.1.0;
      valid = All-nil IsDataChunk;
      tail_valid = s.1.1;
      printed = s.1.2 ∙ ap (λ (w : List ℕ). print_tail s.1.0 ++ w) (same more rest x);
      joined = s.0;
    }

    by : (c : Chunk) → Says bytes c
        → ((r : List ℕ) → (decoded_within k r).over ≡ EndsBefore rest
        → ReadsChunked r (decoded_within k r).bytes rest)
        → (then_chunks (decoded_within k) c).over ≡ EndsBefore rest
        → ReadsChunked bytes (then_chunks (decoded_within k) c).bytes rest
    by (Stops d over) s go x = last d over s x
    by (Whole d more) s go x =
        let r = go more x in
        record {
          chunks = s.0 ∷ r.chunks;
          tail = r.tail;
          valid = All-cons IsDataChunk s.0 r.chunks s.1 r.valid;
          tail_valid = r.tail_valid;
          printed = s.3 ∙ ap (λ (w : List ℕ). print_chunk s.0 ++ w) r.printed
              ∙ sym (append_assoc (print_chunk s.0) (flat_map print_chunk r.chunks) (print_tail r.tail ++ rest));
          joined = ap (λ (w : List ℕ). w ++ (decoded_within k more).bytes) s.2
              ∙ ap (λ (w : List ℕ). s.0.data_bytes ++ w) r.joined;
        }

-- a body in chunks that has ended is one of the grammar
pub chunked_whole : (bytes d rest : List ℕ) → decoded bytes ≡ record { bytes = d; over = EndsBefore rest }
    → ReadsChunked bytes d rest
unfolding decoded
chunked_whole bytes d rest e =
    subst (λ (w : List ℕ). ReadsChunked bytes w rest) (ap (λ (b : Body). b.bytes) e)
    (whole_within (suc (length bytes)) bytes rest (ap (λ (b : Body). b.over) e))

-- ---- and the other way round

-- a size line at the front
line_chunk : (l : ChunkLine) (rest : List ℕ) → IsSizeLine l
    → chunk_of (print_chunk_line l ++ rest) ≡ sized_chunk (chunk_size l) rest
line_chunk l rest valid =
    let cut = cut_line (print_chunk_line l ++ rest) (print_chunk_line l) rest l (valid.0, refl) refl valid.1 in
    ap chunk_by cut.0 ∙ ap (λ (x : Option ChunkLine). chunk_behind x rest) (line_read (print_chunk_line l) l cut.1)

-- a chunk with data at the front
data_chunk : (c : DataChunk) (rest : List ℕ) → IsDataChunk c
    → chunk_of (print_chunk c ++ rest) ≡ Whole c.data_bytes rest
data_chunk c rest valid =
    let d = c.data_bytes in
    let behind_line = d ++ 13 ∷ 10 ∷ rest in
    let split : print_chunk c ++ rest ≡ print_chunk_line c.line ++ behind_line =
    append_assoc (print_chunk_line c.line) (d ++ 13 ∷ 10 ∷ []) rest
    ∙ ap (λ (w : List ℕ). print_chunk_line c.line ++ w) (append_assoc d (13 ∷ 10 ∷ []) rest) in
    let enough : length d ≤ length behind_line = omega (arith, length-append d (13 ∷ 10 ∷ rest)) in
    ap chunk_of split ∙ line_chunk c.line behind_line valid.line
    ∙ ap (λ (n : ℕ). sized_chunk n behind_line) valid.size
    ∙ sized d valid.some enough
  where
    sized : (d : List ℕ) → 0 < length d → length d ≤ length (d ++ 13 ∷ 10 ∷ rest)
        → sized_chunk (length d) (d ++ 13 ∷ 10 ∷ rest) ≡ Whole d rest
    sized d some enough =
        rw (
          ne_eqb (length d) 0 (λ e. omega (arith, e, some)),
          le-ltb _ _ enough,
          take-append_seam d (13 ∷ 10 ∷ rest),
          drop-append_seam d (13 ∷ 10 ∷ rest),
        ) refl

-- the last chunk at the front, with the trailer section
tail_chunk : (t : BodyTail) (rest : List ℕ) → IsBodyTail t
    → chunk_of (print_tail t ++ rest) ≡ Stops [] (EndsBefore rest)
tail_chunk t rest valid =
    let section = print_section t.fields t.last in
    let cut =
    cut_section (section ++ rest) section rest t.fields t.last (valid.fields, refl) refl valid.room in
    let few : line_feeds section ≤ 65 =
    omega (arith, line_feeds_print_section t.fields t.last valid.fields, valid.few) in
    ap chunk_of (append_assoc (print_chunk_line t.line) section rest)
    ∙ line_chunk t.line (section ++ rest) valid.line
    ∙ ap (λ (n : ℕ). sized_chunk n (section ++ rest)) valid.size
    ∙ ap (λ (c : Cut). Stops [] (trailers c)) cut.0
    ∙ ap (λ (x : Option (List Field)). Stops [] (trailers_end x (line_feeds section) rest))
    (section_read section t.fields t.last cut.1)
    ∙ rw (le-ltb _ _ few) refl

grammar_within : (chunks : List DataChunk) (t : BodyTail) (rest : List ℕ) → All IsDataChunk chunks → IsBodyTail t
    → decoded (flat_map print_chunk chunks ++ (print_tail t ++ rest)) ≡ record {
      bytes = flat_map (λ c. c.data_bytes) chunks;
      over = EndsBefore rest;
    }
grammar_within [] t rest all valid =
    decoded_step (print_tail t ++ rest) ∙ ap (then_chunks decoded) (tail_chunk t rest valid)
grammar_within (c ∷ chunks) t rest all valid =
    let more = flat_map print_chunk chunks ++ (print_tail t ++ rest) in
    ap decoded (append_assoc (print_chunk c) (flat_map print_chunk chunks) (print_tail t ++ rest))
    ∙ decoded_step (print_chunk c ++ more)
    ∙ ap (then_chunks decoded) (data_chunk c more (All-head IsDataChunk c chunks all))
    ∙ ap (behind c.data_bytes) (grammar_within chunks t rest (All-tail IsDataChunk c chunks all) valid)

abbrev ended_body : List ℕ → List ℕ → Body
ended_body rest d = record { bytes = d; over = EndsBefore rest }

-- a body in chunks of the grammar is read whole
pub chunked_read : (bytes d rest : List ℕ) → ReadsChunked bytes d rest
    → decoded bytes ≡ record { bytes = d; over = EndsBefore rest }
chunked_read bytes d rest r =
    ap decoded r.printed ∙ grammar_within r.chunks r.tail rest r.valid r.tail_valid
    ∙ ap (ended_body rest) (sym r.joined)
