-- What is cut off stands at the front, and is what the grammar has there: `laws::parts_are_cut_off`,
-- `laws::parts_end_where_the_grammar_ends`.
use Rattle.std.proofs.Common.{◌≡◌, ℕ, ◌≤◌, ◌<◌, Bool, true, false, nat_lt, List, [], ◌++◌, length, take, drop, refl, sym, ap, ◌∙◌, subst, arith, append_assoc, append-nil, length-take, Option, Some, None, if◌then◌else◌}
use Rattle.std.proofs.lemmas.List.{take-append-drop}
use Rattle.httparse.specs.Grammar.{LineEnd, Field, print_section, ReadsSection, RequestHead, print_request, ReadsRequest, ChunkLine, print_chunk_line, ReadsChunkLine}
use Rattle.http1_requests.specs.HeadEnd.{line_size, section_size, head_size, Cut, NoEnd, TooLarge, Ends, cut_by, cut_at}
use Rattle.http1_requests.specs.PartGrowth.{GrowsCut, CutsOff}
use Rattle.http1_requests.proofs.Theorems.{same_ends, cut_at_end}
use Rattle.http1_requests.proofs.GrowLemmas.{Stays, line_size_grows, head_size_grows}
use Rattle.http1_requests.proofs.CutLemmas.{Within, line_size_within, head_size_within, cut_at_grows}
use Rattle.http1_requests.proofs.BodyLemmas.{section_size_grows, section_size_within}
use Rattle.http1_requests.proofs.PartEndLemmas.{head_ends, section_ends, line_ends}

-- a size of at least one and at most k, where it is told
within_some : (x : Option ℕ) (n k : ℕ) → x ≡ Some n → Within x k → (0 < n) × (n ≤ k)
within_some x n k e h = subst (λ (y : Option ℕ). Within y k) e h

-- the size of a part with its end
cut_size : (size : List ℕ → Option ℕ) → ((b : List ℕ) → Within (size b) (length b)) → (bytes part rest : List ℕ)
    → cut_at size bytes ≡ Ends part rest → (n : ℕ) × (part ≡ take n bytes) × (rest ≡ drop n bytes) × (0 < n)
    × (n ≤ length (take 16384 bytes))
cut_size size within bytes part rest e = by (size (take 16384 bytes)) refl e
  where
    two : (t : Bool) → (if t then NoEnd else TooLarge) ≡ Ends part rest → ⊥
    two true x = absurd (cc)
    two false x = absurd (cc)

    by : (x : Option ℕ) → size (take 16384 bytes) ≡ x → cut_by x bytes ≡ Ends part rest
        → (n : ℕ) × (part ≡ take n bytes) × (rest ≡ drop n bytes) × (0 < n) × (n ≤ length (take 16384 bytes))
    by None is x = absurd (two (nat_lt (length bytes) 16384) x)
    by (Some n) is x =
        let same = same_ends (take n bytes) (drop n bytes) part rest x in
        let room = within_some (size (take 16384 bytes)) n (length (take 16384 bytes)) is (within (take 16384 bytes)) in
        (n, sym same.0, sym same.1, room.0, room.1)

-- fewer bytes of a part have no end
no_end_before : (size : List ℕ → Option ℕ) → ((b m : List ℕ) → Stays (size b) (size (b ++ m)))
    → ((b : List ℕ) → Within (size b) (length b)) → (bytes part rest : List ℕ) → cut_at size bytes ≡ Ends part rest
    → bytes ≡ part ++ rest → (n : ℕ) → n < length part → cut_at size (take n part) ≡ NoEnd
no_end_before size grows within bytes part rest e front n less =
    by (cut_at size (take n part)) refl (cut_at_grows size grows within (take n part) (drop n part ++ rest))
  where
    whole : take n part ++ (drop n part ++ rest) ≡ bytes
    whole =
        sym (append_assoc (take n part) (drop n part) rest)
        ∙ ap (λ (w : List ℕ). w ++ rest) (take-append-drop n part) ∙ sym front

    large : TooLarge ≡ Ends part rest → ⊥
    large x = absurd (cc)

    by : (c : Cut) → cut_at size (take n part) ≡ c
        → GrowsCut c (cut_at size (take n part ++ (drop n part ++ rest))) (drop n part ++ rest) → c ≡ NoEnd
    by NoEnd is g = refl
    by TooLarge is g = absurd (large (sym g ∙ ap (cut_at size) whole ∙ e))
    by (Ends p r) is g =
        let same = same_ends p (r ++ (drop n part ++ rest)) part rest (sym g ∙ ap (cut_at size) whole ∙ e) in
        let cut = cut_size size within (take n part) p r is in
        let short : length p ≤ n =
        omega (arith, ap (λ (w : List ℕ). length w) cut.1, length-take cut.0 (take n part), length-take n part) in
        absurd (omega (arith, short, less, ap (λ (w : List ℕ). length w) same.0))

-- each way to find an end cuts off as it should
cuts_off : (size : List ℕ → Option ℕ) → ((b m : List ℕ) → Stays (size b) (size (b ++ m)))
    → ((b : List ℕ) → Within (size b) (length b)) → CutsOff size
cuts_off size grows within = record {
  stays = cut_at_grows size grows within;
  ends = λ bytes part rest e.
      let cut = cut_size size within bytes part rest e in
      let front : bytes ≡ part ++ rest =
      sym (take-append-drop cut.0 bytes) ∙ ap (λ (w : List ℕ). w ++ drop cut.0 bytes) (sym cut.1)
      ∙ ap (λ (w : List ℕ). part ++ w) (sym cut.2) in
      let size_is : length part ≡ cut.0 =
      omega (
        arith,
        ap (λ (w : List ℕ). length w) cut.1,
        length-take cut.0 bytes,
        cut.4,
        length-take 16384 bytes,
      ) in
      record {
        front = front;
        some = omega (arith, size_is, cut.3);
        room = omega (arith, size_is, cut.4, length-take 16384 bytes);
        first = no_end_before size grows within bytes part rest e front;
      };
}

-- heads
pub heads_cut : CutsOff head_size
heads_cut = cuts_off head_size head_size_grows head_size_within

-- trailer sections
pub sections_cut : CutsOff section_size
sections_cut = cuts_off section_size section_size_grows section_size_within

-- chunk size lines
pub lines_cut : CutsOff line_size
lines_cut = cuts_off line_size line_size_grows line_size_within

-- bytes that are cut off, and are printed so
printed_front : (size : List ℕ → Option ℕ) → CutsOff size → (bytes part rest text : List ℕ)
    → cut_at size bytes ≡ Ends part rest → part ≡ text ++ []
    → (bytes ≡ text ++ rest) × (part ≡ text) × (length part ≤ 16384)
printed_front size cuts bytes part rest text e printed =
    let off = cuts.ends bytes part rest e in
    let same : part ≡ text = printed ∙ append-nil text in
    (off.front ∙ ap (λ (w : List ℕ). w ++ rest) same, same, off.room)

-- bytes that are printed so are cut off
front_printed : (size : List ℕ → Option ℕ) (bytes part rest text : List ℕ)
    → ((more : List ℕ) → size (text ++ more) ≡ Some (length text)) → bytes ≡ text ++ rest → part ≡ text
    → length part ≤ 16384 → (cut_at size bytes ≡ Ends part rest) × (part ≡ text ++ [])
front_printed size bytes part rest text ends front same room =
    let fits : length text ≤ 16384 = omega (arith, room, ap (λ (w : List ℕ). length w) same) in (
      ap (cut_at size) front ∙ cut_at_end size text ends fits rest ∙ ap (λ (w : List ℕ). Ends w rest) (sym same),
      same ∙ sym (append-nil text),
    )

-- a head that is cut off is the one of the grammar
pub head_cut : (bytes part rest : List ℕ) (h : RequestHead) → cut_at head_size bytes ≡ Ends part rest
    → ReadsRequest part h []
    → ReadsRequest bytes h rest × (part ≡ print_request h) × (length part ≤ 16384)
head_cut bytes part rest h e x =
    let front = printed_front head_size heads_cut bytes part rest (print_request h) e x.1 in
    ((x.0, front.0), front.1, front.2)

-- and the other way round
pub cut_head : (bytes part rest : List ℕ) (h : RequestHead) → ReadsRequest bytes h rest → part ≡ print_request h
    → length part ≤ 16384 → (cut_at head_size bytes ≡ Ends part rest) × ReadsRequest part h []
cut_head bytes part rest h x same room =
    let cut =
    front_printed head_size bytes part rest (print_request h) (λ more. head_ends h more x.0) x.1 same room in
    (cut.0, (x.0, cut.1))

-- a section that is cut off is the one of the grammar
pub section_cut : (bytes part rest : List ℕ) (fields : List Field) (last : LineEnd)
    → cut_at section_size bytes ≡ Ends part rest → ReadsSection part fields last []
    → ReadsSection bytes fields last rest × (part ≡ print_section fields last) × (length part ≤ 16384)
section_cut bytes part rest fields last e x =
    let front = printed_front section_size sections_cut bytes part rest (print_section fields last) e x.1 in
    ((x.0, front.0), front.1, front.2)

-- and the other way round
pub cut_section : (bytes part rest : List ℕ) (fields : List Field) (last : LineEnd)
    → ReadsSection bytes fields last rest → part ≡ print_section fields last → length part ≤ 16384
    → (cut_at section_size bytes ≡ Ends part rest) × ReadsSection part fields last []
cut_section bytes part rest fields last x same room =
    let cut =
    front_printed section_size bytes part rest (print_section fields last)
    (λ more. section_ends fields last more x.0) x.1 same room in
    (cut.0, (x.0, cut.1))

-- a chunk size line that is cut off is the one of the grammar
pub line_cut : (bytes part rest : List ℕ) (l : ChunkLine) → cut_at line_size bytes ≡ Ends part rest
    → ReadsChunkLine part l []
    → ReadsChunkLine bytes l rest × (part ≡ print_chunk_line l) × (length part ≤ 16384)
line_cut bytes part rest l e x =
    let front = printed_front line_size lines_cut bytes part rest (print_chunk_line l) e x.1 in
    ((x.0, front.0), front.1, front.2)

-- and the other way round
pub cut_line : (bytes part rest : List ℕ) (l : ChunkLine) → ReadsChunkLine bytes l rest → part ≡ print_chunk_line l
    → length part ≤ 16384 → (cut_at line_size bytes ≡ Ends part rest) × ReadsChunkLine part l []
cut_line bytes part rest l x same room =
    let cut =
    front_printed line_size bytes part rest (print_chunk_line l) (λ more. line_ends l more x.0) x.1 same room in
    (cut.0, (x.0, cut.1))
