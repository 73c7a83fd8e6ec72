-- One byte behind each place of a scan.
use Rattle.std.proofs.Common.{◌≡◌, ◌≢◌, ℕ, suc, ◌+◌, List, ◌∷◌, refl, ap, ◌∙◌, arith, Option, Some, None, option_map, ne_eqb}
use Rattle.http1_front.specs.declared.place.Place.{Place}
use Rattle.http1_front.specs.declared.place.Place.TheVariants.{Blank, BlankReturn, InLine, LineFeed, LineFeedReturn, SectionStart, SectionReturn, InSizeLine}
use Rattle.http1_requests.specs.HeadEnd.{line_size, size_to_empty_line, section_size, head_size, behind_empty_lines, head_lines, line_feeds}
use Rattle.http1_requests.proofs.Theorems.{line_feeds-cons, line_feeds_other}
use Rattle.http1_front.specs.PlaceSteps.{line_step, place_behind_feed, place_behind_return, place_behind_other, moved, IsAfter}

zero_plus : (n : ℕ) → n ≡ 0 + n
zero_plus n = omega arith

-- nothing before a size
pub moved_zero : (x : Option ℕ) → x ≡ moved 0 x
moved_zero None = refl
moved_zero (Some n) = ap (λ (k : ℕ). Some k) (omega arith)

one : (x : Option ℕ) → option_map suc x ≡ moved 1 x
one None = refl
one (Some n) = ap (λ (k : ℕ). Some k) (omega arith)

two : (x : Option ℕ) → option_map suc (option_map suc x) ≡ moved 2 x
two None = refl
two (Some n) = ap (λ (k : ℕ). Some k) (omega arith)

three : (x : Option ℕ) → option_map suc (option_map suc (option_map suc x)) ≡ moved 3 x
three None = refl
three (Some n) = ap (λ (k : ℕ). Some k) (omega arith)

-- ---- a line feed

-- what a line feed shows at each place
pub after_feed : (place : Place) → IsAfter place 10 (place_behind_feed place)
unfolding line_size size_to_empty_line head_size behind_empty_lines
after_feed Blank = (omega arith, (λ more. one (head_size more)), λ more. zero_plus (head_lines more))
after_feed BlankReturn = (omega arith, (λ more. two (head_size more)), λ more. zero_plus (head_lines more))
after_feed InLine =
    (omega arith, (λ more. moved_zero (size_to_empty_line (10 ∷ more))), λ more. line_feeds-cons 10 more)
after_feed LineFeed = ((λ more. refl), refl)
after_feed LineFeedReturn = ((λ more. refl), refl)
after_feed SectionStart = ((λ more. refl), refl)
after_feed SectionReturn = ((λ more. refl), refl)
after_feed InSizeLine = ((λ more. refl), refl)

-- ---- another byte

-- no line ends with it
no_line : (place : Place) (b n x : ℕ) → b ≢ 10 → x ≡ n → x ≡ line_step place b + n
no_line place b n x out e = rw (ne_eqb _ _ out) (e ∙ zero_plus n)

-- it counts for nothing in what comes next
no_feed : (b : ℕ) (more : List ℕ) → b ≢ 10 → line_feeds (b ∷ more) ≡ line_feeds more
no_feed b more out = line_feeds_other b more (ne_eqb _ _ out)

-- a byte in a line
in_line : (b : ℕ) (more : List ℕ) → b ≢ 10 → size_to_empty_line (b ∷ more) ≡ option_map suc (size_to_empty_line more)
unfolding size_to_empty_line
in_line b more out = rw (ne_eqb _ _ out) refl

-- a line feed before a byte that is no line end
behind_feed : (b : ℕ) (more : List ℕ) → b ≢ 10 → b ≢ 13
    → size_to_empty_line (10 ∷ b ∷ more) ≡ option_map suc (size_to_empty_line (b ∷ more))
unfolding size_to_empty_line
behind_feed b more out other = rw (ne_eqb _ _ out, ne_eqb _ _ other) refl

-- a line feed and a CR before a byte that is no line feed
behind_feed_return : (b : ℕ) (more : List ℕ) → b ≢ 10
    → size_to_empty_line (10 ∷ 13 ∷ b ∷ more) ≡ option_map suc (option_map suc (size_to_empty_line (b ∷ more)))
unfolding size_to_empty_line
behind_feed_return b more out = rw (ne_eqb _ _ out) refl

-- the first byte of a head
first_of_head : (b : ℕ) (more : List ℕ) → b ≢ 10 → b ≢ 13
    → (head_size (b ∷ more) ≡ size_to_empty_line (b ∷ more)) × (behind_empty_lines (b ∷ more) ≡ b ∷ more)
unfolding head_size behind_empty_lines
first_of_head b more out other = rw (ne_eqb _ _ out, ne_eqb _ _ other) (refl, refl)

-- a CR and the first byte of a head
return_of_head : (b : ℕ) (more : List ℕ) → b ≢ 10
    → (head_size (13 ∷ b ∷ more) ≡ size_to_empty_line (13 ∷ b ∷ more))
    × (behind_empty_lines (13 ∷ b ∷ more) ≡ 13 ∷ b ∷ more)
unfolding head_size behind_empty_lines
return_of_head b more out = rw (ne_eqb _ _ out) (refl, refl)

-- the first byte of a section
first_of_section : (b : ℕ) (more : List ℕ) → b ≢ 10 → b ≢ 13 → section_size (b ∷ more) ≡ size_to_empty_line (b ∷ more)
first_of_section b more out other = rw (ne_eqb _ _ out, ne_eqb _ _ other) refl

-- a CR and the first byte of a section
return_of_section : (b : ℕ) (more : List ℕ) → b ≢ 10 → section_size (13 ∷ b ∷ more) ≡ size_to_empty_line (13 ∷ b ∷ more)
return_of_section b more out = rw (ne_eqb _ _ out) refl

-- a CR and another byte in a line
return_in_line : (b : ℕ) (more : List ℕ) → b ≢ 10
    → size_to_empty_line (13 ∷ b ∷ more) ≡ option_map suc (option_map suc (size_to_empty_line more))
return_in_line b more out = in_line 13 (b ∷ more) (λ e. omega (arith, e)) ∙ ap (option_map suc) (in_line b more out)

after_blank : (b : ℕ) → b ≢ 10 → b ≢ 13 → IsAfter Blank b (Some InLine)
after_blank b out other = (
  omega arith,
  (λ more. (first_of_head b more out other).0 ∙ in_line b more out ∙ one (size_to_empty_line more)),
  λ more. no_line Blank b (line_feeds more) (head_lines (b ∷ more)) out
      (ap line_feeds (first_of_head b more out other).1 ∙ no_feed b more out),
)

after_blank_return : (b : ℕ) → b ≢ 10 → IsAfter BlankReturn b (Some InLine)
after_blank_return b out = (
  omega arith,
  (λ more. (return_of_head b more out).0 ∙ return_in_line b more out ∙ two (size_to_empty_line more)),
  λ more. no_line BlankReturn b (line_feeds more) (head_lines (13 ∷ b ∷ more)) out
      (ap line_feeds (return_of_head b more out).1 ∙ no_feed 13 (b ∷ more) (λ e. omega (arith, e))
      ∙ no_feed b more out),
)

after_in_line : (b : ℕ) → b ≢ 10 → IsAfter InLine b (Some InLine)
after_in_line b out = (
  omega arith,
  (λ more. in_line b more out ∙ one (size_to_empty_line more)),
  λ more. no_line InLine b (line_feeds more) (line_feeds (b ∷ more)) out (no_feed b more out),
)

after_line_feed : (b : ℕ) → b ≢ 10 → b ≢ 13 → IsAfter LineFeed b (Some InLine)
after_line_feed b out other = (
  omega arith,
  (λ more. behind_feed b more out other ∙ ap (option_map suc) (in_line b more out) ∙ two (size_to_empty_line more)),
  λ more. no_line LineFeed b (line_feeds more) (line_feeds (b ∷ more)) out (no_feed b more out),
)

after_line_feed_return : (b : ℕ) → b ≢ 10 → IsAfter LineFeedReturn b (Some InLine)
after_line_feed_return b out = (
  omega arith,
  (λ more.
      behind_feed_return b more out
      ∙ ap (λ (x : Option ℕ). option_map suc (option_map suc x)) (in_line b more out)
      ∙ three (size_to_empty_line more)),
  λ more. no_line LineFeedReturn b (line_feeds more) (line_feeds (b ∷ more)) out (no_feed b more out),
)

after_section_start : (b : ℕ) → b ≢ 10 → b ≢ 13 → IsAfter SectionStart b (Some InLine)
after_section_start b out other = (
  omega arith,
  (λ more. first_of_section b more out other ∙ in_line b more out ∙ one (size_to_empty_line more)),
  λ more. no_line SectionStart b (line_feeds more) (line_feeds (b ∷ more)) out (no_feed b more out),
)

after_section_return : (b : ℕ) → b ≢ 10 → IsAfter SectionReturn b (Some InLine)
after_section_return b out = (
  omega arith,
  (λ more. return_of_section b more out ∙ return_in_line b more out ∙ two (size_to_empty_line more)),
  λ more. no_line SectionReturn b (line_feeds more) (line_feeds (b ∷ more)) out (no_feed b more out),
)

after_in_size_line : (b : ℕ) → b ≢ 10 → IsAfter InSizeLine b (Some InSizeLine)
unfolding line_size
after_in_size_line b out = (
  omega arith,
  (λ more. rw (ne_eqb _ _ out) (one (line_size more))),
  λ more. no_line InSizeLine b (line_feeds more) (line_feeds (b ∷ more)) out (no_feed b more out),
)

-- what a byte that is no line end shows at each place
pub after_other : (place : Place) (b : ℕ) → b ≢ 10 → b ≢ 13 → IsAfter place b (Some (place_behind_other place))
after_other Blank b out other = after_blank b out other
after_other BlankReturn b out other = after_blank_return b out
after_other InLine b out other = after_in_line b out
after_other LineFeed b out other = after_line_feed b out other
after_other LineFeedReturn b out other = after_line_feed_return b out
after_other SectionStart b out other = after_section_start b out other
after_other SectionReturn b out other = after_section_return b out
after_other InSizeLine b out other = after_in_size_line b out

-- a CR is no line feed
return_is_none : ◌≢◌ {A = ℕ} 13 10
return_is_none e = omega (arith, e)

-- what a CR shows at each place
pub after_return : (place : Place) → IsAfter place 13 (Some (place_behind_return place))
after_return Blank =
    (omega arith, (λ more. moved_zero (head_size (13 ∷ more))), λ more. zero_plus (head_lines (13 ∷ more)))
after_return BlankReturn = after_blank_return 13 return_is_none
after_return InLine = after_in_line 13 return_is_none
after_return LineFeed = (
  omega arith,
  (λ more. moved_zero (size_to_empty_line (10 ∷ 13 ∷ more))),
  λ more. no_feed 13 more return_is_none ∙ zero_plus (line_feeds more),
)
after_return LineFeedReturn = after_line_feed_return 13 return_is_none
after_return SectionStart = (
  omega arith,
  (λ more. moved_zero (section_size (13 ∷ more))),
  λ more. no_feed 13 more return_is_none ∙ zero_plus (line_feeds more),
)
after_return SectionReturn = after_section_return 13 return_is_none
after_return InSizeLine = after_in_size_line 13 return_is_none
