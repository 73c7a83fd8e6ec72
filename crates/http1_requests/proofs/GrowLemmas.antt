-- An end that has come stays, whatever follows.
use Rattle.std.proofs.Common.{◌≡◌, ℕ, suc, Bool, true, false, ◌||◌, ◌&&◌, ◌==◌, List, [], ◌∷◌, ◌++◌, refl, ap, ◌∙◌, Option, Some, None, option_map, if◌then◌else◌}
use Rattle.http1_requests.specs.HeadEnd.{begins_with, line_size, size_to_empty_line, head_size}

-- an answer that stays where more is known
abbrev pub Stays : {A : Type 0} → Option A → Option A → Type 0
Stays {A} old new = (a : A) → old ≡ Some a → new ≡ Some a

stays_map : (f : ℕ → ℕ) (old new : Option ℕ) → Stays old new → Stays (option_map f old) (option_map f new)
stays_map f None new h a e = absurd (cc)
stays_map f (Some n) new h a e = ap (option_map f) (h n refl) ∙ e

-- a choice of two
pub stays_same : (t : Bool) (x : Option ℕ) (old new : Option ℕ) → Stays old new
    → Stays (if t then x else old) (if t then x else new)
stays_same true x old new h a e = e
stays_same false x old new h a e = h a e

-- nothing stays
pub stays_none : (old new : Option ℕ) → old ≡ None → Stays old new
stays_none old new none a e = absurd (cc)

-- the size of a line stays
pub line_size_grows : (bytes more : List ℕ) → Stays (line_size bytes) (line_size (bytes ++ more))
unfolding line_size
line_size_grows [] more = stays_none None _ refl
line_size_grows (b ∷ bytes) more = stays_same (b == 10) (Some 1) _ _ (stays_map suc _ _ (line_size_grows bytes more))

-- one byte has no empty line behind a line
pub alone : (b : ℕ) → size_to_empty_line (b ∷ []) ≡ None
unfolding size_to_empty_line
alone b = by (b == 10) (Some 3)
  where
    by : (t : Bool) (x : Option ℕ) → (if t && false then x else None) ≡ None
    by true x = refl
    by false x = refl

-- of two bytes only two line feeds are an end
pub two_feeds : (s t u v : Bool) (x old new : Option ℕ) → old ≡ None
    → Stays (if s && (t || (u && false)) then x else old) (if s && (t || (u && v)) then x else new)
two_feeds true true u v x old new none = λ a e. e
two_feeds true false true v x old new none = stays_none old _ none
two_feeds true false false v x old new none = stays_none old _ none
two_feeds false t u v x old new none = stays_none old _ none

-- the size through the first empty line behind a line stays
pub in_line_grows : (bytes more : List ℕ) → Stays (size_to_empty_line bytes) (size_to_empty_line (bytes ++ more))
unfolding size_to_empty_line
in_line_grows [] more = stays_none None _ refl
in_line_grows (b ∷ []) more = stays_none _ _ (alone b)
in_line_grows (b ∷ c ∷ []) more =
    two_feeds (b == 10) (c == 10) (c == 13) (begins_with 10 more) (Some (suc (if c == 10 then 1 else 2))) _ _
    (ap (option_map suc) (alone c))
in_line_grows (b ∷ c ∷ d ∷ bytes) more =
    stays_same (b == 10 && (c == 10 || (c == 13 && d == 10))) (Some (suc (if c == 10 then 1 else 2))) _ _
    (stays_map suc _ _ (in_line_grows (c ∷ d ∷ bytes) more))

head_alone : (b : ℕ) → head_size (b ∷ []) ≡ None
unfolding head_size
head_alone b = rw (alone b) (by (b == 10 || (b == 13 && false)))
  where
    none : Option ℕ
    none = None

    by : (t : Bool) → (if t then none else none) ≡ none
    by true = refl
    by false = refl

-- the size of a head stays
pub head_size_grows : (bytes more : List ℕ) → Stays (head_size bytes) (head_size (bytes ++ more))
unfolding head_size
head_size_grows [] more = stays_none None _ refl
head_size_grows (b ∷ []) more = stays_none _ _ (head_alone b)
head_size_grows (b ∷ c ∷ bytes) more =
    both (b == 10 || (b == 13 && c == 10)) (stays_map suc _ _ (head_size_grows (c ∷ bytes) more))
    (in_line_grows (b ∷ c ∷ bytes) more)
  where
    both : (t : Bool) {x y x' y' : Option ℕ} → Stays x x' → Stays y y'
        → Stays (if t then x else y) (if t then x' else y')
    both true h g = h
    both false h g = g
