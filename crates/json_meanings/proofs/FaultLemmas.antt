-- First faults are where the turns stop.
use Rattle.std.proofs.Common.{◌≡◌, ◌∙◌, ◌<◌, ◌⊎◌, inl, inr, sym, ap, subst, refl, arith, append-nil, ℕ, ◌+◌, suc, List, [], ◌∷◌, ◌++◌, length, take, Option, Some, None, Result, Ok, Err}
use Rattle.std.proofs.lemmas.List.{length-append}
use Rattle.message_types.specs.Types.{field_in, fields_of}
use Rattle.message_types.specs.declared.fields.Field.{Field}
use Rattle.message_types.specs.declared.messages.TypeId.{TypeId}
use Rattle.schema.specs.declared.value.Value.{Value}
use Rattle.json_events.specs.JsonTree.{Json, Mark}
use Rattle.json_meanings.specs.FaultPlaces.{Fault, at_once, behind, onward, size}
use Rattle.json_meanings.specs.FieldFaults.{BeginsValue, IsFirstFault, tree_tokens}
use Rattle.json_meanings.specs.JsonDenotes.{Denotes, alone, part_spot, read_at, reading, spot_of, value}
use Rattle.json_meanings.specs.JsonScalars.{Schema}
use Rattle.json_meanings.specs.ReadingLaws.{ReadingLawsHold}
use Rattle.json_meanings.specs.ReadingSpots.{Filled, Spot, element, entry, member, part, whole}
use Rattle.json_meanings.specs.ReadingTurns.{Levels, Stands, give, has_ended, run, start, step, turn_behind}
use Rattle.json_meanings.specs.declared.fault.FieldKind.{FieldKind}
use Rattle.json_meanings.proofs.FrontLemmas.{size_of_tokens}
use Rattle.json_meanings.proofs.InsideLemmas.{IsInside, value_inside}
use Rattle.json_meanings.proofs.TokenLemmas.{tree_tokens_are, with_tokens}
use Rattle.json_meanings.proofs.TurnLemmas.{after, behind_behind, value_run}

ok_same : {A E : Type 0} (a b : A) → ◌≡◌ {A = Result A E} (Ok a) (Ok b) → a ≡ b
ok_same a b p = cc

from_zero : (i : ℕ) → 0 + i ≡ i
from_zero i = omega arith

one_plus : (k : ℕ) → 1 + k ≡ suc k
one_plus k = omega arith

-- all tokens: the first ones, and then the others
run_append : (c : Schema) (l : Levels) (ts us : List Mark) → run c l (ts ++ us)
    ≡ onward (run c l ts) (λ n. behind (length ts) (run c n us))
run_append c l [] us = sym (none (run c l us))
  where
    none : {A : Type 0} (r : Result A Fault) → behind 0 r ≡ r
    none (Ok a) = refl
    none (Err (i, k)) = ap (λ n. Err (n, k)) (from_zero i)
run_append c l (t ∷ ts) us = by_step (step c l t) (λ n. run_append c n ts us)
  where
    deeper : (k : ℕ) (r : Result Levels Fault) (f : Levels → Result Levels Fault)
        → behind 1 (onward r (λ n. behind k (f n))) ≡ onward (behind 1 r) (λ n. behind (suc k) (f n))
    deeper k (Ok n) f = behind_behind 1 k (f n) ∙ ap (λ i. behind i (f n)) (one_plus k)
    deeper k (Err e) f = refl

    by_step : (s : Result Levels FieldKind)
        → ((n : Levels) → run c n (ts ++ us) ≡ onward (run c n ts) (λ m. behind (length ts) (run c m us)))
        → onward (at_once s) (λ n. behind 1 (run c n (ts ++ us)))
        ≡ onward (onward (at_once s) (λ n. behind 1 (run c n ts))) (λ m. behind (suc (length ts)) (run c m us))
    by_step (Ok n) ih = ap (behind 1) (ih n) ∙ deeper (length ts) (run c n ts) (λ m. run c m us)
    by_step (Err k) ih = refl

-- a fault is at one of the tokens
run_within : (c : Schema) (l : Levels) (ts : List Mark) (f : Fault) → run c l ts ≡ Err f → f.0 < length ts
run_within c l [] f p = absurd cc
run_within c l (t ∷ ts) f p = by_step (step c l t) (λ n g q. run_within c n ts g q) p
  where
    by_rest : (r : Result Levels Fault) → ((g : Fault) → r ≡ Err g → g.0 < length ts) → behind 1 r ≡ Err f
        → f.0 < suc (length ts)
    by_rest (Ok n) ih q = absurd cc
    by_rest (Err g) ih q = let low = ih g refl in let is : 1 + g.0 ≡ f.0 = cc in omega (arith, low, is)

    by_step : (s : Result Levels FieldKind) → ((n : Levels) (g : Fault) → run c n ts ≡ Err g → g.0 < length ts)
        → onward (at_once s) (λ n. behind 1 (run c n ts)) ≡ Err f → f.0 < suc (length ts)
    by_step (Ok n) ih q = by_rest (run c n ts) (ih n) q
    by_step (Err k) ih q = let is : 0 ≡ f.0 = cc in omega (arith, is)

-- the turns over all tokens of a tree
tree_run : (c : Schema) (spot : Spot) (j : Json) → run c (start spot) (tree_tokens j)
    ≡ onward (value c spot j) (λ x. Ok (give x spot []))
tree_run c spot j =
    ap (run c (start spot)) (tree_tokens_are j) ∙ (value_run c spot [] j [] ∙ clean (value c spot j))
  where
    clean : (r : Result Filled Fault) → onward r (after c spot [] (size j) []) ≡ onward r (λ x. Ok (give x spot []))
    clean (Ok x) = refl
    clean (Err e) = refl

-- the tree has the fault where the turns stop with it
fault_of_run : (c : Schema) (spot : Spot) (j : Json) (f : Fault) → run c (start spot) (tree_tokens j) ≡ Err f
    → read_at c spot j ≡ Err f
fault_of_run c spot j f p = by_value (value c spot j) (sym (tree_run c spot j) ∙ p)
  where
    by_value : (r : Result Filled Fault) → onward r (λ x. Ok (give x spot [])) ≡ Err f
        → onward r (λ x. Ok (alone spot x)) ≡ Err f
    by_value (Ok x) q = absurd cc
    by_value (Err e) q = ap (λ g. Err g) (err_same e f q)
      where
        err_same : (g h : Fault) → ◌≡◌ {A = Result Levels Fault} (Err g) (Err h) → g ≡ h
        err_same g h s = cc

run_of_fault : (c : Schema) (spot : Spot) (j : Json) (f : Fault) → read_at c spot j ≡ Err f
    → run c (start spot) (tree_tokens j) ≡ Err f
run_of_fault c spot j f p = tree_run c spot j ∙ by_value (value c spot j) p
  where
    by_value : (r : Result Filled Fault) → onward r (λ x. Ok (alone spot x)) ≡ Err f
        → onward r (λ x. Ok (give x spot [])) ≡ Err f
    by_value (Ok x) q = absurd cc
    by_value (Err e) q = ap (λ g. Err g) (err_same e f q)
      where
        err_same : (g h : Fault) → ◌≡◌ {A = Result Value Fault} (Err g) (Err h) → g ≡ h
        err_same g h s = cc

-- a tree's fault at its spot
pub value_fault : (c : Schema) (spot : Spot) (j : Json) (f : Fault) → read_at c spot j ≡ Err f → value c spot j ≡ Err f
value_fault c spot j f p = by_value (value c spot j) p
  where
    by_value : (r : Result Filled Fault) → onward r (λ x. Ok (alone spot x)) ≡ Err f → r ≡ Err f
    by_value (Ok x) q = absurd cc
    by_value (Err e) q = ap (λ g. Err g) (err_same e f q)
      where
        err_same : (g h : Fault) → ◌≡◌ {A = Result Value Fault} (Err g) (Err h) → g ≡ h
        err_same g h s = cc

-- it is at one of the tree's tokens
pub value_within : (c : Schema) (spot : Spot) (j : Json) (f : Fault) → value c spot j ≡ Err f → f.0 < size j
value_within c spot j f p =
    let stops = tree_run c spot j ∙ ap (λ r. onward r (λ x. Ok (give x spot []))) p in
    let low = run_within c (start spot) (tree_tokens j) f stops in
    omega (arith, low, ap length (tree_tokens_are j), size_of_tokens j)

-- the fault of tokens is where the turns over them stop
run_of_first : (c : Schema) (id : TypeId) (n : Option ℕ) (ts : List Mark) (f : Fault) → IsFirstFault c id n ts f
    → run c (start (spot_of c id n)) ts ≡ Err f
run_of_first c id n ts f (low, (j, more, is, faulty)) = by_run (run c (start (spot_of c id n)) ts)
    (sym (run_append c (start (spot_of c id n)) ts more)
    ∙ (ap (run c (start (spot_of c id n))) (sym is) ∙ run_of_fault c (spot_of c id n) j f faulty))
  where
    past : (m : Levels) (r : Result Levels Fault) → behind (length ts) r ≡ Err f → ⊥
    past m (Ok l) q = absurd cc
    past m (Err g) q = let at_ : length ts + g.0 ≡ f.0 = cc in absurd (omega (arith, at_, low))

    by_run : (r : Result Levels Fault) → onward r (λ m. behind (length ts) (run c m more)) ≡ Err f → r ≡ Err f
    by_run (Ok m) q = absurd (past m (run c m more) q)
    by_run (Err e) q = q

first_of_run : (c : Schema) (id : TypeId) (n : Option ℕ) (ts more : List Mark) (f : Fault) (j : Json) → tree_tokens j
    ≡ ts ++ more → run c (start (spot_of c id n)) ts ≡ Err f → reading c id n j ≡ Err f
first_of_run c id n ts more f j is p =
    fault_of_run c (spot_of c id n) j f
    (ap (run c (start (spot_of c id n))) is
    ∙ (run_append c (start (spot_of c id n)) ts more
    ∙ ap (λ r. onward r (λ m. behind (length ts) (run c m more))) p))

-- tokens that begin an accepted value are taken
pub run_of_begun : (c : Schema) (id : TypeId) (n : Option ℕ) (ts : List Mark) → BeginsValue c id n ts
    → (l : Levels) × Stands c id n l ts
run_of_begun c id n ts (j, more, v, is, means) = by_run (run c (start (spot_of c id n)) ts) refl
  where
    clash : (f : Fault) → ◌≡◌ {A = Result Value Fault} (Ok v) (Err f) → ⊥
    clash f p = absurd cc

    by_run : (r : Result Levels Fault) → run c (start (spot_of c id n)) ts ≡ r → (l : Levels) × Stands c id n l ts
    by_run (Ok l) e = (l, e)
    by_run (Err f) e = absurd (clash f (sym means ∙ first_of_run c id n ts more f j is e))

-- one token more
run_more : (c : Schema) (s l : Levels) (ts : List Mark) (m : Mark) → run c s ts ≡ Ok l → run c s (ts ++ m ∷ [])
    ≡ behind (length ts) (onward (at_once (step c l m)) (λ n. Ok n))
run_more c s l ts m p =
    run_append c s ts (m ∷ [])
    ∙ (ap (λ r. onward r (λ n. behind (length ts) (run c n (m ∷ [])))) p
    ∙ ap (behind (length ts)) (last (at_once (step c l m))))
  where
    last : (r : Result Levels Fault) → onward r (λ n. behind 1 (run c n [])) ≡ onward r (λ n. Ok n)
    last (Ok n) = refl
    last (Err e) = refl

-- a value that has ended is the tree's
ended : (spot : Spot) (l : Levels) (x : Filled) (r : Result Filled Fault) → onward r (λ y. Ok (give y spot [])) ≡ Ok l
    → l.turn ≡ has_ended x → onward r (λ y. Ok (alone spot y)) ≡ Ok (alone spot x)
ended spot l x (Err e) p over = absurd cc
ended (whole k id) l x (Ok y) p over = let same : y ≡ x =
    ended_same y x (ap (λ (m : Levels). m.turn) (ok_same _ l p) ∙ over) in ap (λ z. Ok (alone (whole k id) z)) same
  where
    ended_same : (a b : Filled) → has_ended a ≡ has_ended b → a ≡ b
    ended_same a b q = cc
ended (part k f) l x (Ok y) p over = let same : y ≡ x =
    ended_same y x (ap (λ (m : Levels). m.turn) (ok_same _ l p) ∙ over) in ap (λ z. Ok (alone (part k f) z)) same
  where
    ended_same : (a b : Filled) → has_ended a ≡ has_ended b → a ≡ b
    ended_same a b q = cc
ended (member k id m f) l x (Ok y) p over = let q = ap (λ (n : Levels). n.turn) (ok_same _ l p) ∙ over in absurd (cc)
ended (entry k s kind es key) l x (Ok y) p over = let q = ap (λ (m : Levels). m.turn) (ok_same _ l p) ∙ over in
    absurd (cc)
ended (element a) l x (Ok y) p over = let q = ap (λ (m : Levels). m.turn) (ok_same _ l p) ∙ over in absurd (cc)

-- with all tokens of a tree the value has ended
all_ended : (spot : Spot) → ((x : Filled) → (turn_behind x spot ≡ has_ended x)) → (l : Levels) (r : Result Filled Fault)
    → onward r (λ y. Ok (give y spot [])) ≡ Ok l → (x : Filled) × (l.turn ≡ has_ended x)
all_ended spot ends l (Ok y) p = (y, ap (λ (m : Levels). m.turn) (sym (ok_same _ l p)) ∙ ends y)
all_ended spot ends l (Err e) p = absurd cc

top_ends : (c : Schema) (id : TypeId) (n : Option ℕ) (x : Filled) → turn_behind x (spot_of c id n) ≡ has_ended x
top_ends c id None x = refl
top_ends c id (Some n) x = by_field (field_in (fields_of c.types id) n)
  where
    by_field : (o : Option Field) → turn_behind x (part_spot o id) ≡ has_ended x
    by_field None = refl
    by_field (Some f) = refl

-- what the definitions of reading promise of one another
pub readings : (c : Schema) (id : TypeId) (n : Option ℕ) → ReadingLawsHold c id n
readings c id n = record {
  one_value = λ j v w p q. ok_same v w (sym p ∙ q);
  value_or_fault = λ j. by_reading j (reading c id n j) refl;
  fault_stays = λ ts more f j first is. first_of_run c id n ts more f j is (run_of_first c id n ts f first);
  one_fault = λ ts f g first other. fault_same f g (sym (run_of_first c id n ts f first) ∙ run_of_first c id n ts g other);
  begins_none =
      λ ts f first begins. clash_value begins.2 f
      (sym begins.4 ∙ first_of_run c id n ts begins.1 f begins.0 begins.3 (run_of_first c id n ts f first));
  no_fault = λ l ts f stands first. clash l f (sym stands ∙ run_of_first c id n ts f first);
  refuses = λ l ts m k stands refused begins. (
    low ts m,
    (
      begins.0,
      begins.1,
      begins.2,
      first_of_run c id n (ts ++ m ∷ []) begins.1
          (length ts, k) begins.0 begins.2
          (run_more c (start (spot_of c id n)) l ts m stands
          ∙ (ap (λ s. behind (length ts) (onward (at_once s) (λ n. Ok n))) refused
          ∙ ap (λ i. Err (i, k)) (add_zero (length ts)))),
    ),
  );
  goes_on = λ l next ts m stands taken. run_more c (start (spot_of c id n)) l ts m stands
      ∙ ap (λ s. behind (length ts) (onward (at_once s) (λ n. Ok n))) taken;
  whole =
      λ l j stands.
      all_ended (spot_of c id n) (top_ends c id n) l (value c (spot_of c id n) j)
      (sym (tree_run c (spot_of c id n) j) ∙ stands);
  over = λ l x ts more j stands over is. by_more l x ts more j stands over is;
  ends = λ l x j stands over. ended (spot_of c id n) l x (value c (spot_of c id n) j)
      (sym (tree_run c (spot_of c id n) j) ∙ stands) over;
}
  where
    fault_same : (f g : Fault) → ◌≡◌ {A = Result Levels Fault} (Err f) (Err g) → f ≡ g
    fault_same f g p = cc

    clash_value : (v : Value) (f : Fault) → ◌≡◌ {A = Result Value Fault} (Ok v) (Err f) → ⊥
    clash_value v f p = absurd cc

    take_all : (ts us : List Mark) → take (length ts) (ts ++ us) ≡ ts
    take_all [] us = refl
    take_all (t ∷ ts) us = ap (λ l. t ∷ l) (take_all ts us)

    inside_of : (l : Levels) (x : Filled) (ts more : List Mark) (m : Mark) (j : Json) → Stands c id n l ts
        → l.turn ≡ has_ended x → tree_tokens j ≡ ts ++ m ∷ more → ⊥
    inside_of l x ts more m j stands over is =
        let all : with_tokens j [] ≡ ts ++ m ∷ more = sym (tree_tokens_are j) ∙ is in
        let low : length ts < size j = omega (arith, ap length all, length-append ts (m ∷ more), size_of_tokens j) in
        let front : take (length ts) (with_tokens j []) ≡ ts = ap (take (length ts)) all ∙ take_all ts (m ∷ more) in
        let inside = value_inside c (spot_of c id n) [] j [] (length ts) low in
        subst IsInside (ap (run c (start (spot_of c id n))) front ∙ stands) inside x over

    by_more : (l : Levels) (x : Filled) (ts more : List Mark) (j : Json) → Stands c id n l ts → l.turn ≡ has_ended x
        → tree_tokens j ≡ ts ++ more → more ≡ []
    by_more l x ts [] j stands over is = refl
    by_more l x ts (m ∷ ms) j stands over is = absurd (inside_of l x ts ms m j stands over is)

    low : (ts : List Mark) (m : Mark) → length ts < length (ts ++ m ∷ [])
    low ts m = subst (λ k. length ts < k) (sym (length-append ts (m ∷ []))) (omega arith)

    add_zero : (k : ℕ) → k + 0 ≡ k
    add_zero k = omega arith

    clash : (l : Levels) (f : Fault) → ◌≡◌ {A = Result Levels Fault} (Ok l) (Err f) → ⊥
    clash l f p = absurd cc

    by_reading : (j : Json) (r : Result Value Fault) → reading c id n j ≡ r
        → ((v : Value) × Denotes c id n j v) ⊎ ((f : Fault) × IsFirstFault c id n (tree_tokens j) f)
    by_reading j (Ok v) p = inl (v, p)
    by_reading j (Err f) p =
        inr (
          f,
          (
            run_within c (start (spot_of c id n)) (tree_tokens j) f (run_of_fault c (spot_of c id n) j f p),
            (j, [], sym (append-nil (tree_tokens j)), p),
          ),
        )
