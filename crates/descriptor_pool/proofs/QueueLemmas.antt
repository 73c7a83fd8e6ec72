-- The queue of messages, worked off from its front.
use Rattle.std.proofs.Common.{◌≡◌, ◌≤◌, ◌||◌, ℕ, zero, suc, Bool, true, false, cond, List, [], ◌∷◌, ◌++◌, length, take, fold, nat_eq, Option, Some, None, refl, sym, ap, ◌∙◌, arith, append_assoc, slice_get}
use Rattle.std.proofs.Math.Bool.{or-false}
use Rattle.std.proofs.lemmas.List.{append-nil, take-append-le}
use Rattle.std.proofs.lemmas.List.Concat.{flat_map-append}
use Rattle.std.proofs.lemmas.List.Folds.{list_any-append}
use Rattle.std.proofs.lemmas.List.Sums.{fold-append}
use Rattle.std.specs.BTreeSet as sorted
use Rattle.std.specs.BTreeSet.{BTreeSet}
use Rattle.std.specs.List.{flat_map, list_any}
use Rattle.std.specs.Option.{option_map_or}
use Rattle.std.specs.Ordering.{nat_cmp}
use Rattle.base.specs.Extends.{Extends}
use Rattle.base.proofs.ExtendsLemmas.{extends_more, extends_self}
use Rattle.base.proofs.NumberSetLemmas.{nat_set_more}
use Rattle.descriptor_pool.specs.DeclaredTypes.{SetTypes}
use Rattle.descriptor_pool.specs.QueueSteps.{Sees, taken_one}
use Rattle.descriptor_pool.specs.ReachableTypes.{Joined, is_of, method_roots, next, once, queue, taken, with_joined}
use Rattle.descriptor_pool.specs.SetMethods.{BoundMethod}

grow : (js : List Joined) (j : Joined) → Extends js (with_joined js j)
grow js j = pick (list_any (is_of j.message) js)
  where
    pick : (b : Bool) → Extends js (cond b js (js ++ j ∷ []))
    pick true = extends_self js
    pick false = (j ∷ [], refl)

-- what is in the queue stays in front
grows : (js xs : List Joined) → Extends js (fold with_joined js xs)
grows js [] = extends_self js
grows js (x ∷ xs) = extends_more js (with_joined js x) (fold with_joined (with_joined js x) xs) (grow js x) (grows (with_joined js x) xs)

at_index : (js : List Joined) (at : ℕ) (j : Joined) → slice_get js at ≡ Some j → (take (suc at) js ≡ take at js ++ j ∷ []) × (suc at ≤ length js)
at_index [] at j h = absurd (cc h)
at_index (x ∷ js) zero j h = (let e : x ≡ j = cc h in ap (λ z. z ∷ []) e, omega arith)
at_index (x ∷ js) (suc at) j h = let r = at_index js at j h in (ap (λ z. x ∷ z) r.0, omega (arith, r.1))

no_index : (js : List Joined) (at : ℕ) → slice_get js at ≡ None → (take (suc at) js ≡ take at js)
no_index [] zero h = refl
no_index [] (suc at) h = refl
no_index (x ∷ js) zero h = absurd (cc h)
no_index (x ∷ js) (suc at) h = ap (λ z. x ∷ z) (no_index js at h)

module _ (types : SetTypes) (ms : List BoundMethod) where
  more_queue : (js : List Joined) (j : Joined) → queue types ms (js ++ j ∷ []) ≡ queue types ms js ++ next types j
  more_queue js j =
      ap (λ z. flat_map (method_roots types) ms ++ z) (flat_map-append (next types) js (j ∷ []) ∙ ap (λ z. flat_map (next types) js ++ z) (append-nil (next types j)))
      ∙ sym (append_assoc (flat_map (method_roots types) ms) (flat_map (next types) js) (next types j))

  -- a queue of which so many are taken, and which is what stands then
  pub record IsWorkedOff (js : List Joined) (at : ℕ) : Type 0 where
    pub stands : js ≡ once (queue types ms (take at js))
    pub front : take at js ≡ taken types ms at

  -- and the one that is taken next
  pub front_more : (js : List Joined) (at : ℕ) → IsWorkedOff js at → take (suc at) js ≡ taken types ms (suc at)
  front_more js at w = ap (take (suc at)) w.stands ∙ ap (λ z. take (suc at) (once (queue types ms z))) w.front

  -- one more is taken
  pub worked_off_more : (js : List Joined) (at : ℕ) → IsWorkedOff js at → IsWorkedOff (taken_one types js at) (suc at)
  worked_off_more js at w = pick (slice_get js at) refl
    where
      pick : (o : Option Joined) → slice_get js at ≡ o → IsWorkedOff (option_map_or (λ j. fold with_joined js (next types j)) o js) (suc at)
      pick None h = record {
        stands = w.stands ∙ ap (λ z. once (queue types ms z)) (sym (no_index js at h));
        front = front_more js at w;
      }
      pick (Some j) h =
          let found = at_index js at j h in
          let more = grows js (next types j) in
          let same : take (suc at) (fold with_joined js (next types j)) ≡ take (suc at) js =
          ap (take (suc at)) more.1 ∙ take-append-le (suc at) js more.0 found.1 in
          record {
            stands =
                ap (λ z. fold with_joined z (next types j)) w.stands
                ∙ sym (fold-append with_joined [] (queue types ms (take at js)) (next types j))
                ∙ ap once (sym (more_queue (take at js) j))
                ∙ ap (λ z. once (queue types ms z)) (sym (same ∙ found.0));
            front = same ∙ front_more js at w;
          }

  -- with the roots alone none is taken
  pub worked_off_none : IsWorkedOff (once (flat_map (method_roots types) ms)) 0
  worked_off_none = record {
    stands = ap once (sym (append-nil (flat_map (method_roots types) ms)));
    front = refl;
  }

-- a message that is new joins at the end, and the set has it too
pub sees_more : (seen next : BTreeSet ℕ) (js : List Joined) (j : Joined) → Sees seen js → sorted.Updates nat_cmp seen next j.message true → Sees next (js ++ j ∷ [])
sees_more seen next js j s u i =
    nat_set_more seen next j.message u i
    ∙ ap (λ b. b || nat_eq i j.message) (s i)
    ∙ ap (λ b. list_any (is_of i) js || b) (sym (or-false (nat_eq i j.message)))
    ∙ sym (list_any-append (is_of i) js (j ∷ []))

-- a message joins at the end where the set did not have it
pub joined_new : (seen : BTreeSet ℕ) (js : List Joined) (j : Joined) → Sees seen js → sorted.contains nat_cmp seen j.message ≡ false → with_joined js j ≡ js ++ j ∷ []
joined_new seen js j s f = ap (λ b. cond b js (js ++ j ∷ [])) (sym (s j.message) ∙ f)

-- and the queue stays where it had
pub joined_old : (seen : BTreeSet ℕ) (js : List Joined) (j : Joined) → Sees seen js → sorted.contains nat_cmp seen j.message ≡ true → with_joined js j ≡ js
joined_old seen js j s t = ap (λ b. cond b js (js ++ j ∷ [])) (sym (s j.message) ∙ t)
