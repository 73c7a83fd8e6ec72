-- Characters of a JSON name.
use Rattle.std.proofs.Common.{◌≡◌, ◌≢◌, ◌==◌, ℕ, Bool, true, false, List, ◌∷◌, if◌then◌else◌, refl}
use Rattle.std.proofs.lemmas.Bool.{eqb-true}
use Rattle.descriptor_pool.specs.JsonFieldNames.{camel, cased}

-- a character that is no underscore stays, cased
pub camel_other : (after : Bool) (c : ℕ) (cs : List ℕ) → c ≢ 95 → camel after (c ∷ cs) ≡ cased after c ∷ camel false cs
camel_other after c cs n = pick (c == 95) (eqb-true c 95)
  where
    pick : (b : Bool) → (b ≡ true → c ≡ 95) → (if b then camel true cs else cased after c ∷ camel false cs) ≡ cased after c ∷ camel false cs
    pick true h = absurd (n (h refl))
    pick false h = refl
