use Rattle.std.proofs.Common.{◌≡◌, List, [], ◌∷◌, slice_get, None, refl, sym}
use Rattle.http_rules.specs.Routes.{repeated_routes}
use Rattle.route_rows.proofs.bindings.is_apart.Goals as goal

-- a list without a first item is empty
none_first : {X : Type 0} (xs : List X) → slice_get xs 0 ≡ None → xs ≡ []
none_first [] e = refl
none_first (x ∷ xs) e = absurd (cc (e))

pub returns-in-Ok-None : goal.returns-in-Ok-None
returns-in-Ok-None c t =
    (c.routes_apart_repeat_none.ensures c.args.bindings.now).1
    (none_first (repeated_routes c.args.bindings.now) (sym (rw c.in-Ok-None.field-0-is at c.in-Ok-None.ensures)))
