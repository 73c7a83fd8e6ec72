-- Lists that begin with others, and what holds at an exit, whatever is returned.
use Rattle.std.proofs.Common.{sym, ◌++◌, List, [], Result, Ok, Err, OnErr, append_assoc, append-nil, ◌∙◌, ap}
use Rattle.base.specs.Extends.{Extends}

-- a list begins with itself
pub extends_self : {X : Type 0} (a : List X) → Extends a a
extends_self a = ([], sym (append-nil a))

-- what begins with a list that begins with another begins with that
pub extends_more : {X : Type 0} (a b c : List X) → Extends a b → Extends b c → Extends a c
extends_more a b c p q = (p.0 ++ q.0, q.1 ∙ ap (λ x. x ++ q.0) p.1 ∙ append_assoc a p.0 q.0)

-- what holds holds where an error is returned
pub on_any : {T E P : Type 0} (r : Result T E) → P → OnErr r P
on_any (Ok x) p = tt
on_any (Err e) p = p
