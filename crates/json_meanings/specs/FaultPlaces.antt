-- First faults by tokens: a fault is told by how many tokens stand before the one that has it.
use Rattle.std.specs.Prelude.{◌+◌, ℕ, Result, Ok, Err}
use Rattle.json_events.specs.JsonTree.{Json, Items, Pairs, literal, number, string, array, object, no_items, item, no_pairs, pair}
use Rattle.json_meanings.specs.declared.fault.FieldKind.{FieldKind}

-- how many tokens stand before the one that has the fault, and its kind
abbrev pub Fault : Type 0
Fault = ℕ × FieldKind

abbrev mutual
  -- how many tokens a tree has
  pub size : Json → ℕ
  size (literal n) = 1
  size (number t) = 1
  size (string t) = 1
  size (array js) = 1 + items_size js
  size (object ps) = 1 + pairs_size ps

  -- how many tokens items have, with the bracket behind them
  pub items_size : Items → ℕ
  items_size no_items = 1
  items_size (item j js) = size j + items_size js

  -- how many tokens pairs have, with the bracket behind them
  pub pairs_size : Pairs → ℕ
  pairs_size no_pairs = 1
  pairs_size (pair k j ps) = 1 + (size j + pairs_size ps)

-- the same behind so many tokens
abbrev pub behind : {A : Type 0} → ℕ → Result A Fault → Result A Fault
behind n (Ok a) = Ok a
behind n (Err f) = Err (n + f.0, f.1)

-- what is at the first token
abbrev pub at_once : {A : Type 0} → Result A FieldKind → Result A Fault
at_once (Ok a) = Ok a
at_once (Err k) = Err (0, k)

-- what comes of it goes on; the first fault counts
abbrev pub onward : {A B : Type 0} → Result A Fault → (A → Result B Fault) → Result B Fault
onward (Ok a) f = f a
onward (Err e) f = Err e
