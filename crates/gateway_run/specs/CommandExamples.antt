-- Worked examples of words, computed by the definitions.
use Rattle.std.specs.Prelude.{◌≡◌, [], ◌∷◌, codes, Some, None}
use Rattle.gateway_run.specs.Commands.{bind, check, command_of, routes}

-- words that are commands, and words that are none
pub record CommandExamplesHold : Type 0 where
  pub check_words : command_of (codes "check" ∷ codes "s" ∷ []) ≡ Some (check (codes "s"))
  pub routes_words : command_of (codes "routes" ∷ codes "s" ∷ []) ≡ Some (routes (codes "s"))
  pub bind_words : command_of (codes "bind" ∷ codes "s" ∷ codes "GET" ∷ codes "/a" ∷ [])
      ≡ Some (bind (record { set = codes "s"; method = codes "GET"; target = codes "/a" }))
  pub more : command_of (codes "check" ∷ codes "s" ∷ codes "t" ∷ []) ≡ None
  pub fewer : command_of (codes "routes" ∷ []) ≡ None
  pub other : command_of (codes "serve" ∷ codes "s" ∷ []) ≡ None
  pub no_target : command_of (codes "bind" ∷ codes "s" ∷ codes "GET" ∷ codes "/a b" ∷ []) ≡ None
