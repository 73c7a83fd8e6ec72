-- What the head of a request says (RFC 9112, sections 3, 5 and 6.3), for those who read it and those who answer it.
use Rattle.std.specs.Prelude.{ℕ, Bool, List}
use Rattle.gate_world.specs.declared.body_length.BodyLength.{BodyLength}

-- a head: its method and its target, the names and values of its fields in order, how long the body is, whether the
-- client wants the connection closed behind the answer, and whether it waits for `100 Continue` before it sends the
-- body
pub record MessageHead : Type 0 where
  pub method : List ℕ
  pub target : List ℕ
  pub fields : List (List ℕ × List ℕ)
  pub body : BodyLength
  pub close : Bool
  pub expect : Bool
