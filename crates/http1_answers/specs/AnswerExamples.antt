-- Worked examples of answers to refusals.
use Rattle.std.specs.Prelude.{◌≡◌, ◌++◌, ℕ, List, [], codes, Bool, true, false}
use Rattle.gate_world.specs.declared.refusal.Refusal.{Refusal}
use Rattle.gate_world.specs.declared.refusal.Refusal.TheVariants as refusals
use Rattle.gate_world.specs.declared.value_fault.ValueFault.TheVariants as faults
use Rattle.http1_answers.specs.RefusalAnswers.{refusal_answer}

-- the answer of a refusal to these methods, where the connection closes or not, is this
abbrev pub IsAnswered : Refusal → Bool → List ℕ → List ℕ → Type 0
IsAnswered refusal close allow answer = refusal_answer refusal close allow ≡ answer

-- each is the bytes that are sent
pub record RefusalsAreAnswered : Type 0 where
  pub unknown_path : IsAnswered refusals.PathUnknown false (codes "GET")
      (codes "HTTP/1.1 404 Not Found\r\ncontent-type: application/json\r\ncontent-length: 35\r\n\r\n"
      ++ codes "{\"code\":5,\"message\":\"path unknown\"}")
  pub method_not_allowed : IsAnswered refusals.MethodNotAllowed true (codes "GET, PUT")
      (codes "HTTP/1.1 405 Method Not Allowed\r\ncontent-type: application/json\r\ncontent-length: 42\r\n"
      ++ codes "allow: GET, PUT\r\nconnection: close\r\n\r\n{\"code\":12,\"message\":\"method not allowed\"}")
  pub wrong_value : IsAnswered (refusals.BodyAt 35 faults.NotUtf8) true []
      (codes "HTTP/1.1 400 Bad Request\r\ncontent-type: application/json\r\ncontent-length: 44\r\n"
      ++ codes "connection: close\r\n\r\n{\"code\":3,\"message\":\"body at 35: not UTF-8\"}")
  pub unserved_method : IsAnswered refusals.MethodNotServed false []
      (codes "HTTP/1.1 501 Not Implemented\r\ncontent-length: 0\r\nconnection: close\r\n\r\n")
  pub no_memory : IsAnswered refusals.NoMemory true []
      (codes "HTTP/1.1 507 Insufficient Storage\r\ncontent-type: application/json\r\ncontent-length: 36\r\n"
      ++ codes "connection: close\r\n\r\n{\"code\":8,\"message\":\"out of memory\"}")
