-- What the words behind the program's name mean.
use Rattle.std.specs.Prelude.{ℕ, ◌^◌, ◌&&◌, Bool, List, [], ◌∷◌, length, codes, Option, Some, None, nat_le, nat_lt, if◌then◌else◌}
use Rattle.std.specs.List.{list_all}
use Rattle.std.specs.Str.{bytes_eq}
use Rattle.http_rules.specs.Tokens.{is_token}

-- a byte of a target: visible ASCII
abbrev pub is_target_byte : ℕ → Bool
is_target_byte b = nat_le 0x21 b && nat_le b 0x7e

-- a target: such bytes, fewer than 2^32
abbrev pub is_target : List ℕ → Bool
is_target word = nat_lt (length word) (2 ^ 32) && list_all is_target_byte word

-- the words of `bind SET METHOD TARGET`
pub record BindWords : Type 0 where
  pub set : List ℕ
  pub method : List ℕ
  pub target : List ℕ

-- a command: `bind SET METHOD TARGET`, `check SET` or `routes SET`
pub data Command : Type 0 where
  bind : BindWords → Command
  check : List ℕ → Command
  routes : List ℕ → Command

-- the path of a command's descriptor set
abbrev pub set_of : Command → List ℕ
set_of (bind words) = words.set
set_of (check set) = set
set_of (routes set) = set

-- the command that four words are: `bind`, where METHOD is a token and TARGET a target
abbrev pub bind_words : List ℕ → List ℕ → List ℕ → List ℕ → Option Command
bind_words name set method target =
    if bytes_eq name (codes "bind") && (is_token method && is_target target)
    then Some (bind (record { set = set; method = method; target = target })) else None

-- the command that two words are: `check` or `routes`
abbrev pub set_words : List ℕ → List ℕ → Option Command
set_words name set =
    if bytes_eq name (codes "check") then Some (check set)
    else (if bytes_eq name (codes "routes") then Some (routes set) else None)

-- the command that words are, if they are one
abbrev pub command_of : List (List ℕ) → Option Command
command_of (name ∷ set ∷ []) = set_words name set
command_of (name ∷ set ∷ method ∷ target ∷ []) = bind_words name set method target
command_of _ = None
