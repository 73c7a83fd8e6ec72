-- A literal whose name is longer than the room: its value decides whether it is one.
use Rattle.std.proofs.Common.{◌≡◌, ◌+◌, ◌-◌, ◌<◌, ℕ, List, length, take, drop, Option, Some, None, refl, sym, subst, arith}
use Rattle.std.specs.Option.{IsSomeAnd, option_and_then, option_map}
use Rattle.std.proofs.lemmas.List.{take_rest}
use Rattle.hpack_codec.specs.StaticTable.{HeaderField}
use Rattle.hpack_codec.specs.StringLiteral.{string_in}
use Rattle.hpack_codec.specs.PutTexts.{IsPutString}
use Rattle.hpack_codec.specs.LiteralReads.{IsLiteral, IsLongLiteral}
use Rattle.hpack_codec.specs.declared.put.Put.{Put}
use Rattle.hpack_codec.specs.declared.put.Put.TheVariants.{Over as OverPut}
use Rattle.hpack_codec.specs.declared.literal.Literal.{Literal}
use Rattle.hpack_codec.specs.declared.literal.Literal.TheVariants.{Whole, Over, Bad}

-- the field of a name and a value, and how many bytes both take behind the index
abbrev pub with_value : List ℕ × ℕ → ℕ → Option (List ℕ × ℕ) → Option (HeaderField × ℕ)
with_value name len string = option_map (λ (value : List ℕ × ℕ). ((name.0, value.0), len + name.1 + value.1)) string

value_decides : (name : List ℕ × ℕ) (string : Option (List ℕ × ℕ)) (len room : ℕ) (added : List ℕ) (l : Literal) → room < length name.0 → IsLongLiteral string l → IsLiteral (with_value name len string) room added l
value_decides name string len room added (Whole m k) h g = absurd g
value_decides name (Some v) len room added Over h g = omega arith
value_decides name None len room added Over h g = absurd g
value_decides name (Some v) len room added Bad h g = absurd (cc)
value_decides name None len room added Bad h g = refl

by_name : (name : Option (List ℕ × ℕ)) (rest : List ℕ) (len room taken : ℕ) (added : List ℕ) (l : Literal)
    → IsSomeAnd name (λ s. (room < length s.0) × (s.1 ≡ taken)) → IsLongLiteral (string_in (drop taken rest)) l
    → IsLiteral (option_and_then (λ (n : List ℕ × ℕ). with_value n len (string_in (drop n.1 rest))) name) room added l
by_name None rest len room taken added l p g = absurd p
by_name (Some n) rest len room taken added l p g =
    let string : IsLongLiteral (string_in (drop n.1 rest)) l = subst (λ (k : ℕ). IsLongLiteral (string_in (drop k rest)) l) (sym p.1) g in
    value_decides n (string_in (drop n.1 rest)) len room added l p.0 string

-- a literal whose name is too long is what its value says
pub long_name : (name : Option (List ℕ × ℕ)) (rest : List ℕ) (len room taken : ℕ) (out added : List ℕ) (p : Put) (l : Literal)
    → p ≡ OverPut → IsPutString name room out taken p → IsLongLiteral (string_in (take (length rest - taken) (drop taken rest))) l
    → IsLiteral (option_and_then (λ (n : List ℕ × ℕ). with_value n len (string_in (drop n.1 rest))) name) room added l
long_name name rest len room taken out added p l e i g =
    by_name name rest len room taken added l (subst (IsPutString name room out taken) e i) (subst (λ (xs : List ℕ). IsLongLiteral (string_in xs) l) (take_rest rest taken) g)
