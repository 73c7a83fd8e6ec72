-- A representation takes one byte at least, and no more than there are.
use Rattle.std.proofs.Common.{◌≡◌, ◌+◌, ◌-◌, ◌%◌, ◌^◌, ◌≤◌, ℕ, zero, suc, Bool, true, false, List, [], ◌∷◌, length}
use Rattle.std.proofs.Common.{take, drop, Option, Some, None, Result, Ok, Err, if◌then◌else◌, refl, ap, sym, subst}
use Rattle.std.proofs.Common.{arith, length-drop}
use Rattle.std.specs.Prelude.{nat_lt, nat_le}
use Rattle.std.specs.Option.{option_and_then, option_map}
use Rattle.std.specs.Result.{result_ok}
use Rattle.std.proofs.lemmas.Bool.Decides.{nat_tests}
use Rattle.base.specs.declared.base128.GroupFault.{GroupFault}
use Rattle.base.specs.Base128.{groups_in}
use Rattle.base.proofs.GroupSizeLemmas.{groups_within}
use Rattle.hpack_codec.specs.PrefixInteger.{integer_in, integer_behind, within_32_bits}
use Rattle.hpack_codec.specs.StringLiteral.{string_in, sized_text, text_of}
use Rattle.hpack_codec.specs.StaticTable.{HeaderField}
use Rattle.hpack_codec.specs.DynamicTable.{HeaderTable, added_to, field_at, resized_to}
use Rattle.hpack_codec.specs.FieldRepresentation.{Representation, name_in, literal_in, literal_at, indexed}
use Rattle.hpack_codec.specs.FieldRepresentation.{literal_added}
use Rattle.hpack_codec.specs.FieldRepresentation.{literal_alone, allowed_size, size_update}
use Rattle.hpack_codec.specs.FieldRepresentation.{representation_in}

-- what a step that gave something was given
pub from_then : {A B : Type 0} (f : A → Option B) (o : Option A) (y : B) → option_and_then f o ≡ Some y
    → (x : A) × (o ≡ Some x) × (f x ≡ Some y)
from_then {A} {B} f None y h = absurd (cc)
from_then {A} {B} f (Some x) y h = (x, refl, h)

-- the same of a map
pub from_map : {A B : Type 0} (f : A → B) (o : Option A) (y : B) → option_map f o ≡ Some y
    → (x : A) × (o ≡ Some x) × (f x ≡ y)
from_map {A} {B} f None y h = absurd (cc)
from_map {A} {B} f (Some x) y h = (x, refl, some_is (f x) y h)
  where
    some_is : (a b : B) → Some a ≡ Some b → a ≡ b
    some_is a b e = cc

-- so many bytes are one at least, and no more than there are
abbrev pub Takes : ℕ → List ℕ → Type 0
Takes len bytes = (1 ≤ len) × (len ≤ length bytes)

small_takes : (n len : ℕ) (r : ℕ × ℕ) (test : Bool) → (if test then Some (n, len) else None) ≡ Some r → r.1 ≡ len
small_takes n len r true e = sym (cc)
small_takes n len r false e = absurd (cc)

groups_take : (bs : List ℕ) (groups : Result (ℕ × ℕ) GroupFault) (g : ℕ × ℕ) → groups_in 5 bs ≡ groups
    → result_ok groups ≡ Some g
    → g.1 ≤ length bs
groups_take bs (Err f) g e h = absurd (cc)
groups_take bs (Ok r) g e h = let same : r ≡ g = cc in
    subst (λ (x : ℕ × ℕ). x.1 ≤ length bs) same (groups_within 5 bs r e).1

behind_takes : (ones : ℕ) (b : ℕ) (bs : List ℕ) (r : ℕ × ℕ) → integer_behind ones bs ≡ Some r → Takes r.1 (b ∷ bs)
behind_takes ones b bs r e =
    let w = from_then (λ (g : ℕ × ℕ). within_32_bits (ones + g.0) (g.1 + 1)) (result_ok (groups_in 5 bs)) r e in
    let len = small_takes (ones + w.0.0) (w.0.1 + 1) r (nat_lt (ones + w.0.0) (2 ^ 32)) w.2 in
    let few = groups_take bs (groups_in 5 bs) w.0 refl w.1 in
    (omega arith, omega arith)

first_takes : (ones low b : ℕ) (bs : List ℕ) (r : ℕ × ℕ) (test : Bool)
    → (if test then Some (low, 1) else integer_behind ones bs) ≡ Some r → Takes r.1 (b ∷ bs)
first_takes ones low b bs r true e =
    let len : 1 ≡ r.1 = ap one_of e in (omega arith, omega arith)
  where
    one_of : Option (ℕ × ℕ) → ℕ
    one_of None = 0
    one_of (Some x) = x.1
first_takes ones low b bs r false e = behind_takes ones b bs r e

-- an integer
integer_takes : (ones : ℕ) (bytes : List ℕ) (r : ℕ × ℕ) → integer_in ones bytes ≡ Some r → Takes r.1 bytes
integer_takes ones [] r e = absurd (cc)
integer_takes ones (b ∷ bs) r e = first_takes ones (b % (ones + 1)) b bs r (nat_lt (b % (ones + 1)) ones) e

sized_takes : (b size len : ℕ) (rest : List ℕ) (r : List ℕ × ℕ) (test : Bool) → nat_lt (length rest) size ≡ test
    → (if test then None else option_map (λ (text : List ℕ). (text, len + size)) (text_of b (take size rest))) ≡ Some r
    → (r.1 ≡ len + size) × (size ≤ length rest)
sized_takes b size len rest r true t e = absurd (cc)
sized_takes b size len rest r false t e =
    let w = from_map (λ (text : List ℕ). (text, len + size)) (text_of b (take size rest)) r e in
    (sym (ap (λ (x : List ℕ × ℕ). x.1) w.2), grind (arith, nat_tests, t))

-- a string
string_takes : (bytes : List ℕ) (r : List ℕ × ℕ) → string_in bytes ≡ Some r → Takes r.1 bytes
string_takes [] r e = absurd (cc)
string_takes (b ∷ bs) r e =
    let w = from_then (λ (n : ℕ × ℕ). sized_text b n.0 n.1 (drop n.1 (b ∷ bs))) (integer_in 127 (b ∷ bs)) r e in
    let head = integer_takes 127 (b ∷ bs) w.0 w.1 in
    let rest = drop w.0.1 (b ∷ bs) in
    let size = sized_takes b w.0.0 w.0.1 rest r (nat_lt (length rest) w.0.0) refl w.2 in
    let left : length rest ≡ length (b ∷ bs) - w.0.1 = length-drop w.0.1 (b ∷ bs) in
    (omega (arith, head.0, size.0), omega (arith, head.1, size.0, size.1, left))

-- a name
name_takes : (t : HeaderTable) (index : ℕ) (rest : List ℕ) (r : List ℕ × ℕ) → name_in t index rest ≡ Some r
    → r.1 ≤ length rest
name_takes t zero rest r e = (string_takes rest r e).1
name_takes t (suc i) rest r e =
    let w = from_map (λ (f : HeaderField). (f.0, 0)) (field_at t (suc i)) r e in
    let none : 0 ≡ r.1 = ap (λ (x : List ℕ × ℕ). x.1) w.2 in
    omega (arith, none)

-- a literal behind its index
value_takes : (name : List ℕ × ℕ) (len : ℕ) (rest : List ℕ) (l : HeaderField × ℕ) → name.1 ≤ length rest
    → option_map (λ (value : List ℕ × ℕ). ((name.0, value.0), len + name.1 + value.1)) (string_in (drop name.1 rest))
    ≡ Some l
    → (len ≤ l.1) × (l.1 ≤ len + length rest)
value_takes name len rest l few e =
    let w = from_map (λ (value : List ℕ × ℕ). ((name.0, value.0), len + name.1 + value.1))
    (string_in (drop name.1 rest)) l e in
    let value = string_takes (drop name.1 rest) w.0 w.1 in
    let all : len + name.1 + w.0.1 ≡ l.1 = ap (λ (x : HeaderField × ℕ). x.1) w.2 in
    let left : length (drop name.1 rest) ≡ length rest - name.1 = length-drop name.1 rest in
    (omega (arith, all), omega (arith, all, value.1, left, few))

-- a literal
literal_takes : (t : HeaderTable) (ones : ℕ) (bytes : List ℕ) (l : HeaderField × ℕ) → literal_at t ones bytes ≡ Some l
    → Takes l.1 bytes
literal_takes t ones bytes l e =
    let i = from_then (λ (n : ℕ × ℕ). literal_in t n.0 n.1 (drop n.1 bytes)) (integer_in ones bytes) l e in
    let head = integer_takes ones bytes i.0 i.1 in
    let rest = drop i.0.1 bytes in
    let name = from_then (λ (name : List ℕ × ℕ). option_map
    (λ (value : List ℕ × ℕ). ((name.0, value.0), i.0.1 + name.1 + value.1)) (string_in (drop name.1 rest)))
    (name_in t i.0.0 rest) l i.2 in
    let few = name_takes t i.0.0 rest name.0 name.1 in
    let all = value_takes name.0 i.0.1 rest l few name.2 in
    let left : length rest ≡ length bytes - i.0.1 = length-drop i.0.1 bytes in
    (omega (arith, head.0, all.0), omega (arith, head.1, all.1, left))

indexed_takes : (t : HeaderTable) (bytes : List ℕ) (r : Representation) → indexed t bytes ≡ Some r → Takes r.len bytes
indexed_takes t bytes r e =
    let i = from_then (λ (n : ℕ × ℕ). option_map (λ (f : HeaderField). record {
      field = Some f;
      table = t;
      len =
          n.1;
    }) (field_at t n.0)) (integer_in 127 bytes) r e in
    let f = from_map (λ (f : HeaderField). record { field = Some f; table = t; len = i.0.1 }) (field_at t i.0.0) r i.2
    in
    let len : i.0.1 ≡ r.len = ap (λ (x : Representation). x.len) f.2 in
    subst (λ (n : ℕ). Takes n bytes) len (integer_takes 127 bytes i.0 i.1)

added_takes : (t : HeaderTable) (bytes : List ℕ) (r : Representation) → literal_added t bytes ≡ Some r
    → Takes r.len bytes
added_takes t bytes r e =
    let l = from_map (λ (l : HeaderField × ℕ). record { field = Some l.0; table = added_to t l.0; len = l.1 })
    (literal_at t 63 bytes) r e in
    let len : l.0.1 ≡ r.len = ap (λ (x : Representation). x.len) l.2 in
    subst (λ (n : ℕ). Takes n bytes) len (literal_takes t 63 bytes l.0 l.1)

alone_takes : (t : HeaderTable) (bytes : List ℕ) (r : Representation) → literal_alone t bytes ≡ Some r
    → Takes r.len bytes
alone_takes t bytes r e =
    let l = from_map (λ (l : HeaderField × ℕ). record { field = Some l.0; table = t; len = l.1 })
    (literal_at t 15 bytes) r e in
    let len : l.0.1 ≡ r.len = ap (λ (x : Representation). x.len) l.2 in
    subst (λ (n : ℕ). Takes n bytes) len (literal_takes t 15 bytes l.0 l.1)

-- how many bytes a representation takes, if there is one
abbrev len_of : Option Representation → ℕ
len_of None = 0
len_of (Some r) = r.len

allowed_takes : (t : HeaderTable) (n len : ℕ) (r : Representation) → allowed_size n len t ≡ Some r → len ≡ r.len
allowed_takes t n len r e = by_test (nat_le n 4096) e
  where
    by_test : (test : Bool) → (if test then Some (record { field = None; table = resized_to t n; len = len })
        else None) ≡ Some r → len ≡ r.len
    by_test true h = ap len_of h
    by_test false h = absurd (cc)

size_takes : (t : HeaderTable) (late : Bool) (bytes : List ℕ) (r : Representation) → size_update t late bytes ≡ Some r
    → Takes r.len bytes
size_takes t true bytes r e = absurd (cc)
size_takes t false bytes r e =
    let n = from_then (λ (n : ℕ × ℕ). allowed_size n.0 n.1 t) (integer_in 31 bytes) r e in
    subst (λ (k : ℕ). Takes k bytes) (allowed_takes t n.0.0 n.0.1 r n.2) (integer_takes 31 bytes n.0 n.1)

of_takes : (t : HeaderTable) (late : Bool) (bytes : List ℕ) (r : Representation) (alone size added : Bool)
    → (if alone then literal_alone t bytes
    else (if size then size_update t late bytes else (if added then literal_added t bytes else indexed t bytes)))
    ≡ Some r
    → Takes r.len bytes
of_takes t late bytes r true size added e = alone_takes t bytes r e
of_takes t late bytes r false true added e = size_takes t late bytes r e
of_takes t late bytes r false false true e = added_takes t bytes r e
of_takes t late bytes r false false false e = indexed_takes t bytes r e

-- a representation takes one byte at least, and no more than there are
pub representation_takes : (t : HeaderTable) (late : Bool) (bytes : List ℕ) (r : Representation)
    → representation_in t late bytes ≡ Some r → Takes r.len bytes
unfolding representation_in
representation_takes t late [] r e = absurd (cc)
representation_takes t late (b ∷ bs) r e = of_takes t late (b ∷ bs) r (nat_lt b 32) (nat_lt b 64) (nat_lt b 128) e
