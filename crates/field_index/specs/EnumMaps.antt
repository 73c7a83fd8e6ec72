-- Maps from the names and the numbers of the values of an enum (descriptor.proto, EnumDescriptorProto).
use denote.Ref.{Bor}
use Rattle.std.specs.Prelude.{◌≡◌, ℕ, ℤ, List, [], ◌∷◌, Option, Some, None, if◌then◌else◌, option_map}
use Rattle.std.specs.BTreeMap.{BTreeMap, get, get_by}
use Rattle.std.specs.Cmp.Lexicographic.{slice_cmp}
use Rattle.std.specs.Option.{option_copied}
use Rattle.std.specs.Ordering.{int_cmp, int_eq, nat_cmp}
use Rattle.std.specs.Str.{bytes_eq}
use Rattle.json_meanings.specs.EnumNames.{number_named}
use Rattle.message_types.specs.declared.enums.EnumValue.{EnumValue}

-- the first value that has the number
abbrev pub value_with : List EnumValue → ℤ → Option EnumValue
value_with [] z = None
value_with (v ∷ vs) z = if int_eq v.number z then Some v else value_with vs z

-- a map from names to values
abbrev pub NameMap : Type 0
NameMap = BTreeMap (Bor (List ℕ)) (Bor EnumValue)

-- a map from numbers to values
abbrev pub ValueMap : Type 0
ValueMap = BTreeMap ℤ (Bor EnumValue)

-- the number of the value that a map has at a name
abbrev pub at_name : NameMap → List ℕ → Option ℤ
at_name m q = option_map (λ (b : Bor EnumValue). b.now.number) (get_by (λ k. slice_cmp nat_cmp q k.now) m)

-- the value that a map has at a number
abbrev pub at_value : ValueMap → ℤ → Option EnumValue
at_value m z = option_copied (get int_cmp m z)

-- a map has the first value of each name, by its number
abbrev pub IsNameMap : NameMap → List EnumValue → Type 0
IsNameMap m vs = (q : List ℕ) → at_name m q ≡ number_named vs q

-- a map has the first value of each number
abbrev pub IsValueMap : ValueMap → List EnumValue → Type 0
IsValueMap m vs = (z : ℤ) → at_value m z ≡ value_with vs z

-- a map has a value at its name, by its number, and what another has elsewhere
abbrev pub HasName : NameMap → EnumValue → NameMap → Type 0
HasName m v n = (q : List ℕ) → at_name n q ≡ (if bytes_eq v.name q then Some v.number else at_name m q)

-- a map has a value at its number, and what another has elsewhere
abbrev pub HasValue : ValueMap → EnumValue → ValueMap → Type 0
HasValue m v n = (z : ℤ) → at_value n z ≡ (if int_eq v.number z then Some v else at_value m z)

-- the two maps of values
pub record AreEnumMaps (values : List EnumValue) (names : NameMap) (numbers : ValueMap) : Type 0 where
  pub by_name : IsNameMap names values
  pub by_number : IsValueMap numbers values
