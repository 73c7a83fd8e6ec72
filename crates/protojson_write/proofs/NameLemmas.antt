-- The name of the first value that has a number.
use Rattle.std.proofs.Common.{◌≡◌, ℤ, Bool, true, false, cond, List, [], ◌∷◌, Option, Some, None, option_map, refl, ap, ◌∙◌}
use Rattle.std.specs.Ordering.{int_eq}
use Rattle.message_types.specs.declared.enums.EnumValue.{EnumValue}
use Rattle.field_index.specs.EnumMaps.{value_with}
use Rattle.protojson_write.specs.ScalarOutput.{name_of}

name_if : (t : Bool) (v : EnumValue) (o : Option EnumValue)
    → option_map (λ (w : EnumValue). w.name) (cond t (Some v) o)
    ≡ cond t (Some v.name) (option_map (λ (w : EnumValue). w.name) o)
name_if true v o = refl
name_if false v o = refl

-- the first name of a number is that of the first value that has it
name_with : (vs : List EnumValue) (z : ℤ) → option_map (λ (w : EnumValue). w.name) (value_with vs z) ≡ name_of vs z
name_with [] z = refl
name_with (v ∷ vs) z =
    name_if (int_eq v.number z) v (value_with vs z) ∙ ap (cond (int_eq v.number z) (Some v.name)) (name_with vs z)

-- where there is such a value
pub name_found : (vs : List EnumValue) (z : ℤ) (v : EnumValue) → Some v ≡ value_with vs z → Some v.name ≡ name_of vs z
name_found vs z v h = ap (option_map (λ (w : EnumValue). w.name)) h ∙ name_with vs z

-- where there is none
pub name_missing : (vs : List EnumValue) (z : ℤ) → None ≡ value_with vs z → None ≡ name_of vs z
name_missing vs z h = ap (option_map (λ (w : EnumValue). w.name)) h ∙ name_with vs z
