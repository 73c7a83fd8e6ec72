-- The first name of a number of an enum is read as the number.
use Rattle.std.proofs.Common.{◌≡◌, ◌∙◌, ap, subst, refl, cond, ℕ, zero, suc, Bool, true, false, List, [], ◌∷◌, map, Some}
use Rattle.std.specs.Prelude.{ℤ, option_map, slice_get, unwrap_or}
use Rattle.std.specs.List.{AllByRecursion}
use Rattle.std.specs.Ordering.{int_eq}
use Rattle.std.specs.Str.{IsUtf8, bytes_eq}
use Rattle.std.proofs.lemmas.Bool.Decides.{Decides-int_eq}
use Rattle.base.proofs.TextLemmas.{bytes_eq_self}
use Rattle.message_types.specs.declared.enums.EnumId.{EnumId}
use Rattle.message_types.specs.declared.enums.EnumType.{EnumType}
use Rattle.message_types.specs.declared.enums.EnumValue.{EnumValue}
use Rattle.message_types.specs.declared.messages.Types.{Types}
use Rattle.schema.specs.Soundness.{AreNamesApart, IsSoundEnum}
use Rattle.json_meanings.specs.EnumNames.{number_named, values_of}
use Rattle.protojson_write.specs.ScalarOutput.{name_of}

-- what holds of each name holds of the one that a number has
pub named_all : (P : List ℕ → Type 0) (vs : List EnumValue) (z : ℤ) (t : List ℕ)
    → AllByRecursion P (map (λ (v : EnumValue). v.name) vs) → name_of vs z ≡ Some t → P t
named_all P [] z t all e = absurd cc
named_all P (v ∷ vs) z t all e = by_test (int_eq v.number z) e (named_all P vs z t all.1)
  where
    by_test : (b : Bool) → cond b (Some v.name) (name_of vs z) ≡ Some t → (name_of vs z ≡ Some t → P t) → P t
    by_test true q others = subst P (cc q) all.0
    by_test false q others = others q

-- the first name of a number is that of no other
pub named_back : (vs : List EnumValue) (z : ℤ) (t : List ℕ) → AreNamesApart vs → name_of vs z ≡ Some t
    → number_named vs t ≡ Some z
named_back [] z t apart e = absurd cc
named_back (v ∷ vs) z t apart e = by_test (int_eq v.number z) refl e (named_back vs z t apart.1)
  where
    by_test : (b : Bool) → int_eq v.number z ≡ b → cond b (Some v.name) (name_of vs z) ≡ Some t
        → (name_of vs z ≡ Some t → number_named vs t ≡ Some z)
        → cond (bytes_eq v.name t) (Some v.number) (number_named vs t) ≡ Some z
    by_test true is q others =
        let same : v.name ≡ t = cc q in
        subst (λ w. cond (bytes_eq v.name w) (Some v.number) (number_named vs w) ≡ Some z) same
        (ap (λ c. cond c (Some v.number) (number_named vs v.name)) (bytes_eq_self v.name)
        ∙ ap Some ((Decides-int_eq v.number z).0 is))
    by_test false is q others =
        ap (λ c. cond c (Some v.number) (number_named vs t))
        (named_all (λ n. bytes_eq v.name n ≡ false) vs z t apart.0 q)
        ∙ others q

-- what holds of the values of each enum, and of none, holds of those of an enum's id
pub values_all : (P : List EnumValue → Type 0) (types : Types) (id : EnumId)
    → AllByRecursion (λ (e : EnumType). P e.values) types.enums → P [] → P (values_of types id)
values_all P types id all none = by_place types.enums id.0 all
  where
    by_place : (es : List EnumType) (n : ℕ) → AllByRecursion (λ (e : EnumType). P e.values) es
        → P (unwrap_or (option_map (λ (e : EnumType). e.values) (slice_get es n)) [])
    by_place [] n h = none
    by_place (e ∷ es) zero h = h.0
    by_place (e ∷ es) (suc n) h = by_place es n h.1

-- no two values of an enum have one name
pub apart_enums : (es : List EnumType) → AllByRecursion IsSoundEnum es
    → AllByRecursion (λ (e : EnumType). AreNamesApart e.values) es
apart_enums [] h = tt
apart_enums (e ∷ es) h = (h.0.names, apart_enums es h.1)

-- names, from what has them
pub mapped_names : (vs : List EnumValue) → AllByRecursion (λ (v : EnumValue). IsUtf8 v.name) vs
    → AllByRecursion IsUtf8 (map (λ (v : EnumValue). v.name) vs)
mapped_names [] h = tt
mapped_names (v ∷ vs) h = (h.0, mapped_names vs h.1)
