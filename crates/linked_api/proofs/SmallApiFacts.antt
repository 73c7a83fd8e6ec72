-- The small API is linked, and its wrong forms are not.
use Rattle.std.proofs.Common.{◌≡◌, ◌<◌, ◌≤◌, ◌&&◌, Bool, true, false, IsSome, List, [], ◌∷◌, codes, map, Some, None, refl, sym, subst, arith}
use Rattle.std.specs.Set.{distinct_count}
use Rattle.std.specs.Str.{bytes_eq}
use Rattle.http_rules.specs.Template.{IsTemplate, segment, variable}
use Rattle.http_rules.specs.Tokens.{is_method_kind, is_short_token}
use Rattle.http_rules.specs.declared.template.Binding.{Binding}
use Rattle.http_rules.specs.declared.template.Body.TheVariants.{Part}
use Rattle.http_rules.specs.declared.template.Segment.TheVariants.{Literal}
use Rattle.linked_api.specs.FieldPaths.{LeadsToLeaf}
use Rattle.linked_api.specs.LinkedApi.{IsBindingOf, IsLinked}
use Rattle.linked_api.specs.LinkedExamples.{field_of_kind, type_at}
use Rattle.linked_api.specs.SmallApi.{item, item_enum, shop, get_item, item_template, item_binding, many_methods, overlapping_binding, shop_with}
use Rattle.linked_api.specs.declared.api.MethodInfo.{MethodInfo}
use Rattle.message_types.specs.Types.{field_in, fields_of}
use Rattle.message_types.specs.declared.fields.Field.{Field}
use Rattle.message_types.specs.declared.fields.Kind.TheVariants.{One as OneOf}
use Rattle.message_types.specs.declared.fields.Presence.TheVariants.{Implicit}
use Rattle.message_types.specs.declared.fields.Scalar.TheVariants.{Text}
use Rattle.message_types.specs.declared.fields.Shape.TheVariants.{Single}
use Rattle.schema.specs.Soundness.{IsSound, IsSoundField}

-- the one field
abbrev name_field : Field
name_field = field_of_kind (codes "name") 1 (OneOf Text) Single Implicit

name_field_sound : IsSoundField shop name_field
name_field_sound = record {
  low = omega arith;
  high = omega arith;
  kind = tt;
  shape = tt;
  packed = λ h. absurd (cc h);
}

-- the types are sound
shop_sound : IsSound shop
shop_sound = record {
  messages = (
    record { fields = (name_field_sound, tt); numbers = (tt, tt); keys = (tt, tt); known = tt },
    tt,
  );
  enums = tt;
}

-- the template is one
item_template_is : IsTemplate item_template
item_template_is = record {
  text = codes "/items/{name}";
  means = record {
    first = segment (Literal (codes "items"));
    more = variable (codes "name" ∷ []) ∷ [];
    each = ((refl, (refl, (refl, (refl, (refl, tt))))), (((refl, (refl, (refl, (refl, tt)))), tt), tt));
    rest_last = (tt, (tt, tt));
    verb = tt;
    written = refl;
    means = refl;
  };
  within = (omega arith, omega arith);
}

-- and the path of its variable leads to the name
name_leads : LeadsToLeaf shop (type_at 0) (codes "name" ∷ []) (1 ∷ [])
name_leads = (record { field = name_field; by_name = refl; by_number = refl; singular = tt }, tt)

-- the binding is one of the API, whatever others there are
item_binding_is : is_method_kind (codes "GET") ≡ true → (bs : List Binding)
    → IsBindingOf (shop_with bs) item_binding
item_binding_is get bs = record {
  call = omega arith;
  method = get_item;
  method_is = refl;
  http_method = get;
  template = item_template_is;
  paths = (name_leads, tt);
  apart = (tt, tt);
  body = tt;
  response = tt;
}

one_http_method : distinct_count bytes_eq (codes "GET" ∷ []) ≤ 64
one_http_method = let one : distinct_count bytes_eq (codes "GET" ∷ []) ≡ 1 = refl in omega (arith, one)

-- one binding
pub one_linked : is_method_kind (codes "GET") ≡ true → IsLinked (shop_with (item_binding ∷ []))
one_linked get = record {
  types = shop_sound;
  names = (tt, tt);
  methods = (record { input = omega arith; output = omega arith }, tt);
  bindings = (item_binding_is get (item_binding ∷ []), tt);
  routes = (tt, tt);
  http_methods = one_http_method;
  few = omega arith;
}

-- no binding
pub none_linked : IsLinked (shop_with [])
none_linked = record {
  types = shop_sound;
  names = (tt, tt);
  methods = (record { input = omega arith; output = omega arith }, tt);
  bindings = tt;
  routes = tt;
  http_methods = omega arith;
  few = omega arith;
}

-- HEAD is no method of a binding
pub head_is_none : IsLinked (shop_with (record item_binding { method = codes "HEAD" } ∷ [])) → ⊥
head_is_none h = pick (is_short_token (codes "HEAD")) h.bindings.0.http_method
  where
    pick : (b : Bool) → (b && false) ≡ true → ⊥
    pick true e = absurd (cc e)
    pick false e = absurd (cc e)

-- there is one method
pub call_is_none : IsLinked (shop_with (record item_binding { call = 1 } ∷ [])) → ⊥
call_is_none h = let wrong : 1 < 1 = h.bindings.0.call in omega (arith, wrong)

-- there is one field
pub number_is_none : IsLinked (shop_with (record item_binding { paths = (2 ∷ []) ∷ [] } ∷ [])) → ⊥
number_is_none h =
    let method : get_item ≡ h.bindings.0.method = cc (h.bindings.0.method_is) in
    let path : LeadsToLeaf shop (type_at 0) (codes "name" ∷ []) (2 ∷ []) =
    subst (λ (m : MethodInfo). LeadsToLeaf shop m.input (codes "name" ∷ []) (2 ∷ [])) (sym method)
    h.bindings.0.paths.0 in
    let none : None ≡ Some path.0.field = path.0.by_number in absurd (cc none)

-- each variable has a path
pub fewer_is_none : IsLinked (shop_with (record item_binding { paths = [] } ∷ [])) → ⊥
fewer_is_none h = h.bindings.0.paths

-- and each path a variable
pub more_is_none : IsLinked (shop_with (record item_binding { paths = (1 ∷ []) ∷ (1 ∷ []) ∷ [] } ∷ [])) → ⊥
more_is_none h = h.bindings.0.paths.1

-- the response is a field
pub response_is_none : IsLinked (shop_with (record item_binding { response = Some 2 } ∷ [])) → ⊥
response_is_none h =
    let method : get_item ≡ h.bindings.0.method = cc (h.bindings.0.method_is) in
    let field : false ≡ true =
    subst (λ (m : MethodInfo). IsSome (field_in (fields_of shop m.output) 2)) (sym method) h.bindings.0.response in
    absurd (cc field)

-- one route stands once
pub twice_is_none : IsLinked (shop_with (item_binding ∷ item_binding ∷ [])) → ⊥
twice_is_none h = h.routes.0.0 (refl, (refl, refl))

-- one name stands once
pub names_is_none : IsLinked (record (shop_with []) { types = record { messages = item ∷ item ∷ []; enums = [] } }) → ⊥
names_is_none h = let wrong : true ≡ false = h.names.0.0 in absurd (cc wrong)

-- no path begins another
pub overlapping_is_none : IsLinked (shop_with (overlapping_binding ∷ [])) → ⊥
overlapping_is_none h = let wrong : true ≡ false = h.bindings.0.apart.0.0 in absurd (cc wrong)

-- the body is a field
pub body_is_none : IsLinked (shop_with (record item_binding { body = Part 2 } ∷ [])) → ⊥
body_is_none h =
    let method : get_item ≡ h.bindings.0.method = cc (h.bindings.0.method_is) in
    let field : false ≡ true =
    subst (λ (m : MethodInfo). IsSome (field_in (fields_of shop m.input) 2)) (sym method) h.bindings.0.body in
    absurd (cc field)

-- the bindings have 65 HTTP methods
many_are_65 : distinct_count bytes_eq (map (λ (b : Binding). b.method) many_methods) ≡ 65
many_are_65 = refl

-- and 64 are the most
pub many_is_none : IsLinked (shop_with many_methods) → ⊥
many_is_none h = let few = h.http_methods in let count = many_are_65 in omega (arith, few, count)

-- there is one message type
pub input_is_none : IsLinked (record (shop_with []) { methods = record get_item { input = type_at 1 } ∷ [] }) → ⊥
input_is_none h = let wrong : 1 < 1 = h.methods.0.input in omega (arith, wrong)

-- the name of an enum is that of no message
pub enum_name_is_none
    : IsLinked (record (shop_with []) { types = record { messages = item ∷ []; enums = item_enum ∷ [] } }) → ⊥
enum_name_is_none h = let wrong : true ≡ false = h.names.0.0 in absurd (cc wrong)
