use Rattle.std.proofs.Common.{List, [], ◌∷◌, None, refl}
use Rattle.std.specs.Fmt.{digits}
use Rattle.std.specs.Prelude.{codes}
use Rattle.set_listing.specs.PrintedExamples.{posted, sales, sell}
use Rattle.set_listing.specs.RouteLines.{IsRouteLine}
use Rattle.http_rules.specs.declared.template.Binding.{Binding}
use Rattle.http_rules.specs.declared.template.Body.TheVariants.{Whole}
use Rattle.linked_api.specs.LinkedExamples.{field_of_kind}
use Rattle.linked_api.specs.SmallApi.{item_binding}
use Rattle.message_types.specs.declared.fields.Kind.TheVariants.{One as OneOf}
use Rattle.message_types.specs.declared.fields.Presence.TheVariants.{Implicit}
use Rattle.message_types.specs.declared.fields.Scalar.TheVariants.{Text}
use Rattle.message_types.specs.declared.fields.Shape.TheVariants.{Single}
use Rattle.set_listing.proofs.examples.printed_examples.Goals as goal

-- the line of the GET, in any such API
get_line : (bs : List Binding) → IsRouteLine (sales sell bs) item_binding (codes "GET /items/{name=*} /shop.Shop/Sell - -\n")
get_line bs = record {
  method = sell;
  method_is = refl;
  body = codes "-";
  body_is = refl;
  response = codes "-";
  response_is = refl;
  written = refl;
}

-- the line of a POST of the whole message
whole_line : (bs : List Binding) → IsRouteLine (sales sell bs) (posted Whole None) (codes "POST /items/{name=*} /shop.Shop/Sell * -\n")
whole_line bs = record {
  method = sell;
  method_is = refl;
  body = codes "*";
  body_is = refl;
  response = codes "-";
  response_is = refl;
  written = refl;
}

pub returns : goal.returns
unfolding digits
returns c = record {
  counted = refl;
  get = (codes "GET /items/{name=*} /shop.Shop/Sell - -\n", [], get_line (item_binding ∷ []), refl, refl);
  whole = (codes "POST /items/{name=*} /shop.Shop/Sell * -\n", [], whole_line (posted Whole None ∷ []), refl, refl);
  fields = (
    codes "POST /items/{name=*} /shop.Shop/Sell name total_price\n",
    [],
    record {
      method = sell;
      method_is = refl;
      body = codes "name";
      body_is = record { field = field_of_kind (codes "name") 1 (OneOf Text) Single Implicit; field_is = refl; named = refl };
      response = codes "total_price";
      response_is = record {
        field = record (field_of_kind (codes "total_price") 1 (OneOf Text) Single Implicit) { json = codes "totalPrice" };
        field_is = refl;
        named = refl;
      };
      written = refl;
    },
    refl,
    refl,
  );
  in_order = (
    codes "POST /items/{name=*} /shop.Shop/Sell * -\n",
    codes "GET /items/{name=*} /shop.Shop/Sell - -\n",
    whole_line (posted Whole None ∷ item_binding ∷ []),
    (codes "GET /items/{name=*} /shop.Shop/Sell - -\n", [], get_line (posted Whole None ∷ item_binding ∷ []), refl, refl),
    refl,
  );
  empty = refl;
}
