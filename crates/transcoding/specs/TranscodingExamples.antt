-- Worked examples of requests, for an API of one binding: GET of `/items/{name}`.
use Rattle.std.specs.Prelude.{List, ℕ, [], ◌∷◌, codes, Result, Err}
use Rattle.gate_world.specs.declared.refusal.Refusal.TheVariants as refusals
use Rattle.linked_api.specs.SmallApi.{item_binding, shop_with}
use Rattle.transcoding.specs.RoutedRequest.{IsMethodNotServed}
use Rattle.transcoding.specs.TranscodedRequest.{IsTranscoding, TranscodedRequest}
use Rattle.transcoding.specs.declared.refusal.RequestRefusal.{RequestRefusal}
use Rattle.transcoding.specs.declared.refusal.RequestRefusal.TheVariants.{NotBuilt, Listed}

-- a request of this method and target, without a body, means this
abbrev pub Means : List ℕ → List ℕ → Result TranscodedRequest RequestRefusal → Type 0
Means method target r = IsTranscoding (shop_with (item_binding ∷ [])) method target [] r

-- what requests mean
pub record TranscodingExamplesHold : Type 0 where
  -- a method that is not served comes before a path that is unknown, and only in capital letters
  pub head : Means (codes "HEAD") (codes "*") (Err (Listed refusals.MethodNotServed))
  pub connect : Means (codes "CONNECT") (codes "*") (Err (Listed refusals.MethodNotServed))
  pub small_letters : IsMethodNotServed (codes "head") → ⊥
  -- the asterisk form has no path
  pub asterisk : Means (codes "OPTIONS") (codes "*") (Err (Listed refusals.PathUnknown))
  -- a query is not built, in origin form and in absolute form
  pub query : Means (codes "GET") (codes "/items/pen?x=1") (Err NotBuilt)
  pub absolute_query : Means (codes "GET") (codes "HTTP://h/items/pen?") (Err NotBuilt)
