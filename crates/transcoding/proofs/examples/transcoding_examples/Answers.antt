use Rattle.std.proofs.Common.{◌≡◌, ◌≢◌, ℕ, zero, suc, List, [], ◌∷◌, codes, Some, slice_get, refl, ap, inl, inr, ⊎_elim, arith, lit<}
use Rattle.std.specs.List.{AllByRecursion}
use Rattle.http_rules.specs.TemplateMatch.{IsPathSegment, Matches}
use Rattle.http_rules.specs.declared.template.Binding.{Binding}
use Rattle.linked_api.specs.SmallApi.{item_binding, item_template, shop_with}
use Rattle.path_router.specs.RouteChoice.{IsFirst}
use Rattle.path_router.specs.TargetPath.{EndsAuthority, IsTargetPath}
use Rattle.transcoding.specs.BuiltForms.{IsBuilt}
use Rattle.transcoding.specs.RoutedRequest.{IsMethodNotServed}
use Rattle.transcoding.specs.TranscodedRequest.{IsNotBuilt}
use Rattle.transcoding.proofs.examples.transcoding_examples.Goals as goal

-- the first byte, or 0 where there is none
abbrev first_byte : List ℕ → ℕ
first_byte [] = 0
first_byte (b ∷ bs) = b

-- a method that begins with another letter is served
served_by : (method : List ℕ) → (first_byte method ≡ 72 → ⊥) → (first_byte method ≡ 67 → ⊥) → IsMethodNotServed method → ⊥
served_by method h c n = ⊎_elim (λ e. h (ap first_byte e)) (λ e. c (ap first_byte e)) n

pen_segment : IsPathSegment (codes "pen")
pen_segment = (λ e. absurd (cc (e)), (λ e. absurd (cc (e)), (λ e. absurd (cc (e)), (λ e. absurd (cc (e)), tt))))

pen_matches : Matches item_template (codes "/items/pen") ((7, 10) ∷ [])
pen_matches = record {
  is_path = lit< tt;
  taken = (codes "items" ∷ []) ∷ (codes "pen" ∷ []) ∷ [];
  each = (refl, ((codes "pen", pen_segment, refl), tt));
  before_verb = λ e. absurd (cc (e));
  written = refl;
  spans_are = refl;
}

only : (i : ℕ) (other : Binding) → slice_get (item_binding ∷ []) i ≡ Some other → i ≢ 0 → ⊥
only zero other e n = n refl
only (suc i) other e n = absurd (cc e)

pen_first : IsFirst (item_binding ∷ []) (codes "GET") (codes "/items/pen") 0 item_binding
pen_first = record {
  binding_is = refl;
  serves = inl refl;
  fits = ((7, 10) ∷ [], pen_matches);
  precedes = λ i other e n s f. absurd (only i other e n);
}

-- a target of `/items/pen` with a query is routed, and is not built
not_built : (target : List ℕ) → IsTargetPath target (codes "/items/pen")
    → (IsBuilt (shop_with (item_binding ∷ [])) target 0 → ⊥)
    → IsNotBuilt (shop_with (item_binding ∷ [])) (codes "GET") target
not_built target p b = record {
  path = codes "/items/pen";
  index = 0;
  spans = record { from = 7; to = 10 } ∷ [];
  routed =
      record {
        served = served_by (codes "GET") (λ e. absurd (omega (arith, e))) (λ e. absurd (omega (arith, e)));
        target_path = p;
        found = record { binding = item_binding; first = pen_first; matches = pen_matches };
      };
  not_built = b;
}

-- `h` does not end an authority
h_inside : EndsAuthority 104 → ⊥
h_inside e = ⊎_elim (λ x. absurd (omega (arith, x))) (λ x. absurd (omega (arith, x))) e

no_queries : AllByRecursion (λ b. b ≢ 63) (codes "/items/pen")
no_queries = (λ e. absurd (cc (e)), (λ e. absurd (cc (e)), (λ e. absurd (cc (e)), (λ e. absurd (cc (e)), (λ e. absurd (cc (e)), (λ e. absurd (cc (e)), (λ e. absurd (cc (e)), (λ e. absurd (cc (e)), (λ e. absurd (cc (e)), (λ e. absurd (cc (e)), tt))))))))))

pub returns : goal.returns
returns c = record {
  head = inl refl;
  connect = inr refl;
  small_letters = served_by (codes "head") (λ e. absurd (omega (arith, e))) (λ e. absurd (omega (arith, e)));
  asterisk =
      record {
        served = served_by (codes "OPTIONS") (λ e. absurd (omega (arith, e))) (λ e. absurd (omega (arith, e)));
        unknown = λ path p. absurd (c.target_examples.ensures.asterisk path p);
      };
  query =
      not_built (codes "/items/pen?x=1")
      (inl (record {
        query = codes "?x=1";
        written = refl;
        rooted = refl;
        no_query = no_queries;
        is_query = refl;
      }))
      (λ b. b.no_query refl);
  absolute_query =
      not_built (codes "HTTP://h/items/pen?")
      (inr (record {
        behind = codes "h/items/pen?";
        rest = codes "/items/pen?";
        scheme = record { scheme = codes "HTTP"; http = refl; written = refl };
        authority = record { authority = codes "h"; inside = (h_inside, tt); written = refl };
        path_is =
            inl (record {
              query = codes "?";
              written = refl;
              rooted = refl;
              no_query = no_queries;
              is_query = refl;
            });
      }))
      (λ b. b.no_query refl);
}
