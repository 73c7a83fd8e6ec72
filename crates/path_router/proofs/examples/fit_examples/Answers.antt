use Rattle.std.proofs.Common.{[], ◌∷◌, codes, refl, lit<, lit≤}
use Rattle.http_rules.specs.Template.{IsTemplate, segment, variable_of}
use Rattle.http_rules.specs.TemplateMatch.{IsPathSegment}
use Rattle.http_rules.specs.declared.template.Segment.TheVariants.{Literal, One, Rest}
use Rattle.path_router.proofs.EmptyLemmas.{literal_full, no_slash_last, no_two_slashes}
use Rattle.path_router.specs.FitExamples.{all_behind, one_goes}
use Rattle.path_router.proofs.examples.fit_examples.Goals as goal

-- each template is one that can be parsed
one_is : IsTemplate one_goes
one_is = record {
  text = codes "/v1/*:go";
  means =
      record {
        first = segment (Literal (codes "v1"));
        more = segment One ∷ [];
        each = ((refl, (refl, tt)), (tt, tt));
        rest_last = (tt, (tt, tt));
        verb = (refl, (refl, tt));
        written = refl;
        means = refl;
      };
  within = (lit≤ tt, lit≤ tt);
}

all_is : IsTemplate all_behind
all_is = record {
  text = codes "/v1/{a=**}";
  means =
      record {
        first = segment (Literal (codes "v1"));
        more = variable_of (codes "a" ∷ []) (Rest ∷ []) ∷ [];
        each = ((refl, (refl, tt)), ((((refl, tt), tt), (tt, tt)), tt));
        rest_last = (tt, (refl, tt));
        verb = tt;
        written = refl;
        means = refl;
      };
  within = (lit≤ tt, lit≤ tt);
}

a_full : IsPathSegment (codes "a")
a_full = literal_full (codes "a") (refl, tt)

b_full : IsPathSegment (codes "b")
b_full = literal_full (codes "b") (refl, tt)

pub returns : goal.returns
returns c = record {
  one =
      record {
        is_path = lit< tt;
        taken = (codes "v1" ∷ []) ∷ (codes "a" ∷ []) ∷ [];
        each = (refl, ((codes "a", a_full, refl), tt));
        before_verb = λ _ e. absurd (cc (e));
        written = refl;
        spans_are = refl;
      };
  nothing_before_verb = λ f. no_slash_last one_goes (codes "/v1/:go") (codes "/v1") one_is f refl;
  several =
      record {
        is_path = lit< tt;
        taken = (codes "v1" ∷ []) ∷ (codes "a" ∷ codes "b" ∷ []) ∷ [];
        each = (refl, ((a_full, (b_full, tt)), tt));
        before_verb = λ e. absurd (cc (e));
        written = refl;
        spans_are = refl;
      };
  none =
      record {
        is_path = lit< tt;
        taken = (codes "v1" ∷ []) ∷ [] ∷ [];
        each = (refl, (tt, tt));
        before_verb = λ e. absurd (cc (e));
        written = refl;
        spans_are = refl;
      };
  empty_last = λ f. no_slash_last all_behind (codes "/v1/") (codes "/v1") all_is f refl;
  empty_inside = λ f. no_two_slashes all_behind (codes "/v1/a//b") (codes "/v1/a") (codes "b") all_is f refl;
}
