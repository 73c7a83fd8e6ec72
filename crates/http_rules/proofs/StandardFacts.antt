-- Worked examples of the definitions, computed.
use Rattle.std.specs.Prelude.{◌≡◌, ℕ, List, [], ◌∷◌, codes, Some, None, refl}
use Rattle.std.proofs.Common.{lit<}
use Rattle.percent_encoding.specs.Percent.{percent_decode}
use Rattle.http_rules.specs.declared.template.Segment.TheVariants.{Literal, One, Rest}
use Rattle.http_rules.specs.declared.template.Variable.{Variable}
use Rattle.http_rules.specs.declared.template.Template.{Template}
use Rattle.http_rules.specs.Template.{segment, variable_of, IsTemplateText}
use Rattle.http_rules.specs.TemplateMatch.{Matches}
use Rattle.http_rules.specs.PercentDecoding.{decode_but_slashes, captured}
use Rattle.http_rules.proofs.PartLemmas.{made}

-- a variable of one identifier, from one segment to another
abbrev variable_named : List ℕ → ℕ → ℕ → Variable
variable_named name from to = record { path = name ∷ []; from = from; to = to }

-- `/v1/{name=shelves/*}:go`
abbrev shelves : Template
shelves = made (Literal (codes "v1") ∷ Literal (codes "shelves") ∷ One ∷ []) (variable_named (codes "name") 1 3 ∷ []) (Some (codes "go"))

shelves_text : IsTemplateText (codes "/v1/{name=shelves/*}:go") shelves
shelves_text = record {
  first = segment (Literal (codes "v1"));
  more = variable_of (codes "name" ∷ []) (Literal (codes "shelves") ∷ One ∷ []) ∷ [];
  each = ((refl, (refl, tt)), ((((refl, (refl, (refl, (refl, tt)))), tt), ((refl, (refl, (refl, (refl, (refl, (refl, (refl, tt))))))), (tt, tt))), tt));
  rest_last = (tt, (tt, (tt, tt)));
  verb = (refl, (refl, tt));
  written = refl;
  means = refl;
}

-- it fits `/v1/shelves/7:go`, and the variable takes `shelves/7`
shelves_fit : Matches shelves (codes "/v1/shelves/7:go") ((4, 13) ∷ [])
shelves_fit = record {
  is_path = lit< tt;
  taken = (codes "v1" ∷ []) ∷ (codes "shelves" ∷ []) ∷ (codes "7" ∷ []) ∷ [];
  each = (refl, (refl, ((codes "7", ((λ e. absurd (cc)), ((λ e. absurd (cc)), tt)), refl), tt)));
  before_verb = λ _ e. absurd (cc);
  written = refl;
  spans_are = refl;
}

-- `/v1/{a=**}:go`
abbrev rests : Template
rests = made (Literal (codes "v1") ∷ Rest ∷ []) (variable_named (codes "a") 1 2 ∷ []) (Some (codes "go"))

-- it fits `/v1:go`, and the variable takes nothing, before the verb
rests_fit : Matches rests (codes "/v1:go") ((3, 3) ∷ [])
rests_fit = record {
  is_path = lit< tt;
  taken = (codes "v1" ∷ []) ∷ [] ∷ [];
  each = (refl, (tt, tt));
  before_verb = λ _ e. absurd (cc);
  written = refl;
  spans_are = refl;
}

-- a slash in a variable of several segments stays, and is decoded in one of one segment
captured_rest : captured rests 0 (codes "a%2Fb%2f%20%4") ≡ codes "a%2Fb%2f %4"
unfolding decode_but_slashes
captured_rest = refl

captured_one : captured (made (One ∷ []) (variable_named (codes "a") 0 1 ∷ []) None) 0 (codes "a%2Fb%zz%") ≡ codes "a/b%zz%"
unfolding percent_decode
captured_one = refl
