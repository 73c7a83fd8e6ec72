-- Laws of templates, for the proofs of other crates. Functions of `laws` have them as their contracts.
use Rattle.std.specs.Prelude.{◌≡◌, ◌≢◌, ◌<◌, ◌≤◌, ℕ, List, [], ◌∷◌, length, get_or}
use Rattle.std.specs.List.{AllByRecursion}
use Rattle.http_rules.specs.declared.template.Variable.{Variable}
use Rattle.http_rules.specs.declared.template.Template.{Template}
use Rattle.http_rules.specs.Template.{IsLiteral, IsSegment, IsTemplateText, IsTemplate}
use Rattle.http_rules.specs.TemplateMatch.{Matches, AreSpansOf}
use Rattle.http_rules.proofs.AnswerLemmas as answers
use Rattle.http_rules.proofs.RangeLemmas as ranges
use Rattle.http_rules.proofs.SpanLemmas as spans

-- a text means one template at most
pub one_meaning : (text : List ℕ) (t u : Template) → IsTemplateText text t → IsTemplateText text u → t ≡ u
one_meaning = answers.one_meaning

-- no byte of a literal is a slash
pub literal_no_slash : (l : List ℕ) → IsLiteral l → AllByRecursion (λ b. b ≢ 47) l
literal_no_slash l h = spans.literal_no_slash l (spans.literal_all l h)

-- the segments of a template are literals and wildcards
pub segments_lawful : (text : List ℕ) (t : Template) → IsTemplateText text t → AllByRecursion IsSegment t.segments
segments_lawful = spans.segments_lawful

-- a variable of a template takes some of its segments
pub range_within : (t : Template) (i : ℕ) (d : Variable) → IsTemplate t → i < length t.variables
    → ((get_or t.variables i d).from < (get_or t.variables i d).to) × ((get_or t.variables i d).to ≤ length t.segments)
range_within = ranges.range_within

-- the one variable of a template takes some of its segments
pub wildcard_range : (t : Template) (v : Variable) → IsTemplate t → t.variables ≡ v ∷ []
    → (v.from < v.to) × (v.to ≤ length t.segments)
wildcard_range = ranges.wildcard_range

-- a template fits a path with one list of spans
pub one_fit : (t : Template) (path : List ℕ) (a b : List (ℕ × ℕ)) → IsTemplate t → Matches t path a → Matches t path b
    → a ≡ b
one_fit = spans.one_fit

-- one span for each variable, inside the path
pub spans_inside : (t : Template) (path : List ℕ) (spans : List (ℕ × ℕ)) → Matches t path spans
    → AreSpansOf t path spans
spans_inside = spans.spans_inside
