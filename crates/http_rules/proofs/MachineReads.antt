-- What the machine reads is in the grammar: at each state, what it reads from there on completes the
-- part that has begun, and the parts that follow.
use Rattle.std.proofs.Common.{◌≡◌, ℕ, List, [], ◌∷◌, ◌++◌, length, Option, Some, None, refl, sym, ap, ◌∙◌, subst, arith}
use Rattle.std.proofs.lemmas.List.{append-nil}
use Rattle.std.specs.Prelude.{⊤, option_map}
use Rattle.std.specs.List.{AllByRecursion}
use Rattle.base.proofs.EachLemmas.{each_joined}
use Rattle.http_rules.specs.declared.template.Segment.{Segment}
use Rattle.http_rules.specs.declared.template.Segment.TheVariants.{Literal, One, Rest}
use Rattle.http_rules.specs.declared.template.Template.{Template}
use Rattle.http_rules.specs.declared.state.Kind.TheVariants.{Letter, Digit, Dot, Equals}
use Rattle.http_rules.specs.declared.state.Class.{Class}
use Rattle.http_rules.specs.declared.state.Class.TheVariants as class
use Rattle.http_rules.specs.declared.state.Level.TheVariants as level
use Rattle.http_rules.specs.declared.state.State.{State}
use Rattle.http_rules.specs.declared.state.State.TheVariants as state
use Rattle.http_rules.specs.declared.state.Act.{Act}
use Rattle.http_rules.specs.declared.parts.Parts.{Parts}
use Rattle.http_rules.specs.Template.{IsLiteral, IsIdentifier, IsFieldPath, IsSegment, Part, IsPart, segment_text, verb_text, parts_text, segments_of, variables_from, MayFollow, IsRestLast, IsVerb, IsTemplateText}
use Rattle.http_rules.specs.TemplateMachine.{class_of, turn, no_parts, did, kept, finish, run, read_template}
use Rattle.http_rules.proofs.PartLemmas.{ClassSays, class_says, literal_push, identifier_push, field_path_push, letter_goes_on, digit_goes_on, push_then, first_then, dotted, dotted_push, joined_push, Follows, taking, FollowsInner, nothing_follows, before, before_inner, ends, segment_back, inner_back, close_back, first_byte, open_back, bare_back, made}

-- each state

-- what was kept is a literal or identifiers
abbrev Valid : State → Parts → Type 0
Valid state.Start m = (m.word ≡ []) × (m.path ≡ [])
Valid (state.Segment level.Outer) m = (m.word ≡ []) × (m.path ≡ [])
Valid (state.Segment level.Inner) m = (m.word ≡ []) × IsFieldPath m.path
Valid (state.Star level.Outer) m = m.path ≡ []
Valid (state.Star level.Inner) m = IsFieldPath m.path
Valid (state.Stars level.Outer) m = m.path ≡ []
Valid (state.Stars level.Inner) m = IsFieldPath m.path
Valid (state.Literal level.Outer) m = IsLiteral m.word × (m.path ≡ [])
Valid (state.Literal level.Inner) m = IsLiteral m.word × IsFieldPath m.path
Valid state.Name m = (m.word ≡ []) × AllByRecursion IsIdentifier m.path
Valid state.Path m = IsIdentifier m.word × AllByRecursion IsIdentifier m.path
Valid state.Closed m = (m.word ≡ []) × (m.path ≡ [])
Valid state.ClosedRest m = (m.word ≡ []) × (m.path ≡ [])
Valid state.Colon m = m.word ≡ []
Valid state.Verb m = IsLiteral m.word

-- what may follow a segment and a slash, outside braces
abbrev At : Parts → List ℕ → Template → Type 0
At m s t = Follows One m.segments m.variables s t

-- what may follow a segment and a slash, within braces
abbrev AtInner : Parts → List ℕ → Template → Type 0
AtInner m s t = FollowsInner One m.segments m.variables m.path m.from s t

-- what may follow the last segment
abbrev AtVerb : Parts → List ℕ → Template → Type 0
AtVerb m s t = Follows Rest m.segments m.variables s t

-- what is left of the text, behind what has begun, is parts and a verb
abbrev Left : State → Parts → List ℕ → Template → Type 0
Left state.Start m s t = (u : List ℕ) × (s ≡ 47 ∷ u) × At m s t
Left (state.Segment level.Outer) m s t = At m (47 ∷ s) t
Left (state.Segment level.Inner) m s t = AtInner m (47 ∷ s) t
Left (state.Star level.Outer) m s t = At m (47 ∷ 42 ∷ s) t
Left (state.Star level.Inner) m s t = AtInner m (47 ∷ 42 ∷ s) t
Left (state.Stars level.Outer) m s t = At m (47 ∷ 42 ∷ 42 ∷ s) t
Left (state.Stars level.Inner) m s t = AtInner m (47 ∷ 42 ∷ 42 ∷ s) t
Left (state.Literal level.Outer) m s t = At m (47 ∷ (m.word ++ s)) t
Left (state.Literal level.Inner) m s t = AtInner m (47 ∷ (m.word ++ s)) t
Left state.Name m s t = At m (47 ∷ 123 ∷ (dotted m.path ++ s)) t
Left state.Path m s t = At m (47 ∷ 123 ∷ (dotted m.path ++ (m.word ++ s))) t
Left state.Closed m s t = At m s t
Left state.ClosedRest m s t = AtVerb m s t
Left state.Colon m s t = AtVerb m (58 ∷ s) t
Left state.Verb m s t = AtVerb m (58 ∷ (m.word ++ s)) t

-- a byte leads to a state whose rest it stands before
abbrev StepAt : Option (State × Act) → State → Parts → ℕ → Type 0
StepAt None p m b = ⊤
StepAt (Some x) p m b = Valid x.0 (did x.1 b m) × ((s : List ℕ) (t : Template) → Left x.0 (did x.1 b m) s t → Left p m (b ∷ s) t)

-- the byte is this number
abbrev on : (P : ℕ → Type 0) (b n : ℕ) → b ≡ n → P n → P b
on P b n e h = subst P (sym e) h

rest_before : (y : Segment) (ss : List Segment) → MayFollow Rest ss → MayFollow y ss
rest_before y ss h = nothing_follows y ss h

-- the end of a segment
ended_outer : (y : Segment) (m : Parts) (s : List ℕ) (t : Template) (c : ℕ) → IsSegment y → Follows y (m.segments ++ y ∷ []) m.variables (c ∷ s) t → At m (47 ∷ (segment_text y ++ c ∷ s)) t
ended_outer y m s t c is h = segment_back y m.segments m.variables (c ∷ s) t is h

ended_inner : (y : Segment) (m : Parts) (s : List ℕ) (t : Template) (c : ℕ) → IsSegment y → FollowsInner y (m.segments ++ y ∷ []) m.variables m.path m.from (c ∷ s) t → AtInner m (47 ∷ (segment_text y ++ c ∷ s)) t
ended_inner y m s t c is h = inner_back y m.segments m.variables m.path m.from (c ∷ s) t is h

closed_inner : (y : Segment) (m : Parts) (s : List ℕ) (t : Template) → IsSegment y → Follows y (m.segments ++ y ∷ []) (m.variables ++ taking m.path m.from (length (m.segments ++ y ∷ [])) ∷ []) s t → AtInner m (47 ∷ (segment_text y ++ 125 ∷ s)) t
closed_inner y m s t is h = inner_back y m.segments m.variables m.path m.from (125 ∷ s) t is (close_back y (m.segments ++ y ∷ []) m.variables m.path m.from s t h)

step : (p : State) (m : Parts) (b : ℕ) (c : Class) → ClassSays c b → Valid p m → StepAt (turn p c) p m b
step state.Start m b class.Slash e v = (v, λ s t h. on (λ n. Left state.Start m (n ∷ s) t) b 47 e (s, refl, h))
step state.Start m b c e v = tt
step (state.Segment level.Outer) m b class.Star e v = (v.1, λ s t h. on (λ n. At m (47 ∷ n ∷ s) t) b 42 e h)
step (state.Segment level.Outer) m b (class.Literal k) e v =
    ((subst (λ w. IsLiteral (w ++ b ∷ [])) (sym v.0) (e.0, tt), v.1), λ s t h. subst (λ l. At m (47 ∷ l) t) (first_then m.word b s v.0) h)
step (state.Segment level.Outer) m b class.Open e v =
    ((v.0, subst (AllByRecursion IsIdentifier) (sym v.1) tt), λ s t h. on (λ n. At m (47 ∷ n ∷ s) t) b 123 e (subst (λ path. At m (47 ∷ 123 ∷ (dotted path ++ s)) t) v.1 h))
step (state.Segment level.Outer) m b c e v = tt
step (state.Segment level.Inner) m b class.Star e v = (v.1, λ s t h. on (λ n. AtInner m (47 ∷ n ∷ s) t) b 42 e h)
step (state.Segment level.Inner) m b (class.Literal k) e v =
    ((subst (λ w. IsLiteral (w ++ b ∷ [])) (sym v.0) (e.0, tt), v.1), λ s t h. subst (λ l. AtInner m (47 ∷ l) t) (first_then m.word b s v.0) h)
step (state.Segment level.Inner) m b c e v = tt
step (state.Star level.Outer) m b class.Star e v = (v, λ s t h. on (λ n. At m (47 ∷ 42 ∷ n ∷ s) t) b 42 e h)
step (state.Star level.Outer) m b class.Slash e v = ((refl, v), λ s t h. on (λ n. At m (47 ∷ 42 ∷ n ∷ s) t) b 47 e (ended_outer One m s t 47 tt h))
step (state.Star level.Outer) m b class.Colon e v =
    (refl, λ s t h. on (λ n. At m (47 ∷ 42 ∷ n ∷ s) t) b 58 e (ended_outer One m s t 58 tt (before Rest One _ _ _ _ (rest_before One) h)))
step (state.Star level.Outer) m b c e v = tt
step (state.Star level.Inner) m b class.Star e v = (v, λ s t h. on (λ n. AtInner m (47 ∷ 42 ∷ n ∷ s) t) b 42 e h)
step (state.Star level.Inner) m b class.Slash e v = ((refl, v), λ s t h. on (λ n. AtInner m (47 ∷ 42 ∷ n ∷ s) t) b 47 e (ended_inner One m s t 47 tt h))
step (state.Star level.Inner) m b class.Close e v = ((refl, refl), λ s t h. on (λ n. AtInner m (47 ∷ 42 ∷ n ∷ s) t) b 125 e (closed_inner One m s t tt h))
step (state.Star level.Inner) m b c e v = tt
step (state.Stars level.Outer) m b class.Colon e v = (refl, λ s t h. on (λ n. At m (47 ∷ 42 ∷ 42 ∷ n ∷ s) t) b 58 e (ended_outer Rest m s t 58 tt h))
step (state.Stars level.Outer) m b c e v = tt
step (state.Stars level.Inner) m b class.Close e v = ((refl, refl), λ s t h. on (λ n. AtInner m (47 ∷ 42 ∷ 42 ∷ n ∷ s) t) b 125 e (closed_inner Rest m s t tt h))
step (state.Stars level.Inner) m b c e v = tt
step (state.Literal level.Outer) m b (class.Literal k) e v =
    ((literal_push m.word b v.0 e.0, v.1), λ s t h. subst (λ l. At m (47 ∷ l) t) (push_then m.word b s) h)
step (state.Literal level.Outer) m b class.Slash e v =
    ((refl, v.1), λ s t h. on (λ n. At m (47 ∷ (m.word ++ n ∷ s)) t) b 47 e (ended_outer (Literal m.word) m s t 47 v.0 (before One (Literal m.word) _ _ _ _ (λ _ _. tt) h)))
step (state.Literal level.Outer) m b class.Colon e v =
    (refl, λ s t h. on (λ n. At m (47 ∷ (m.word ++ n ∷ s)) t) b 58 e (ended_outer (Literal m.word) m s t 58 v.0 (before Rest (Literal m.word) _ _ _ _ (λ _ _. tt) h)))
step (state.Literal level.Outer) m b c e v = tt
step (state.Literal level.Inner) m b (class.Literal k) e v =
    ((literal_push m.word b v.0 e.0, v.1), λ s t h. subst (λ l. AtInner m (47 ∷ l) t) (push_then m.word b s) h)
step (state.Literal level.Inner) m b class.Slash e v =
    ((refl, v.1), λ s t h. on (λ n. AtInner m (47 ∷ (m.word ++ n ∷ s)) t) b 47 e (ended_inner (Literal m.word) m s t 47 v.0 (before_inner One (Literal m.word) _ _ _ _ _ _ (λ _ _. tt) h)))
step (state.Literal level.Inner) m b class.Close e v =
    ((refl, refl), λ s t h. on (λ n. AtInner m (47 ∷ (m.word ++ n ∷ s)) t) b 125 e (closed_inner (Literal m.word) m s t v.0 (before One (Literal m.word) _ _ _ _ (λ _ _. tt) h)))
step (state.Literal level.Inner) m b c e v = tt
step state.Name m b (class.Literal Letter) e v =
    ((subst (λ w. IsIdentifier (w ++ b ∷ [])) (sym v.0) (e.1, tt), v.1), λ s t h. subst (λ l. At m (47 ∷ 123 ∷ (dotted m.path ++ l)) t) (first_then m.word b s v.0) h)
step state.Name m b c e v = tt
step state.Path m b (class.Literal Letter) e v =
    ((identifier_push m.word b v.0 (letter_goes_on b e.1), v.1), λ s t h. subst (λ l. At m (47 ∷ 123 ∷ (dotted m.path ++ l)) t) (push_then m.word b s) h)
step state.Path m b (class.Literal Digit) e v =
    ((identifier_push m.word b v.0 (digit_goes_on b e.1), v.1), λ s t h. subst (λ l. At m (47 ∷ 123 ∷ (dotted m.path ++ l)) t) (push_then m.word b s) h)
step state.Path m b (class.Literal Dot) e v =
    ((refl, each_joined _ m.path (m.word ∷ []) v.1 (v.0, tt)), λ s t h. on (λ n. At m (47 ∷ 123 ∷ (dotted m.path ++ (m.word ++ n ∷ s))) t) b 46 e.1 (subst (λ l. At m (47 ∷ 123 ∷ l) t) (dotted_push m.path m.word s) h))
step state.Path m b (class.Literal Equals) e v =
    let is = field_path_push m.path m.word v.1 v.0 in (
      (refl, is),
      λ s t h. on (λ n. At m (47 ∷ 123 ∷ (dotted m.path ++ (m.word ++ n ∷ s))) t) b 61 e.1
          (subst (λ l. At m (47 ∷ 123 ∷ l) t) (joined_push m.path m.word (61 ∷ s)) (open_back m.segments m.variables (m.path ++ m.word ∷ []) s t is h)),
    )
step state.Path m b class.Close e v =
    let is = field_path_push m.path m.word v.1 v.0 in (
      (refl, refl),
      λ s t h. on (λ n. At m (47 ∷ 123 ∷ (dotted m.path ++ (m.word ++ n ∷ s))) t) b 125 e
          (subst (λ l. At m (47 ∷ 123 ∷ l) t) (joined_push m.path m.word (125 ∷ s)) (bare_back m.segments m.variables (m.path ++ m.word ∷ []) s t is h)),
    )
step state.Path m b c e v = tt
step state.Closed m b class.Slash e v = (v, λ s t h. on (λ n. At m (n ∷ s) t) b 47 e h)
step state.Closed m b class.Colon e v = (v.0, λ s t h. on (λ n. At m (n ∷ s) t) b 58 e (before Rest One _ _ _ _ (rest_before One) h))
step state.Closed m b c e v = tt
step state.ClosedRest m b class.Colon e v = (v.0, λ s t h. on (λ n. AtVerb m (n ∷ s) t) b 58 e h)
step state.ClosedRest m b c e v = tt
step state.Colon m b (class.Literal k) e v =
    (subst (λ w. IsLiteral (w ++ b ∷ [])) (sym v) (e.0, tt), λ s t h. subst (λ l. AtVerb m (58 ∷ l) t) (first_then m.word b s v) h)
step state.Colon m b c e v = tt
step state.Verb m b (class.Literal k) e v = (literal_push m.word b v e.0, λ s t h. subst (λ l. AtVerb m (58 ∷ l) t) (push_then m.word b s) h)
step state.Verb m b c e v = tt

some_is : (x y : Template) → Some x ≡ Some y → x ≡ y
some_is x y e = cc

-- the text ends
at_end : (p : State) (m : Parts) (t : Template) → Valid p m → finish p m ≡ Some t → Left p m [] t
at_end state.Start m t v e = absurd (cc)
at_end (state.Segment l) m t v e = absurd (cc)
at_end (state.Star level.Outer) m t v e = segment_back One m.segments m.variables [] t tt (ends One _ _ None t tt (some_is _ _ e))
at_end (state.Star level.Inner) m t v e = absurd (cc)
at_end (state.Stars level.Outer) m t v e = segment_back Rest m.segments m.variables [] t tt (ends Rest _ _ None t tt (some_is _ _ e))
at_end (state.Stars level.Inner) m t v e = absurd (cc)
at_end (state.Literal level.Outer) m t v e = segment_back (Literal m.word) m.segments m.variables [] t v.0 (ends (Literal m.word) _ _ None t tt (some_is _ _ e))
at_end (state.Literal level.Inner) m t v e = absurd (cc)
at_end state.Name m t v e = absurd (cc)
at_end state.Path m t v e = absurd (cc)
at_end state.Closed m t v e = ends One _ _ None t tt (some_is _ _ e)
at_end state.ClosedRest m t v e = ends Rest _ _ None t tt (some_is _ _ e)
at_end state.Colon m t v e = absurd (cc)
at_end state.Verb m t v e = subst (λ l. AtVerb m (58 ∷ l) t) (sym (append-nil m.word)) (ends Rest _ _ (Some m.word) t v (some_is _ _ e))

-- what the machine reads from a state on is what may stand there
reads_left : (s : List ℕ) (p : State) (m : Parts) (t : Template) → Valid p m → run (Some p) m s ≡ Some t → Left p m s t
reads_left [] p m t v e = at_end p m t v e
reads_left (b ∷ s) p m t v e = by_turn (turn p (class_of b)) (step p m b (class_of b) (class_says b) v) (λ q n w f. reads_left s q n t w f) e
  where
    by_turn : (o : Option (State × Act)) → StepAt o p m b → ((q : State) (n : Parts) → Valid q n → run (Some q) n s ≡ Some t → Left q n s t) → run (option_map (λ x. x.0) o) (kept o b m) s ≡ Some t → Left p m (b ∷ s) t
    by_turn None h go f = absurd (cc)
    by_turn (Some x) h go f = h.1 s t (go x.0 (did x.1 b m) h.0 f)

no_verb : (verb : Option (List ℕ)) (u : List ℕ) → 47 ∷ u ≡ verb_text verb → ⊥
no_verb None u e = absurd (cc)
no_verb (Some l) u e = let same : 47 ≡ 58 = ap first_byte e in absurd (omega (arith, same))

from_parts : (parts : List Part) (s u : List ℕ) (t : Template) → AllByRecursion IsPart parts → IsRestLast (segments_of parts) → IsVerb t.verb → s ≡ parts_text parts t.verb
    → t.segments ≡ segments_of parts → t.variables ≡ variables_from 0 parts → s ≡ 47 ∷ u → IsTemplateText s t
from_parts [] s u t each last verb text ss vs e = absurd (no_verb t.verb u (sym e ∙ text))
from_parts (p ∷ ps) s u t each last verb text ss vs e = record {
  first = p;
  more = ps;
  each = each;
  rest_last = last;
  verb = verb;
  written = text;
  means = ap (λ x. made x t.variables t.verb) ss ∙ ap (λ x. made (segments_of (p ∷ ps)) x t.verb) vs;
}

-- a text that the machine reads is a template
pub read_is_template : (s : List ℕ) (t : Template) → read_template s ≡ Some t → IsTemplateText s t
read_is_template s t e =
    let r = reads_left s state.Start no_parts t (refl, refl) e in
    let h = r.2 in
    from_parts h.parts s r.0 t h.each h.last.1 h.verb h.text h.segments h.variables r.1
