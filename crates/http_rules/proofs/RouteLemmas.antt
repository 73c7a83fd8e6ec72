-- The test of routes, and that two bindings have one text exactly where they are one route.
use Rattle.std.proofs.Common.{◌≡◌, ◌≢◌, ℕ, ◌+◌, true, List, [], ◌∷◌, ◌++◌, map, Option, Some, None, ◌↔◌, refl, sym, ap, ◌∙◌, subst, arith}
use Rattle.std.proofs.lemmas.Bool.{and_from, and_parts}
use Rattle.std.proofs.lemmas.Bool.Decides.{same_from_decides}
use Rattle.std.proofs.lemmas.Slice.Eq.{bytes_eq-Decides}
use Rattle.std.specs.Prelude.{IsTrue}
use Rattle.std.specs.List.{AllByRecursion}
use Rattle.std.specs.Str.{bytes_eq}
use Rattle.base.proofs.EachLemmas.{each_joined, each_mapped, each_weaker}
use Rattle.base.proofs.TextLemmas.{bytes_eq_self}
use Rattle.http_rules.specs.declared.template.Binding.{Binding}
use Rattle.http_rules.specs.declared.template.Segment.{Segment}
use Rattle.http_rules.specs.declared.template.Segment.TheVariants.{Literal, One, Rest}
use Rattle.http_rules.specs.declared.template.Template.{Template}
use Rattle.http_rules.specs.Routes.{IsSameRoute, are_same_segments, is_same_flat, is_same_route, is_same_segment, is_same_verb, route_text}
use Rattle.http_rules.specs.Template.{IsLiteral, IsPart, IsRestLast, IsSameFlat, IsSegment, IsTemplate, IsTemplateText, IsVerb, Part, is_literal_byte, segment, segment_text, segments_of, variable, variable_of, variables_from, verb_text}
use Rattle.http_rules.specs.TemplateText.{slashed_segments}
use Rattle.http_rules.proofs.AnswerLemmas.{one_meaning}
use Rattle.http_rules.proofs.PartLemmas.{behind, first_byte, made}
use Rattle.http_rules.proofs.PrintLemmas.{slashed_as_parts}
use Rattle.http_rules.proofs.SpanLemmas.{literal_all, segments_lawful}

-- the test of routes

-- segments of which the test is true are equal
segment_same : (s t : Segment) → is_same_segment s t ≡ true → s ≡ t
segment_same (Literal l) (Literal m) e = ap Literal ((bytes_eq-Decides l m).0 e)
segment_same (Literal l) One e = absurd (cc)
segment_same (Literal l) Rest e = absurd (cc)
segment_same One (Literal m) e = absurd (cc)
segment_same One One e = refl
segment_same One Rest e = absurd (cc)
segment_same Rest (Literal m) e = absurd (cc)
segment_same Rest One e = absurd (cc)
segment_same Rest Rest e = refl

-- the test is true of a segment and itself
segment_self : (s : Segment) → is_same_segment s s ≡ true
segment_self (Literal l) = bytes_eq_self l
segment_self One = refl
segment_self Rest = refl

-- lists of segments of which the test is true are equal
segments_same : (ss ts : List Segment) → are_same_segments ss ts ≡ true → ss ≡ ts
segments_same [] [] e = refl
segments_same [] (t ∷ ts) e = absurd (cc)
segments_same (s ∷ ss) [] e = absurd (cc)
segments_same (s ∷ ss) (t ∷ ts) e =
    let h = and_parts (is_same_segment s t) (are_same_segments ss ts) e in
    ap (λ z. z ∷ ss) (segment_same s t h.0) ∙ ap (λ z. t ∷ z) (segments_same ss ts h.1)

-- the test is true of a list of segments and itself
segments_self : (ss : List Segment) → are_same_segments ss ss ≡ true
segments_self [] = refl
segments_self (s ∷ ss) = and_from (is_same_segment s s) (are_same_segments ss ss) (segment_self s) (segments_self ss)

-- verbs of which the test is true are equal
verb_same : (v w : Option (List ℕ)) → is_same_verb v w ≡ true → v ≡ w
verb_same None None e = refl
verb_same None (Some m) e = absurd (cc)
verb_same (Some l) None e = absurd (cc)
verb_same (Some l) (Some m) e = ap Some ((bytes_eq-Decides l m).0 e)

-- the test is true of a verb and itself
verb_self : (v : Option (List ℕ)) → is_same_verb v v ≡ true
verb_self None = refl
verb_self (Some l) = bytes_eq_self l

-- templates of which the test is true are one route
flat_same : (a b : Template) → is_same_flat a b ≡ true → IsSameFlat a b
flat_same a b e =
    let h = and_parts (are_same_segments a.segments b.segments) (is_same_verb a.verb b.verb) e in
    (segments_same a.segments b.segments h.0, verb_same a.verb b.verb h.1)

-- the test is true of templates that are one route
flat_tested : (a b : Template) → IsSameFlat a b → is_same_flat a b ≡ true
flat_tested a b h =
    and_from (are_same_segments a.segments b.segments) (is_same_verb a.verb b.verb)
    (subst (λ z. are_same_segments a.segments z ≡ true) h.0 (segments_self a.segments))
    (subst (λ z. is_same_verb a.verb z ≡ true) h.1 (verb_self a.verb))

-- bindings of which the test is true are one route
route_same : (a b : Binding) → is_same_route a b ≡ true → IsSameRoute a b
route_same a b e =
    let h = and_parts (bytes_eq a.method b.method) (is_same_flat a.template b.template) e in
    ((bytes_eq-Decides a.method b.method).0 h.0, flat_same a.template b.template h.1)

-- the test is true of bindings that are one route
route_tested : (a b : Binding) → IsSameRoute a b → is_same_route a b ≡ true
route_tested a b h =
    and_from (bytes_eq a.method b.method) (is_same_flat a.template b.template)
    ((bytes_eq-Decides a.method b.method).1 h.0) (flat_tested a.template b.template h.1)

-- the test of two bindings is true exactly where they are one route
pub route_exact : (a b : Binding) → IsTrue (is_same_route a b) ↔ IsSameRoute a b
route_exact a b = (route_same a b, route_tested a b)

-- no template has a space

-- no byte is a space
abbrev NoSpace : List ℕ → Type 0
NoSpace s = AllByRecursion (λ b. b ≢ 32) s

-- no byte of a literal is a space
literal_no_space : (l : List ℕ) → IsLiteral l → NoSpace l
literal_no_space l h =
    each_weaker (λ b. IsTrue (is_literal_byte b)) (λ b. b ≢ 32)
    (λ b p e. let space : is_literal_byte 32 ≡ true = subst (λ n. is_literal_byte n ≡ true) e p in absurd (cc (space)))
    l (literal_all l h)

-- an asterisk is no space
star_no_space : ◌≢◌ {A = ℕ} 42 32
star_no_space e = absurd (omega (arith, e))

-- a slash is no space
slash_no_space : ◌≢◌ {A = ℕ} 47 32
slash_no_space e = absurd (omega (arith, e))

-- a colon is no space
colon_no_space : ◌≢◌ {A = ℕ} 58 32
colon_no_space e = absurd (omega (arith, e))

-- no byte of a segment is a space
segment_no_space : (s : Segment) → IsSegment s → NoSpace (segment_text s)
segment_no_space (Literal l) h = literal_no_space l h
segment_no_space One h = (star_no_space, tt)
segment_no_space Rest h = (star_no_space, (star_no_space, tt))

-- no byte of segments behind slashes is a space
slashed_no_space : (ss : List Segment) → AllByRecursion IsSegment ss → NoSpace (slashed_segments ss)
slashed_no_space [] h = tt
slashed_no_space (s ∷ ss) h =
    let first = segment_no_space s h.0 in
    (slash_no_space, each_joined (λ b. b ≢ 32) (segment_text s) (slashed_segments ss) first (slashed_no_space ss h.1))

-- no byte of a verb is a space
verb_no_space : (verb : Option (List ℕ)) → IsVerb verb → NoSpace (verb_text verb)
verb_no_space None h = tt
verb_no_space (Some l) h = (colon_no_space, literal_no_space l h)

-- texts before the first space, and behind it, are equal where the whole texts are
split_at_space : (s t m n : List ℕ) → NoSpace s → NoSpace t → s ++ 32 ∷ m ≡ t ++ 32 ∷ n → (s ≡ t) × (m ≡ n)
split_at_space [] [] m n a b e = (refl, ap behind e)
split_at_space [] (c ∷ t) m n a b e = absurd (b.0 (sym (ap first_byte e)))
split_at_space (c ∷ s) [] m n a b e = absurd (a.0 (ap first_byte e))
split_at_space (c ∷ s) (d ∷ t) m n a b e =
    let r = split_at_space s t m n a.1 b.1 (ap behind e) in
    let heads : c ≡ d = ap first_byte e in
    (ap (λ z. z ∷ s) heads ∙ ap (λ z. d ∷ z) r.0, r.1)

-- the segments and the verb of a template are a text that means them without variables

-- the text of the segments and the verb of a template
abbrev flat_text : Template → List ℕ
flat_text t = slashed_segments t.segments ++ verb_text t.verb

-- the segments of parts that are one segment each
alone_segments : (ss : List Segment) → segments_of (map segment ss) ≡ ss
alone_segments [] = refl
alone_segments (s ∷ ss) = ap (λ z. s ∷ z) (alone_segments ss)

-- such parts have no variable
alone_variables : (n : ℕ) (ss : List Segment) → variables_from n (map segment ss) ≡ []
alone_variables n [] = refl
alone_variables n (s ∷ ss) = alone_variables (n + 1) ss

-- a part has a segment
none_of_part : (p : Part) (ps : List Part) → IsPart p → segments_of (p ∷ ps) ≡ [] → ⊥
none_of_part (segment s) ps h e = absurd (cc)
none_of_part (variable path) ps h e = absurd (cc)
none_of_part (variable_of path []) ps h e = absurd h.1
none_of_part (variable_of path (s ∷ ss)) ps h e = absurd (cc)

-- that text means the segments and the verb, with no variable
flat_means : (t : Template) → IsTemplate t → IsTemplateText (flat_text t) (made t.segments [] t.verb)
flat_means t h = by_segments t.segments refl
  where
    parts : List Part
    parts = h.means.first ∷ h.means.more

    these : t.segments ≡ segments_of (h.means.first ∷ h.means.more)
    these = ap (λ (x : Template). x.segments) h.means.means

    by_segments : (ss : List Segment) → t.segments ≡ ss
        → IsTemplateText (slashed_segments ss ++ verb_text t.verb) (made ss [] t.verb)
    by_segments [] e = absurd (none_of_part h.means.first h.means.more h.means.each.0 (sym these ∙ e))
    by_segments (s ∷ ss) e = record {
      first = segment s;
      more = map segment ss;
      each =
          each_mapped segment IsPart (s ∷ ss) (subst (AllByRecursion IsSegment) e (segments_lawful h.text t h.means));
      rest_last = subst IsRestLast (sym these ∙ e ∙ sym (alone_segments (s ∷ ss))) h.means.rest_last;
      verb = h.means.verb;
      written = ap (λ z. z ++ verb_text t.verb) (sym (slashed_as_parts (s ∷ ss)));
      means =
          ap (λ z. made z [] t.verb) (sym (alone_segments (s ∷ ss)))
          ∙ ap (λ z. made (segments_of (map segment (s ∷ ss))) z t.verb) (sym (alone_variables 0 (s ∷ ss)));
    }

-- two templates with one such text are one route
flat_one : (a b : Template) → IsTemplate a → IsTemplate b → flat_text a ≡ flat_text b → IsSameFlat a b
flat_one a b h k e =
    let same : made a.segments [] a.verb ≡ made b.segments [] b.verb =
    one_meaning (flat_text b) _ _
    (subst (λ s. IsTemplateText s (made a.segments [] a.verb)) e (flat_means a h)) (flat_means b k) in
    (ap (λ (x : Template). x.segments) same, ap (λ (x : Template). x.verb) same)

-- no byte of that text is a space
flat_no_space : (t : Template) → IsTemplate t → NoSpace (flat_text t)
flat_no_space t h =
    each_joined (λ b. b ≢ 32) (slashed_segments t.segments) (verb_text t.verb)
    (slashed_no_space t.segments (segments_lawful h.text t h.means)) (verb_no_space t.verb h.means.verb)

-- two bindings with one text are one route
route_one : (a b : Binding) → IsTemplate a.template → IsTemplate b.template → route_text a ≡ route_text b
    → IsSameRoute a b
route_one a b h k e =
    let left = flat_no_space a.template h in
    let right = flat_no_space b.template k in
    let r = split_at_space (flat_text a.template) (flat_text b.template) a.method b.method left right e in
    (r.1, flat_one a.template b.template h k r.0)

-- two bindings that are one route have one text
one_text : (a b : Binding) → IsSameRoute a b → route_text a ≡ route_text b
one_text a b h =
    ap (λ z. (slashed_segments z ++ verb_text a.template.verb) ++ 32 ∷ a.method) h.1.0
    ∙ ap (λ z. (slashed_segments b.template.segments ++ verb_text z) ++ 32 ∷ a.method) h.1.1
    ∙ ap (λ z. (slashed_segments b.template.segments ++ verb_text b.template.verb) ++ 32 ∷ z) h.0

-- the test of their texts is that of two bindings
pub texts_tested : (a b : Binding) → IsTemplate a.template → IsTemplate b.template
    → bytes_eq (route_text b) (route_text a) ≡ is_same_route a b
texts_tested a b h k =
    same_from_decides (bytes_eq (route_text b) (route_text a)) (is_same_route a b)
    (bytes_eq-Decides (route_text b) (route_text a))
    ((λ e. sym (one_text a b (route_same a b e))), (λ e. route_tested a b (route_one a b h k (sym e))))
