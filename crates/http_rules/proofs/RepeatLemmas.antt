-- Bindings that repeat a route: none where all are apart, and the first of them by the texts of those before.
use Rattle.std.proofs.Common.{◌≡◌, ◌<◌, ◌+◌, ℕ, Bool, true, false, cond, List, [], ◌∷◌, ◌++◌, length, map, drop, take, get_or, Bor, Option, Some, None, ◌↔◌, refl, sym, ap, ◌∙◌, subst}
use Rattle.std.proofs.lemmas.List.{drop_more, get_or-map, take-append-drop, take_more}
use Rattle.std.proofs.lemmas.List.Folds.{find-append}
use Rattle.std.proofs.lemmas.Map.Text.{btree_map_updates_str}
use Rattle.std.proofs.lemmas.Slice.Eq.{bytes_eq-Decides}
use Rattle.std.specs.Prelude.{find, option_map}
use Rattle.std.specs.BTreeMap as tree
use Rattle.std.specs.BTreeMap.{BTreeMap}
use Rattle.std.specs.Cmp.Lexicographic.{slice_cmp}
use Rattle.std.specs.Ordering.{nat_cmp}
use Rattle.std.specs.List.{AllByRecursion}
use Rattle.std.specs.Option.{option_or}
use Rattle.std.specs.Str.{bytes_eq}
use Rattle.base.proofs.EachLemmas.{each_always, each_both, each_part, each_weaker}
use Rattle.base.proofs.TextLemmas.{bytes_eq_swap}
use Rattle.http_rules.specs.declared.template.Binding.{Binding}
use Rattle.http_rules.specs.Routes.{AreRoutesApart, IsSameRoute, is_same_route, repeated, repeated_behind, repeated_routes, route_text}
use Rattle.http_rules.specs.Template.{IsTemplate}
use Rattle.http_rules.proofs.RouteLemmas.{route_exact, texts_tested}

-- the earliest binding of some that is one route with this one
abbrev pub earliest : List Binding → Binding → Option Binding
earliest before b = find (λ a. is_same_route a b) before

-- none of these is one route with one before
abbrev AreNew : List Binding → List Binding → Type 0
AreNew before bs = AllByRecursion (λ b. earliest before b ≡ None) bs

-- repeated routes, and routes apart

-- where none is repeated the first binding repeats none, and none behind it does
none_repeated : (o : Option Binding) (b : Binding) (ps : List (Binding × Binding)) → repeated o b ++ ps ≡ []
    → (o ≡ None) × (ps ≡ [])
none_repeated None b ps e = (refl, e)
none_repeated (Some a) b ps e = absurd (cc)

-- the earliest among some and one more is the earliest among some, or that one
earliest_more : (before : List Binding) (a b : Binding)
    → earliest (before ++ a ∷ []) b ≡ option_or (earliest before b) (earliest (a ∷ []) b)
earliest_more before a b = find-append (λ x. is_same_route x b) before (a ∷ [])

-- where none of some and one more is one route with a binding, none of them is, and that one is not
no_earlier : (before : List Binding) (a b : Binding) → earliest (before ++ a ∷ []) b ≡ None
    → (earliest before b ≡ None) × (is_same_route a b ≡ false)
no_earlier before a b e = by_or (earliest before b) (is_same_route a b) (sym (earliest_more before a b) ∙ e)
  where
    by_or : (o : Option Binding) (t : Bool) → option_or o (cond t (Some a) None) ≡ None → (o ≡ None) × (t ≡ false)
    by_or None true e = absurd (cc)
    by_or None false e = (refl, refl)
    by_or (Some x) t e = absurd (cc)

-- bindings of which the test is false are two routes
other_route : (a b : Binding) → is_same_route a b ≡ false → IsSameRoute a b → ⊥
other_route a b e h = let t : true ≡ false = sym ((route_exact a b).1 h) ∙ e in absurd (cc (t))

-- the test is false of bindings that are two routes
not_tested : (a b : Binding) → (IsSameRoute a b → ⊥) → is_same_route a b ≡ false
not_tested a b h = by_test (is_same_route a b) refl
  where
    by_test : (t : Bool) → is_same_route a b ≡ t → t ≡ false
    by_test true e = absurd (h ((route_exact a b).0 e))
    by_test false e = refl

-- where none of some is one route with a binding, and one more is not, none of them all is
still_none : (before : List Binding) (a b : Binding) → earliest before b ≡ None → (IsSameRoute a b → ⊥)
    → earliest (before ++ a ∷ []) b ≡ None
still_none before a b e h =
    earliest_more before a b ∙ ap (λ o. option_or o (earliest (a ∷ []) b)) e
    ∙ ap (λ (t : Bool). cond t (Some a) None) (not_tested a b h)

-- where none is repeated, no binding is one route with one before, and no two are
apart_from : (before bs : List Binding) → repeated_behind before bs ≡ [] → AreNew before bs × AreRoutesApart bs
apart_from before [] e = (tt, tt)
apart_from before (b ∷ bs) e =
    let h = none_repeated (earliest before b) b (repeated_behind (before ++ b ∷ []) bs) e in
    let r = apart_from (before ++ b ∷ []) bs h.1 in (
      (h.0, each_weaker _ (λ c. earliest before c ≡ None) (λ c n. (no_earlier before b c n).0) bs r.0),
      (each_weaker _ (λ c. IsSameRoute b c → ⊥) (λ c n. other_route b c (no_earlier before b c n).1) bs r.0, r.1),
    )

-- where no binding is one route with one before, and no two are, none is repeated
none_behind : (before bs : List Binding) → AreNew before bs → AreRoutesApart bs → repeated_behind before bs ≡ []
none_behind before [] h a = refl
none_behind before (b ∷ bs) h a =
    ap (λ o. repeated o b ++ repeated_behind (before ++ b ∷ []) bs) h.0
    ∙ none_behind (before ++ b ∷ []) bs
    (each_weaker _ (λ c. earliest (before ++ b ∷ []) c ≡ None) (λ c n. still_none before b c n.0 n.1) bs
    (each_both (λ c. earliest before c ≡ None) (λ c. IsSameRoute b c → ⊥) bs h.1 a.0))
    a.1

-- bindings are no route twice exactly where none is repeated
pub apart_exact : (bs : List Binding) → AreRoutesApart bs ↔ (repeated_routes bs ≡ [])
apart_exact bs =
    let all : AreNew [] bs = each_always (λ b. earliest [] b ≡ None) (λ b. refl) bs in
    ((λ a. none_behind [] bs all a), (λ e. (apart_from [] bs e).1))

-- bindings by their texts

-- the earliest binding of some that has this text
abbrev pub earliest_of_text : List Binding → List ℕ → Option Binding
earliest_of_text before q = find (λ a. bytes_eq q (route_text a)) before

-- two tests that agree on each item find the same item
-- the templates of bindings can be parsed
abbrev pub AreParsed : List Binding → Type 0
AreParsed bs = AllByRecursion (λ b. IsTemplate b.template) bs

same_find : (p q : Binding → Bool) (bs : List Binding) → AllByRecursion (λ b. p b ≡ q b) bs → find p bs ≡ find q bs
same_find p q [] h = refl
same_find p q (b ∷ bs) h =
    ap (λ t. cond t (Some b) (find p bs)) h.0 ∙ ap (λ o. cond (q b) (Some b) o) (same_find p q bs h.1)

module _ (bs : List Binding) (i : ℕ) (x : Binding) (lt : i < length bs) (is : x ≡ get_or bs i x) where
  -- what is repeated behind the next one
  abbrev pub behind_next : List (Binding × Binding)
  behind_next = repeated_behind (take (i + 1) bs) (drop (i + 1) bs)

  -- the bindings up to the next one, with it
  pub next : take (i + 1) bs ≡ take i bs ++ x ∷ []
  next = take_more bs i x lt ∙ ap (λ z. take i bs ++ z ∷ []) (sym is)

  left : drop i bs ≡ x ∷ drop (i + 1) bs
  left = drop_more bs i x lt ∙ ap (λ z. z ∷ drop (i + 1) bs) (sym is)

  -- the first binding that is left, and what is repeated behind it
  here : repeated_behind (take i bs) (drop i bs) ≡ repeated (earliest (take i bs) x) x ++ behind_next
  here =
      ap (repeated_behind (take i bs)) left
      ∙ ap (λ z. repeated (earliest (take i bs) x) x ++ repeated_behind z (drop (i + 1) bs)) (sym next)

  -- the earliest binding of the text of the next one is the earliest of its route
  text_tells : AreParsed bs → earliest_of_text (take i bs) (route_text x) ≡ earliest (take i bs) x
  text_tells each =
      let split : take i bs ++ x ∷ drop (i + 1) bs ≡ bs = ap (λ z. take i bs ++ z) (sym left) ∙ take-append-drop i bs in
      let whole : AreParsed (take i bs ++ x ∷ drop (i + 1) bs) = subst AreParsed (sym split) each in
      let h = each_part (λ b. IsTemplate b.template) (take i bs) (x ∷ drop (i + 1) bs) whole in
      let P : Binding → Type 0 = λ a. bytes_eq (route_text x) (route_text a) ≡ is_same_route a x in
      let agree : AllByRecursion P (take i bs) =
      each_weaker (λ a. IsTemplate a.template) P (λ a k. texts_tested a x k h.1.0) (take i bs) h.0 in
      same_find (λ a. bytes_eq (route_text x) (route_text a)) (λ a. is_same_route a x) (take i bs) agree

  -- a binding whose text did not come before is passed
  pub repeated_past : AreParsed bs → earliest_of_text (take i bs) (route_text x) ≡ None
      → behind_next ≡ repeated_behind (take i bs) (drop i bs)
  repeated_past each e = sym (here ∙ ap (λ o. repeated o x ++ behind_next) (sym (text_tells each) ∙ e))

  -- one whose text did is the first that is left
  pub repeated_here : (a : Binding) → AreParsed bs → earliest_of_text (take i bs) (route_text x) ≡ Some a
      → repeated_behind (take i bs) (drop i bs) ≡ (a, x) ∷ behind_next
  repeated_here a each e = here ∙ ap (λ o. repeated o x ++ behind_next) (sym (text_tells each) ∙ e)

  -- the text of the next one is the text at its place
  pub text_of_next : (texts : List (List ℕ)) (text : List ℕ) → texts ≡ map route_text bs → text ≡ get_or texts i text
      → text ≡ route_text x
  text_of_next texts text all at =
      at ∙ ap (λ z. get_or z i text) all ∙ get_or-map route_text bs i x text lt ∙ ap route_text (sym is)

-- a map from texts to bindings
abbrev pub ByText : Type 0
ByText = BTreeMap (Bor (List ℕ)) (Bor Binding)

-- what such a map has at a text
abbrev pub at_text : ByText → List ℕ → Option (Bor Binding)
at_text first q = tree.get_by (λ k. slice_cmp nat_cmp q k.now) first

-- the binding that is pointed to, if there is one
abbrev pub shown : Option (Bor Binding) → Option Binding
shown o = option_map (λ (b : Bor Binding). b.now) o

-- a map by texts finds the earliest binding of each text among some
abbrev pub Finds : ByText → List Binding → Type 0
Finds first before = (q : List ℕ) → shown (at_text first q) ≡ earliest_of_text before q

-- an answer or none is that answer
or_none : (o : Option Binding) → o ≡ option_or o None
or_none None = refl
or_none (Some b) = refl

-- after a binding whose text did not come before is put into it, it finds that one too
pub finds_more : (first later : ByText) (before : List Binding) (key : Bor (List ℕ)) (x : Bor Binding)
    → Finds first before → key.now ≡ route_text x.now → earliest_of_text before key.now ≡ None
    → tree.Updates (λ x y. slice_cmp nat_cmp x.now y.now) first later key (Some x) → Finds later (before ++ x.now ∷ [])
finds_more first later before key x held text new put q =
    ap shown (btree_map_updates_str key.now first later (Some x) put q)
    ∙ by_test (bytes_eq key.now q) refl
    ∙ ap (λ (t : Bool). option_or (earliest_of_text before q) (cond t (Some x.now) None))
    (bytes_eq_swap key.now q ∙ ap (bytes_eq q) text)
    ∙ sym (find-append (λ a. bytes_eq q (route_text a)) before (x.now ∷ []))
  where
    by_test : (t : Bool) → bytes_eq key.now q ≡ t
        → shown (cond t (Some x) (at_text first q)) ≡ option_or (earliest_of_text before q) (cond t (Some x.now) None)
    by_test true e =
        let none : earliest_of_text before q ≡ None =
        subst (λ z. earliest_of_text before z ≡ None) ((bytes_eq-Decides key.now q).0 e) new in
        ap (λ o. option_or o (Some x.now)) (sym none)
    by_test false e = held q ∙ or_none (earliest_of_text before q)
