-- A text has one tree: its tokens are the marks of the tree but for commas and colons, and these give the
-- tree back.
use Rattle.std.proofs.Common.{◌≡◌, ℕ, List, [], ◌∷◌, refl, sym, ap, ◌∙◌}
use Rattle.json_events.specs.declared.state.Bracket.{Bracket}
use Rattle.json_events.specs.declared.state.Bracket.TheVariants.{Array, Object}
use Rattle.json_events.specs.JsonTree.{Json, literal, number, string, array, object, Items, no_items, item, Pairs, no_pairs, pair, Mark, opens, closes, comma, colon, key, text, digits, name, with_value, with_items, with_more_items, with_pairs, with_more_pairs, tokens_in}
use Rattle.json_events.specs.JsonText.{Span, marks_of, with_token, Spells, IsTextWith}
use Rattle.json_events.proofs.facts.TextFacts.{one_way}

token_marks : (m : Mark) (from to : ℕ) (ts : List Span) (ms : List Mark) → marks_of ts ≡ tokens_in ms → marks_of (with_token m from to ts) ≡ tokens_in (m ∷ ms)
token_marks (opens b) from to ts ms h = ap (λ l. opens b ∷ l) h
token_marks (closes b) from to ts ms h = ap (λ l. closes b ∷ l) h
token_marks comma from to ts ms h = h
token_marks colon from to ts ms h = h
token_marks (key s) from to ts ms h = ap (λ l. key s ∷ l) h
token_marks (text s) from to ts ms h = ap (λ l. text s ∷ l) h
token_marks (digits s) from to ts ms h = ap (λ l. digits s ∷ l) h
token_marks (name n) from to ts ms h = ap (λ l. name n ∷ l) h

spelled_marks : (ms : List Mark) (at : ℕ) (s : List ℕ) (ts : List Span) → Spells at ms s ts → marks_of ts ≡ tokens_in ms
spelled_marks [] at s ts x = ap marks_of x.1
spelled_marks (m ∷ ms) at s ts x = ap marks_of x.8 ∙ token_marks m _ _ x.3 ms (spelled_marks ms _ x.2 x.3 x.7)

-- behind the first item or member a comma is left out
more_items : (js : Items) (ms : List Mark) → tokens_in (with_more_items js ms) ≡ tokens_in (with_items js ms)
more_items no_items ms = refl
more_items (item j js) ms = refl

more_pairs : (ps : Pairs) (ms : List Mark) → tokens_in (with_more_pairs ps ms) ≡ tokens_in (with_pairs ps ms)
more_pairs no_pairs ms = refl
more_pairs (pair k j ps) ms = refl

-- no value begins with a closing bracket
no_closing : (j : Json) (ms l : List Mark) (b : Bracket) → closes b ∷ l ≡ tokens_in (with_value j ms) → ⊥
no_closing (literal n) ms l b e = cc (e)
no_closing (number s) ms l b e = cc (e)
no_closing (string s) ms l b e = cc (e)
no_closing (array js) ms l b e = cc (e)
no_closing (object ps) ms l b e = cc (e)

mutual
  value_same : (j k : Json) (ms ns : List Mark) → tokens_in (with_value j ms) ≡ tokens_in (with_value k ns) → (j ≡ k) × (tokens_in ms ≡ tokens_in ns)
  value_same (literal a) (literal b) ms ns e = let same : a ≡ b = cc (e) in (ap literal same, cc (e))
  value_same (number a) (number b) ms ns e = let same : a ≡ b = cc (e) in (ap number same, cc (e))
  value_same (string a) (string b) ms ns e = let same : a ≡ b = cc (e) in (ap string same, cc (e))
  value_same (array js) (array ks) ms ns e = let r = items_same js ks ms ns (cc (e)) in (ap array r.0, r.1)
  value_same (object ps) (object qs) ms ns e = let r = pairs_same ps qs ms ns (cc (e)) in (ap object r.0, r.1)
  value_same (literal a) (number b) ms ns e = absurd (cc (e))
  value_same (literal a) (string b) ms ns e = absurd (cc (e))
  value_same (literal a) (array ks) ms ns e = absurd (cc (e))
  value_same (literal a) (object qs) ms ns e = absurd (cc (e))
  value_same (number a) (literal b) ms ns e = absurd (cc (e))
  value_same (number a) (string b) ms ns e = absurd (cc (e))
  value_same (number a) (array ks) ms ns e = absurd (cc (e))
  value_same (number a) (object qs) ms ns e = absurd (cc (e))
  value_same (string a) (literal b) ms ns e = absurd (cc (e))
  value_same (string a) (number b) ms ns e = absurd (cc (e))
  value_same (string a) (array ks) ms ns e = absurd (cc (e))
  value_same (string a) (object qs) ms ns e = absurd (cc (e))
  value_same (array js) (literal b) ms ns e = absurd (cc (e))
  value_same (array js) (number b) ms ns e = absurd (cc (e))
  value_same (array js) (string b) ms ns e = absurd (cc (e))
  value_same (array js) (object qs) ms ns e = let same : opens Array ≡ opens Object = cc (e) in absurd (cc (same))
  value_same (object ps) (literal b) ms ns e = absurd (cc (e))
  value_same (object ps) (number b) ms ns e = absurd (cc (e))
  value_same (object ps) (string b) ms ns e = absurd (cc (e))
  value_same (object ps) (array ks) ms ns e = let same : opens Object ≡ opens Array = cc (e) in absurd (cc (same))

  items_same : (js ks : Items) (ms ns : List Mark) → tokens_in (with_items js ms) ≡ tokens_in (with_items ks ns) → (js ≡ ks) × (tokens_in ms ≡ tokens_in ns)
  items_same no_items no_items ms ns e = (refl, cc (e))
  items_same no_items (item k ks) ms ns e = absurd (no_closing k (with_more_items ks ns) (tokens_in ms) Array e)
  items_same (item j js) no_items ms ns e = absurd (no_closing j (with_more_items js ms) (tokens_in ns) Array (sym e))
  items_same (item j js) (item k ks) ms ns e =
      let first = value_same j k (with_more_items js ms) (with_more_items ks ns) e in
      let others = items_same js ks ms ns (sym (more_items js ms) ∙ first.1 ∙ more_items ks ns) in
      ((λ i. item (first.0 i) (others.0 i)), others.1)

  pairs_same : (ps qs : Pairs) (ms ns : List Mark) → tokens_in (with_pairs ps ms) ≡ tokens_in (with_pairs qs ns) → (ps ≡ qs) × (tokens_in ms ≡ tokens_in ns)
  pairs_same no_pairs no_pairs ms ns e = (refl, cc (e))
  pairs_same no_pairs (pair l k qs) ms ns e = absurd (cc (e))
  pairs_same (pair a j ps) no_pairs ms ns e = absurd (cc (e))
  pairs_same (pair a j ps) (pair b k qs) ms ns e =
      let named : a ≡ b = cc (e) in
      let first = value_same j k (with_more_pairs ps ms) (with_more_pairs qs ns) (cc (e)) in
      let others = pairs_same ps qs ms ns (sym (more_pairs ps ms) ∙ first.1 ∙ more_pairs qs ns) in
      ((λ i. pair (named i) (first.0 i) (others.0 i)), others.1)

-- the marks of a text's tokens are those of its tree that are tokens
pub tree_marks : (j : Json) (s : List ℕ) (ts : List Span) → IsTextWith j s ts → marks_of ts ≡ tokens_in (with_value j [])
tree_marks j s ts x = spelled_marks (with_value j []) 0 s ts x

-- these give the tree back
pub marks_tree : (j k : Json) → tokens_in (with_value j []) ≡ tokens_in (with_value k []) → j ≡ k
marks_tree j k e = (value_same j k [] [] e).0

-- a text is the text of one tree
pub one_tree : (j k : Json) (s : List ℕ) (ts us : List Span) → IsTextWith j s ts → IsTextWith k s us → j ≡ k
one_tree j k s ts us x y =
    marks_tree j k (sym (tree_marks j s ts x) ∙ ap marks_of (one_way j k s ts us x y) ∙ tree_marks k s us y)
