-- The tokens of a tree, by the tree alone.
use Rattle.std.proofs.Common.{◌≡◌, ◌∙◌, ap, refl, List, [], ◌∷◌, ◌++◌}
use Rattle.json_events.specs.JsonText.{Span, marks_of}
use Rattle.json_events.specs.JsonTree.{Json, Items, Pairs, Mark, literal, number, string, array, object, no_items, item, no_pairs, pair, opens, closes, key, text, digits, name, tokens_in, with_value, with_items, with_more_items, with_pairs, with_more_pairs}
use Rattle.json_events.specs.declared.state.Bracket.TheVariants.{Array, Object}
use Rattle.json_meanings.specs.FieldFaults.{tree_tokens}

abbrev mutual
  -- the tokens of a tree, and then these
  pub with_tokens : Json → List Mark → List Mark
  with_tokens (literal n) ms = name n ∷ ms
  with_tokens (number s) ms = digits s ∷ ms
  with_tokens (string s) ms = text s ∷ ms
  with_tokens (array js) ms = opens Array ∷ item_tokens js ms
  with_tokens (object ps) ms = opens Object ∷ pair_tokens ps ms

  -- the tokens behind `[`
  pub item_tokens : Items → List Mark → List Mark
  item_tokens no_items ms = closes Array ∷ ms
  item_tokens (item j js) ms = with_tokens j (item_tokens js ms)

  -- the tokens behind `{`
  pub pair_tokens : Pairs → List Mark → List Mark
  pair_tokens no_pairs ms = closes Object ∷ ms
  pair_tokens (pair k j ps) ms = key k ∷ with_tokens j (pair_tokens ps ms)

mutual
  value_tokens : (j : Json) (ms : List Mark) → tokens_in (with_value j ms) ≡ with_tokens j (tokens_in ms)
  value_tokens (literal n) ms = refl
  value_tokens (number s) ms = refl
  value_tokens (string s) ms = refl
  value_tokens (array js) ms = ap (λ l. opens Array ∷ l) (items_tokens js ms)
  value_tokens (object ps) ms = ap (λ l. opens Object ∷ l) (pairs_tokens ps ms)

  items_tokens : (js : Items) (ms : List Mark) → tokens_in (with_items js ms) ≡ item_tokens js (tokens_in ms)
  items_tokens no_items ms = refl
  items_tokens (item j js) ms =
      value_tokens j (with_more_items js ms) ∙ ap (with_tokens j) (other_items_tokens js ms)

  other_items_tokens : (js : Items) (ms : List Mark) → tokens_in (with_more_items js ms) ≡ item_tokens js (tokens_in ms)
  other_items_tokens no_items ms = refl
  other_items_tokens (item j js) ms =
      value_tokens j (with_more_items js ms) ∙ ap (with_tokens j) (other_items_tokens js ms)

  pairs_tokens : (ps : Pairs) (ms : List Mark) → tokens_in (with_pairs ps ms) ≡ pair_tokens ps (tokens_in ms)
  pairs_tokens no_pairs ms = refl
  pairs_tokens (pair k j ps) ms =
      ap (λ l. key k ∷ l) (value_tokens j (with_more_pairs ps ms) ∙ ap (with_tokens j) (other_pairs_tokens ps ms))

  other_pairs_tokens : (ps : Pairs) (ms : List Mark) → tokens_in (with_more_pairs ps ms) ≡ pair_tokens ps (tokens_in ms)
  other_pairs_tokens no_pairs ms = refl
  other_pairs_tokens (pair k j ps) ms =
      ap (λ l. key k ∷ l) (value_tokens j (with_more_pairs ps ms) ∙ ap (with_tokens j) (other_pairs_tokens ps ms))

-- the tokens of a tree are its marks but for commas and colons
pub tree_tokens_are : (j : Json) → tree_tokens j ≡ with_tokens j []
tree_tokens_are j = value_tokens j []

-- the marks of tokens, and then of others
pub marks_then : (ts us : List Span) → marks_of (ts ++ us) ≡ marks_of ts ++ marks_of us
marks_then [] us = refl
marks_then (t ∷ ts) us = ap (λ l. t.mark ∷ l) (marks_then ts us)
