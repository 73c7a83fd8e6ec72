-- The strings of a text's tree are UTF-8.
use Rattle.std.proofs.Common.{ℕ, List, [], ◌∷◌}
use Rattle.std.specs.List.{AllByRecursion}
use Rattle.std.specs.Str.{IsUtf8}
use Rattle.json_events.specs.JsonStrings.{IsString}
use Rattle.json_events.specs.JsonText.{IsTextWith, IsWord, Span, Spells}
use Rattle.json_events.specs.JsonTree.{Json, Items, Pairs, Mark, literal, number, string, array, object, no_items, item, no_pairs, pair, opens, closes, comma, colon, key, text, digits, name, with_items, with_more_items, with_more_pairs, with_pairs, with_value, tokens_in}
use Rattle.json_meanings.specs.FieldFaults.{tree_tokens}
use Rattle.json_meanings.specs.ValidLaws.{HasUtf8, ItemsHaveUtf8, MarkIsUtf8, PairsHaveUtf8}

mutual
  value_utf8 : (j : Json) (ms : List Mark) → AllByRecursion MarkIsUtf8 (with_value j ms) → HasUtf8 j
      × AllByRecursion MarkIsUtf8 ms
  value_utf8 (literal n) ms h = (tt, h.1)
  value_utf8 (number t) ms h = (tt, h.1)
  value_utf8 (string t) ms h = (h.0, h.1)
  value_utf8 (array js) ms h = items_utf8 js ms h.1
  value_utf8 (object ps) ms h = pairs_utf8 ps ms h.1

  items_utf8 : (js : Items) (ms : List Mark) → AllByRecursion MarkIsUtf8 (with_items js ms) → ItemsHaveUtf8 js
      × AllByRecursion MarkIsUtf8 ms
  items_utf8 no_items ms h = (tt, h.1)
  items_utf8 (item j js) ms h =
      let first = value_utf8 j (with_more_items js ms) h in
      let others = more_items_utf8 js ms first.1 in ((first.0, others.0), others.1)

  more_items_utf8 : (js : Items) (ms : List Mark) → AllByRecursion MarkIsUtf8 (with_more_items js ms)
      → ItemsHaveUtf8 js × AllByRecursion MarkIsUtf8 ms
  more_items_utf8 no_items ms h = (tt, h.1)
  more_items_utf8 (item j js) ms h =
      let first = value_utf8 j (with_more_items js ms) h.1 in
      let others = more_items_utf8 js ms first.1 in ((first.0, others.0), others.1)

  pairs_utf8 : (ps : Pairs) (ms : List Mark) → AllByRecursion MarkIsUtf8 (with_pairs ps ms) → PairsHaveUtf8 ps
      × AllByRecursion MarkIsUtf8 ms
  pairs_utf8 no_pairs ms h = (tt, h.1)
  pairs_utf8 (pair t j ps) ms h =
      let first = value_utf8 j (with_more_pairs ps ms) h.1.1 in
      let others = more_pairs_utf8 ps ms first.1 in ((h.0, first.0, others.0), others.1)

  more_pairs_utf8 : (ps : Pairs) (ms : List Mark) → AllByRecursion MarkIsUtf8 (with_more_pairs ps ms)
      → PairsHaveUtf8 ps × AllByRecursion MarkIsUtf8 ms
  more_pairs_utf8 no_pairs ms h = (tt, h.1)
  more_pairs_utf8 (pair t j ps) ms h =
      let first = value_utf8 j (with_more_pairs ps ms) h.1.1.1 in
      let others = more_pairs_utf8 ps ms first.1 in ((h.1.0, first.0, others.0), others.1)

module _ (utf8 : (t bytes : List ℕ) → IsString t bytes → IsUtf8 t) where
  word_utf8 : (m : Mark) (w : List ℕ) → IsWord m w → MarkIsUtf8 m
  word_utf8 (opens b) w h = tt
  word_utf8 (closes b) w h = tt
  word_utf8 comma w h = tt
  word_utf8 colon w h = tt
  word_utf8 (key t) w h = utf8 t w h
  word_utf8 (text t) w h = utf8 t w h
  word_utf8 (digits t) w h = tt
  word_utf8 (name n) w h = tt

  marks_utf8 : (ms : List Mark) (at : ℕ) (s : List ℕ) (ts : List Span) → Spells at ms s ts
      → AllByRecursion MarkIsUtf8 ms
  marks_utf8 [] at s ts x = tt
  marks_utf8 (m ∷ ms) at s ts x = (word_utf8 m x.1 x.6, marks_utf8 ms _ x.2 x.3 x.7)

  -- the strings of a text's tree
  pub text_utf8 : (j : Json) (s : List ℕ) (ts : List Span) → IsTextWith j s ts → HasUtf8 j
  text_utf8 j s ts h = (value_utf8 j [] (marks_utf8 (with_value j []) 0 s ts h)).0

tokens_to_marks : (ms : List Mark) → AllByRecursion MarkIsUtf8 (tokens_in ms) → AllByRecursion MarkIsUtf8 ms
tokens_to_marks [] h = tt
tokens_to_marks (opens b ∷ ms) h = (tt, tokens_to_marks ms h.1)
tokens_to_marks (closes b ∷ ms) h = (tt, tokens_to_marks ms h.1)
tokens_to_marks (comma ∷ ms) h = (tt, tokens_to_marks ms h)
tokens_to_marks (colon ∷ ms) h = (tt, tokens_to_marks ms h)
tokens_to_marks (key t ∷ ms) h = (h.0, tokens_to_marks ms h.1)
tokens_to_marks (text t ∷ ms) h = (h.0, tokens_to_marks ms h.1)
tokens_to_marks (digits t ∷ ms) h = (tt, tokens_to_marks ms h.1)
tokens_to_marks (name n ∷ ms) h = (tt, tokens_to_marks ms h.1)

-- the strings of a tree, by its tokens
pub tokens_utf8 : (j : Json) → AllByRecursion MarkIsUtf8 (tree_tokens j) → HasUtf8 j
tokens_utf8 j h = (value_utf8 j [] (tokens_to_marks (with_value j []) h)).0
