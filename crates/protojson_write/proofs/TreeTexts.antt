-- Texts of trees without white space, joined as the trees are.
use Rattle.std.proofs.Common.{◌≡◌, ◌∙◌, sym, ap, subst, refl, ℕ, ◌+◌, List, [], ◌∷◌, ◌++◌, length, append_assoc, append-nil}
use Rattle.std.specs.List.{list_all}
use Rattle.json_events.specs.JsonNumbers.{IsNumber}
use Rattle.json_events.specs.JsonStrings.{IsString}
use Rattle.json_events.specs.JsonText.{IsTextOf, IsWord, is_blank, Span, Spells, spelling, with_token}
use Rattle.json_events.specs.JsonTree.{Json, Items, Pairs, Mark, literal, number, string, array, object, no_items, item, no_pairs, pair, opens, closes, comma, colon, key, text, digits, name, with_items, with_more_items, with_more_pairs, with_pairs, with_value}
use Rattle.json_events.specs.declared.state.Bracket.TheVariants.{Array, Object}
use Rattle.json_events.specs.declared.state.Name.{Name}
use Rattle.protojson_write.specs.JsonOutput.{array_text, object_text}

-- the bytes are words of the marks, one behind another without white space
abbrev pub AreWords : List Mark → List ℕ → Type 0
AreWords [] s = s ≡ []
AreWords (m ∷ ms) s = (word rest : List ℕ) × (s ≡ word ++ rest) × IsWord m word × AreWords ms rest

-- a mark more, with its word
word_first : (m : Mark) (w : List ℕ) (ms : List Mark) (s : List ℕ) → IsWord m w → AreWords ms s
    → AreWords (m ∷ ms) (w ++ s)
word_first m w ms s is others = (w, s, refl, is, others)

-- such bytes spell the marks, from any offset on
words_spell : (ms : List Mark) (s : List ℕ) (at : ℕ) → AreWords ms s → (ts : List Span) × Spells at ms s ts
words_spell [] s at h = ([], (ap (λ b. list_all is_blank b) h, refl))
words_spell (m ∷ ms) s at h =
    let r = words_spell ms h.1 (at + 0 + length h.0) h.4 in
    (with_token m (at + 0) (at + 0 + length h.0) r.0, ([], h.0, h.1, r.0, h.2, refl, h.3, r.1, refl))

-- bytes are a text of a tree, whatever follows
abbrev pub IsTreeText : Json → List ℕ → Type 0
IsTreeText j w = (ms : List Mark) (s : List ℕ) → AreWords ms s → AreWords (with_value j ms) (w ++ s)

-- bytes are a text of the items of an array, without its brackets
abbrev pub IsItemsText : Items → List ℕ → Type 0
IsItemsText js w = (ms : List Mark) (s : List ℕ) → AreWords ms s → AreWords (with_items js ms) (w ++ 93 ∷ s)

-- bytes are a text of the items behind another
abbrev pub IsMoreItemsText : Items → List ℕ → Type 0
IsMoreItemsText js w =
    (ms : List Mark) (s : List ℕ) → AreWords ms s → AreWords (with_more_items js ms) (w ++ 93 ∷ s)

-- bytes are a text of the pairs of an object, without its brackets
abbrev pub IsPairsText : Pairs → List ℕ → Type 0
IsPairsText ps w = (ms : List Mark) (s : List ℕ) → AreWords ms s → AreWords (with_pairs ps ms) (w ++ 125 ∷ s)

-- bytes are a text of the pairs behind another
abbrev pub IsMorePairsText : Pairs → List ℕ → Type 0
IsMorePairsText ps w =
    (ms : List Mark) (s : List ℕ) → AreWords ms s → AreWords (with_more_pairs ps ms) (w ++ 125 ∷ s)

-- what is a text of a tree, whatever follows, is one alone
pub text_of_tree : (j : Json) (w : List ℕ) → IsTreeText j w → IsTextOf j w
text_of_tree j w h = subst (IsTextOf j) (append-nil w) (words_spell (with_value j []) (w ++ []) 0 (h [] [] refl))

-- a literal name
pub literal_text : (n : Name) (w : List ℕ) → w ≡ spelling n → IsTreeText (literal n) w
literal_text n w is ms s h = word_first (name n) w ms s is h

-- a number
pub number_tree : (t : List ℕ) → IsNumber t → IsTreeText (number t) t
number_tree t is ms s h = word_first (digits t) t ms s (refl, is) h

-- a string
pub string_tree : (t w : List ℕ) → IsString t w → IsTreeText (string t) w
string_tree t w is ms s h = word_first (text t) w ms s is h

-- what stands between brackets, and what follows
enclosed : (w s : List ℕ) (b : ℕ) → (w ++ b ∷ []) ++ s ≡ w ++ b ∷ s
enclosed w s b = append_assoc w (b ∷ []) s

-- an array
pub array_tree : (js : Items) (w : List ℕ) → IsItemsText js w → IsTreeText (array js) (array_text w)
array_tree js w h ms s others =
    subst (λ r. AreWords (opens Array ∷ with_items js ms) (91 ∷ r)) (sym (enclosed w s 93))
    (word_first (opens Array) (91 ∷ []) (with_items js ms) (w ++ 93 ∷ s) refl (h ms s others))

-- an object
pub object_tree : (ps : Pairs) (w : List ℕ) → IsPairsText ps w → IsTreeText (object ps) (object_text w)
object_tree ps w h ms s others =
    subst (λ r. AreWords (opens Object ∷ with_pairs ps ms) (123 ∷ r)) (sym (enclosed w s 125))
    (word_first (opens Object) (123 ∷ []) (with_pairs ps ms) (w ++ 125 ∷ s) refl (h ms s others))

-- no items
pub no_items_text : IsItemsText no_items []
no_items_text ms s h = word_first (closes Array) (93 ∷ []) ms s refl h

-- no more items
pub no_more_items : IsMoreItemsText no_items []
no_more_items ms s h = word_first (closes Array) (93 ∷ []) ms s refl h

-- a first item
pub first_item : (j : Json) (js : Items) (w more : List ℕ) → IsTreeText j w → IsMoreItemsText js more
    → IsItemsText (item j js) (w ++ more)
first_item j js w more first others ms s h =
    subst (AreWords (with_value j (with_more_items js ms))) (sym (append_assoc w more (93 ∷ s)))
    (first (with_more_items js ms) (more ++ 93 ∷ s) (others ms s h))

-- an item behind a comma
pub next_item : (j : Json) (js : Items) (w more : List ℕ) → IsTreeText j w → IsMoreItemsText js more
    → IsMoreItemsText (item j js) (44 ∷ (w ++ more))
next_item j js w more first others ms s h =
    word_first comma (44 ∷ []) (with_items (item j js) ms) ((w ++ more) ++ 93 ∷ s) refl
    (first_item j js w more first others ms s h)

-- no pairs
pub no_pairs_text : IsPairsText no_pairs []
no_pairs_text ms s h = word_first (closes Object) (125 ∷ []) ms s refl h

-- no more pairs
pub no_more_pairs : IsMorePairsText no_pairs []
no_more_pairs ms s h = word_first (closes Object) (125 ∷ []) ms s refl h

-- a first pair: its key, a colon and its value
pub first_pair : (t : List ℕ) (j : Json) (ps : Pairs) (k w more : List ℕ) → IsString t k → IsTreeText j w
    → IsMorePairsText ps more
    → IsPairsText (pair t j ps) ((k ++ 58 ∷ w) ++ more)
first_pair t j ps k w more is first others ms s h =
    subst (AreWords (with_pairs (pair t j ps) ms)) (sym joined)
    (word_first (key t) k (colon ∷ with_value j (with_more_pairs ps ms)) (58 ∷ (w ++ (more ++ 125 ∷ s))) is
    (word_first colon (58 ∷ []) (with_value j (with_more_pairs ps ms)) (w ++ (more ++ 125 ∷ s)) refl
    (first (with_more_pairs ps ms) (more ++ 125 ∷ s) (others ms s h))))
  where
    joined : ((k ++ 58 ∷ w) ++ more) ++ 125 ∷ s ≡ k ++ (58 ∷ (w ++ (more ++ 125 ∷ s)))
    joined =
        append_assoc (k ++ 58 ∷ w) more (125 ∷ s)
        ∙ append_assoc k (58 ∷ w) (more ++ 125 ∷ s)

-- a pair behind a comma
pub next_pair : (t : List ℕ) (j : Json) (ps : Pairs) (k w more : List ℕ) → IsString t k → IsTreeText j w
    → IsMorePairsText ps more
    → IsMorePairsText (pair t j ps) (44 ∷ ((k ++ 58 ∷ w) ++ more))
next_pair t j ps k w more is first others ms s h =
    word_first comma (44 ∷ []) (with_pairs (pair t j ps) ms) (((k ++ 58 ∷ w) ++ more) ++ 125 ∷ s) refl
    (first_pair t j ps k w more is first others ms s h)
