-- Tokens that some bytes spell, and trees that have a text.
use Rattle.std.proofs.Common.{inl, sym, subst, refl, ℕ, ◌+◌, List, [], ◌∷◌, ◌++◌, length, codes}
use Rattle.std.specs.List.{AllByRecursion}
use Rattle.std.specs.Str.{IsUtf8}
use Rattle.base.proofs.EachLemmas.{each_joined, each_part}
use Rattle.json_events.specs.JsonNumbers.{IsNumber}
use Rattle.json_events.specs.JsonStrings.{IsString}
use Rattle.json_events.specs.JsonText.{HasWord, IsTextOf, IsTextWith, IsWord, Span, Spells, spelling, with_token}
use Rattle.json_events.specs.JsonTree.{Json, Mark, opens, closes, comma, colon, key, text, digits, name, tokens_in, with_value}
use Rattle.json_events.specs.StringOutput.{json_string}
use Rattle.json_events.specs.declared.state.Bracket.TheVariants.{Array, Object}
use Rattle.json_meanings.specs.FieldFaults.{tree_tokens}
use Rattle.json_meanings.proofs.FrontLemmas.{tokens_then}
use Rattle.json_meanings.proofs.TokenLemmas.{tree_tokens_are, with_tokens}

-- a string is UTF-8, and a number is one
abbrev pub IsSpellable : Mark → Type 0
IsSpellable (text t) = IsUtf8 t
IsSpellable (key t) = IsUtf8 t
IsSpellable (digits t) = IsNumber t
IsSpellable _ = Unit {0}

-- so are all tokens
abbrev pub AreSpellable : List Mark → Type 0
AreSpellable ms = AllByRecursion IsSpellable ms

-- so are those of a tree
abbrev pub IsSpellableTree : Json → Type 0
IsSpellableTree j = AreSpellable (with_tokens j [])

-- 0 is a number
pub zero_is_number : IsNumber (codes "0")
zero_is_number = record {
  parts = record { minus = []; int = codes "0"; fraction = []; exponent = [] };
  text_is = refl;
  allowed = record { minus = inl refl; int = inl (refl, refl); fraction = tt; exponent = tt };
}

-- a tree, and what follows
pub spellable_then : (j : Json) (ms : List Mark) → IsSpellableTree j → AreSpellable ms
    → AreSpellable (with_tokens j ms)
spellable_then j ms first others =
    subst AreSpellable (sym (tokens_then j ms)) (each_joined IsSpellable (with_tokens j []) ms first others)

-- what follows a tree, and the tree
pub spellable_parts : (j : Json) (ms : List Mark) → AreSpellable (with_tokens j ms)
    → IsSpellableTree j × AreSpellable ms
spellable_parts j ms h = each_part IsSpellable (with_tokens j []) ms (subst AreSpellable (tokens_then j ms) h)

-- some bytes spell the marks from an offset on
abbrev AreSpelled : ℕ → List Mark → Type 0
AreSpelled at ms = (s : List ℕ) × (ts : List Span) × Spells at ms s ts

with_word : (m : Mark) (ms : List Mark) (at : ℕ) → HasWord m → ((to : ℕ) → AreSpelled to ms) → AreSpelled at (m ∷ ms)
with_word m ms at (w, is) others =
    let r = others (at + 0 + length w) in
    (w ++ r.0, with_token m (at + 0) (at + 0 + length w) r.1, ([], w, r.0, r.1, refl, refl, is, r.2, refl))

module _ (strings : (t : List ℕ) → IsUtf8 t → IsString t (json_string t)) where
  word_of : (m : Mark) → IsSpellable m → HasWord m
  word_of (opens Array) h = (91 ∷ [], refl)
  word_of (opens Object) h = (123 ∷ [], refl)
  word_of (closes Array) h = (93 ∷ [], refl)
  word_of (closes Object) h = (125 ∷ [], refl)
  word_of comma h = (44 ∷ [], refl)
  word_of colon h = (58 ∷ [], refl)
  word_of (key t) h = (json_string t, strings t h)
  word_of (text t) h = (json_string t, strings t h)
  word_of (digits t) h = (t, (refl, h))
  word_of (name n) h = (spelling n, refl)

  marks_spelled : (ms : List Mark) (at : ℕ) → AreSpellable (tokens_in ms) → AreSpelled at ms
  marks_spelled [] at h = ([], [], (refl, refl))
  marks_spelled (opens b ∷ ms) at h = with_word (opens b) ms at (word_of (opens b) h.0) (λ to. marks_spelled ms to h.1)
  marks_spelled (closes b ∷ ms) at h = with_word (closes b) ms at (word_of (closes b) h.0) (λ to. marks_spelled ms to h.1)
  marks_spelled (comma ∷ ms) at h = with_word comma ms at (word_of comma tt) (λ to. marks_spelled ms to h)
  marks_spelled (colon ∷ ms) at h = with_word colon ms at (word_of colon tt) (λ to. marks_spelled ms to h)
  marks_spelled (key t ∷ ms) at h = with_word (key t) ms at (word_of (key t) h.0) (λ to. marks_spelled ms to h.1)
  marks_spelled (text t ∷ ms) at h = with_word (text t) ms at (word_of (text t) h.0) (λ to. marks_spelled ms to h.1)
  marks_spelled (digits t ∷ ms) at h = with_word (digits t) ms at (word_of (digits t) h.0) (λ to. marks_spelled ms to h.1)
  marks_spelled (name n ∷ ms) at h = with_word (name n) ms at (word_of (name n) h.0) (λ to. marks_spelled ms to h.1)

  -- a tree has a text
  pub tree_has_text : (j : Json) → IsSpellableTree j → (bytes : List ℕ) × IsTextOf j bytes
  tree_has_text j h =
      let r = marks_spelled (with_value j []) 0 (subst AreSpellable (sym (tree_tokens_are j)) h) in (r.0, (r.1, r.2))

module _ (utf8 : (t bytes : List ℕ) → IsString t bytes → IsUtf8 t) where
  word_spells : (m : Mark) (w : List ℕ) → IsWord m w → IsSpellable m
  word_spells (opens b) w h = tt
  word_spells (closes b) w h = tt
  word_spells comma w h = tt
  word_spells colon w h = tt
  word_spells (key t) w h = utf8 t w h
  word_spells (text t) w h = utf8 t w h
  word_spells (digits t) w h = h.1
  word_spells (name n) w h = tt

  -- tokens that some bytes spell
  pub words_are_spellable : (ms : List Mark) → AllByRecursion HasWord ms → AreSpellable ms
  words_are_spellable [] h = tt
  words_are_spellable (m ∷ ms) h = (word_spells m h.0.0 h.0.1, words_are_spellable ms h.1)

  marks_spellable : (ms : List Mark) (at : ℕ) (s : List ℕ) (ts : List Span) → Spells at ms s ts → AreSpellable ms
  marks_spellable [] at s ts x = tt
  marks_spellable (m ∷ ms) at s ts x = (word_spells m x.1 x.6, marks_spellable ms _ x.2 x.3 x.7)

  tokens_spellable : (ms : List Mark) → AreSpellable ms → AreSpellable (tokens_in ms)
  tokens_spellable [] h = tt
  tokens_spellable (opens b ∷ ms) h = (h.0, tokens_spellable ms h.1)
  tokens_spellable (closes b ∷ ms) h = (h.0, tokens_spellable ms h.1)
  tokens_spellable (comma ∷ ms) h = tokens_spellable ms h.1
  tokens_spellable (colon ∷ ms) h = tokens_spellable ms h.1
  tokens_spellable (key t ∷ ms) h = (h.0, tokens_spellable ms h.1)
  tokens_spellable (text t ∷ ms) h = (h.0, tokens_spellable ms h.1)
  tokens_spellable (digits t ∷ ms) h = (h.0, tokens_spellable ms h.1)
  tokens_spellable (name n ∷ ms) h = (h.0, tokens_spellable ms h.1)

  -- the tokens of a text
  pub text_spellable : (j : Json) (s : List ℕ) (ts : List Span) → IsTextWith j s ts → AreSpellable (tree_tokens j)
  text_spellable j s ts h = tokens_spellable (with_value j []) (marks_spellable (with_value j []) 0 s ts h)
