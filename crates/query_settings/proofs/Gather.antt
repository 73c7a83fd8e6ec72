-- The settings of assignments, with one assignment more: it is an item more of its field's setting, or a new setting.
use Rattle.std.proofs.Common.{◌≡◌, ◌∙◌, ◌<◌, ◌≤◌, ◌+◌, ◌-◌, ◌||◌, ◌++◌, ℕ, zero, suc, Bool, true, false, cond, List, [], ◌∷◌, length, map, Option, Some, None, arith, refl, sym, ap, subst}
use Rattle.std.proofs.lemmas.List.Elements.{filter-append}
use Rattle.std.proofs.lemmas.List.Folds.{list_any-append}
use Rattle.std.proofs.lemmas.Slice.Eq.{bytes_eq-Decides}
use Rattle.std.specs.List.{filter, list_any, position_from}
use Rattle.std.specs.Str.{bytes_eq}
use Rattle.base.proofs.TextLemmas.{bytes_eq_swap}
use Rattle.field_settings.specs.declared.setting.Setting.{Setting}
use Rattle.message_types.specs.declared.fields.Shape.{Shape}
use Rattle.message_types.specs.declared.fields.Shape.TheVariants.{Single, Member, Many as ManyOf, Map as MapOf}
use Rattle.query_settings.specs.QuerySettings.{Assignment, is_same_field, items_like, path_of, setting_of, settings_behind, settings_of, slot_of}
use Rattle.query_settings.specs.QuerySteps.{ArePlaces, NumberMap, extended, extended_at, extended_layer, extended_setting, place_in, set_at, with_item}
use Rattle.schema.specs.declared.value.Item.TheOpen.{One, Many}
use Rattle.schema.specs.declared.value.Item.{Item}
use Rattle.schema.specs.declared.value.Slot.{Slot, out-roll-Slot, roll-Slot}

-- settings with an assignment more
abbrev with_assignment : Assignment → List Setting → List Setting
with_assignment a [] = setting_of a [] ∷ []
with_assignment a (s ∷ settings) =
    cond (bytes_eq (path_of a) s.path) (extended_setting s a.item ∷ settings) (s ∷ with_assignment a settings)

map_append : {X Y : Type 0} (f : X → Y) (xs ys : List X) → map f (xs ++ ys) ≡ map f xs ++ map f ys
map_append f [] ys = refl
map_append f (x ∷ xs) ys = ap (λ zs. f x ∷ zs) (map_append f xs ys)

append_nothing : {X : Type 0} (xs : List X) → xs ++ [] ≡ xs
append_nothing [] = refl
append_nothing (x ∷ xs) = ap (λ zs. x ∷ zs) (append_nothing xs)

-- ---- the setting of the field

slot_more : (shape : Shape) (i : Item) (more : List Item) (x : Item)
    → slot_of shape i (more ++ x ∷ []) ≡ extended (slot_of shape i more) x
slot_more ManyOf i more x =
    sym (ap (λ l. extended_layer (roll-Slot (Many (i ∷ more))) l x) (out-roll-Slot (Many (i ∷ more))))
slot_more Single i more x = sym (ap (λ l. extended_layer (roll-Slot (One i)) l x) (out-roll-Slot (One i)))
slot_more (Member k) i more x = sym (ap (λ l. extended_layer (roll-Slot (One i)) l x) (out-roll-Slot (One i)))
slot_more (MapOf s) i more x = sym (ap (λ l. extended_layer (roll-Slot (One i)) l x) (out-roll-Slot (One i)))

items_more : (b a : Assignment) (later : List Assignment) (t : Bool) → is_same_field b a ≡ t
    → items_like b (later ++ a ∷ []) ≡ items_like b later ++ cond t (a.item ∷ []) []
items_more b a later t e =
    ap (map (λ (x : Assignment). x.item)) (filter-append (is_same_field b) later (a ∷ []))
    ∙ map_append (λ (x : Assignment). x.item) (filter (is_same_field b) later) (filter (is_same_field b) (a ∷ []))
    ∙ ap (λ (xs : List Item). items_like b later ++ xs) (by_test t e)
  where
    by_test : (u : Bool) → is_same_field b a ≡ u
        → map (λ (x : Assignment). x.item) (filter (is_same_field b) (a ∷ [])) ≡ cond u (a.item ∷ []) []
    by_test u f = ap (λ v. map (λ (x : Assignment). x.item) (cond v (a ∷ []) [])) f ∙ by_value u
      where
        by_value : (v : Bool)
            → map (λ (x : Assignment). x.item) (cond v (a ∷ []) []) ≡ cond v (a.item ∷ []) []
        by_value true = refl
        by_value false = refl

setting_with : (b a : Assignment) (later : List Assignment) → is_same_field b a ≡ true
    → setting_of b (later ++ a ∷ []) ≡ extended_setting (setting_of b later) a.item
setting_with b a later e =
    ap (λ (more : List Item). record { path = path_of b; slot = slot_of b.target.shape b.item more })
    (items_more b a later true e)
    ∙ ap (λ (s : Slot). record { path = path_of b; slot = s })
    (slot_more b.target.shape b.item (items_like b later) a.item)

setting_without : (b a : Assignment) (later : List Assignment) → is_same_field b a ≡ false
    → setting_of b (later ++ a ∷ []) ≡ setting_of b later
setting_without b a later e =
    ap (λ (more : List Item). record { path = path_of b; slot = slot_of b.target.shape b.item more })
    (items_more b a later false e ∙ append_nothing (items_like b later))

-- ---- all settings

any_same : (b a : Assignment) (earlier : List Assignment) → bytes_eq (path_of a) (path_of b) ≡ true
    → list_any (is_same_field a) earlier ≡ list_any (is_same_field b) earlier
any_same b a earlier e =
    ap (λ p. list_any (λ (x : Assignment). bytes_eq p (path_of x)) earlier)
    ((bytes_eq-Decides (path_of a) (path_of b)).0 e)

module _ (a : Assignment) where
  abbrev More : List Assignment → List Assignment → Type 0
  More earlier made =
      settings_behind earlier (made ++ a ∷ [])
      ≡ cond (list_any (is_same_field a) earlier) (settings_behind earlier made)
      (with_assignment a (settings_behind earlier made))

  nothing_made : (t : Bool) → cond t [] (setting_of a [] ∷ []) ≡ cond t [] (with_assignment a [])
  nothing_made true = refl
  nothing_made false = refl

  -- what stands behind an assignment that sets its field again, or first
  again : (tA tC : Bool) (xs : List Setting) → (tC ≡ true → tA ≡ true)
      → cond (tA || (tC || false)) xs (with_assignment a xs) ≡ cond tA xs (with_assignment a xs)
  again true tC xs h = refl
  again false true xs h = absurd (cc (h refl))
  again false false xs h = refl

  first : (b : Assignment) (later : List Assignment) (xs : List Setting) (tA tC : Bool)
      → bytes_eq (path_of a) (path_of b) ≡ tC → (tC ≡ true → tA ≡ false)
      → setting_of b (later ++ a ∷ []) ∷ cond (tA || (tC || false)) xs (with_assignment a xs)
      ≡ cond tA (setting_of b later ∷ xs)
      (cond tC (extended_setting (setting_of b later) a.item ∷ xs) (setting_of b later ∷ with_assignment a xs))
  first b later xs true true e h = absurd (cc (h refl))
  first b later xs false true e h =
      ap (λ s. s ∷ xs) (setting_with b a later (bytes_eq_swap (path_of b) (path_of a) ∙ e))
  first b later xs true false e h =
      ap (λ s. s ∷ xs) (setting_without b a later (bytes_eq_swap (path_of b) (path_of a) ∙ e))
  first b later xs false false e h =
      ap (λ s. s ∷ with_assignment a xs) (setting_without b a later (bytes_eq_swap (path_of b) (path_of a) ∙ e))

  more_step : (earlier : List Assignment) (b : Assignment) (later : List Assignment)
      → More (earlier ++ b ∷ []) later → (t : Bool) → list_any (is_same_field b) earlier ≡ t
      → cond t (settings_behind (earlier ++ b ∷ []) (later ++ a ∷ []))
      (setting_of b (later ++ a ∷ []) ∷ settings_behind (earlier ++ b ∷ []) (later ++ a ∷ []))
      ≡ cond (list_any (is_same_field a) earlier)
      (cond t (settings_behind (earlier ++ b ∷ []) later)
      (setting_of b later ∷ settings_behind (earlier ++ b ∷ []) later))
      (with_assignment a
      (cond t (settings_behind (earlier ++ b ∷ []) later)
      (setting_of b later ∷ settings_behind (earlier ++ b ∷ []) later)))
  more_step earlier b later h t e = by_test t e
    where
      xs : List Setting
      xs = settings_behind (earlier ++ b ∷ []) later

      next : settings_behind (earlier ++ b ∷ []) (later ++ a ∷ [])
          ≡ cond (list_any (is_same_field a) earlier || (is_same_field a b || false)) xs (with_assignment a xs)
      next =
          h
          ∙ ap (λ u. cond u xs (with_assignment a xs)) (list_any-append (is_same_field a) earlier (b ∷ []))

      by_test : (u : Bool) → list_any (is_same_field b) earlier ≡ u
          → cond u (settings_behind (earlier ++ b ∷ []) (later ++ a ∷ []))
          (setting_of b (later ++ a ∷ []) ∷ settings_behind (earlier ++ b ∷ []) (later ++ a ∷ []))
          ≡ cond (list_any (is_same_field a) earlier) (cond u xs (setting_of b later ∷ xs))
          (with_assignment a (cond u xs (setting_of b later ∷ xs)))
      by_test true f =
          next ∙ again (list_any (is_same_field a) earlier) (is_same_field a b) xs (λ g. any_same b a earlier g ∙ f)
      by_test false f =
          ap (λ ys. setting_of b (later ++ a ∷ []) ∷ ys) next
          ∙ first b later xs (list_any (is_same_field a) earlier) (is_same_field a b) refl
          (λ g. any_same b a earlier g ∙ f)

  more_behind : (earlier made : List Assignment) → More earlier made
  more_behind earlier [] = nothing_made (list_any (is_same_field a) earlier)
  more_behind earlier (b ∷ later) =
      more_step earlier b later (more_behind (earlier ++ b ∷ []) later) (list_any (is_same_field b) earlier) refl

  -- ---- by the place of the field's setting

  at_least : {X : Type 0} (t : X → Bool) (k j : ℕ) (ys : List X) → position_from t k ys ≡ Some j → k ≤ j
  at_least t k j [] e = absurd (cc e)
  at_least t k j (y ∷ ys) e = pick (t y) e (at_least t (k + 1) j ys)
    where
      pick : (b : Bool) → cond b (Some k) (position_from t (k + 1) ys) ≡ Some j
          → (position_from t (k + 1) ys ≡ Some j → k + 1 ≤ j) → k ≤ j
      pick true f g = let same : k ≡ j = cc f in omega arith
      pick false f g = let le : k + 1 ≤ j = g f in omega arith

  -- the settings with an item at a place that is counted from a number on, or with a new setting
  abbrev set_from : ℕ → List Setting → Option ℕ → List Setting
  set_from k ys (Some j) = extended_at ys (j - k) a.item
  set_from k ys None = ys ++ setting_of a [] ∷ []

  abbrev Placed : ℕ → List Setting → Type 0
  Placed k ys =
      with_assignment a ys ≡ set_from k ys (position_from (λ (s : Setting). bytes_eq (path_of a) s.path) k ys)

  placed_step : (k : ℕ) (s : Setting) (ys : List Setting) → Placed (k + 1) ys → Placed k (s ∷ ys)
  placed_step k s ys h = by_test (bytes_eq (path_of a) s.path)
    where
      behind : (o : Option ℕ) → position_from (λ (x : Setting). bytes_eq (path_of a) x.path) (k + 1) ys ≡ o
          → with_assignment a ys ≡ set_from (k + 1) ys o → s ∷ with_assignment a ys ≡ set_from k (s ∷ ys) o
      behind None e g = ap (λ zs. s ∷ zs) g
      behind (Some j) e g =
          let le : k + 1 ≤ j = at_least (λ (x : Setting). bytes_eq (path_of a) x.path) (k + 1) j ys e in
          let next : suc (j - (k + 1)) ≡ j - k = omega arith in
          ap (λ zs. s ∷ zs) g ∙ ap (λ n. extended_at (s ∷ ys) n a.item) next

      by_test : (b : Bool)
          → cond b (extended_setting s a.item ∷ ys) (s ∷ with_assignment a ys)
          ≡ set_from k (s ∷ ys)
          (cond b (Some k) (position_from (λ (x : Setting). bytes_eq (path_of a) x.path) (k + 1) ys))
      by_test true = let here : zero ≡ k - k = omega arith in ap (λ n. extended_at (s ∷ ys) n a.item) here
      by_test false = behind _ refl h

  placed : (k : ℕ) (ys : List Setting) → Placed k ys
  placed k [] = refl
  placed k (s ∷ ys) = placed_step k s ys (placed (k + 1) ys)

  from_zero : (ys : List Setting) (o : Option ℕ) → set_from 0 ys o ≡ set_at ys o (setting_of a []) a.item
  from_zero ys None = refl
  from_zero ys (Some j) =
      let same : j - 0 ≡ j = omega arith in ap (λ n. extended_at ys n a.item) same

  -- the settings with an assignment more have its item at the place of its field's setting, or in a new one
  pub settings_more : (made : List Assignment)
      → settings_of (made ++ a ∷ []) ≡ with_item (settings_of made) a.target.shape (path_of a) a.item
  settings_more made =
      more_behind [] made ∙ placed 0 (settings_of made)
      ∙ from_zero (settings_of made) (place_in (settings_of made) (path_of a))

-- ---- what an item more leaves

-- an item more changes no path
pub places_stay : (settings : List Setting) (k j : ℕ) (i : Item) (q : List ℕ)
    → position_from (λ (s : Setting). bytes_eq q s.path) k (extended_at settings j i)
    ≡ position_from (λ (s : Setting). bytes_eq q s.path) k settings
places_stay [] k j i q = refl
places_stay (s ∷ settings) k zero i q = refl
places_stay (s ∷ settings) k (suc j) i q =
    ap (cond (bytes_eq q s.path) (Some k)) (places_stay settings (k + 1) j i q)

below : {X : Type 0} (t : X → Bool) (k j : ℕ) (xs : List X) → position_from t k xs ≡ Some j → j < k + length xs
below t k j [] e = absurd (cc e)
below t k j (x ∷ xs) e = pick (t x) e (below t (k + 1) j xs)
  where
    pick : (b : Bool) → cond b (Some k) (position_from t (k + 1) xs) ≡ Some j
        → (position_from t (k + 1) xs ≡ Some j → j < (k + 1) + length xs) → j < k + length (x ∷ xs)
    pick true f g = let same : k ≡ j = cc f in omega arith
    pick false f g = let lt : j < (k + 1) + length xs = g f in omega arith

-- a place is one of the settings
pub place_below : (settings : List Setting) (q : List ℕ) (j : ℕ) → place_in settings q ≡ Some j → j < length settings
place_below settings q j e =
    let lt : j < 0 + length settings = below (λ (s : Setting). bytes_eq q s.path) 0 j settings e in omega arith

-- the places of settings are those of the settings with an item more at a place
pub still_placed : (m : NumberMap) (settings : List Setting) (j : ℕ) (i : Item) → ArePlaces m settings
    → ArePlaces m (extended_at settings j i)
still_placed m settings j i h q = h q ∙ sym (places_stay settings 0 j i q)
