-- The settings that a query makes fit the type of the message (`settings_fit`).
use Rattle.std.proofs.Common.{◌≡◌, ◌∙◌, ◌<◌, ◌≤◌, ◌+◌, ◌-◌, ◌&&◌, ◌++◌, ℕ, zero, suc, Bool, true, false, cond, not, List, [], ◌∷◌, length, map, nat_eq, Option, Some, None, option_map, unwrap_or, slice_get, Result, Ok, Err, arith, refl, sym, ap, subst, inl, inr}
use Rattle.std.proofs.lemmas.Bool.{ltb-false}
use Rattle.std.proofs.lemmas.Slice.Eq.{bytes_eq-Decides}
use Rattle.std.specs.List.{AllByRecursion, filter, list_any}
use Rattle.field_settings.specs.AppliedSettings.{FitsSetting, IsSettable, LeadsToSlot}
use Rattle.field_settings.specs.declared.setting.Setting.{Setting}
use Rattle.form_urlencoded.specs.Form.{decode, dot, split}
use Rattle.http_rules.specs.declared.template.Body.{Body}
use Rattle.http_rules.specs.declared.template.Body.TheVariants.{Nothing, Whole, Part}
use Rattle.leaf_texts.specs.LeafTexts.{IsLeafText}
use Rattle.linked_api.specs.FieldPaths.{is_leaf}
use Rattle.message_types.specs.declared.fields.Field.{Field}
use Rattle.message_types.specs.declared.fields.Kind.{Kind}
use Rattle.message_types.specs.declared.fields.Kind.TheVariants.{One as OneOf, Message as MessageOf}
use Rattle.message_types.specs.declared.fields.Scalar.{Scalar}
use Rattle.message_types.specs.declared.fields.Shape.{Shape}
use Rattle.message_types.specs.declared.fields.Shape.TheVariants.{Single, Member, Many as ManyOf, Map as MapOf}
use Rattle.message_types.specs.declared.messages.TypeId.{TypeId}
use Rattle.message_types.specs.declared.messages.Types.{Types}
use Rattle.query_parameters.specs.QueryParameters.{EncodedParameter}
use Rattle.query_settings.proofs.JudgedNames.{may_be_set}
use Rattle.query_settings.proofs.Leading.{LeadsTo, named_leads, one_kind_led}
use Rattle.query_settings.specs.ParameterFaults.{QueryScope, is_no_map, judged, left_by, levels_of, own_levels, target_in}
use Rattle.query_settings.specs.QuerySettings.{Assignment, Assigns, IsQueryReading, IsReadBehind, counted, is_same_field, items_like, path_of, setting_of, settings_behind, settings_of, slot_of, targets_of}
use Rattle.query_settings.specs.QueryTargets.{numbers_of, target_of}
use Rattle.query_settings.specs.declared.fault.QueryFault.{QueryFault}
use Rattle.query_settings.specs.declared.fault.QueryFault.TheVariants.{Parameter}
use Rattle.query_settings.specs.declared.targets.Step.{Step}
use Rattle.query_settings.specs.declared.targets.Target.{Target}
use Rattle.schema.specs.Layers.{ItemLayer}
use Rattle.schema.specs.Soundness.{IsSound}
use Rattle.schema.specs.Validity.{Inner, IsItem, valid_within}
use Rattle.schema.specs.declared.value.Item.TheOpen.{One, Many}
use Rattle.schema.specs.declared.value.Item.{Item, out-Item}
use Rattle.schema.specs.declared.value.Slot.{Slot, out-Slot, out-roll-Slot}

-- ---- items

-- what a text means is a valid item of its kind
pub record AreValid : Type 0 where
  pub scalars : (types : Types) (scalar : Scalar) (text : List ℕ) (i : ItemLayer) (levels : ℕ)
      → IsLeafText types (OneOf scalar) text i → IsItem (valid_within levels types) (OneOf scalar) i
  pub leaves : (types : Types) (kind : Kind) (text : List ℕ) (i : ItemLayer) (levels : ℕ)
      → IsSound types → IsLeafText types kind text i → IsItem (valid_within (suc levels) types) kind i

-- so it is one in the levels that are left
each_item : AreValid → (types : Types) → IsSound types → (kind : Kind) (text : List ℕ) (i : ItemLayer) (n : ℕ)
    → n + own_levels kind ≤ 100 → IsLeafText types kind text i → IsItem (valid_within (100 - n) types) kind i
each_item valid types sound (OneOf s) text i n le h = valid.scalars types s text i (100 - n) h
each_item valid types sound (MessageOf id) text i n le h =
    let left : suc (99 - n) ≡ 100 - n = omega (arith, le) in
    subst (λ k. IsItem (valid_within k types) (MessageOf id) i) left
    (valid.leaves types (MessageOf id) text i (99 - n) sound h)

-- ---- slots

leads_to_slot : (inner : Inner) (types : Types) (path : List ℕ) (id : TypeId) (kind : Kind) (shape : Shape)
    (slot : Slot) → LeadsTo types id path kind shape
    → ((f : Field) → f.kind ≡ kind → f.shape ≡ shape → IsSettable inner f f.shape (out-Slot slot))
    → LeadsToSlot inner types id path slot
leads_to_slot inner types [] id kind shape slot h g = absurd h
leads_to_slot inner types (n ∷ []) id kind shape slot h g = (h.0, h.1, g h.0 h.2 h.3)
leads_to_slot inner types (n ∷ m ∷ path) id kind shape slot h g =
    (h.0, h.1, h.2, leads_to_slot inner types (m ∷ path) h.1 kind shape slot h.3 g)

module _ (inner : Inner) (f : Field) (kind : Kind) (i : Item) (more : List Item) (same : f.kind ≡ kind)
    (items : AllByRecursion (λ (x : Item). IsItem inner kind (out-Item x)) (i ∷ more)) where
  one_settable : IsItem inner f.kind (out-Item i)
  one_settable = subst (λ k. IsItem inner k (out-Item i)) (sym same) items.0

  shape_settable : (shape : Shape) → is_no_map shape ≡ true → IsSettable inner f shape (out-Slot (slot_of shape i more))
  shape_settable Single h = subst (IsSettable inner f Single) (sym (out-roll-Slot (One i))) one_settable
  shape_settable (Member k) h = subst (IsSettable inner f (Member k)) (sym (out-roll-Slot (One i))) one_settable
  shape_settable ManyOf h =
      subst (IsSettable inner f ManyOf) (sym (out-roll-Slot (Many (i ∷ more))))
      (subst (λ k. AllByRecursion (λ (x : Item). IsItem inner k (out-Item x)) (i ∷ more)) (sym same) items)
  shape_settable (MapOf s) h = absurd (cc h)

  field_settable : (shape : Shape) → f.shape ≡ shape → is_no_map shape ≡ true
      → IsSettable inner f f.shape (out-Slot (slot_of shape i more))
  field_settable shape e h =
      subst (λ x. IsSettable inner f x (out-Slot (slot_of shape i more))) (sym e) (shape_settable shape h)

-- ---- assignments

-- what an assignment sets fits its field
record IsGood (types : Types) (input : TypeId) (a : Assignment) : Type 0 where
  leads : LeadsTo types input (path_of a) a.target.kind a.target.shape
  no_map : is_no_map a.target.shape ≡ true
  levels : length (path_of a) ≤ 100
  item : IsItem (valid_within (100 - length (path_of a)) types) a.target.kind (out-Item a.item)

both_true : (s t : Bool) → (s && t) ≡ true → (s ≡ true) × (t ≡ true)
both_true true true h = (refl, refl)
both_true true false h = absurd (cc h)
both_true false t h = absurd (cc h)

steps_and_numbers : (steps : List Step) → length (numbers_of steps) ≡ length steps
steps_and_numbers [] = refl
steps_and_numbers (s ∷ steps) = ap suc (steps_and_numbers steps)

left_is : (b : Body) (o : Option Target) (t : Target) → left_by b o ≡ Some t → o ≡ Some t
left_is Nothing o t h = h
left_is Whole o t h = absurd (cc h)
left_is (Part n) o t h = h

module _ (valid : AreValid) (s : QueryScope) (sound : IsSound s.types) where
  abbrev Good : Assignment → Type 0
  Good = IsGood s.types s.input

  good_target : (earlier : List Target) (text : List ℕ) (a : Assignment) (o : Option Target)
      → judged s.types s.paths s.body earlier o ≡ Ok a.target
      → ((t : Target) → o ≡ Some t → LeadsTo s.types s.input (numbers_of t.steps) t.kind t.shape)
      → IsLeafText s.types a.target.kind text (out-Item a.item) → Good a
  good_target earlier text a None h leads means = absurd (cc h)
  good_target earlier text a (Some t) h leads means =
      let may = may_be_set s.types s.paths s.body earlier t a.target h in
      let fits = both_true (is_no_map t.shape) (is_leaf s.types t.kind) may.settable in
      let no_map : is_no_map a.target.shape ≡ true =
      ap (λ (x : Target). is_no_map x.shape) (sym may.same) ∙ fits.0 in
      let shallow : levels_of a.target ≤ 100 =
      subst (λ (x : Target). levels_of x ≤ 100) may.same (ltb-false 100 (levels_of t) may.shallow) in
      let count = steps_and_numbers a.target.steps in
      record {
        leads =
            subst (λ (x : Target). LeadsTo s.types s.input (numbers_of x.steps) x.kind x.shape) may.same
            (leads t refl);
        no_map = no_map;
        levels = omega (arith, count, shallow);
        item =
            each_item valid s.types sound a.target.kind text (out-Item a.item) (length (path_of a))
            (omega (arith, count, shallow)) means;
      }

  good : (earlier : List Assignment) (name text : List ℕ) (a : Assignment) → Assigns s earlier name text a → Good a
  good earlier name text a h =
      good_target (targets_of earlier) text a (target_in s name) h.place
      (λ t e. named_leads s.types sound (split dot name) s.input t
      (left_is s.body (target_of s.types s.input name) t e)) h.means

  -- an item fits the field that an assignment sets
  abbrev FitsFieldOf : Assignment → Item → Type 0
  FitsFieldOf a x = IsItem (valid_within (100 - length (path_of a)) s.types) a.target.kind (out-Item x)

  same_fits : (a b : Assignment) → Good a → Good b → path_of a ≡ path_of b → FitsFieldOf a b.item
  same_fits a b g h e =
      let kind : a.target.kind ≡ b.target.kind =
      one_kind_led s.types (path_of b) s.input a.target.kind b.target.kind a.target.shape b.target.shape
      (subst (λ p. LeadsTo s.types s.input p a.target.kind a.target.shape) e g.leads) h.leads in
      subst (λ k. IsItem (valid_within (100 - length (path_of a)) s.types) k (out-Item b.item)) (sym kind)
      (subst (λ p. IsItem (valid_within (100 - length p) s.types) b.target.kind (out-Item b.item)) (sym e) h.item)

  item_more : (a b : Assignment) (rest : List Assignment) (t : Bool) → (t ≡ true → FitsFieldOf a b.item)
      → AllByRecursion (FitsFieldOf a) (map (λ (x : Assignment). x.item) rest)
      → AllByRecursion (FitsFieldOf a) (map (λ (x : Assignment). x.item) (cond t (b ∷ rest) rest))
  item_more a b rest true h all = (h refl, all)
  item_more a b rest false h all = all

  -- the items of one field fit it
  items_good : (a : Assignment) → Good a → (later : List Assignment) → AllByRecursion Good later
      → AllByRecursion (FitsFieldOf a) (items_like a later)
  items_good a g [] all = tt
  items_good a g (b ∷ later) all =
      item_more a b (filter (is_same_field a) later) (is_same_field a b)
      (λ e. same_fits a b g all.0 ((bytes_eq-Decides (path_of a) (path_of b)).0 e)) (items_good a g later all.1)

  setting_fits : (a : Assignment) → Good a → (later : List Assignment) → AllByRecursion Good later
      → FitsSetting s.types s.input (setting_of a later)
  setting_fits a g later all =
      let inner : Inner = valid_within (100 - length (path_of a)) s.types in
      record {
        levels = g.levels;
        leads =
            leads_to_slot inner s.types (path_of a) s.input a.target.kind a.target.shape
            (slot_of a.target.shape a.item (items_like a later)) g.leads
            (λ f kind shape. field_settable inner f a.target.kind a.item (items_like a later) kind
            (g.item, items_good a g later all) a.target.shape shape g.no_map);
      }

  settings_good : (earlier made : List Assignment) → AllByRecursion Good made
      → AllByRecursion (FitsSetting s.types s.input) (settings_behind earlier made)
  settings_good earlier [] all = tt
  settings_good earlier (a ∷ later) all =
      pick (list_any (is_same_field a) earlier) (setting_fits a all.0 later all.1)
      (settings_good (earlier ++ a ∷ []) later all.1)
    where
      pick : (t : Bool) → FitsSetting s.types s.input (setting_of a later)
          → AllByRecursion (FitsSetting s.types s.input) (settings_behind (earlier ++ a ∷ []) later)
          → AllByRecursion (FitsSetting s.types s.input)
          (cond t (settings_behind (earlier ++ a ∷ []) later)
          (setting_of a later ∷ settings_behind (earlier ++ a ∷ []) later))
      pick true h rest = rest
      pick false h rest = (h, rest)

  all_and_one : (xs : List Assignment) (a : Assignment) → AllByRecursion Good xs → Good a
      → AllByRecursion Good (xs ++ a ∷ [])
  all_and_one [] a h g = (g, tt)
  all_and_one (x ∷ xs) a h g = (h.0, all_and_one xs a h.1 g)

  read_good : (earlier : List Assignment) (ps : List EncodedParameter) (settings : List Setting)
      → AllByRecursion Good earlier → IsReadBehind s earlier ps (Ok settings)
      → AllByRecursion (FitsSetting s.types s.input) settings
  read_good earlier [] settings all h =
      let e : ◌≡◌ {A = Result (List Setting) QueryFault} (Ok settings) (Ok (settings_of earlier)) = h in
      let same : settings ≡ settings_of earlier = cc e in
      subst (AllByRecursion (FitsSetting s.types s.input)) (sym same) (settings_good [] earlier all)
  read_good earlier (p ∷ ps) settings all (inl a) =
      read_good (earlier ++ a.0 ∷ []) ps settings
      (all_and_one earlier a.0 all (good earlier (decode p.name) (decode p.value) a.0 a.1)) a.2
  read_good earlier (p ∷ ps) settings all (inr f) =
      let e : ◌≡◌ {A = Result (List Setting) QueryFault} (Ok settings) (Err (Parameter p.number f.0)) = f.2 in
      absurd (cc e)

  -- the settings of a query fit
  pub query_fits : (ignore : List (List ℕ)) (query : List ℕ) (settings : List Setting)
      → IsQueryReading s ignore query (Ok settings) → AllByRecursion (FitsSetting s.types s.input) settings
  query_fits ignore query settings h = read_good [] (counted ignore query) settings tt h
