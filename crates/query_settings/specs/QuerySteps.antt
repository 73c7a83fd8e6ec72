-- Reading parameters one by one, with what has come in maps. These definitions stand for the crate's own proofs: no
-- public clause cites them.
use Rattle.std.specs.Prelude.{◌≡◌, ◌==◌, ◌++◌, ◌⊎◌, ℕ, zero, suc, Bool, true, false, List, [], ◌∷◌, not, Option, Some, None, Result, Ok, Err}
use Rattle.std.specs.BTreeMap.{BTreeMap, get_by}
use Rattle.std.specs.Cmp.Lexicographic.{slice_cmp}
use Rattle.std.specs.List.{flat_map, list_any, position_from}
use Rattle.std.specs.Ordering.{nat_cmp}
use Rattle.std.specs.Str.{bytes_eq}
use Rattle.std.specs.declared.alloc.Global.{Global}
use Rattle.std.specs.declared.vec.Vec.{Vec}
use Rattle.field_settings.specs.declared.setting.Setting.{Setting}
use Rattle.form_urlencoded.specs.Form.{decode}
use Rattle.http_rules.specs.declared.template.Body.{Body}
use Rattle.leaf_texts.specs.LeafTexts.{IsLeafText}
use Rattle.message_types.specs.declared.fields.Kind.{Kind}
use Rattle.message_types.specs.declared.fields.Shape.{Shape}
use Rattle.message_types.specs.declared.messages.Types.{Types}
use Rattle.query_parameters.specs.QueryParameters.{EncodedParameter}
use Rattle.query_settings.specs.ParameterFaults.{QueryScope, judged}
use Rattle.query_settings.specs.QuerySettings.{Assignment, Assigns, IsAtFault, IsTextFault, counts, settings_of, slot_of, targets_of}
use Rattle.query_settings.specs.QueryTargets.{Choice, choices_of, is_other, numbers_of}
use Rattle.query_settings.specs.declared.fault.ParameterFault.{ParameterFault}
use Rattle.query_settings.specs.declared.fault.ParameterFault.TheVariants.{Wrong, NoMemory}
use Rattle.query_settings.specs.declared.fault.ParameterKind.{ParameterKind}
use Rattle.query_settings.specs.declared.fault.ParameterKind.TheVariants as kinds
use Rattle.query_settings.specs.declared.fault.QueryFault.{QueryFault}
use Rattle.query_settings.specs.declared.fault.QueryFault.TheVariants.{Parameter, NoMemory as NoQueryMemory}
use Rattle.query_settings.specs.declared.gathered.Gathered.{Gathered}
use Rattle.query_settings.specs.declared.targets.Target.{Target}
use Rattle.scalar_texts.specs.declared.fault.ScalarFault.{ScalarFault}
use Rattle.scalar_texts.specs.declared.fault.ScalarFault.TheVariants as scalars
use Rattle.schema.specs.Layers.{SlotLayer}
use Rattle.schema.specs.declared.value.Item.TheOpen.{Many}
use Rattle.schema.specs.declared.value.Item.{Item, out-Item}
use Rattle.schema.specs.declared.value.Slot.{Slot, out-Slot, roll-Slot}

-- the fault of a parameter whose value has this fault
abbrev pub fault_of_scalar : ScalarFault → ParameterFault
fault_of_scalar scalars.BadText = Wrong kinds.BadText
fault_of_scalar scalars.BadNumber = Wrong kinds.BadNumber
fault_of_scalar scalars.OutOfRange = Wrong kinds.OutOfRange
fault_of_scalar scalars.BadEnum = Wrong kinds.BadEnum
fault_of_scalar scalars.NotUtf8 = Wrong kinds.NotUtf8
fault_of_scalar scalars.NoMemory = NoMemory

-- what is read of a text as a value of a kind
abbrev pub IsItemRead : Types → Kind → List ℕ → Result Item ParameterFault → Type 0
IsItemRead types kind text (Ok item) = IsLeafText types kind text (out-Item item)
IsItemRead types kind text (Err (Wrong k)) = IsTextFault types kind text k
IsItemRead types kind text (Err NoMemory) = Unit {0}

-- a map from lists of numbers to numbers
abbrev pub NumberMap : Type 0
NumberMap = BTreeMap (Vec ℕ Global) ℕ

-- what a map has at a list of numbers
abbrev pub number_at : NumberMap → List ℕ → Option ℕ
number_at m q = get_by (λ k. slice_cmp nat_cmp q k.items) m

-- what was chosen is another member than this
abbrev pub is_another : ℕ → Option ℕ → Bool
is_another n None = false
is_another n (Some m) = not (n == m)

-- a map tells of each choice whether it is of another member of a oneof than one of these
abbrev pub AreMembers : NumberMap → List Choice → Type 0
AreMembers m chosen = (c : Choice) → list_any (is_other c) chosen ≡ is_another c.member (number_at m c.place)

-- the place of the first setting of a path
abbrev pub place_in : List Setting → List ℕ → Option ℕ
place_in settings path = position_from (λ (s : Setting). bytes_eq path s.path) 0 settings

-- a map tells the place of each path's setting
abbrev pub ArePlaces : NumberMap → List Setting → Type 0
ArePlaces m settings = (path : List ℕ) → number_at m path ≡ place_in settings path

-- a slot with an item more, where it is that of a list
abbrev pub extended_layer : Slot → SlotLayer → Item → Slot
extended_layer s (Many items) i = roll-Slot (Many (items ++ i ∷ []))
extended_layer s _ i = s

-- a slot with one item more
abbrev pub extended : Slot → Item → Slot
extended s i = extended_layer s (out-Slot s) i

-- a setting with an item more
abbrev pub extended_setting : Setting → Item → Setting
extended_setting s i = record { path = s.path; slot = extended s.slot i }

-- settings with an item more at a place
abbrev pub extended_at : List Setting → ℕ → Item → List Setting
extended_at [] k i = []
extended_at (s ∷ settings) zero i = extended_setting s i ∷ settings
extended_at (s ∷ settings) (suc k) i = s ∷ extended_at settings k i

-- settings with an item that is set: at the place of its field's setting, or in a new one
abbrev pub set_at : List Setting → Option ℕ → Setting → Item → List Setting
set_at settings (Some k) new i = extended_at settings k i
set_at settings None new i = settings ++ new ∷ []

-- the first setting of a field
abbrev pub first_setting : Shape → List ℕ → Item → Setting
first_setting shape path i = record { path = path; slot = slot_of shape i [] }

-- settings with an item that is set of the field of a path
abbrev pub with_item : List Setting → Shape → List ℕ → Item → List Setting
with_item settings shape path i = set_at settings (place_in settings path) (first_setting shape path i) i

-- what the ways to fields that are set choose
abbrev pub choices_made : List Assignment → List Choice
choices_made made = flat_map (λ (a : Assignment). choices_of a.target) made

-- the places are those of the settings
abbrev pub IsPlaced : Gathered → Type 0
IsPlaced g = ArePlaces g.places g.settings.items

-- what has come of assignments
pub record Stands (g : Gathered) (made : List Assignment) : Type 0 where
  pub settings : g.settings.items ≡ settings_of made
  pub places : IsPlaced g
  pub members : AreMembers g.members (choices_made made)

-- what is judged of a target: its numbers, or why it may not be set
abbrev pub IsJudging :
    Types → List (List ℕ) → Body → List Assignment → Target → Result (Vec ℕ Global) ParameterFault → Type 0
IsJudging types paths body made t (Ok numbers) =
    (judged types paths body (targets_of made) (Some t) ≡ Ok t) × (numbers.items ≡ numbers_of t.steps)
IsJudging types paths body made t (Err (Wrong k)) = judged types paths body (targets_of made) (Some t) ≡ Err k
IsJudging types paths body made t (Err NoMemory) = Unit {0}

-- what has come where a parameter of this name and value was read
abbrev pub IsNamedStep :
    QueryScope → List Assignment → List ℕ → List ℕ → Gathered → Result (Unit {0}) ParameterFault → Type 0
IsNamedStep s made name text g (Ok r) = (a : Assignment) × Assigns s made name text a × Stands g (made ++ a ∷ [])
IsNamedStep s made name text g (Err (Wrong k)) = IsAtFault s made name text k
IsNamedStep s made name text g (Err NoMemory) = Unit {0}

-- what has come where a parameter was read: nothing more where it is ignored
abbrev pub IsParameterStep :
    QueryScope → List (List ℕ) → List Assignment → EncodedParameter → Gathered → Result (Unit {0}) QueryFault → Type 0
IsParameterStep s ignore made p g (Ok r) =
    ((counts ignore p ≡ false) × Stands g made)
    ⊎ ((counts ignore p ≡ true)
    × ((a : Assignment) × Assigns s made (decode p.name) (decode p.value) a × Stands g (made ++ a ∷ [])))
IsParameterStep s ignore made p g (Err (Parameter n k)) =
    (counts ignore p ≡ true) × (n ≡ p.number) × IsAtFault s made (decode p.name) (decode p.value) k
IsParameterStep s ignore made p g (Err NoQueryMemory) = Unit {0}
