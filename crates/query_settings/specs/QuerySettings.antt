-- What the parameters of a query set of a message (google/api/http.proto, HttpRule; URL Standard, section 5.1): each
-- sets the field that it names, and those of one list give its items, in order. The first parameter at fault counts.
use Rattle.std.specs.Prelude.{◌≡◌, ◌++◌, ◌⊎◌, ℕ, Bool, List, [], ◌∷◌, map, filter, not, Option, Some, None, Result, Ok, Err, if◌then◌else◌}
use Rattle.std.specs.List.{list_any}
use Rattle.std.specs.Str.{bytes_eq}
use Rattle.field_settings.specs.declared.setting.Setting.{Setting}
use Rattle.form_urlencoded.specs.Form.{decode}
use Rattle.leaf_texts.specs.LeafTexts.{IsLeafText, IsLeafTextFault}
use Rattle.message_types.specs.declared.fields.Kind.{Kind}
use Rattle.message_types.specs.declared.fields.Shape.{Shape}
use Rattle.message_types.specs.declared.fields.Shape.TheVariants.{Many as ManyOf}
use Rattle.message_types.specs.declared.messages.Types.{Types}
use Rattle.query_parameters.specs.QueryParameters.{EncodedParameter, parameters_of}
use Rattle.query_settings.specs.ParameterFaults.{QueryScope, judged_in}
use Rattle.query_settings.specs.QueryTargets.{numbers_of}
use Rattle.query_settings.specs.declared.fault.ParameterKind.{ParameterKind}
use Rattle.query_settings.specs.declared.fault.ParameterKind.TheVariants as kinds
use Rattle.query_settings.specs.declared.fault.QueryFault.{QueryFault}
use Rattle.query_settings.specs.declared.fault.QueryFault.TheVariants.{Parameter, NoMemory}
use Rattle.query_settings.specs.declared.targets.Target.{Target}
use Rattle.scalar_texts.specs.declared.fault.ScalarFault.{ScalarFault}
use Rattle.scalar_texts.specs.declared.fault.ScalarFault.TheVariants as scalars
use Rattle.schema.specs.declared.value.Item.TheOpen.{One, Many}
use Rattle.schema.specs.declared.value.Item.{Item, out-Item}
use Rattle.schema.specs.declared.value.Slot.{Slot, roll-Slot}

-- a parameter counts: its name, decoded, is none of these
abbrev pub counts : List (List ℕ) → EncodedParameter → Bool
counts ignore p = not (list_any (bytes_eq (decode p.name)) ignore)

-- the parameters of a query that count, in order
abbrev pub counted : List (List ℕ) → List ℕ → List EncodedParameter
counted ignore query = filter (counts ignore) (parameters_of query)

-- that a parameter sets its field: what it names, and the item that its value means
pub record Assignment : Type 0 where
  pub target : Target
  pub item : Item

-- what parameters name that set their fields
abbrev pub targets_of : List Assignment → List Target
targets_of made = map (λ (a : Assignment). a.target) made

-- a parameter of this name and value, behind others that set this, sets its field
pub record Assigns (s : QueryScope) (earlier : List Assignment) (name text : List ℕ) (a : Assignment) : Type 0 where
  pub place : judged_in s (targets_of earlier) name ≡ Ok a.target
  pub means : IsLeafText s.types a.target.kind text (out-Item a.item)

-- what is wrong with a parameter whose text has this fault; out of memory is no fault of a text
abbrev pub kind_of_fault : ScalarFault → Option ParameterKind
kind_of_fault scalars.BadText = Some kinds.BadText
kind_of_fault scalars.BadNumber = Some kinds.BadNumber
kind_of_fault scalars.OutOfRange = Some kinds.OutOfRange
kind_of_fault scalars.BadEnum = Some kinds.BadEnum
kind_of_fault scalars.NotUtf8 = Some kinds.NotUtf8
kind_of_fault scalars.NoMemory = None

-- this is wrong with a text as a value of a kind
abbrev pub IsTextFault : Types → Kind → List ℕ → ParameterKind → Type 0
IsTextFault types kind text k =
    (fault : ScalarFault) × (kind_of_fault fault ≡ Some k) × IsLeafTextFault types kind text fault

-- a parameter behind others names what may be set, and this is wrong with its value
pub record HasBadValue (s : QueryScope) (earlier : List Assignment) (name text : List ℕ) (k : ParameterKind) : Type 0
  where
    pub target : Target
    pub place : judged_in s (targets_of earlier) name ≡ Ok target
    pub wrong : IsTextFault s.types target.kind text k

-- a parameter behind others is at fault: by its name, or else by its value
abbrev pub IsAtFault : QueryScope → List Assignment → List ℕ → List ℕ → ParameterKind → Type 0
IsAtFault s earlier name text k = (judged_in s (targets_of earlier) name ≡ Err k) ⊎ HasBadValue s earlier name text k

-- the numbers of the field that is set
abbrev pub path_of : Assignment → List ℕ
path_of a = numbers_of a.target.steps

-- two assignments are of one field
abbrev pub is_same_field : Assignment → Assignment → Bool
is_same_field a b = bytes_eq (path_of a) (path_of b)

-- the items that are set of the field that an assignment sets, in order
abbrev pub items_like : Assignment → List Assignment → List Item
items_like a made = map (λ (b : Assignment). b.item) (filter (is_same_field a) made)

-- what a field of this shape is to hold: a list all its items, and any other its one
abbrev pub slot_of : Shape → Item → List Item → Slot
slot_of ManyOf i more = roll-Slot (Many (i ∷ more))
slot_of _ i more = roll-Slot (One i)

-- the setting of a field by the first assignment of it and those that come after
abbrev pub setting_of : Assignment → List Assignment → Setting
setting_of a later = record { path = path_of a; slot = slot_of a.target.shape a.item (items_like a later) }

-- the settings of the fields that are set here and were not earlier: each where it is set first
abbrev pub settings_behind : List Assignment → List Assignment → List Setting
settings_behind earlier [] = []
settings_behind earlier (a ∷ later) =
    if list_any (is_same_field a) earlier then settings_behind (earlier ++ a ∷ []) later
    else setting_of a later ∷ settings_behind (earlier ++ a ∷ []) later

-- the settings of all fields that are set
abbrev pub settings_of : List Assignment → List Setting
settings_of made = settings_behind [] made

-- what is read of parameters behind those that set this: each sets its field, or the first that does not is at fault
abbrev pub IsReadBehind : QueryScope → List Assignment → List EncodedParameter → Result (List Setting) QueryFault
    → Type 0
IsReadBehind s earlier [] r = r ≡ Ok (settings_of earlier)
IsReadBehind s earlier (p ∷ ps) r =
    ((a : Assignment) × Assigns s earlier (decode p.name) (decode p.value) a × IsReadBehind s (earlier ++ a ∷ []) ps r)
    ⊎ ((k : ParameterKind) × IsAtFault s earlier (decode p.name) (decode p.value) k × (r ≡ Err (Parameter p.number k)))

-- what is read of a query, where parameters of these names are ignored; out of memory is free
abbrev pub IsQueryReading :
    QueryScope → List (List ℕ) → List ℕ → Result (List Setting) QueryFault → Type 0
IsQueryReading s ignore query (Err NoMemory) = Unit {0}
IsQueryReading s ignore query r = IsReadBehind s [] (counted ignore query) r
