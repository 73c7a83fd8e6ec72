-- What the code answers of one token: what the definitions say, or out of memory, which is free.
use Rattle.std.specs.Prelude.{◌≡◌, Result, Ok, Err, ⊤}
use Rattle.json_meanings.specs.ReadingSpots.{Filled as FilledOf, OpenArray as ArrayOf, OpenObject as ObjectOf, Spot as SpotOf}
use Rattle.json_meanings.specs.declared.fault.FieldKind.{FieldKind}
use Rattle.json_meanings.specs.declared.fault.FieldKind.TheVariants as kinds
use Rattle.scalar_texts.specs.declared.fault.ScalarFault.{ScalarFault}
use Rattle.scalar_texts.specs.declared.fault.ScalarFault.TheVariants as scalars
use Rattle.protojson_read.specs.SpotsSeen.{array_seen, filled_seen, object_seen, spot_seen}
use Rattle.protojson_read.specs.declared.refusal.Refusal.{Refusal}
use Rattle.protojson_read.specs.declared.refusal.Refusal.TheVariants.{Fault, NoMemory}
use Rattle.protojson_read.specs.declared.spots.Filled.{Filled}
use Rattle.protojson_read.specs.declared.spots.OpenArray.{OpenArray}
use Rattle.protojson_read.specs.declared.spots.OpenObject.{OpenObject}
use Rattle.protojson_read.specs.declared.spots.Spot.{Spot}
use Rattle.schema.specs.Layers.{ItemLayer}
use Rattle.schema.specs.declared.key.Key.{Key}
use Rattle.schema.specs.declared.value.Item.{Item, out-Item}
use Rattle.schema.specs.declared.value.Value.{Value}

-- an item, or its fault
abbrev pub Gives : Result Item Refusal → Result ItemLayer FieldKind → Type 0
Gives (Ok i) (Ok j) = out-Item i ≡ j
Gives (Err (Fault k)) (Err e) = k ≡ e
Gives (Err NoMemory) r = ⊤
Gives _ _ = ⊥

-- a message, or its fault
abbrev pub GivesValue : Result Value Refusal → Result Value FieldKind → Type 0
GivesValue (Ok v) (Ok w) = v ≡ w
GivesValue (Err (Fault k)) (Err e) = k ≡ e
GivesValue (Err NoMemory) r = ⊤
GivesValue _ _ = ⊥

-- a key, or its fault
abbrev pub GivesKey : Result Key Refusal → Result Key FieldKind → Type 0
GivesKey (Ok k) (Ok l) = k ≡ l
GivesKey (Err (Fault k)) (Err e) = k ≡ e
GivesKey (Err NoMemory) r = ⊤
GivesKey _ _ = ⊥

-- what a value comes to, or its fault
abbrev pub Fills : Result Filled Refusal → Result FilledOf FieldKind → Type 0
Fills (Ok x) (Ok y) = filled_seen x ≡ y
Fills (Err (Fault k)) (Err e) = k ≡ e
Fills (Err NoMemory) r = ⊤
Fills _ _ = ⊥

-- an array that is opened, or the fault
abbrev pub GivesArray : Result OpenArray Refusal → Result ArrayOf FieldKind → Type 0
GivesArray (Ok a) (Ok b) = array_seen a ≡ b
GivesArray (Err (Fault k)) (Err e) = k ≡ e
GivesArray (Err NoMemory) r = ⊤
GivesArray _ _ = ⊥

-- an object that is opened, or the fault
abbrev pub GivesObject : Result OpenObject Refusal → Result ObjectOf FieldKind → Type 0
GivesObject (Ok o) (Ok p) = object_seen o ≡ p
GivesObject (Err (Fault k)) (Err e) = k ≡ e
GivesObject (Err NoMemory) r = ⊤
GivesObject _ _ = ⊥

-- a spot that a key names, or its fault
abbrev pub Names : Result Spot Refusal → Result SpotOf FieldKind → Type 0
Names (Ok s) (Ok t) = spot_seen s ≡ t
Names (Err (Fault k)) (Err e) = k ≡ e
Names (Err NoMemory) r = ⊤
Names _ _ = ⊥

-- the fault of a text as that of a token
abbrev pub text_refusal : ScalarFault → Refusal
text_refusal scalars.BadNumber = Fault kinds.BadNumber
text_refusal scalars.OutOfRange = Fault kinds.OutOfRange
text_refusal scalars.BadEnum = Fault kinds.BadEnum
text_refusal scalars.NoMemory = NoMemory
text_refusal _ = Fault kinds.BadText

-- the fault of a number's text as that of a number
abbrev pub number_fault : ScalarFault → FieldKind
number_fault scalars.OutOfRange = kinds.OutOfRange
number_fault _ = kinds.BadNumber
