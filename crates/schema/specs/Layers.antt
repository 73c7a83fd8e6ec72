-- One level of a slot and of an item, as `out-Slot` and `out-Item` open them.
use Rattle.schema.specs.declared.value.Item.TheOpen.{Item-F, Slot-F}
use Rattle.schema.specs.declared.value.Item.{Item}
use Rattle.schema.specs.declared.value.Slot.{Slot}
use Rattle.schema.specs.declared.value.Pairs.{Pairs}
use Rattle.schema.specs.declared.value.Value.{Value}

-- an item with what it holds in view
abbrev pub ItemLayer : Type 0
ItemLayer = Item-F Item Slot Pairs Value

-- a slot with what it holds in view
abbrev pub SlotLayer : Type 0
SlotLayer = Slot-F Item Slot Pairs Value
