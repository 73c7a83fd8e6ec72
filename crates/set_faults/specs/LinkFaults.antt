-- Faults of a descriptor set, as a list: the first of them is the one that counts.
use Rattle.std.specs.Prelude.{◌≡◌, ◌++◌, ℕ, Bool, List, [], ◌∷◌, codes, Option, Some, None, Result, Ok, Err, if◌then◌else◌}
use Rattle.base.specs.NoMemoryText.{no_memory_text}
use Rattle.set_faults.specs.declared.fault.LinkFault.{LinkFault}
use Rattle.set_faults.specs.declared.fault.LinkFault.TheVariants.{At, NoMemory}
use Rattle.set_faults.specs.declared.fault.LinkKind.{LinkKind}
use Rattle.set_faults.specs.declared.fault.LinkKind.TheVariants as kinds

-- the first fault of a list
abbrev pub first_fault : List LinkFault → Option LinkFault
first_fault [] = None
first_fault (f ∷ fs) = Some f

-- this is the first fault of a list; out of memory is said of any
abbrev pub IsFirst : LinkFault → List LinkFault → Type 0
IsFirst NoMemory fs = Unit {0}
IsFirst (At kind name second) fs = first_fault fs ≡ Some (At kind name second)

-- an answer is no fault exactly where a list has none, else its first
abbrev pub IsFirstOf : {A : Type 0} → Result A LinkFault → List LinkFault → Type 0
IsFirstOf (Ok x) fs = fs ≡ []
IsFirstOf (Err e) fs = IsFirst e fs

-- one fault where something holds
abbrev pub fault_if : Bool → LinkFault → List LinkFault
fault_if holds fault = if holds then fault ∷ [] else []

-- the name of a kind, as texts of faults have it
abbrev pub kind_text : LinkKind → List ℕ
kind_text kinds.TooMany = codes "TooMany"
kind_text kinds.DoubleName = codes "DoubleName"
kind_text kinds.NoRoute = codes "NoRoute"
kind_text kinds.UnknownType = codes "UnknownType"
kind_text kinds.NestedAdditional = codes "NestedAdditional"
kind_text kinds.NoPattern = codes "NoPattern"
kind_text kinds.BadMethod = codes "BadMethod"
kind_text kinds.TemplateAt = codes "TemplateAt"
kind_text kinds.Proto2 = codes "Proto2"
kind_text kinds.Edition = codes "Edition"
kind_text kinds.AnyType = codes "AnyType"
kind_text kinds.StructType = codes "StructType"
kind_text kinds.Extension = codes "Extension"
kind_text kinds.KnownShape = codes "KnownShape"
kind_text kinds.BadField = codes "BadField"
kind_text kinds.Group = codes "Group"
kind_text kinds.Float = codes "Float"
kind_text kinds.BadEnum = codes "BadEnum"
kind_text kinds.SameJsonName = codes "SameJsonName"
kind_text kinds.PathField = codes "PathField"
kind_text kinds.BodyField = codes "BodyField"
kind_text kinds.ResponseField = codes "ResponseField"
kind_text kinds.SameRoute = codes "SameRoute"

-- a second name behind a space, where there is one
abbrev pub second_text : List ℕ → List ℕ
second_text [] = []
second_text (b ∷ bs) = codes " " ++ (b ∷ bs)

-- the text of a fault of a kind: its name, a space and the name of what has it, and a second name
abbrev pub fault_at_text : LinkKind → List ℕ → List ℕ → List ℕ
fault_at_text kind name second = kind_text kind ++ (codes " " ++ (name ++ second_text second))

-- the text of a fault
abbrev pub fault_text : LinkFault → List ℕ
fault_text (At kind name second) = fault_at_text kind name second
fault_text NoMemory = no_memory_text
