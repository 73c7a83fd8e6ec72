-- What contracts see of a declaration.
use Rattle.std.specs.Prelude.{◌≡◌, ℕ, List}
use Rattle.descriptors.specs.declared.file_set.MessageInfo.{out-MessageInfo}
use Rattle.descriptor_pool.specs.DeclaredNames.{Declaration, File, Message, Enum, Service, Extension, message_of}
use Rattle.descriptor_pool.specs.declared.declared_names.Declared.{Declared}
use Rattle.descriptor_pool.specs.declared.declared_names.Declared.TheVariants.{File as FileOf, Message as MessageOf, Enum as EnumOf, Service as ServiceOf, Extension as ExtensionOf}

-- a declaration under a name, as what it declares
abbrev pub seen : List ℕ → Declared → Declaration
seen name FileOf = File name
seen name (MessageOf f m) = Message (message_of name f.now.syntax (out-MessageInfo m.now))
seen name (EnumOf e) = Enum (record { name = name; values = e.now.value })
seen name ServiceOf = Service name
seen name (ExtensionOf f) = Extension name

-- an extension is declared under the name of the message that it extends
abbrev pub IsUnder : List ℕ → Declared → Type 0
IsUnder name (ExtensionOf f) = name ≡ f.now.extendee
IsUnder name _ = Unit {0}
