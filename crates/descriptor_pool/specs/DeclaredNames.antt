-- What a descriptor set declares, with full names (descriptor.proto). A full name has the names of the
-- package and of the messages around it, joined by dots.
use Rattle.std.specs.Prelude.{◌++◌, ℕ, Bool, true, false, List, [], ◌∷◌, map}
use Rattle.std.specs.List.{flat_map}
use Rattle.descriptors.specs.declared.file_set.EnumInfo.{EnumInfo}
use Rattle.descriptors.specs.declared.file_set.FieldInfo.{FieldInfo}
use Rattle.descriptors.specs.declared.file_set.FileInfo.{FileInfo}
use Rattle.descriptors.specs.declared.file_set.FileSet.{FileSet}
use Rattle.descriptors.specs.declared.file_set.MessageInfo.{MessageInfo}
use Rattle.descriptors.specs.declared.file_set.MessageInfo.TheOpen.{MessageInfo-F}
use Rattle.descriptors.specs.declared.file_set.MessageInfo.TheFolds.{fold-MessageInfo}
use Rattle.descriptors.specs.declared.file_set.ServiceInfo.{ServiceInfo}
use Rattle.message_types.specs.declared.enums.EnumValue.{EnumValue}

-- a message, but for what is nested in it: its full name, its file's syntax, its fields, the names of its
-- oneofs, and two of its options
pub record DeclaredMessage : Type 0 where
  pub name : List ℕ
  pub syntax : List ℕ
  pub fields : List FieldInfo
  pub oneofs : List (List ℕ)
  pub is_map_entry : Bool
  pub is_message_set : Bool

-- an enum: its full name and its values
pub record DeclaredEnum : Type 0 where
  pub name : List ℕ
  pub values : List EnumValue

-- what is declared: files, services and extensions by name, an extension by that of the message which it extends
pub data Declaration : Type 0 where
  File : List ℕ → Declaration
  Message : DeclaredMessage → Declaration
  Enum : DeclaredEnum → Declaration
  Service : List ℕ → Declaration
  Extension : List ℕ → Declaration

-- a name in a scope: behind the scope and a dot; alone where the scope is empty
abbrev pub in_scope : List ℕ → List ℕ → List ℕ
in_scope [] name = name
in_scope (b ∷ bs) name = (b ∷ bs) ++ (46 ∷ name)

-- a message of this full name in a file of this syntax
abbrev pub message_of : {A : Type 0} → List ℕ → List ℕ → MessageInfo-F A → DeclaredMessage
message_of name syntax m = record {
  name = name;
  syntax = syntax;
  fields = m.field;
  oneofs = m.oneof_decl;
  is_map_entry = m.map_entry;
  is_message_set = m.message_set_wire_format;
}

-- the enums of a scope
abbrev pub enums_in : List ℕ → List EnumInfo → List Declaration
enums_in scope es = map (λ (e : EnumInfo). Enum (record { name = in_scope scope e.name; values = e.value })) es

-- the extensions of a file or a message
abbrev pub extensions_in : List FieldInfo → List Declaration
extensions_in es = map (λ (e : FieldInfo). Extension e.extendee) es

-- a message in a scope: it comes before what is nested in it, and this before its enums
abbrev pub message_step : List ℕ → MessageInfo-F (List ℕ → List Declaration) → List ℕ → List Declaration
message_step syntax m scope =
    Message (message_of (in_scope scope m.name) syntax m)
    ∷ (flat_map (λ (nested : List ℕ → List Declaration). nested (in_scope scope m.name)) m.nested_type ++ (enums_in (in_scope scope m.name) m.enum_type ++ extensions_in m.extension))

-- what a message in a scope declares, in a file of a syntax
abbrev pub declared_in : List ℕ → MessageInfo → List ℕ → List Declaration
declared_in syntax = fold-MessageInfo (List ℕ → List Declaration) (message_step syntax)

-- messages in a scope, with all that is in them
abbrev pub messages_in : List ℕ → List ℕ → List MessageInfo → List Declaration
messages_in syntax scope ms = flat_map (λ m. declared_in syntax m scope) ms

-- the services of a file
abbrev pub services_in : List ℕ → List ServiceInfo → List Declaration
services_in scope ss = map (λ (s : ServiceInfo). Service (in_scope scope s.name)) ss

-- a file: its name, its messages, its enums, its services
abbrev pub file_declarations : FileInfo → List Declaration
file_declarations f =
    File f.name
    ∷ (messages_in f.syntax f.«package» f.message_type ++ (enums_in f.«package» f.enum_type ++ (services_in f.«package» f.service ++ extensions_in f.extension)))

-- all that a set declares, file by file
abbrev pub declarations : FileSet → List Declaration
declarations set = flat_map file_declarations set.files

-- the name of a declaration
abbrev pub name_of : Declaration → List ℕ
name_of (File name) = name
name_of (Message m) = m.name
name_of (Enum e) = e.name
name_of (Service name) = name
name_of (Extension name) = name

-- a declaration is a message or an enum
abbrev pub is_type : Declaration → Bool
is_type (Message m) = true
is_type (Enum e) = true
is_type _ = false
