-- How many of the declarations of a message and of a file are messages and enums.
use Rattle.std.proofs.Common.{◌≡◌, ◌+◌, ◌++◌, ℕ, List, [], ◌∷◌, length, cond, count_by, refl, ap, arith}
use Rattle.std.proofs.lemmas.List.Sums.{sum_by-append, sum_by-cons}
use Rattle.descriptors.specs.declared.file_set.EnumInfo.{EnumInfo}
use Rattle.descriptors.specs.declared.file_set.FieldInfo.{FieldInfo}
use Rattle.descriptors.specs.declared.file_set.FileInfo.{FileInfo}
use Rattle.descriptors.specs.declared.file_set.MessageInfo.{MessageInfo, out-MessageInfo}
use Rattle.descriptors.specs.declared.file_set.ServiceInfo.{ServiceInfo}
use Rattle.descriptor_pool.specs.DeclaredNames.{Declaration, Enum, File, Message, declared_in, enums_in, extensions_in, file_declarations, in_scope, is_type, message_of, messages_in, services_in}
use Rattle.descriptor_pool.proofs.DeclaredLemmas.{declared_is}

abbrev types : List Declaration → ℕ
types ds = count_by is_type ds

abbrev one : Declaration → ℕ
one d = cond (is_type d) 1 0

-- the types of two lists
both : (xs ys : List Declaration) → types (xs ++ ys) ≡ types xs + types ys
both xs ys = sum_by-append one xs ys

-- each enum is one
enums : (scope : List ℕ) (es : List EnumInfo) → types (enums_in scope es) ≡ length es
enums scope [] = refl
enums scope (e ∷ es) =
    let h = enums scope es in
    let own = Enum (record { name = in_scope scope e.name; values = e.value }) in
    let more : types (enums_in scope (e ∷ es))
    ≡ 1 + types (enums_in scope es) = sum_by-cons one own (enums_in scope es) in
    omega (arith, h, more)

-- no extension is one
extensions : (es : List FieldInfo) → types (extensions_in es) ≡ 0
extensions [] = refl
extensions (e ∷ es) = extensions es

-- no service is one
services : (scope : List ℕ) (ss : List ServiceInfo) → types (services_in scope ss) ≡ 0
services scope [] = refl
services scope (s ∷ ss) = services scope ss

-- a message counts one, with the messages that are nested in it, and its enums
pub message_types_len : (syntax : List ℕ) (m : MessageInfo) (scope : List ℕ)
    → count_by is_type (declared_in syntax m scope)
    ≡ 1
    + (count_by is_type (messages_in syntax (in_scope scope (out-MessageInfo m).name) (out-MessageInfo m).nested_type)
    + length (out-MessageInfo m).enum_type)
message_types_len syntax m scope =
    let level = out-MessageInfo m in
    let inner = in_scope scope level.name in
    let nested = messages_in syntax inner level.nested_type in
    let behind = enums_in inner level.enum_type ++ extensions_in level.extension in
    let is = ap types (declared_is syntax m scope) in
    let first : types (Message (message_of inner syntax level) ∷ (nested ++ behind))
    ≡ 1 + types (nested ++ behind) = sum_by-cons one (Message (message_of inner syntax level)) (nested ++ behind) in
    omega (
      arith,
      is,
      first,
      both nested behind,
      both (enums_in inner level.enum_type) (extensions_in level.extension),
      enums inner level.enum_type,
      extensions level.extension,
    )

-- a file counts its messages, with those that are nested in them, and its enums
pub file_types_len : (f : FileInfo) → count_by is_type (file_declarations f)
    ≡ count_by is_type (messages_in f.syntax f.«package» f.message_type) + length f.enum_type
file_types_len f =
    let messages = messages_in f.syntax f.«package» f.message_type in
    let enums_of = enums_in f.«package» f.enum_type in
    let services_of = services_in f.«package» f.service in
    let extensions_of = extensions_in f.extension in
    let behind = enums_of ++ (services_of ++ extensions_of) in
    let first : types (File f.name ∷ (messages ++ behind))
    ≡ 0 + types (messages ++ behind) = sum_by-cons one (File f.name) (messages ++ behind) in
    omega (
      arith,
      first,
      both messages behind,
      both enums_of (services_of ++ extensions_of),
      both services_of extensions_of,
      enums f.«package» f.enum_type,
      services f.«package» f.service,
      extensions f.extension,
    )
