-- Ids find names, in what is linked of a set (descriptor.proto, FieldDescriptorProto.type_name and
-- MethodDescriptorProto.input_type): the type of each id has the full name that was declared.
use Rattle.std.specs.Prelude.{◌≡◌, ℕ, length, Some, slice_get}
use Rattle.descriptors.specs.declared.file_set.FileSet.{FileSet}
use Rattle.descriptor_pool.specs.DeclaredNames.{declarations}
use Rattle.descriptor_pool.specs.DeclaredTypes.{types_in}
use Rattle.descriptor_pool.specs.ReachableTypes.{reachable}
use Rattle.descriptor_pool.specs.SetMethods.{BoundMethod, bound_methods}
use Rattle.linked_api.specs.declared.api.Api.{Api}
use Rattle.linked_api.specs.declared.api.MethodInfo.{MethodInfo}
use Rattle.linked_types.specs.FoundNames.{FindsMessage, IdsFindNames}

-- the method at an index has the gRPC path of a declaration, and its ids are those of the messages that are named
pub record HasMethodAt (api : Api) (m : BoundMethod) (k : ℕ) : Type 0 where
  pub method : MethodInfo
  pub method_is : slice_get api.methods k ≡ Some method
  pub path : method.path ≡ m.path
  pub input : FindsMessage api.types m.input method.input
  pub output : FindsMessage api.types m.output method.output

-- each message, enum and field has the name that is declared, each field of a message or enum type the id of the type
-- that it names, and each method the ids of the messages that it names
pub record HasDeclaredNames (set : FileSet) (api : Api) : Type 0 where
  pub types : IdsFindNames (types_in (declarations set))
      (reachable (types_in (declarations set)) (bound_methods set)) api.types
  pub method_count : length api.methods ≡ length (bound_methods set)
  pub methods : (k : ℕ) (m : BoundMethod) → slice_get (bound_methods set) k ≡ Some m → HasMethodAt api m k
