-- The numbers of real oneofs, kept by the oneofs' indexes.
use Rattle.std.specs.Prelude.{◌≡◌, ◌<◌, ℕ, List, length, Option, Some, slice_get}
use Rattle.descriptors.specs.declared.file_set.FieldInfo.{FieldInfo}
use Rattle.linked_types.specs.LinkedTypes.{real_number}

-- each item of a list is the number of the real oneof of its index
abbrev pub AreRealNumbers : List FieldInfo → List (Option ℕ) → Type 0
AreRealNumbers fs numbers = (i : ℕ) → i < length numbers → slice_get numbers i ≡ Some (real_number fs i)
