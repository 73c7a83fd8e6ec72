-- What the bytes of a descriptor set declare, or why they declare nothing.
use Rattle.std.specs.Prelude.{◌≡◌, ℕ, List, Ok, Err}
use Rattle.descriptor_set.specs.SetReading.{set_reading}
use Rattle.descriptor_set.specs.declared.fault.SetFault.TheVariants as unread
use Rattle.descriptors.specs.declared.file_set.FileSet.{FileSet}
use Rattle.gateway_run.specs.declared.descriptor_fault.DescriptorFault.{DescriptorFault}
use Rattle.gateway_run.specs.declared.descriptor_fault.DescriptorFault.TheVariants as faults
use Rattle.linked_api.specs.declared.api.Api.{Api}
use Rattle.schema_link.specs.LinkAnswers.{IsLinkOf}
use Rattle.set_faults.specs.declared.fault.LinkFault.{LinkFault}
use Rattle.set_faults.specs.declared.fault.LinkFault.TheVariants.{At}

-- bytes are read as a set, of which this is linked
pub record Declares (bytes : List ℕ) (api : Api) : Type 0 where
  pub set : FileSet
  pub read : set_reading bytes ≡ Ok set
  pub linked : IsLinkOf set (Ok api)

-- bytes are read as a set, which is not linked for this
pub record IsUnlinked (bytes : List ℕ) (fault : LinkFault) : Type 0 where
  pub set : FileSet
  pub read : set_reading bytes ≡ Ok set
  pub refused : IsLinkOf set (Err fault)

-- why bytes serve nothing: they are not read as a set, or the set that they are read as has a fault
abbrev pub IsUnserved : List ℕ → DescriptorFault → Type 0
IsUnserved bytes (faults.Wire w) = set_reading bytes ≡ Err (unread.Wire w)
IsUnserved bytes (faults.NotUtf8 place) = set_reading bytes ≡ Err (unread.NotUtf8 place)
IsUnserved bytes faults.TooLong = set_reading bytes ≡ Err unread.TooLong
IsUnserved bytes (faults.Unlinked kind name second) = IsUnlinked bytes (At kind name second)
