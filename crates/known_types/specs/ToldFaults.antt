-- Why a text is not written, as the crates of times and of masks tell it.
use Rattle.mask_texts.specs.declared.fault.MaskShowFault.{MaskShowFault}
use Rattle.mask_texts.specs.declared.fault.MaskShowFault.TheVariants as mask_faults
use Rattle.time_texts.specs.declared.fault.ShowFault.{ShowFault}
use Rattle.time_texts.specs.declared.fault.ShowFault.TheVariants as time_faults
use Rattle.known_types.specs.declared.fault.KnownFault.{KnownFault}
use Rattle.known_types.specs.declared.fault.KnownFault.TheVariants.{Unprintable, NoMemory}

-- why no text of a time was appended
abbrev pub time_fault : ShowFault → KnownFault
time_fault time_faults.Unprintable = Unprintable
time_fault time_faults.NoMemory = NoMemory

-- why no text of a mask was appended
abbrev pub mask_fault : MaskShowFault → KnownFault
mask_fault mask_faults.Unprintable = Unprintable
mask_fault mask_faults.NoMemory = NoMemory
