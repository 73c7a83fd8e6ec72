-- How a run ends, and what it leaves.
use Rattle.std.specs.Prelude.{◌≡◌, ℕ, List, [], codes, Option, Some, None, IfSome, Result, Ok, Err}
use Rattle.gate_world.specs.Sinks.{Gains, GainsPart, GainsPrefix}
use Rattle.gate_world.specs.ToldFiles.{FileMap, IsMissing, told_file}
use Rattle.gateway_run.specs.CommandOutput.{IsOutput, IsRefusedBy}
use Rattle.gateway_run.specs.Commands.{Command, set_of}
use Rattle.gateway_run.specs.DeclaredApi.{IsUnserved}
use Rattle.gateway_run.specs.InputReading.{OfInput}
use Rattle.gateway_run.specs.RefusalLines.{refusal_line}
use Rattle.gateway_run.specs.DescriptorLines.{descriptor_line}
use Rattle.gateway_run.specs.declared.descriptor_fault.DescriptorFault.{DescriptorFault}
use Rattle.gateway_run.specs.declared.descriptor_fault.DescriptorFault.TheVariants as faults
use Rattle.transcoding.specs.declared.refusal.RequestRefusal.{RequestRefusal}
use Rattle.transcoding.specs.declared.refusal.RequestRefusal.TheVariants.{Listed}
use Rattle.gate_world.specs.declared.refusal.Refusal.TheVariants as table
use Rattle.descriptor_set.specs.declared.fault.SetFault.{SetFault}
use Rattle.descriptor_set.specs.declared.fault.SetFault.TheVariants as unread
use Rattle.set_faults.specs.declared.fault.LinkFault.{LinkFault}
use Rattle.set_faults.specs.declared.fault.LinkFault.TheVariants as link
use Rattle.gateway_run.specs.declared.status.Status.{Status}
use Rattle.gateway_run.specs.declared.status.Status.TheVariants as status
use Rattle.gateway_run.specs.declared.status.Stop.{Stop}
use Rattle.gateway_run.specs.declared.status.Stop.TheVariants as stop

-- the line of a status: that of a fault of the set or of a refusal where there is one, none with Done
abbrev pub IsLine : Status → List ℕ → Type 0
IsLine status.Done line = line ≡ []
IsLine status.Usage line = line ≡ codes "usage\n"
IsLine status.Descriptors line = (f : DescriptorFault) × (line ≡ descriptor_line f)
IsLine status.ReadFault line = line ≡ codes "read fault\n"
IsLine status.WriteFault line = line ≡ codes "write fault\n"
IsLine status.NoMemory line = line ≡ codes "out of memory\n"
IsLine status.Refused line = (r : RequestRefusal) × (line ≡ refusal_line r)

-- the number that the program ends with
abbrev pub number_of : Status → ℕ
number_of status.Done = 0
number_of status.Usage = 2
number_of status.Descriptors = 3
number_of status.ReadFault = 4
number_of status.WriteFault = 5
number_of status.NoMemory = 7
number_of status.Refused = 9

-- the status of a command that stopped
abbrev pub stop_status : Stop → Status
stop_status stop.Usage = status.Usage
stop_status (stop.Descriptors f) = status.Descriptors
stop_status stop.ReadFault = status.ReadFault
stop_status stop.WriteFault = status.WriteFault
stop_status stop.NoMemory = status.NoMemory
stop_status (stop.Refused r) = status.Refused

-- why a command stops whose set is not read: for want of memory, or a fault of the set
abbrev pub unread_stop : SetFault → Stop
unread_stop (unread.Wire w) = stop.Descriptors (faults.Wire w)
unread_stop (unread.NotUtf8 place) = stop.Descriptors (faults.NotUtf8 place)
unread_stop unread.TooLong = stop.Descriptors faults.TooLong
unread_stop unread.NoMemory = stop.NoMemory

-- the same of one whose set is not linked
abbrev pub unlinked_stop : LinkFault → Stop
unlinked_stop (link.At kind name second) = stop.Descriptors (faults.Unlinked kind name second)
unlinked_stop link.NoMemory = stop.NoMemory

-- a command stops so for a refusal: for want of memory where that is the cause, and else with its request refused
pub record StopsFor (r : RequestRefusal) (e : Stop) : Type 0 where
  pub memory : r ≡ Listed table.NoMemory → e ≡ stop.NoMemory
  pub refused : (r ≡ Listed table.NoMemory → ⊥) → e ≡ stop.Refused r

-- its line
abbrev pub stop_line : Stop → List ℕ
stop_line stop.Usage = codes "usage\n"
stop_line (stop.Descriptors f) = descriptor_line f
stop_line stop.ReadFault = codes "read fault\n"
stop_line stop.WriteFault = codes "write fault\n"
stop_line stop.NoMemory = codes "out of memory\n"
stop_line (stop.Refused r) = refusal_line r

-- what a status says of the set's file, the input and the command: with Done the output was written whole, with
-- WriteFault a prefix of it that is not all; Descriptors where the set has a fault, and the line is that of the
-- fault; Refused where the command's request is, and the line is that of the refusal
abbrev pub Answers : List ℕ → List ℕ → Command → Status → List ℕ → Option (List ℕ) → Option (List ℕ) → Type 0
Answers file input c status.Done line old new =
    (bytes : List ℕ) × IsOutput file input c bytes × Gains old new bytes
Answers file input c status.Usage line old new = ⊥
Answers file input c status.Descriptors line old new =
    (f : DescriptorFault) × IsUnserved file f × (line ≡ descriptor_line f)
Answers file input c status.ReadFault line old new = Unit {0}
Answers file input c status.WriteFault line old new =
    (bytes : List ℕ) × IsOutput file input c bytes × GainsPart old new bytes
Answers file input c status.NoMemory line old new = Unit {0}
Answers file input c status.Refused line old new =
    (r : RequestRefusal) × IsRefusedBy file input c r × (line ≡ refusal_line r)

-- the answer to a command where the set's file is told: that of its bytes and of what the input holds, and ReadFault
-- where it is missing
abbrev pub AnswersTold : Option Command → Option FileMap → Option (List ℕ) → Status → List ℕ → Option (List ℕ)
    → Option (List ℕ) → Type 0
AnswersTold None files told s line old new = Unit {0}
AnswersTold (Some c) files told s line old new =
    IfSome (told_file files (set_of c)) (λ file. OfInput told (λ input. Answers file input c s line old new))
    × (IsMissing files (set_of c) → s ≡ status.ReadFault)

-- a run that ended so: its line stands on `err`, where its count of faults did not rise, and the status
-- answers the command
pub record Ran (s : Status) (Failed : Type 0) (err_old err_new : Option (List ℕ)) (answers : List ℕ → Type 0) : Type 0 where
  pub line : List ℕ
  pub is : IsLine s line
  pub told : (Failed → ⊥) → Gains err_old err_new line
  pub prefix : GainsPrefix err_old err_new line
  pub answer : answers line

-- only Done and WriteFault write output
abbrev pub Writes : Status → Type 0
Writes status.Done = Unit {0}
Writes status.WriteFault = Unit {0}
Writes _ = ⊥

-- what a step of a command gives: a good value, or why the command stops there
abbrev pub Gives : {A : Type 0} → (A → Type 0) → (DescriptorFault → Type 0) → (RequestRefusal → Type 0) → Type 0 → Result A Stop → Type 0
Gives Good Unserved Refused Failed (Ok x) = Good x
Gives Good Unserved Refused Failed (Err stop.Usage) = ⊥
Gives Good Unserved Refused Failed (Err (stop.Descriptors f)) = Unserved f
Gives Good Unserved Refused Failed (Err stop.ReadFault) = Failed
Gives Good Unserved Refused Failed (Err stop.WriteFault) = ⊥
Gives Good Unserved Refused Failed (Err stop.NoMemory) = Unit {0}
Gives Good Unserved Refused Failed (Err (stop.Refused r)) = Refused r

-- the status and the line of a command that ran
abbrev pub status_of : {A : Type 0} → Result A Stop → Status
status_of (Ok x) = status.Done
status_of (Err e) = stop_status e

-- its line, where it did not end well
abbrev pub line_of : {A : Type 0} → Result A Stop → List ℕ
line_of (Ok x) = []
line_of (Err e) = stop_line e
