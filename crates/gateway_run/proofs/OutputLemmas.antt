-- What a command over a file's front says of the file.
use Rattle.std.proofs.Common.{◌≡◌, ◌≤◌, ◌<◌, ℕ, List, [], length, take, Option, Some, None, IfSome, Result, Ok, Err, OnOk, OnErr, refl, sym, ap, ◌∙◌, subst, arith, Vec, Bool, true, false, nat_le, nat_lt}
use Rattle.std.proofs.lemmas.Bool.Decides.{nat_tests}
use Rattle.std.proofs.lemmas.List.{append-nil, take_all, length-take-le}
use Rattle.gate_world.specs.Sinks.{Gains, GainsPart, GainsPrefix}
use Rattle.gate_world.specs.ToldFiles.{FileMap, IsMissing, told_file}
use Rattle.descriptor_set.specs.SetReading.{IsReading, set_reading}
use Rattle.descriptor_set.specs.declared.fault.SetFault.{SetFault}
use Rattle.descriptor_set.specs.declared.fault.SetFault.TheVariants as unread
use Rattle.descriptors.specs.declared.file_set.FileSet.{FileSet}
use Rattle.gateway_run.specs.CommandOutput.{IsOutput, IsRefusedBy, Prints, Refuses}
use Rattle.gateway_run.specs.Commands.{Command, set_of}
use Rattle.gateway_run.specs.DeclaredApi.{Declares, IsUnserved}
use Rattle.gateway_run.specs.DescriptorLines.{descriptor_line}
use Rattle.gateway_run.specs.InputReading.{FollowsInput, IsBind, IsServed, MayRead, OfInput}
use Rattle.gateway_run.specs.Outcomes.{Answers, AnswersTold, Gives, IsLine, Ran, status_of, stop_line, stop_status, unlinked_stop, unread_stop}
use Rattle.gateway_run.specs.RefusalLines.{refusal_line}
use Rattle.gateway_run.specs.declared.descriptor_fault.DescriptorFault.{DescriptorFault}
use Rattle.gateway_run.specs.declared.descriptor_fault.DescriptorFault.TheVariants as faults
use Rattle.transcoding.specs.declared.refusal.RequestRefusal.{RequestRefusal}
use Rattle.gateway_run.specs.declared.status.Stop.{Stop}
use Rattle.gateway_run.specs.declared.status.Stop.TheVariants as stop
use Rattle.gateway_run.specs.declared.status.Status.{Status}
use Rattle.gateway_run.specs.declared.status.Status.TheVariants as status
use Rattle.linked_api.specs.declared.api.Api.{Api}
use Rattle.schema_link.specs.LinkAnswers.{IsLinkOf}
use Rattle.set_faults.specs.declared.fault.LinkFault.{LinkFault}
use Rattle.set_faults.specs.declared.fault.LinkFault.TheVariants as link

-- ---- the front of a file that is longer than a set may be is too

too_long : (bytes : List ℕ) → nat_lt 16777216 (length bytes) ≡ true → set_reading bytes ≡ Err unread.TooLong
unfolding set_reading
too_long bytes h = rw h refl

longer : (n : ℕ) → 16777216 < n → nat_lt 16777216 n ≡ true
longer n h = grind (arith, nat_tests, h)

-- a file and its front are read alike
reading_front : (file bytes : List ℕ) → bytes ≡ take 16777217 file → set_reading bytes ≡ set_reading file
reading_front file bytes e =
    pick (nat_le (length file) 16777217) (le_true (length file) 16777217) (le_false (length file) 16777217)
  where
    le_true : (m n : ℕ) → nat_le m n ≡ true → m ≤ n
    le_true m n h = grind (arith, nat_tests, h)

    le_false : (m n : ℕ) → nat_le m n ≡ false → n < m
    le_false m n h = grind (arith, nat_tests, h)

    pick : (b : Bool) → (b ≡ true → length file ≤ 16777217) → (b ≡ false → 16777217 < length file)
        → set_reading bytes ≡ set_reading file
    pick true yes' no' = ap set_reading (e ∙ take_all 16777217 file (yes' refl))
    pick false yes' no' =
        let long : 16777217 < length file = no' refl in
        let size : length bytes ≡ 16777217 = ap length e ∙ length-take-le 16777217 file (omega (arith, long)) in
        too_long bytes (longer (length bytes) (omega (arith, size)))
        ∙ sym (too_long file (longer (length file) (omega (arith, long))))

file_declares : (file bytes : List ℕ) (api : Api) → bytes ≡ take 16777217 file → Declares bytes api → Declares file api
file_declares file bytes api e d = record {
  set = d.set;
  read = sym (reading_front file bytes e) ∙ d.read;
  linked = d.linked;
}

file_unserved : (file bytes : List ℕ) (f : DescriptorFault) → bytes ≡ take 16777217 file → IsUnserved bytes f
    → IsUnserved file f
file_unserved file bytes (faults.Wire w) e h = sym (reading_front file bytes e) ∙ h
file_unserved file bytes (faults.NotUtf8 place) e h = sym (reading_front file bytes e) ∙ h
file_unserved file bytes faults.TooLong e h = sym (reading_front file bytes e) ∙ h
file_unserved file bytes (faults.Unlinked kind name second) e h = record {
  set = h.set;
  read = sym (reading_front file bytes e) ∙ h.read;
  refused = h.refused;
}

-- ---- what bytes declare

-- what a command that stopped says of bytes
abbrev GivesApi : (Api → Type 0) → List ℕ → Stop → Type 0
GivesApi G bytes e = Gives {A = Api} G (IsUnserved bytes) (λ _. ⊥) ⊥ (Err e)

-- bytes that are not read as a set
pub unread_gives : (G : Api → Type 0) (bytes : List ℕ) (f : SetFault) (e : Stop) → IsReading (Err f) (set_reading bytes)
    → e ≡ unread_stop f
    → Gives {A = Api} G (IsUnserved bytes) (λ _. ⊥) ⊥ (Err e)
unread_gives G bytes (unread.Wire w) e h s = subst (GivesApi G bytes) (sym s) h
unread_gives G bytes (unread.NotUtf8 place) e h s = subst (GivesApi G bytes) (sym s) h
unread_gives G bytes unread.TooLong e h s = subst (GivesApi G bytes) (sym s) h
unread_gives G bytes unread.NoMemory e h s = subst (GivesApi G bytes) (sym s) tt

-- a set that is read, and is not linked
pub unlinked_gives : (G : Api → Type 0) (bytes : List ℕ) (set : FileSet) (f : LinkFault) (e : Stop)
    → set_reading bytes ≡ Ok set → IsLinkOf set (Err f) → e ≡ unlinked_stop f
    → Gives {A = Api} G (IsUnserved bytes) (λ _. ⊥) ⊥ (Err e)
unlinked_gives G bytes set (link.At kind name second) e r l s =
    subst (GivesApi G bytes) (sym s) (record { set = set; read = r; refused = l })
unlinked_gives G bytes set link.NoMemory e r l s = subst (GivesApi G bytes) (sym s) tt

-- ---- each way to end

unserved_told : (told : Option (List ℕ)) (bytes : List ℕ) (f : DescriptorFault)
    → IfSome told (λ file. bytes ≡ take 16777217 file) → IsUnserved bytes f → IfSome told (λ file. IsUnserved file f)
unserved_told None bytes f e h = tt
unserved_told (Some file) bytes f e h = file_unserved file bytes f e h

refused_told : (told : Option (List ℕ)) (bytes : List ℕ) (c : Command) (left : Option (List ℕ)) (r : RequestRefusal)
    (api : Api)
    → IfSome told (λ file. bytes ≡ take 16777217 file) → Declares bytes api
    → OfInput left (λ held. Refuses api c held r)
    → IfSome told (λ file. OfInput left (λ held. IsRefusedBy file held c r))
refused_told None bytes c left r api f d h = tt
refused_told (Some file) bytes c left r api f d h =
    (h.0, h.1, record { api = api; declares = file_declares file bytes api f d; refuses = h.2 })

output_told : (told : Option (List ℕ)) (bytes : List ℕ) (c : Command) (left : Option (List ℕ)) (out : List ℕ)
    (api : Api) → IfSome told (λ file. bytes ≡ take 16777217 file) → Declares bytes api
    → OfInput left (λ held. Prints api c held out)
    → IfSome told (λ file. OfInput left (λ held. IsOutput file held c out))
output_told None bytes c left out api f d p = tt
output_told (Some file) bytes c left out api f d p =
    (p.0, p.1, record { api = api; declares = file_declares file bytes api f d; prints = p.2 })

-- a set that is not linked
pub link_stops : {A B : Type 0} (G : A → Type 0) (H : B → Type 0) (R : RequestRefusal → Type 0) (F : Type 0)
    (told : Option (List ℕ)) (bytes : List ℕ)
    → IfSome told (λ file. bytes ≡ take 16777217 file) → (e : Stop)
    → Gives {A = A} G (IsUnserved bytes) (λ _. ⊥) ⊥ (Err e)
    → Gives {A = B} H (λ f. IfSome told (λ file. IsUnserved file f)) R F (Err e)
link_stops G H R F told bytes f stop.Usage g = absurd g
link_stops G H R F told bytes f (stop.Descriptors fault) g = unserved_told told bytes fault f g
link_stops G H R F told bytes f stop.ReadFault g = absurd g
link_stops G H R F told bytes f stop.WriteFault g = absurd g
link_stops G H R F told bytes f stop.NoMemory g = tt
link_stops G H R F told bytes f (stop.Refused r) g = absurd g

-- what a command prints of what bytes declare, said of the file
pub api_gives : {Z : Type 0} (F G : Type 0) (told : Option (List ℕ)) (bytes : List ℕ) (c : Command)
    (left : Option (List ℕ)) (api : Api)
    → IfSome told (λ file. bytes ≡ take 16777217 file) → Declares bytes api → (G → F) → (r : Result (Vec ℕ Z) Stop)
    → Gives (λ (out : Vec ℕ Z). OfInput left (λ held. Prints api c held out.items)) (λ _. ⊥)
    (λ q. OfInput left (λ held. Refuses api c held q)) G r
    → Gives (λ (out : Vec ℕ Z). IfSome told (λ file. OfInput left (λ held. IsOutput file held c out.items)))
    (λ q. IfSome told (λ file. IsUnserved file q))
    (λ q. IfSome told (λ file. OfInput left (λ held. IsRefusedBy file held c q))) F r
api_gives F G told bytes c left api f d k (Ok out) g = output_told told bytes c left out.items api f d g
api_gives F G told bytes c left api f d k (Err stop.Usage) g = absurd g
api_gives F G told bytes c left api f d k (Err (stop.Descriptors fault)) g = absurd g
api_gives F G told bytes c left api f d k (Err stop.ReadFault) g = k g
api_gives F G told bytes c left api f d k (Err stop.WriteFault) g = absurd g
api_gives F G told bytes c left api f d k (Err stop.NoMemory) g = tt
api_gives F G told bytes c left api f d k (Err (stop.Refused r)) g = refused_told told bytes c left r api f d g

-- a file whose front declares an API is served
served_told : (told : Option (List ℕ)) (bytes : List ℕ) (api : Api)
    → IfSome told (λ file. bytes ≡ take 16777217 file) → Declares bytes api → IfSome told IsServed
served_told None bytes api f d = tt
served_told (Some file) bytes api f d = (api, file_declares file bytes api f d)

-- `bind` of a set that was read and declares an API may read its input
pub may_read : (c : Command) (files : Option FileMap) (s : Status) (bytes : List ℕ) (api : Api)
    → (IsMissing files (set_of c) → ⊥) → IfSome (told_file files (set_of c)) (λ file. bytes ≡ take 16777217 file)
    → Declares bytes api → IsBind c → FollowsInput s → MayRead (Some c) files s
may_read c files s bytes api n f d b h = record {
  words = b.0;
  command_is = ap Some b.1;
  there = λ m. n (subst (λ z. IsMissing files z) (sym (ap set_of b.1)) m);
  served = subst (λ z. IfSome (told_file files z) IsServed) (ap set_of b.1) (served_told _ bytes api f d);
  status = h;
}

-- ---- what a status says

-- an input holds some bytes
some_input : (left : Option (List ℕ)) → OfInput left (λ _. Unit {0})
some_input None = ([], tt, tt)
some_input (Some held) = (held, refl, tt)

any_told : (told left : Option (List ℕ)) → IfSome told (λ file. OfInput left (λ _. Unit {0}))
any_told None left = tt
any_told (Some file) left = some_input left

fault_told : (told left : Option (List ℕ)) (f : DescriptorFault) → IfSome told (λ file. IsUnserved file f)
    → IfSome told (λ file. OfInput left
    (λ _. (g : DescriptorFault) × IsUnserved file g × (descriptor_line f ≡ descriptor_line g)))
fault_told None left f h = tt
fault_told (Some file) left f h = let i = some_input left in (i.0, i.1, (f, h, refl))

refusal_told : (told left : Option (List ℕ)) (c : Command) (r : RequestRefusal)
    → IfSome told (λ file. OfInput left (λ held. IsRefusedBy file held c r))
    → IfSome told (λ file. OfInput left
    (λ held. (q : RequestRefusal) × IsRefusedBy file held c q × (refusal_line r ≡ refusal_line q)))
refusal_told None left c r h = tt
refusal_told (Some file) left c r h = (h.0, h.1, (r, h.2, refl))

-- where the set is missing, a command stopped for that
missing_stops : {A : Type 0} (e : Stop) (Missing : Type 0)
    → (Missing → ◌≡◌ {A = Result A Stop} (Err e) (Err stop.ReadFault)) → Missing → stop_status e ≡ status.ReadFault
missing_stops {A = A} e Missing m h = ap (status_of {A = A}) (m h)

-- a command that stopped before it wrote
pub stopped : {A : Type 0} (G : A → Type 0) (F : Type 0) (c : Command) (files : Option FileMap)
    (left old new : Option (List ℕ)) (e : Stop)
    → Gives {A = A} G (λ f. IfSome (told_file files (set_of c)) (λ file. IsUnserved file f))
    (λ r. IfSome (told_file files (set_of c)) (λ file. OfInput left (λ held. IsRefusedBy file held c r))) F (Err e)
    → (IsMissing files (set_of c) → ◌≡◌ {A = Result A Stop} (Err e) (Err stop.ReadFault))
    → AnswersTold (Some c) files left (stop_status e) (stop_line e) old new
stopped G F c files left old new e g m =
    (stopped_told G F c (told_file files (set_of c)) left old new e g, missing_stops e (IsMissing files (set_of c)) m)
  where
    stopped_told : {A : Type 0} (G : A → Type 0) (F : Type 0) (c : Command) (told left old new : Option (List ℕ))
        (e : Stop)
        → Gives {A = A} G (λ f. IfSome told (λ file. IsUnserved file f))
        (λ r. IfSome told (λ file. OfInput left (λ held. IsRefusedBy file held c r))) F (Err e)
        → IfSome told (λ file. OfInput left (λ held. Answers file held c (stop_status e) (stop_line e) old new))
    stopped_told G F c told left old new stop.Usage g = absurd g
    stopped_told G F c told left old new (stop.Descriptors f) g = fault_told told left f g
    stopped_told G F c told left old new stop.ReadFault g = any_told told left
    stopped_told G F c told left old new stop.WriteFault g = absurd g
    stopped_told G F c told left old new stop.NoMemory g = any_told told left
    stopped_told G F c told left old new (stop.Refused r) g = refusal_told told left c r g

-- its output was written whole, or in part
pub wrote : (told left : Option (List ℕ)) (c : Command) (out : List ℕ) (old new : Option (List ℕ))
    → IfSome told (λ file. OfInput left (λ held. IsOutput file held c out)) → Gains old new out
    → IfSome told (λ file. OfInput left (λ held. (bytes : List ℕ) × IsOutput file held c bytes × Gains old new bytes))
wrote None left c out old new h g = tt
wrote (Some file) left c out old new h g = (h.0, h.1, (out, h.2, g))

-- the same of a part of it
pub wrote_part : (told left : Option (List ℕ)) (c : Command) (out : List ℕ) (old new : Option (List ℕ))
    → IfSome told (λ file. OfInput left (λ held. IsOutput file held c out)) → GainsPart old new out
    → IfSome told (λ file. OfInput left
    (λ held. (bytes : List ℕ) × IsOutput file held c bytes × GainsPart old new bytes))
wrote_part None left c out old new h g = tt
wrote_part (Some file) left c out old new h g = (h.0, h.1, (out, h.2, g))

-- ---- the line

-- nothing is gained where nothing is written
pub unwritten : (o : Option (List ℕ)) → Gains o o []
unwritten None = tt
unwritten (Some xs) = ap Some (sym (append-nil xs))

prefix_all : (old new : Option (List ℕ)) (bytes : List ℕ) → Gains old new bytes → GainsPrefix old new bytes
prefix_all old new bytes g =
    (length bytes, omega arith, subst (Gains old new) (sym (take_all (length bytes) bytes (omega arith))) g)

-- a part is a prefix
part_prefix : (old new : Option (List ℕ)) (bytes : List ℕ) → GainsPart old new bytes → GainsPrefix old new bytes
part_prefix old new bytes p = (p.0, omega (arith, p.1), p.2)

stop_is : (e : Stop) → IsLine (stop_status e) (stop_line e)
stop_is stop.Usage = refl
stop_is (stop.Descriptors f) = (f, refl)
stop_is stop.ReadFault = refl
stop_is stop.WriteFault = refl
stop_is stop.NoMemory = refl
stop_is (stop.Refused r) = (r, refl)

-- a run whose line was written, or not
pub told_line : {U E : Type 0} (e : Stop) (Failed : Type 0) (old new : Option (List ℕ)) (answers : List ℕ → Type 0)
    (r : Result U E)
    → OnOk r (Gains old new (stop_line e)) → OnErr r (GainsPart old new (stop_line e)) → OnErr r Failed
    → answers (stop_line e) → Ran (stop_status e) Failed old new answers
told_line e Failed old new answers (Ok u) g p f a = record {
  line = stop_line e;
  is = stop_is e;
  told = λ n. g;
  prefix = prefix_all old new (stop_line e) g;
  answer = a;
}
told_line e Failed old new answers (Err x) g p f a = record {
  line = stop_line e;
  is = stop_is e;
  told = λ n. absurd (n f);
  prefix = part_prefix old new (stop_line e) p;
  answer = a;
}

-- a run without a line
pub no_line : (Failed : Type 0) (old : Option (List ℕ)) (answers : List ℕ → Type 0) → answers []
    → Ran status.Done Failed old old answers
no_line Failed old answers a = record {
  line = [];
  is = refl;
  told = λ n. unwritten old;
  prefix = prefix_all old old [] (unwritten old);
  answer = a;
}
