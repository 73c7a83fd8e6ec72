-- One answer to a command.
use Rattle.std.proofs.Common.{◌≡◌, ◌≢◌, ℕ, List, Option, Some, None, Result, Ok, Err, sym, ap, ◌∙◌, subst}
use Rattle.descriptor_set.specs.SetReading.{set_reading}
use Rattle.descriptor_set.specs.declared.fault.SetFault.{SetFault}
use Rattle.descriptor_set.specs.declared.fault.SetFault.TheVariants as unread
use Rattle.descriptors.specs.declared.file_set.FileSet.{FileSet}
use Rattle.gate_world.specs.declared.refusal.Refusal.TheVariants as table
use Rattle.gateway_run.specs.CommandOutput.{IsBindOutput, IsBindRefusal, IsOutput, IsRefusedBy, Prints, Refuses, body_in, output}
use Rattle.gateway_run.specs.Commands.{BindWords, Command, bind, check, routes}
use Rattle.gateway_run.specs.DeclaredApi.{Declares, IsUnserved}
use Rattle.gateway_run.specs.declared.descriptor_fault.DescriptorFault.{DescriptorFault}
use Rattle.gateway_run.specs.declared.descriptor_fault.DescriptorFault.TheVariants as faults
use Rattle.linked_api.specs.LinkedApi.{IsLinked}
use Rattle.linked_api.specs.declared.api.Api.{Api}
use Rattle.schema_link.specs.LinkAnswers.{IsLinkOf, faults as link_faults}
use Rattle.schema_link.specs.SetApi.{IsSetApi}
use Rattle.set_faults.specs.LinkFaults.{first_fault}
use Rattle.set_faults.specs.declared.fault.LinkFault.{LinkFault}
use Rattle.set_faults.specs.declared.fault.LinkFault.TheVariants as link
use Rattle.set_faults.specs.declared.fault.LinkKind.{LinkKind}
use Rattle.set_listing.specs.RouteLines.{IsRoutesText}
use Rattle.transcoding.specs.TranscodedRequest.{IsTranscoding, TranscodedRequest}
use Rattle.transcoding.specs.declared.refusal.RequestRefusal.{RequestRefusal}
use Rattle.transcoding.specs.declared.refusal.RequestRefusal.TheVariants as refusals

-- ---- one API is declared

-- a law: one API is what is linked of a set
abbrev pub OneLinked : Type 0
OneLinked = (set : FileSet) (a b : Api) → IsSetApi set a → IsSetApi set b → a ≡ b

-- the value of an answer
abbrev value_or : {A E : Type 0} → A → Result A E → A
value_or d (Ok x) = x
value_or d (Err e) = d

-- one value of two equal answers
ok_same : {A E : Type 0} (r : Result A E) (x y : A) → r ≡ Ok x → r ≡ Ok y → x ≡ y
ok_same {A = A} {E = E} r x y h k = let e : ◌≡◌ {A = Result A E} (Ok x) (Ok y) = sym h ∙ k in ap (value_or x) e

-- the bytes of a set declare one API at most
pub one_api : OneLinked → (bytes : List ℕ) (a b : Api) → Declares bytes a → Declares bytes b → a ≡ b
one_api law bytes a b d e =
    let same : d.set ≡ e.set = ok_same (set_reading bytes) d.set e.set d.read e.read in
    let own = subst (λ z. IsLinkOf z (Ok a)) same d.linked in
    law e.set a b own.1 e.linked.1

-- what bytes declare is linked
pub declared_is_linked : ((set : FileSet) (api : Api) → IsLinkOf set (Ok api) → IsLinked api)
    → (bytes : List ℕ) (api : Api) → Declares bytes api → IsLinked api
declared_is_linked law bytes api d = law d.set api d.linked

-- a law that is proved of these: bytes declare one API
abbrev pub OneApi : Type 0
OneApi = (bytes : List ℕ) (a b : Api) → Declares bytes a → Declares bytes b → a ≡ b

-- a law: what bytes declare is linked
abbrev pub AreLinked : Type 0
AreLinked = (bytes : List ℕ) (api : Api) → Declares bytes api → IsLinked api

-- a law: there is one text of the routes of an API
abbrev pub OneText : Type 0
OneText = (api : Api) (a b : List ℕ) → IsRoutesText api a → IsRoutesText api b → a ≡ b

-- ---- a set has one fault, or declares an API

-- a set that is linked has no fault
not_both : (set : FileSet) (k : LinkKind) (name second : List ℕ) (api : Api)
    → IsLinkOf set (Err (link.At k name second)) → IsLinkOf set (Ok api) → ⊥
not_both set k name second api f d = let none = ap first_fault d.0 in absurd (cc (f, none))

-- a set that has a fault declares nothing
pub unserved : (bytes : List ℕ) (f : DescriptorFault) (api : Api) → IsUnserved bytes f → Declares bytes api → ⊥
unserved bytes (faults.Wire w) api h d = absurd (cc (h, d.read))
unserved bytes (faults.NotUtf8 place) api h d = absurd (cc (h, d.read))
unserved bytes faults.TooLong api h d = absurd (cc (h, d.read))
unserved bytes (faults.Unlinked k name second) api h d =
    let same : d.set ≡ h.set = ok_same (set_reading bytes) d.set h.set d.read h.read in
    not_both h.set k name second api h.refused (subst (λ z. IsLinkOf z (Ok api)) same d.linked)

-- the fault of a set whose first fault of linking is this
abbrev of_first : Option LinkFault → DescriptorFault
of_first None = faults.TooLong
of_first (Some (link.At k name second)) = faults.Unlinked k name second
of_first (Some link.NoMemory) = faults.TooLong

-- the fault of an answer
abbrev fault_of : Result FileSet SetFault → DescriptorFault
fault_of (Ok set) = of_first (first_fault (link_faults set))
fault_of (Err (unread.Wire w)) = faults.Wire w
fault_of (Err (unread.NotUtf8 place)) = faults.NotUtf8 place
fault_of (Err _) = faults.TooLong

link_fault_is : (set : FileSet) (k : LinkKind) (name second : List ℕ) → IsLinkOf set (Err (link.At k name second))
    → fault_of (Ok set) ≡ faults.Unlinked k name second
link_fault_is set k name second f = ap of_first f

fault_is : (bytes : List ℕ) (f : DescriptorFault) → IsUnserved bytes f → fault_of (set_reading bytes) ≡ f
fault_is bytes (faults.Wire w) h = ap fault_of h
fault_is bytes (faults.NotUtf8 place) h = ap fault_of h
fault_is bytes faults.TooLong h = ap fault_of h
fault_is bytes (faults.Unlinked k name second) h = ap fault_of h.read ∙ link_fault_is h.set k name second h.refused

-- a set has one fault
pub one_fault : (bytes : List ℕ) (f g : DescriptorFault) → IsUnserved bytes f → IsUnserved bytes g → f ≡ g
one_fault bytes f g h k = sym (fault_is bytes f h) ∙ fault_is bytes g k

-- ---- a request means one thing

-- a law: a request means one gRPC request, or is refused for one cause, but for out of memory
abbrev pub OneMeaning : Type 0
OneMeaning = (api : Api) (method target body : List ℕ) (r s : Result TranscodedRequest RequestRefusal) → IsLinked api
    → IsTranscoding api method target body r → IsTranscoding api method target body s
    → r ≢ Err (refusals.Listed table.NoMemory) → s ≢ Err (refusals.Listed table.NoMemory) → r ≡ s

-- a request that is refused prints nothing
bind_apart : OneMeaning → (api : Api) → IsLinked api → (words : BindWords) (body out : List ℕ) (r : RequestRefusal)
    → IsBindRefusal api words body r → IsBindOutput api words body out → ⊥
bind_apart one api l words body out r h p =
    let e = one api words.method words.target body (Err r) (Ok p.request) l h.means p.means (λ i. h.told (cc (i))) (λ i. absurd (cc (i))) in
    absurd (cc (e))

-- it is refused for one cause
bind_cause : OneMeaning → (api : Api) → IsLinked api → (words : BindWords) (body : List ℕ) (q r : RequestRefusal)
    → IsBindRefusal api words body q → IsBindRefusal api words body r → q ≡ r
bind_cause one api l words body q r h k =
    let e = one api words.method words.target body (Err q) (Err r) l h.means k.means (λ i. h.told (cc (i))) (λ i. k.told (cc (i))) in
    cc (e)

-- one that is not prints one output
bind_prints : OneMeaning → (api : Api) → IsLinked api → (words : BindWords) (body out other : List ℕ)
    → IsBindOutput api words body out → IsBindOutput api words body other → out ≡ other
bind_prints one api l words body out other o p =
    let e = one api words.method words.target body (Ok o.request) (Ok p.request) l o.means p.means (λ i. absurd (cc (i))) (λ i. absurd (cc (i))) in
    let same : o.request ≡ p.request = cc (e) in
    o.printed ∙ ap output same ∙ sym p.printed

-- ---- said of a command

command_apart : OneMeaning → (api : Api) → IsLinked api → (c : Command) (input out : List ℕ) (r : RequestRefusal)
    → Refuses api c input r → Prints api c input out → ⊥
command_apart one api l (bind words) input out r h p = bind_apart one api l words (body_in input) out r h p
command_apart one api l (check set) input out r h p = h
command_apart one api l (routes set) input out r h p = h

command_cause : OneMeaning → (api : Api) → IsLinked api → (c : Command) (input : List ℕ) (q r : RequestRefusal)
    → Refuses api c input q → Refuses api c input r → q ≡ r
command_cause one api l (bind words) input q r h k = bind_cause one api l words (body_in input) q r h k
command_cause one api l (check set) input q r h k = absurd h
command_cause one api l (routes set) input q r h k = absurd h

command_prints : OneMeaning → OneText → (api : Api) → IsLinked api → (c : Command) (input out other : List ℕ)
    → Prints api c input out → Prints api c input other → out ≡ other
command_prints one text api l (bind words) input out other h k =
    bind_prints one api l words (body_in input) out other h k
command_prints one text api l (check set) input out other h k = h ∙ sym k
command_prints one text api l (routes set) input out other h k = text api out other h k

-- ---- said of a file

module _ (one : OneApi) (linked : AreLinked) (means : OneMeaning) where
  -- a command whose request is refused prints nothing
  pub apart : (file input out : List ℕ) (c : Command) (r : RequestRefusal) → IsRefusedBy file input c r
      → IsOutput file input c out → ⊥
  apart file input out c r h o =
      let same = one file o.api h.api o.declares h.declares in
      command_apart means h.api (linked file h.api h.declares) c input out r h.refuses
      (subst (λ z. Prints z c input out) same o.prints)

  -- it is refused for one cause
  pub one_refusal : (file input : List ℕ) (c : Command) (q r : RequestRefusal) → IsRefusedBy file input c q
      → IsRefusedBy file input c r → q ≡ r
  one_refusal file input c q r h k =
      let same = one file h.api k.api h.declares k.declares in
      command_cause means k.api (linked file k.api k.declares) c input q r
      (subst (λ z. Refuses z c input q) same h.refuses) k.refuses

  -- one that is not prints one output
  pub one_output : OneText → (file input out other : List ℕ) (c : Command) → IsOutput file input c out
      → IsOutput file input c other → out ≡ other
  one_output text file input out other c o p =
      let same = one file o.api p.api o.declares p.declares in
      command_prints means text p.api (linked file p.api p.declares) c input out other
      (subst (λ z. Prints z c input out) same o.prints) p.prints
