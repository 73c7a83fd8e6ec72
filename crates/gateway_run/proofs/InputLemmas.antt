-- The body of a request, read from an input piece by piece.
use Rattle.std.proofs.Common.{◌≡◌, ◌≤◌, ◌<◌, ◌++◌, ℕ, List, [], ◌∷◌, length, take, drop, Option, Some, None, IfSome, Result, Ok, Err, refl, sym, ap, ◌∙◌, subst, arith, Vec, append-nil, append_assoc}
use Rattle.std.specs.List.{AllByRecursion}
use Rattle.std.proofs.lemmas.List.{take_all, take-append-le, length-take, drop_all}
use Rattle.gate_world.specs.Sources.{TakesTold}
use Rattle.gate_world.specs.declared.source.Read.{Read}
use Rattle.gate_world.specs.declared.source.Read.TheVariants as read
use Rattle.gateway_run.specs.CommandOutput.{IsBindOutput, IsBindRefusal, Prints, Refuses, body_in}
use Rattle.gateway_run.specs.Commands.{BindWords, Command, bind, check, routes}
use Rattle.gateway_run.specs.InputReading.{FollowsInput, IsBind, IsBodyOf, Leaves, LosesBody, LosesFront, OfInput}
use Rattle.gateway_run.specs.Outcomes.{Gives, StopsFor, status_of, stop_status}
use Rattle.gateway_run.specs.declared.descriptor_fault.DescriptorFault.{DescriptorFault}
use Rattle.gateway_run.specs.declared.status.Stop.{Stop}
use Rattle.gateway_run.specs.declared.status.Stop.TheVariants as stop
use Rattle.gate_world.specs.declared.refusal.Refusal.TheVariants as table
use Rattle.linked_api.specs.declared.api.Api.{Api}
use Rattle.transcoding.specs.TranscodedRequest.{IsTranscoding, TranscodedRequest}
use Rattle.transcoding.specs.declared.refusal.RequestRefusal.{RequestRefusal}
use Rattle.transcoding.specs.declared.refusal.RequestRefusal.TheVariants as refusals

-- ---- bytes that were read, and what is left

-- what an input held are the bytes that were read, and what is left of it
abbrev pub Splits : Option (List ℕ) → Option (List ℕ) → List ℕ → Type 0
Splits None new bytes = Unit {0}
Splits (Some held) new bytes = (rest : List ℕ) × (new ≡ Some rest) × (held ≡ bytes ++ rest)

-- nothing was read yet
pub unread_splits : (told : Option (List ℕ)) → Splits told told []
unread_splits None = tt
unread_splits (Some held) = (held, refl, refl)

-- what a read takes of a told rest
taken_of : (rest piece : List ℕ) (n : ℕ) (was new : Option (List ℕ)) (r : Read) → was ≡ Some rest → r ≡ read.Bytes n
    → TakesTold was new r piece → (left : List ℕ) × (new ≡ Some left) × (rest ≡ take n piece ++ left)
taken_of rest piece n was new r e b t =
    pick new (subst (λ z. TakesTold z new (read.Bytes n) piece) e (subst (λ z. TakesTold was new z piece) b t))
  where
    pick : (o : Option (List ℕ)) → TakesTold (Some rest) o (read.Bytes n) piece
        → (left : List ℕ) × (o ≡ Some left) × (rest ≡ take n piece ++ left)
    pick None u = absurd u
    pick (Some left) u = (left, refl, u)

-- a piece that was read goes on with the bytes
pub goes_on : (told was new : Option (List ℕ)) (bytes more piece tail : List ℕ) (n : ℕ) (r : Read)
    → Splits told was bytes → TakesTold was new r piece → r ≡ read.Bytes n → n ≤ length piece
    → more ≡ bytes ++ take n (piece ++ tail) → Splits told new more
goes_on None was new bytes more piece tail n r s t b l m = tt
goes_on (Some held) was new bytes more piece tail n r s t b l m =
    let u = taken_of s.0 piece n was new r s.1 b t in
    let grown : more ≡ bytes ++ take n piece = m ∙ ap (λ z. bytes ++ z) (take-append-le n piece tail l) in (
      u.0,
      u.1,
      s.2 ∙ ap (λ z. bytes ++ z) u.2 ∙ sym (append_assoc bytes (take n piece) u.0) ∙ sym (ap (λ z. z ++ u.0) grown),
    )

-- a read that failed left what was left
pub failed_splits : (told was new : Option (List ℕ)) (bytes piece : List ℕ) (r : Read) → Splits told was bytes
    → TakesTold was new r piece → r ≡ read.Failed → Splits told new bytes
failed_splits None was new bytes piece r s t e = tt
failed_splits (Some held) was new bytes piece r s t e =
    pick new (subst (λ z. TakesTold z new read.Failed piece) s.1 (subst (λ z. TakesTold was new z piece) e t))
  where
    pick : (o : Option (List ℕ)) → TakesTold (Some s.0) o read.Failed piece
        → (rest : List ℕ) × (o ≡ Some rest) × (held ≡ bytes ++ rest)
    pick None u = absurd u
    pick (Some left) u = (s.0, ap Some u, s.2)

-- at the end nothing is left
pub end_splits : (told was new : Option (List ℕ)) (bytes piece : List ℕ) (r : Read) → Splits told was bytes
    → TakesTold was new r piece → r ≡ read.End → 0 < length piece
    → IfSome told (λ held. (held ≡ bytes) × (new ≡ Some []))
end_splits None was new bytes piece r s t e l = tt
end_splits (Some held) was new bytes piece r s t e l =
    pick new (subst (λ z. TakesTold z new read.End piece) s.1 (subst (λ z. TakesTold was new z piece) e t))
  where
    pick : (o : Option (List ℕ)) → TakesTold (Some s.0) o read.End piece → (held ≡ bytes) × (o ≡ Some [])
    pick None u = absurd u
    pick (Some left) u =
        let none : s.0 ≡ [] = u.1 l in (s.2 ∙ ap (λ z. bytes ++ z) none ∙ append-nil bytes, ap Some (u.0 ∙ none))

-- ---- what was read is a front

drop_front : (xs ys : List ℕ) → drop (length xs) (xs ++ ys) ≡ ys
drop_front [] ys = refl
drop_front (x ∷ xs) ys = drop_front xs ys

-- an input whose bytes were read lost a front
pub lost : (told new : Option (List ℕ)) (bytes : List ℕ) → length bytes ≤ 1048577 → Splits told new bytes
    → IfSome told (λ held. LosesFront held new)
lost None new bytes l s = tt
lost (Some held) new bytes l s =
    (length bytes, l, s.1 ∙ ap Some (sym (ap (drop (length bytes)) s.2 ∙ drop_front bytes s.0)))

-- the body of an input that was read, and what is left
abbrev pub IsRead : Option (List ℕ) → Option (List ℕ) → List ℕ → Type 0
IsRead told new bytes = IsBodyOf told bytes × IfSome told (λ held. LosesBody held new)

short_body : (bytes : List ℕ) → length bytes ≤ 1048577 → bytes ≡ body_in bytes
short_body bytes l = sym (take_all 1048577 bytes l)

-- where nothing is left, the bytes are the body
pub whole : (told new : Option (List ℕ)) (bytes : List ℕ) → length bytes ≤ 1048577
    → IfSome told (λ held. (held ≡ bytes) × (new ≡ Some [])) → IsRead told new bytes
whole None new bytes l h = ((bytes, tt, short_body bytes l), tt)
whole (Some held) new bytes l h =
    let size : length held ≤ 1048577 = omega (arith, l, ap length h.0) in (
      (held, refl, sym h.0 ∙ short_body held size),
      h.1 ∙ ap Some (sym (drop_all 1048577 held size)),
    )

-- where so many bytes were read, they are the body
pub full : (told new : Option (List ℕ)) (bytes : List ℕ) → length bytes ≡ 1048577 → Splits told new bytes
    → IsRead told new bytes
full None new bytes l s = ((bytes, tt, short_body bytes (omega (arith, l))), tt)
full (Some held) new bytes l s = (
  (
    held,
    refl,
    sym (ap (take 1048577) s.2 ∙ take-append-le 1048577 bytes s.0 (omega (arith, l))
        ∙ sym (short_body bytes (omega (arith, l)))),
  ),
  s.1 ∙ ap Some (sym (ap (drop 1048577) s.2 ∙ ap (λ n. drop n (bytes ++ s.0)) (sym l) ∙ drop_front bytes s.0)),
)

-- ---- what a command leaves

-- a command that stopped before its input was read
pub kept : {A : Type 0} (G : A → Type 0) (U : DescriptorFault → Type 0) (F : Type 0) (c : Command)
    (o : Option (List ℕ)) (e : Stop) → Gives {A = A} G U (λ _. ⊥) F (Err e) → Leaves (Some c) (stop_status e) o o
kept G U F (bind w) None e g = tt
kept G U F (bind w) (Some held) stop.Usage g = absurd g
kept G U F (bind w) (Some held) (stop.Descriptors f) g = refl
kept G U F (bind w) (Some held) stop.ReadFault g = (0, omega arith, refl)
kept G U F (bind w) (Some held) stop.WriteFault g = absurd g
kept G U F (bind w) (Some held) stop.NoMemory g = (0, omega arith, refl)
kept G U F (bind w) (Some held) (stop.Refused r) g = absurd g
kept G U F (check set) o e g = refl
kept G U F (routes set) o e g = refl

-- `bind` stopped while its input was read
pub cut : {A : Type 0} (G : A → Type 0) (F : Type 0) (w : BindWords) (told new : Option (List ℕ)) (e : Stop)
    → Gives {A = A} G (λ _. ⊥) (λ _. ⊥) F (Err e) → IfSome told (λ held. LosesFront held new)
    → Leaves (Some (bind w)) (stop_status e) told new
cut G F w None new e g h = tt
cut G F w (Some held) new stop.Usage g h = absurd g
cut G F w (Some held) new (stop.Descriptors f) g h = absurd g
cut G F w (Some held) new stop.ReadFault g h = h
cut G F w (Some held) new stop.WriteFault g h = absurd g
cut G F w (Some held) new stop.NoMemory g h = h
cut G F w (Some held) new (stop.Refused r) g h = absurd g

-- the body of a request that has an output is within its limit, and so is all of the input
none_left : (api : Api) (w : BindWords) (body held out : List ℕ) (new : Option (List ℕ)) → IsBindOutput api w body out
    → body ≡ body_in held → LosesBody held new → new ≡ Some []
none_left api w body held out new p e l =
    let size : length (body_in held) ≤ 1048576 = subst (λ z. length z ≤ 1048576) e p.means.message.short in
    l ∙ ap Some (drop_all 1048577 held (omega (arith, size, length-take 1048577 held)))

-- what `bind` leaves of an input whose body was read
pub leaves : {Z : Type 0} (api : Api) (w : BindWords) (body : List ℕ) (told new : Option (List ℕ))
    → IsRead told new body → (r : Result (Vec ℕ Z) Stop)
    → Gives (λ (out : Vec ℕ Z). IsBindOutput api w body out.items) (λ _. ⊥) (IsBindRefusal api w body) ⊥ r
    → Leaves (Some (bind w)) (status_of r) told new
leaves api w body None new b r g = tt
leaves api w body (Some held) new b (Ok out) g =
    none_left api w body held out.items new g (b.0.2 ∙ ap body_in b.0.1) b.1
leaves api w body (Some held) new b (Err stop.Usage) g = absurd g
leaves api w body (Some held) new b (Err (stop.Descriptors f)) g = absurd g
leaves api w body (Some held) new b (Err stop.ReadFault) g = absurd g
leaves api w body (Some held) new b (Err stop.WriteFault) g = absurd g
leaves api w body (Some held) new b (Err stop.NoMemory) g = (1048577, omega arith, b.1)
leaves api w body (Some held) new b (Err (stop.Refused r)) g = b.1

-- what `bind` gives for a body, said of the input
pub bind_gives : {Z : Type 0} (F : Type 0) (api : Api) (w : BindWords) (body : List ℕ) (told : Option (List ℕ))
    → IsBodyOf told body → (r : Result (Vec ℕ Z) Stop)
    → Gives (λ (out : Vec ℕ Z). IsBindOutput api w body out.items) (λ _. ⊥) (IsBindRefusal api w body) ⊥ r
    → Gives (λ (out : Vec ℕ Z). OfInput told (λ held. Prints api (bind w) held out.items)) (λ _. ⊥)
    (λ q. OfInput told (λ held. Refuses api (bind w) held q)) F r
bind_gives F api w body told b (Ok out) g = (b.0, b.1, subst (λ z. IsBindOutput api w z out.items) b.2 g)
bind_gives F api w body told b (Err stop.Usage) g = absurd g
bind_gives F api w body told b (Err (stop.Descriptors f)) g = absurd g
bind_gives F api w body told b (Err stop.ReadFault) g = absurd g
bind_gives F api w body told b (Err stop.WriteFault) g = absurd g
bind_gives F api w body told b (Err stop.NoMemory) g = tt
bind_gives F api w body told b (Err (stop.Refused r)) g = (b.0, b.1, subst (λ z. IsBindRefusal api w z r) b.2 g)

-- `bind` stopped while its input was read, said of what it gives
pub cut_gives : {A B : Type 0} (G : A → Type 0) (H : B → Type 0) (R : RequestRefusal → Type 0) (F : Type 0) (e : Stop)
    → Gives {A = A} G (λ _. ⊥) (λ _. ⊥) F (Err e) → Gives {A = B} H (λ _. ⊥) R F (Err e)
cut_gives G H R F stop.Usage g = absurd g
cut_gives G H R F (stop.Descriptors f) g = absurd g
cut_gives G H R F stop.ReadFault g = g
cut_gives G H R F stop.WriteFault g = absurd g
cut_gives G H R F stop.NoMemory g = tt
cut_gives G H R F (stop.Refused r) g = absurd g

-- a command that came so far may have read its input
pub follows : {A : Type 0} (G : A → Type 0) (R : RequestRefusal → Type 0) (F : Type 0) (r : Result A Stop)
    → Gives G (λ _. ⊥) R F r → FollowsInput (status_of r)
follows G R F (Ok x) g = tt
follows G R F (Err stop.Usage) g = absurd g
follows G R F (Err (stop.Descriptors f)) g = absurd g
follows G R F (Err stop.ReadFault) g = tt
follows G R F (Err stop.WriteFault) g = absurd g
follows G R F (Err stop.NoMemory) g = tt
follows G R F (Err (stop.Refused r)) g = tt

-- ---- what `bind` gives of a transcoded request

-- the messages of a request are within their limit
pub short_messages : (api : Api) (method target body : List ℕ) (t : TranscodedRequest)
    → IsTranscoding api method target body (Ok t) → AllByRecursion (λ m. length m ≤ 1048576) t.messages
short_messages api method target body t h =
    subst (λ (z : TranscodedRequest). AllByRecursion (λ m. length m ≤ 1048576) z.messages) (sym h.request_is)
    (h.short, tt)

-- a request that is not transcoded
pub refused : {A : Type 0} (G : A → Type 0) (api : Api) (w : BindWords) (body : List ℕ) (r : RequestRefusal) (e : Stop)
    → IsTranscoding api w.method w.target body (Err r) → StopsFor r e
    → Gives {A = A} G (λ _. ⊥) (IsBindRefusal api w body) ⊥ (Err e)
refused {A = A} G api w body r e h s = pick r h s
  where
    Told : Stop → Type 0
    Told z = Gives {A = A} G (λ _. ⊥) (IsBindRefusal api w body) ⊥ (Err z)

    pick : (q : RequestRefusal) → IsTranscoding api w.method w.target body (Err q) → StopsFor q e → Told e
    pick (refusals.Listed table.NoMemory) h s = subst Told (sym (s.memory refl)) tt
    pick q h s =
        let no : q ≡ refusals.Listed table.NoMemory → ⊥ = λ i. absurd (cc i) in
        subst Told (sym (s.refused no)) (record { means = h; told = no })

-- ---- said of a command

-- what a command that reads nothing prints holds for any input
pub reads_nothing : (told : Option (List ℕ)) (Is : List ℕ → Type 0) → ((held : List ℕ) → Is held) → OfInput told Is
reads_nothing None Is h = ([], tt, h [])
reads_nothing (Some held) Is h = (held, refl, h held)

-- what `bind` gives, said of a command that is it
pub of_bind : {Z : Type 0} (c : Command) (w : BindWords) (F : Type 0) (told : Option (List ℕ)) (api : Api) → c ≡ bind w
    → (r : Result (Vec ℕ Z) Stop)
    → Gives (λ (out : Vec ℕ Z). OfInput told (λ held. Prints api (bind w) held out.items)) (λ _. ⊥)
    (λ q. OfInput told (λ held. Refuses api (bind w) held q)) F r
    → Gives (λ (out : Vec ℕ Z). OfInput told (λ held. Prints api c held out.items)) (λ _. ⊥)
    (λ q. OfInput told (λ held. Refuses api c held q)) (IsBind c × F) r
of_bind {Z = Z} c w F told api e r g = subst Given (sym e) (pick r g)
  where
    Given : Command → Type 0
    Given z =
        Gives (λ (out : Vec ℕ Z). OfInput told (λ held. Prints api z held out.items)) (λ _. ⊥)
        (λ q. OfInput told (λ held. Refuses api z held q)) (IsBind z × F) r

    pick : (r : Result (Vec ℕ Z) Stop)
        → Gives (λ (out : Vec ℕ Z). OfInput told (λ held. Prints api (bind w) held out.items)) (λ _. ⊥)
        (λ q. OfInput told (λ held. Refuses api (bind w) held q)) F r
        → Gives (λ (out : Vec ℕ Z). OfInput told (λ held. Prints api (bind w) held out.items)) (λ _. ⊥)
        (λ q. OfInput told (λ held. Refuses api (bind w) held q)) (IsBind (bind w) × F) r
    pick (Ok out) g = g
    pick (Err stop.Usage) g = absurd g
    pick (Err (stop.Descriptors f)) g = absurd g
    pick (Err stop.ReadFault) g = ((w, refl), g)
    pick (Err stop.WriteFault) g = absurd g
    pick (Err stop.NoMemory) g = tt
    pick (Err (stop.Refused q)) g = g
