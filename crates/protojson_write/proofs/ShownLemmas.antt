-- The text of a value and of a field, where there is one, and what is answered within a limit.
use Rattle.std.proofs.Common.{◌≡◌, ◌+◌, ◌-◌, ◌≤◌, ◌++◌, ℕ, Bool, true, false, cond, List, length, length-append, Option, Some, None, Result, Ok, Err, IfErr, arith, refl, ap, ap₂, sym, ◌∙◌}
use Rattle.std.specs.Prelude.{is_some}
use Rattle.message_types.specs.Types.{field_in, fields_of}
use Rattle.message_types.specs.declared.fields.Field.{Field}
use Rattle.message_types.specs.declared.messages.TypeId.{TypeId}
use Rattle.message_types.specs.declared.messages.Types.{Types}
use Rattle.schema.specs.Value.{slot_at}
use Rattle.schema.specs.declared.value.Slot.{Slot, out-Slot}
use Rattle.schema.specs.declared.value.Value.{Value}
use Rattle.protojson_write.specs.JsonOutput.{field_text, json_text, part_text, text_within}
use Rattle.protojson_write.specs.KnownParts.{KnownTexts, field_parts, have_texts, parts_within, slot_parts}
use Rattle.protojson_write.specs.ShowAnswers.{IsRefusal, IsShown, IsStop}
use Rattle.protojson_write.specs.declared.fault.ShowFault.{ShowFault}
use Rattle.protojson_write.specs.declared.fault.ShowFault.TheVariants.{Unprintable, TooLong, NoMemory}

-- an answer of a test is there where it passes
if_some : (b : Bool) (t : List ℕ) → is_some (cond b (Some t) None) ≡ b
if_some true t = refl
if_some false t = refl

if_there : (b : Bool) (t : List ℕ) → is_some (cond b (Some t) None) ≡ true → cond b (Some t) None ≡ Some t
if_there true t h = refl
if_there false t h = absurd cc

-- a text that is there is one
pub there : (o : Option (List ℕ)) → is_some o ≡ true → (text : List ℕ) × (o ≡ Some text)
there None h = absurd cc
there (Some t) h = (t, refl)

-- a message has a text where its parts have
pub whole_some : (texts : KnownTexts) (types : Types) (id : TypeId) (v : Value)
    → have_texts texts (parts_within 100 types id v) ≡ is_some (json_text texts types id None v)
unfolding json_text
whole_some texts types id v =
    sym (if_some (have_texts texts (parts_within 100 types id v)) (text_within texts 100 types id v))

-- and then it is this
pub whole_text : (texts : KnownTexts) (types : Types) (k : ℕ) (id : TypeId) (v : Value) → k ≡ 100
    → is_some (json_text texts types id None v) ≡ true
    → json_text texts types id None v ≡ Some (text_within texts k types id v)
unfolding json_text
whole_text texts types k id v e h =
    rw e (if_there (have_texts texts (parts_within 100 types id v)) (text_within texts 100 types id v) h)

-- a field has a text where its parts have
pub field_some : (texts : KnownTexts) (types : Types) (f : Field) (s : Slot)
    → have_texts texts (slot_parts (parts_within 99 types) f.kind (out-Slot s))
    ≡ is_some (field_text texts 99 types (Some f) (Some s))
field_some texts types f s =
    sym (if_some (have_texts texts (field_parts (parts_within 99 types) (Some f) s))
    (part_text (text_within texts 99 types) types (Some f) (Some s)))

-- the text of a part is that of its field
pub part_some : (texts : KnownTexts) (types : Types) (id : TypeId) (n : ℕ) (v : Value) (fs : List Field)
    (o : Option Field) (s : Option Slot) → fs ≡ fields_of types id → o ≡ field_in fs n → s ≡ slot_at v n
    → is_some (field_text texts 99 types o s) ≡ is_some (json_text texts types id (Some n) v)
unfolding json_text
part_some texts types id n v fs o s a b d =
    ap₂ (λ x y. is_some (field_text texts 99 types x y)) (b ∙ ap (λ x. field_in x n) a) d

field_there : (texts : KnownTexts) (types : Types) (o : Option Field) (s : Option Slot)
    → is_some (field_text texts 99 types o s) ≡ true
    → field_text texts 99 types o s ≡ Some (part_text (text_within texts 99 types) types o s)
field_there texts types None s h = absurd cc
field_there texts types (Some f) None h = refl
field_there texts types (Some f) (Some s) h =
    if_there (have_texts texts (field_parts (parts_within 99 types) (Some f) s))
    (part_text (text_within texts 99 types) types (Some f) (Some s)) h

-- and then it is this
pub one_field : (texts : KnownTexts) (types : Types) (k : ℕ) (id : TypeId) (n : ℕ) (v : Value) (fs : List Field)
    (o : Option Field) (s : Option Slot) → k ≡ 100 → fs ≡ fields_of types id → o ≡ field_in fs n → s ≡ slot_at v n
    → is_some (json_text texts types id (Some n) v) ≡ true
    → json_text texts types id (Some n) v ≡ Some (part_text (text_within texts (k - 1) types) types o s)
unfolding json_text
one_field texts types k id n v fs o s e a b d h =
    let level : k - 1 ≡ 99 = omega (arith, e) in
    let found : field_in (fields_of types id) n ≡ o = ap (λ x. field_in x n) (sym a) ∙ sym b in
    field_there texts types (field_in (fields_of types id) n) (slot_at v n) h ∙
    rw level (ap₂ (λ x y. Some (part_text (text_within texts 99 types) types x y)) found (sym d))

-- what stands within the limit is shown
pub shown_within : (answer : Option (List ℕ)) (text old new : List ℕ) (start limit : ℕ) → answer ≡ Some text
    → start ≡ length old → new ≡ old ++ text
    → length new ≤ start + limit → IsShown answer limit old new
shown_within answer text old new start limit a s n h =
    let len : length new ≡ length old + length text = ap length n ∙ length-append old text in
    rw a (omega (arith, len, s, h), n)

-- what stops is refused
pub stop_refused : (answer : Option (List ℕ)) (text old : List ℕ) (start limit : ℕ) (f : ShowFault)
    → answer ≡ Some text → start ≡ length old
    → IsStop (start + limit) (old ++ text) f → IsRefusal answer limit f
stop_refused answer text old start limit Unprintable a s h = absurd h
stop_refused answer text old start limit TooLong a s h = rw a (omega (arith, length-append old text, s, h))
stop_refused answer text old start limit NoMemory a s h = rw a tt

-- the same of what is answered
pub stops_refused : {T : Type 0} (r : Result T ShowFault) (answer : Option (List ℕ)) (text old bytes : List ℕ)
    (start limit : ℕ) → answer ≡ Some text → start ≡ length old
    → bytes ≡ old ++ text → IfErr r (IsStop (start + limit) bytes) → IfErr r (IsRefusal answer limit)
stops_refused (Ok x) answer text old bytes start limit a s e h = tt
stops_refused (Err f) answer text old bytes start limit a s e h =
    stop_refused answer text old start limit f a s (rw (sym e) h)
