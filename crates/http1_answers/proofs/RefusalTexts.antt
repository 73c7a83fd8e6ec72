-- The texts of refusals are ASCII.
use Rattle.std.proofs.Common.{◌≡◌, ◌<◌, ◌+◌, ◌%◌, ◌/◌, ◌==◌, nat_lt, ℕ, zero, suc, Bool, true, false, List, [], ◌∷◌, ◌++◌, refl, arith, if◌then◌else◌}
use Rattle.std.specs.Fmt.{decimal, digits, digits_onto, digit_glyph}
use Rattle.std.specs.List.{AllByRecursion, list_all}
use Rattle.std.specs.Str.{IsAscii}
use Rattle.std.specs.Str.Lossy.{utf8_lossy}
use Rattle.std.proofs.lemmas.Bool.{and_parts, ltb-true}
use Rattle.std.proofs.lemmas.Str.{IsUtf8-from_ascii, utf8_lossy-IsUtf8}
use Rattle.base.proofs.EachLemmas.{each_joined}
use Rattle.gate_world.specs.Refusals.{detail_text, refusal_text, row_of, value_fault_text}
use Rattle.gate_world.specs.declared.refusal.Refusal.{Refusal}
use Rattle.gate_world.specs.declared.refusal.Refusal.TheVariants as refusals
use Rattle.gate_world.specs.declared.value_fault.ValueFault.{ValueFault}
use Rattle.gate_world.specs.declared.value_fault.ValueFault.TheVariants as faults

-- each byte is ASCII
abbrev AreLow : List ℕ → Type 0
AreLow bytes = AllByRecursion (λ b. b < 128) bytes

ascii_of : (bytes : List ℕ) → AreLow bytes → IsAscii bytes
ascii_of [] h i = omega arith
ascii_of (b ∷ bytes) h zero = h.0
ascii_of (b ∷ bytes) h (suc i) = ascii_of bytes h.1 i

-- where a test says so
low_by : (bytes : List ℕ) → list_all (λ b. nat_lt b 128) bytes ≡ true → AreLow bytes
low_by [] h = tt
low_by (b ∷ bytes) h =
    let parts = and_parts (nat_lt b 128) (list_all (λ b. nat_lt b 128) bytes) h in
    (ltb-true b 128 parts.0, low_by bytes parts.1)

-- a digit is
glyph_low : (t : Bool) (d : ℕ) → d < 10 → (if t then 48 + d else 87 + d) < 128
glyph_low true d h = omega (arith, h)
glyph_low false d h = omega (arith, h)

one_low : (t : Bool) (a b : List ℕ) → AreLow a → AreLow b → AreLow (if t then a else b)
one_low true a b h k = h
one_low false a b h k = k

digits_low : (k n : ℕ) (acc : List ℕ) → AreLow acc → AreLow (digits_onto k 10 false n acc)
digits_low zero n acc h = h
digits_low (suc k) n acc h =
    let first : AreLow (digit_glyph false (n % 10) ∷ acc) =
    (glyph_low (nat_lt (n % 10) 10) (n % 10) (omega arith), h) in
    one_low (n / 10 == 0) (digit_glyph false (n % 10) ∷ acc)
    (digits_onto k 10 false (n / 10) (digit_glyph false (n % 10) ∷ acc)) first
    (digits_low k (n / 10) (digit_glyph false (n % 10) ∷ acc) first)

decimal_low : (n : ℕ) → AreLow (decimal n)
unfolding digits
decimal_low n = digits_low 64 n [] tt

-- what is wrong with a value
fault_low : (f : ValueFault) → AreLow (value_fault_text f)
fault_low faults.Syntax = low_by (value_fault_text faults.Syntax) refl
fault_low faults.UnknownKey = low_by (value_fault_text faults.UnknownKey) refl
fault_low faults.KeyTwice = low_by (value_fault_text faults.KeyTwice) refl
fault_low faults.OneofTwice = low_by (value_fault_text faults.OneofTwice) refl
fault_low faults.WrongShape = low_by (value_fault_text faults.WrongShape) refl
fault_low faults.BadNumber = low_by (value_fault_text faults.BadNumber) refl
fault_low faults.OutOfRange = low_by (value_fault_text faults.OutOfRange) refl
fault_low faults.BadEnum = low_by (value_fault_text faults.BadEnum) refl
fault_low faults.BadText = low_by (value_fault_text faults.BadText) refl
fault_low faults.NullInside = low_by (value_fault_text faults.NullInside) refl
fault_low faults.TooDeep = low_by (value_fault_text faults.TooDeep) refl
fault_low faults.Unknown = low_by (value_fault_text faults.Unknown) refl
fault_low faults.NotALeaf = low_by (value_fault_text faults.NotALeaf) refl
fault_low faults.Taken = low_by (value_fault_text faults.Taken) refl
fault_low faults.Twice = low_by (value_fault_text faults.Twice) refl
fault_low faults.NotUtf8 = low_by (value_fault_text faults.NotUtf8) refl

-- which value it is
detail_low : (n : ℕ) (f : ValueFault) → AreLow (detail_text (record { at = n; fault = f }))
detail_low n f =
    each_joined (λ b. b < 128) (decimal n) (58 ∷ 32 ∷ value_fault_text f) (decimal_low n)
    (omega arith, (omega arith, fault_low f))

-- a text with a value
with_detail : (cause : List ℕ) (n : ℕ) (f : ValueFault) → list_all (λ b. nat_lt b 128) cause ≡ true
    → AreLow (cause ++ detail_text (record { at = n; fault = f }))
with_detail cause n f h =
    each_joined (λ b. b < 128) cause (detail_text (record { at = n; fault = f })) (low_by cause h) (detail_low n f)

-- the text of a refusal
text_low : (r : Refusal) → AreLow (refusal_text r)
text_low refusals.HeadNotReadable = low_by (refusal_text refusals.HeadNotReadable) refl
text_low refusals.HeadTooLong = low_by (refusal_text refusals.HeadTooLong) refl
text_low refusals.VersionNotServed = low_by (refusal_text refusals.VersionNotServed) refl
text_low refusals.MethodNotServed = low_by (refusal_text refusals.MethodNotServed) refl
text_low refusals.HostField = low_by (refusal_text refusals.HostField) refl
text_low refusals.BodyLengthFields = low_by (refusal_text refusals.BodyLengthFields) refl
text_low refusals.PathUnknown = low_by (refusal_text refusals.PathUnknown) refl
text_low refusals.MethodNotAllowed = low_by (refusal_text refusals.MethodNotAllowed) refl
text_low refusals.ContentType = low_by (refusal_text refusals.ContentType) refl
text_low refusals.GrpcTimeout = low_by (refusal_text refusals.GrpcTimeout) refl
text_low (refusals.PathValue n f) = with_detail (row_of (refusals.PathValue n f)).cause n f refl
text_low (refusals.QueryParameter n f) = with_detail (row_of (refusals.QueryParameter n f)).cause n f refl
text_low refusals.UpstreamNotUsable = low_by (refusal_text refusals.UpstreamNotUsable) refl
text_low refusals.BodyFraming = low_by (refusal_text refusals.BodyFraming) refl
text_low refusals.BodyTooLong = low_by (refusal_text refusals.BodyTooLong) refl
text_low (refusals.BodyAt n f) = with_detail (row_of (refusals.BodyAt n f)).cause n f refl
text_low refusals.MessageTooLong = low_by (refusal_text refusals.MessageTooLong) refl
text_low refusals.NoMemory = low_by (refusal_text refusals.NoMemory) refl

-- so it stays as it is
pub text_stays : (r : Refusal) → utf8_lossy (refusal_text r) ≡ refusal_text r
text_stays r =
    utf8_lossy-IsUtf8 (refusal_text r) (IsUtf8-from_ascii (refusal_text r) (ascii_of (refusal_text r) (text_low r)))
