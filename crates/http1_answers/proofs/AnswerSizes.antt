-- How many bytes an answer has.
use Rattle.std.proofs.Common.{◌≤◌, ◌+◌, ◌*◌, ◌/◌, ◌%◌, ◌==◌, ◌||◌, ℕ, zero, suc, Bool, true, false, List, [], ◌∷◌, ◌++◌, length, refl, arith, codes, length-append, if◌then◌else◌}
use Rattle.std.specs.Char.{digit_char}
use Rattle.std.specs.Fmt.{decimal, digits, digits_onto, digit_glyph}
use Rattle.std.proofs.lemmas.Bool.{leb-true}
use Rattle.gate_world.specs.Refusals.{detail_text, refusal_text, row_of, value_fault_text}
use Rattle.gate_world.specs.declared.refusal.Refusal.{Refusal}
use Rattle.gate_world.specs.declared.refusal.Refusal.TheVariants as refusals
use Rattle.gate_world.specs.declared.value_fault.ValueFault.{ValueFault}
use Rattle.gate_world.specs.declared.value_fault.ValueFault.TheVariants as faults
use Rattle.json_events.specs.StringOutput.{control_escape, escape_of, must_escape, escaped_byte, escaped, json_string}
use Rattle.http1_answers.specs.AnswerLines.{field_line, line_end, phrase_of, status_line, status_start}
use Rattle.http1_answers.specs.RefusalAnswers.{allow_line, bare_answer, bare_lines, close_line, refusal_answer, refusal_body, text_lines, told_answer, told_head, told_lines}

-- ---- parts

-- two parts
joined : (a b : List ℕ) (m n : ℕ) → length a ≤ m → length b ≤ n → length (a ++ b) ≤ m + n
joined a b m n h k = omega (arith, length-append a b, h, k)

-- one of two
either : (t : Bool) (a b : List ℕ) (n : ℕ) → length a ≤ n → length b ≤ n → length (if t then a else b) ≤ n
either true a b n h k = h
either false a b n h k = k

-- a number has at most 64 digits
digits_short : (k n : ℕ) (acc : List ℕ) → length (digits_onto k 10 false n acc) ≤ k + length acc
digits_short zero n acc = omega arith
digits_short (suc k) n acc =
    either (n / 10 == 0) (digit_glyph false (n % 10) ∷ acc)
    (digits_onto k 10 false (n / 10) (digit_glyph false (n % 10) ∷ acc)) (suc k + length acc) (omega arith)
    (omega (arith, digits_short k (n / 10) (digit_glyph false (n % 10) ∷ acc)))

decimal_short : (n : ℕ) → length (decimal n) ≤ 64
unfolding digits
decimal_short n = digits_short 64 n []

-- a control character has at most 6
control_short : (b : ℕ) → length (control_escape b) ≤ 6
control_short b = by (b == 8) (b == 9) (b == 10) (b == 12) (b == 13)
  where
    by : (t u v w x : Bool)
        → length (if t then 92 ∷ 98 ∷ []
        else (if u then 92 ∷ 116 ∷ []
        else (if v then 92 ∷ 110 ∷ []
        else (if w then 92 ∷ 102 ∷ []
        else (if x then 92 ∷ 114 ∷ []
        else 92 ∷ 117 ∷ 48 ∷ 48 ∷ digit_char (b / 16) ∷ digit_char (b % 16) ∷ []))))) ≤ 6
    by true u v w x = omega arith
    by false true v w x = omega arith
    by false false true w x = omega arith
    by false false false true x = omega arith
    by false false false false true = omega arith
    by false false false false false = omega arith

-- a byte of a JSON string has at most 6
byte_short : (b : ℕ) → length (escaped_byte b) ≤ 6
byte_short b =
    either (must_escape b) (escape_of b) (b ∷ []) 6
    (either (b == 34 || b == 92) (92 ∷ b ∷ []) (control_escape b) 6 (omega arith) (control_short b)) (omega arith)

escaped_short : (bytes : List ℕ) → length (escaped bytes) ≤ 6 * length bytes
escaped_short [] = omega arith
escaped_short (b ∷ bytes) =
    omega (arith, length-append (escaped_byte b) (escaped bytes), byte_short b, escaped_short bytes)

-- ---- the text of a refusal

-- what is wrong with a value
fault_short : (f : ValueFault) → length (value_fault_text f) ≤ 16
fault_short faults.Syntax = leb-true _ _ refl
fault_short faults.UnknownKey = leb-true _ _ refl
fault_short faults.KeyTwice = leb-true _ _ refl
fault_short faults.OneofTwice = leb-true _ _ refl
fault_short faults.WrongShape = leb-true _ _ refl
fault_short faults.BadNumber = leb-true _ _ refl
fault_short faults.OutOfRange = leb-true _ _ refl
fault_short faults.BadEnum = leb-true _ _ refl
fault_short faults.BadText = leb-true _ _ refl
fault_short faults.NullInside = leb-true _ _ refl
fault_short faults.TooDeep = leb-true _ _ refl
fault_short faults.Unknown = leb-true _ _ refl
fault_short faults.NotALeaf = leb-true _ _ refl
fault_short faults.Taken = leb-true _ _ refl
fault_short faults.Twice = leb-true _ _ refl
fault_short faults.NotUtf8 = leb-true _ _ refl

-- a text with a value
with_detail : (cause : List ℕ) (n : ℕ) (f : ValueFault) → length cause ≤ 20
    → length (cause ++ detail_text (record { at = n; fault = f })) ≤ 110
with_detail cause n f h =
    omega (
      arith,
      joined cause (detail_text (record { at = n; fault = f })) 20 82 h
          (joined (decimal n) (58 ∷ 32 ∷ value_fault_text f) 64 18 (decimal_short n) (omega (arith, fault_short f))),
    )

-- the text of a refusal
text_short : (r : Refusal) → length (refusal_text r) ≤ 110
text_short refusals.HeadNotReadable = leb-true _ _ refl
text_short refusals.HeadTooLong = leb-true _ _ refl
text_short refusals.VersionNotServed = leb-true _ _ refl
text_short refusals.MethodNotServed = leb-true _ _ refl
text_short refusals.HostField = leb-true _ _ refl
text_short refusals.BodyLengthFields = leb-true _ _ refl
text_short refusals.PathUnknown = leb-true _ _ refl
text_short refusals.MethodNotAllowed = leb-true _ _ refl
text_short refusals.ContentType = leb-true _ _ refl
text_short refusals.GrpcTimeout = leb-true _ _ refl
text_short (refusals.PathValue n f) = with_detail (row_of (refusals.PathValue n f)).cause n f (leb-true _ _ refl)
text_short (refusals.QueryParameter n f) =
    with_detail (row_of (refusals.QueryParameter n f)).cause n f (leb-true _ _ refl)
text_short refusals.UpstreamNotUsable = leb-true _ _ refl
text_short refusals.BodyFraming = leb-true _ _ refl
text_short refusals.BodyTooLong = leb-true _ _ refl
text_short (refusals.BodyAt n f) = with_detail (row_of (refusals.BodyAt n f)).cause n f (leb-true _ _ refl)
text_short refusals.MessageTooLong = leb-true _ _ refl
text_short refusals.NoMemory = leb-true _ _ refl

-- the phrase of its status
phrase_short : (r : Refusal) → length (phrase_of (row_of r).http_status) ≤ 31
phrase_short refusals.HeadNotReadable = leb-true _ _ refl
phrase_short refusals.HeadTooLong = leb-true _ _ refl
phrase_short refusals.VersionNotServed = leb-true _ _ refl
phrase_short refusals.MethodNotServed = leb-true _ _ refl
phrase_short refusals.HostField = leb-true _ _ refl
phrase_short refusals.BodyLengthFields = leb-true _ _ refl
phrase_short refusals.PathUnknown = leb-true _ _ refl
phrase_short refusals.MethodNotAllowed = leb-true _ _ refl
phrase_short refusals.ContentType = leb-true _ _ refl
phrase_short refusals.GrpcTimeout = leb-true _ _ refl
phrase_short (refusals.PathValue n f) = leb-true _ _ refl
phrase_short (refusals.QueryParameter n f) = leb-true _ _ refl
phrase_short refusals.UpstreamNotUsable = leb-true _ _ refl
phrase_short refusals.BodyFraming = leb-true _ _ refl
phrase_short refusals.BodyTooLong = leb-true _ _ refl
phrase_short (refusals.BodyAt n f) = leb-true _ _ refl
phrase_short refusals.MessageTooLong = leb-true _ _ refl
phrase_short refusals.NoMemory = leb-true _ _ refl

-- ---- lines

-- a field line
field_short : (name value : List ℕ) (m n : ℕ) → length name ≤ m → length value ≤ n
    → length (field_line name value) ≤ m + (2 + (n + 2))
field_short name value m n h k =
    joined name _ m (2 + (n + 2)) h
    (joined (codes ": ") _ 2 (n + 2) (leb-true _ _ refl) (joined value line_end n 2 k (leb-true _ _ refl)))

-- a status line
status_short : (r : Refusal) → length (status_line (row_of r).http_status) ≤ 107
status_short r =
    joined (status_start (row_of r).http_status) _ 74 33
    (joined (codes "HTTP/1.1 ") _ 9 65 (leb-true _ _ refl)
    (joined (decimal (row_of r).http_status) (codes " ") 64 1 (decimal_short (row_of r).http_status)
    (leb-true _ _ refl)))
    (joined (phrase_of (row_of r).http_status) line_end 31 2 (phrase_short r) (leb-true _ _ refl))

-- the type and the length of a text
lines_short : (len : ℕ) → length (text_lines len) ≤ 114
lines_short len =
    joined (field_line (codes "content-type") (codes "application/json"))
    (field_line (codes "content-length") (decimal len)) 32 82
    (field_short (codes "content-type") (codes "application/json") 12 16 (leb-true _ _ refl) (leb-true _ _ refl))
    (field_short (codes "content-length") (decimal len) 14 64 (leb-true _ _ refl) (decimal_short len))

-- the methods that are told
allow_short : (r : Refusal) (allow : List ℕ) → length allow ≤ 2176 → length (allow_line r allow) ≤ 2185
allow_short refusals.HeadNotReadable allow h = leb-true _ _ refl
allow_short refusals.HeadTooLong allow h = leb-true _ _ refl
allow_short refusals.VersionNotServed allow h = leb-true _ _ refl
allow_short refusals.MethodNotServed allow h = leb-true _ _ refl
allow_short refusals.HostField allow h = leb-true _ _ refl
allow_short refusals.BodyLengthFields allow h = leb-true _ _ refl
allow_short refusals.PathUnknown allow h = leb-true _ _ refl
allow_short refusals.MethodNotAllowed allow h = field_short (codes "allow") allow 5 2176 (leb-true _ _ refl) h
allow_short refusals.ContentType allow h = leb-true _ _ refl
allow_short refusals.GrpcTimeout allow h = leb-true _ _ refl
allow_short (refusals.PathValue n f) allow h = leb-true _ _ refl
allow_short (refusals.QueryParameter n f) allow h = leb-true _ _ refl
allow_short refusals.UpstreamNotUsable allow h = leb-true _ _ refl
allow_short refusals.BodyFraming allow h = leb-true _ _ refl
allow_short refusals.BodyTooLong allow h = leb-true _ _ refl
allow_short (refusals.BodyAt n f) allow h = leb-true _ _ refl
allow_short refusals.MessageTooLong allow h = leb-true _ _ refl
allow_short refusals.NoMemory allow h = leb-true _ _ refl

-- that the connection closes
close_short : (close : Bool) → length (close_line close) ≤ 19
close_short true = leb-true _ _ refl
close_short false = leb-true _ _ refl

-- ---- answers

-- a JSON text
body_short : (r : Refusal) → length (refusal_body r) ≤ 746
body_short r =
    let text = escaped (refusal_text r) in
    let string = json_string (refusal_text r) in
    let number = decimal (row_of r).grpc_code in
    let most : length text ≤ 660 = omega (arith, escaped_short (refusal_text r), text_short r) in
    let quoted : length string ≤ 662 =
    joined (34 ∷ []) (text ++ 34 ∷ []) 1 661 (leb-true _ _ refl)
    (joined text (34 ∷ []) 660 1 most (leb-true _ _ refl)) in
    let closed : length (string ++ codes "}") ≤ 663 = joined string (codes "}") 662 1 quoted (leb-true _ _ refl) in
    let named : length (codes ",\"message\":" ++ (string ++ codes "}")) ≤ 674 =
    joined (codes ",\"message\":") (string ++ codes "}") 11 663 (leb-true _ _ refl) closed in
    let rest : length (number ++ (codes ",\"message\":" ++ (string ++ codes "}"))) ≤ 738 =
    joined number (codes ",\"message\":" ++ (string ++ codes "}")) 64 674 (decimal_short (row_of r).grpc_code) named in
    joined (codes "{\"code\":") (number ++ (codes ",\"message\":" ++ (string ++ codes "}"))) 8 738
    (leb-true _ _ refl) rest

-- an answer with a text
told_short : (r : Refusal) (close : Bool) (allow : List ℕ) → length allow ≤ 2176
    → length (told_answer (row_of r).http_status (allow_line r allow ++ close_line close) (refusal_body r)) ≤ 4096
told_short r close allow h =
    let more = joined (allow_line r allow) (close_line close) 2185 19 (allow_short r allow h) (close_short close) in
    let size = length (refusal_body r) in
    let lines =
    joined (status_line (row_of r).http_status) (text_lines size) 107 114 (status_short r) (lines_short size) in
    let head =
    joined (told_lines (row_of r).http_status size)
    ((allow_line r allow ++ close_line close) ++ line_end) 221 2206 lines
    (joined (allow_line r allow ++ close_line close) line_end 2204 2 more (leb-true _ _ refl)) in
    omega (
      arith,
      joined (told_head (row_of r).http_status size (allow_line r allow ++ close_line close))
          (refusal_body r) 2427 746 head (body_short r),
    )

-- an answer without one
bare_short : (r : Refusal) → length (bare_answer (row_of r).http_status) ≤ 4096
bare_short r =
    let lines : length bare_lines ≤ 40 = leb-true _ _ refl in
    omega (arith, joined (status_line (row_of r).http_status) bare_lines 107 40 (status_short r) lines)

-- each answer
pub answer_short : (r : Refusal) (close : Bool) (allow : List ℕ) → length allow ≤ 2176
    → length (refusal_answer r close allow) ≤ 4096
answer_short refusals.HeadNotReadable close allow h = told_short refusals.HeadNotReadable close allow h
answer_short refusals.HeadTooLong close allow h = told_short refusals.HeadTooLong close allow h
answer_short refusals.VersionNotServed close allow h = told_short refusals.VersionNotServed close allow h
answer_short refusals.MethodNotServed close allow h = bare_short refusals.MethodNotServed
answer_short refusals.HostField close allow h = told_short refusals.HostField close allow h
answer_short refusals.BodyLengthFields close allow h = told_short refusals.BodyLengthFields close allow h
answer_short refusals.PathUnknown close allow h = told_short refusals.PathUnknown close allow h
answer_short refusals.MethodNotAllowed close allow h = told_short refusals.MethodNotAllowed close allow h
answer_short refusals.ContentType close allow h = told_short refusals.ContentType close allow h
answer_short refusals.GrpcTimeout close allow h = told_short refusals.GrpcTimeout close allow h
answer_short (refusals.PathValue n f) close allow h = told_short (refusals.PathValue n f) close allow h
answer_short (refusals.QueryParameter n f) close allow h = told_short (refusals.QueryParameter n f) close allow h
answer_short refusals.UpstreamNotUsable close allow h = told_short refusals.UpstreamNotUsable close allow h
answer_short refusals.BodyFraming close allow h = told_short refusals.BodyFraming close allow h
answer_short refusals.BodyTooLong close allow h = told_short refusals.BodyTooLong close allow h
answer_short (refusals.BodyAt n f) close allow h = told_short (refusals.BodyAt n f) close allow h
answer_short refusals.MessageTooLong close allow h = told_short refusals.MessageTooLong close allow h
answer_short refusals.NoMemory close allow h = told_short refusals.NoMemory close allow h
