-- What became of a literal that was to be read where its name and its value may have so many bytes.
use Rattle.std.specs.Prelude.{◌≡◌, ◌+◌, ◌<◌, ◌≤◌, ◌++◌, ◌∷◌, [], ℕ, Bool, true, false, List, length, take, drop, Option, Some, None, Result, Ok, Err}
use Rattle.std.specs.Option.{IsSomeAnd}
use Rattle.hpack_codec.specs.StaticTable.{HeaderField}
use Rattle.hpack_codec.specs.DynamicTable.{field_size, fields_size}
use Rattle.hpack_codec.specs.declared.fault.ReadFault.{ReadFault}
use Rattle.hpack_codec.specs.declared.fault.ReadFault.TheVariants.{Bad as BadRead, TooLong as LongRead}
use Rattle.hpack_codec.specs.declared.literal.Literal.{Literal}
use Rattle.hpack_codec.specs.declared.literal.Literal.TheVariants.{Whole, Over, Bad}

-- the field whose name is the first `middle` of these bytes, and whose value is the rest
abbrev pub field_split : ℕ → List ℕ → HeaderField
field_split middle bytes = (take middle bytes, drop middle bytes)

-- a value is or is not read behind a name, and behind what takes `before` bytes
abbrev pub IsValueRead : Option (List ℕ × ℕ) → List ℕ → ℕ → ℕ → List ℕ → Literal → Type 0
IsValueRead string name before room added (Whole middle len) = IsSomeAnd string (λ s. (added ≡ name ++ s.0) × (middle ≡ length name) × (len ≡ before + s.1) × (length added ≤ room))
IsValueRead string name before room added Over = IsSomeAnd string (λ s. room < length name + length s.0)
IsValueRead string name before room added Bad = string ≡ None

-- a value decides of a literal whose name is longer than the room
abbrev pub IsLongLiteral : Option (List ℕ × ℕ) → Literal → Type 0
IsLongLiteral string (Whole middle len) = ⊥
IsLongLiteral string Over = IsSomeAnd string (λ s. 0 ≤ s.1)
IsLongLiteral string Bad = string ≡ None

-- a literal and how many bytes it takes: it was read, is longer than the room, or there is none
abbrev pub IsLiteral : Option (HeaderField × ℕ) → ℕ → List ℕ → Literal → Type 0
IsLiteral literal room added (Whole middle len) = (literal ≡ Some (field_split middle added, len)) × (middle ≤ length added) × (length added ≤ room)
IsLiteral literal room added Over = IsSomeAnd literal (λ l. room < length l.0.0 + length l.0.1)
IsLiteral literal room added Bad = literal ≡ None

-- a literal that was read takes no fewer and no more bytes than these
abbrev pub TakesBetween : ℕ → ℕ → Literal → Type 0
TakesBetween least most (Whole middle len) = (least ≤ len) × (len ≤ most)
TakesBetween least most Over = Unit {0}
TakesBetween least most Bad = Unit {0}

-- the field of a literal became the last of the fields, the fields would be longer than allowed, or there is none
abbrev pub IsLiteralField : Option (HeaderField × ℕ) → List HeaderField → List HeaderField → List ℕ → Result (ℕ × ℕ) ReadFault → Type 0
IsLiteralField literal old new added (Ok r) = (literal ≡ Some (field_split r.0 added, r.1)) × (r.0 ≤ length added) × (new ≡ old ++ field_split r.0 added ∷ []) × (fields_size new ≤ 65536)
IsLiteralField literal old new added (Err BadRead) = literal ≡ None
IsLiteralField literal old new added (Err LongRead) = IsSomeAnd literal (λ l. 65536 < fields_size old + field_size l.0)

-- the field whose name is the first `middle` of these bytes became the last of the fields, or they would be longer than allowed
abbrev pub IsSplitPushed : List ℕ → ℕ → List HeaderField → List HeaderField → Bool → Type 0
IsSplitPushed bytes middle old new true = (new ≡ old ++ field_split middle bytes ∷ []) × (fields_size new ≤ 65536)
IsSplitPushed bytes middle old new false = 65536 < fields_size old + field_size (field_split middle bytes)
