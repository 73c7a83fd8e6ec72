-- What became of a text that was to be appended where so many bytes may be.
use Rattle.std.specs.Prelude.{◌≡◌, ◌<◌, ◌≤◌, ℕ, List, length, Option, Some, None}
use Rattle.std.specs.Option.{IsSomeAnd}
use Rattle.hpack_codec.specs.declared.put.Put.{Put}
use Rattle.hpack_codec.specs.declared.put.Put.TheVariants.{Whole, Over, Bad}

-- the text was appended as `added`, is longer than the room, or there is none
abbrev pub IsPut : Option (List ℕ) → ℕ → List ℕ → Put → Type 0
IsPut text room added Whole = (text ≡ Some added) × (length added ≤ room)
IsPut text room added Over = IsSomeAnd text (λ whole. room < length whole)
IsPut text room added Bad = text ≡ None

-- the same for a string that takes so many bytes
abbrev pub IsPutString : Option (List ℕ × ℕ) → ℕ → List ℕ → ℕ → Put → Type 0
IsPutString string room added taken Whole = (string ≡ Some (added, taken)) × (length added ≤ room)
IsPutString string room added taken Over = IsSomeAnd string (λ s. (room < length s.0) × (s.1 ≡ taken))
IsPutString string room added taken Bad = string ≡ None
