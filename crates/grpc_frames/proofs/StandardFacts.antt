-- Streams whose messages are plain to see, computed by the definition.
use Rattle.std.proofs.Common.{◌≡◌, [], ◌∷◌, refl, Some, None}
use Rattle.grpc_frames.specs.LengthPrefixed.{length_prefixed, CompressedFlag, ReservedFlag, LengthOverLimit, deframed_within, deframed_of}

-- a message of two bytes
length_prefixed_two : length_prefixed (7 ∷ 8 ∷ []) ≡ 0 ∷ 0 ∷ 0 ∷ 0 ∷ 2 ∷ 7 ∷ 8 ∷ []
length_prefixed_two = refl

-- a message, an empty one, and four bytes of a third
deframed_of_cut : deframed_of 2 (0 ∷ 0 ∷ 0 ∷ 0 ∷ 2 ∷ 7 ∷ 8 ∷ 0 ∷ 0 ∷ 0 ∷ 0 ∷ 0 ∷ 0 ∷ 0 ∷ 0 ∷ 0 ∷ [])
    ≡ record { messages = (7 ∷ 8 ∷ []) ∷ [] ∷ []; rest = 0 ∷ 0 ∷ 0 ∷ 0 ∷ []; error = None }
unfolding deframed_of deframed_within
deframed_of_cut = refl

-- flag 1 behind an empty message
deframed_of_compressed : deframed_of 2 (0 ∷ 0 ∷ 0 ∷ 0 ∷ 0 ∷ 1 ∷ 0 ∷ []) ≡ record { messages = [] ∷ []; rest = 1 ∷ 0 ∷ []; error = Some CompressedFlag }
unfolding deframed_of deframed_within
deframed_of_compressed = refl

-- flag 2 at the start
deframed_of_reserved : deframed_of 2 (2 ∷ []) ≡ record { messages = []; rest = 2 ∷ []; error = Some ReservedFlag }
unfolding deframed_of deframed_within
deframed_of_reserved = refl

-- a length of 2 ^ 24 + 3, of which the low byte alone is within the limit
deframed_of_long : deframed_of 5 (0 ∷ 1 ∷ 0 ∷ 0 ∷ 3 ∷ []) ≡ record { messages = []; rest = 0 ∷ 1 ∷ 0 ∷ 0 ∷ 3 ∷ []; error = Some (LengthOverLimit 16777219) }
unfolding deframed_of deframed_within
deframed_of_long = refl
