-- Values of grpc-message whose meaning is plain to see, computed by the definitions.
use Rattle.std.proofs.Common.{◌≡◌, [], ◌∷◌, refl, codes}
use Rattle.percent_encoding.proofs.OnLiterals.{percent_encoding_on_literals}
use Rattle.std.specs.Fmt.{digits}
use Rattle.status_map.specs.ErrorBody.{error_body}
use Rattle.status_map.specs.GrpcMessage.{encoded_message, decoded_message}

-- the euro sign, of three bytes, behind a per cent sign and a space
encoded_message_euro : encoded_message (37 ∷ 32 ∷ 226 ∷ 130 ∷ 172 ∷ 127 ∷ []) ≡ codes "%25 %E2%82%AC%7F"
encoded_message_euro = refl

-- escapes of either case, and three per cent signs that begin none
decoded_message_broken : decoded_message (codes "%e2%82%AC%zz%2%") ≡ 226 ∷ 130 ∷ 172 ∷ codes "%zz%2%"
unfolding percent_encoding_on_literals
decoded_message_broken = refl

-- the body of an error
error_body_plain : error_body 5 (codes "no \"x\"\n") ≡ codes "{\"code\":5,\"message\":\"no \\\"x\\\"\\n\"}"
unfolding digits
error_body_plain = refl
