-- Which header fields can go on to the upstream: lower-case tokens (RFC 9110, section 5.6.2) that neither gRPC
-- nor HTTP keeps for itself.
use Rattle.std.specs.Prelude.{◌&&◌, ◌||◌, ℕ, Bool, List, [], ◌∷◌, codes, not, nat_eq}
use Rattle.std.specs.List.{list_any, starts_with}
use Rattle.std.specs.Str.{bytes_eq}
use Rattle.http_rules.specs.Tokens.{is_lower_case_token}

-- the names that are reserved, beside those that begin with `grpc-`
abbrev pub reserved_names : List (List ℕ)
reserved_names =
    codes "te" ∷ codes "host" ∷ codes "connection" ∷ codes "keep-alive" ∷ codes "proxy-connection"
    ∷ codes "transfer-encoding" ∷ codes "upgrade" ∷ codes "trailer" ∷ codes "expect" ∷ codes "content-type"
    ∷ codes "content-length" ∷ codes "content-encoding" ∷ codes "accept-encoding" ∷ codes "http2-settings" ∷ []

-- a name is reserved
abbrev pub is_reserved : List ℕ → Bool
is_reserved name = starts_with nat_eq name (codes "grpc-") || list_any (bytes_eq name) reserved_names

-- a field of this name can go on
abbrev pub forwardable : List ℕ → Bool
forwardable name = is_lower_case_token name && not (is_reserved name)
