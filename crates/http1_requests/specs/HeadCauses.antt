-- When a head is served and for what it is refused, as relations on its bytes, each cause behind those that are tried
-- before it (RFC 9112, sections 2.3, 3, 3.2 and 6.3; RFC 9110, section 9.1).
use Rattle.std.specs.Prelude.{◌≡◌, ◌≢◌, ◌≤◌, ◌<◌, ◌^◌, ℕ, true, false, List, [], ◌++◌, length, flat_map, Some, None, ⊤}
use Rattle.httparse.specs.Grammar.{IsToken, RequestHead, ReadsRequest}
use Rattle.gate_world.specs.MessageHead.{MessageHead}
use Rattle.gate_world.specs.Refusals.{row_of}
use Rattle.gate_world.specs.declared.body_length.BodyLength.{BodyLength}
use Rattle.gate_world.specs.declared.body_length.BodyLength.TheVariants.{Nothing, Length, Chunked}
use Rattle.gate_world.specs.declared.refusal.Refusal.{Refusal}
use Rattle.gate_world.specs.declared.refusal.Refusal.TheVariants.{HeadNotReadable, HeadTooLong, VersionNotServed, MethodNotServed, HostField, BodyLengthFields}
use Rattle.http1_requests.specs.HeadEnd.{field_limit}
use Rattle.http1_requests.specs.HeadJudgement.{headers_of, hosts, is_unserved_method, body_length, message_head, has_many_fields}

-- exactly these bytes are this head of the grammar, and it has at most 64 fields
abbrev pub IsRead : List ℕ → RequestHead → Type 0
IsRead bytes h = ReadsRequest bytes h [] × (length h.fields ≤ field_limit)

-- it is of HTTP/1.1
abbrev pub IsCurrent : List ℕ → RequestHead → Type 0
IsCurrent bytes h = IsRead bytes h × (h.minor ≡ 1)

-- and its method is served
abbrev pub HasServedMethod : List ℕ → RequestHead → Type 0
HasServedMethod bytes h = IsCurrent bytes h × (is_unserved_method h.method ≡ false)

-- and the field Host stands once
abbrev pub HasOneHost : List ℕ → RequestHead → Type 0
HasOneHost bytes h = HasServedMethod bytes h × (hosts (headers_of h) ≡ 1)

-- the bytes of a head are refused for this
abbrev pub IsRefusedFor : List ℕ → Refusal → Type 0
IsRefusedFor bytes HeadNotReadable =
    (has_many_fields bytes ≡ false) × ((h : RequestHead) → ¬ (ReadsRequest bytes h []))
IsRefusedFor bytes HeadTooLong = has_many_fields bytes ≡ true
IsRefusedFor bytes VersionNotServed = (h : RequestHead) × IsRead bytes h × (h.minor ≡ 0)
IsRefusedFor bytes MethodNotServed = (h : RequestHead) × IsCurrent bytes h × (is_unserved_method h.method ≡ true)
IsRefusedFor bytes HostField = (h : RequestHead) × HasServedMethod bytes h × (hosts (headers_of h) ≢ 1)
IsRefusedFor bytes BodyLengthFields = (h : RequestHead) × HasOneHost bytes h × (body_length (headers_of h) ≡ None)
IsRefusedFor bytes _ = ⊥

-- the bytes are a head that is served, and this is what it says
abbrev pub IsServed : List ℕ → MessageHead → Type 0
IsServed bytes head =
    (h : RequestHead) × HasOneHost bytes h × (body : BodyLength) × (body_length (headers_of h) ≡ Some body)
    × (head ≡ message_head h body)

-- a refusal of this rank
abbrev pub HasRank : ℕ → Refusal → Type 0
HasRank n r = (row_of r).rank ≡ Some n

-- all bytes that are told of a head
abbrev pub told_bytes : MessageHead → List ℕ
told_bytes head = head.method ++ (head.target ++ flat_map (λ f. f.0 ++ f.1) head.fields)

-- the largest length of a body, of 18 digits
abbrev pub IsBodyLength : BodyLength → Type 0
IsBodyLength (Length size) = size < 10 ^ 18
IsBodyLength Nothing = ⊤
IsBodyLength Chunked = ⊤

-- what holds of each head that is served: its method is a token, its target has a byte, it has at most 64 fields, all
-- its bytes are fewer than those of which it was read, and a length of its body is below 10 ^ 18
pub record ServedBounds (bytes : List ℕ) (head : MessageHead) : Type 0 where
  pub method : IsToken head.method
  pub served_method : is_unserved_method head.method ≡ false
  pub target : 0 < length head.target
  pub fields : length head.fields ≤ field_limit
  pub hosts : hosts head.fields ≡ 1
  pub told : length (told_bytes head) < length bytes
  pub body : body_length head.fields ≡ Some head.body
  pub size : IsBodyLength head.body
