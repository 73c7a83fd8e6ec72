-- Worked examples of heads that are served and refused (RFC 9112, sections 2, 3, 6 and 9.6; RFC 9110, section 10.1.1).
use Rattle.std.specs.Prelude.{◌≡◌, ℕ, ◌++◌, Bool, true, false, List, [], ◌∷◌, codes, replicate}
use Rattle.http1.specs.Fields.{Header}
use Rattle.gate_world.specs.MessageHead.{MessageHead}
use Rattle.gate_world.specs.declared.body_length.BodyLength.TheVariants.{Nothing, Length, Chunked}
use Rattle.gate_world.specs.declared.refusal.Refusal.{Refusal}
use Rattle.gate_world.specs.declared.refusal.Refusal.TheVariants.{HeadNotReadable, HeadTooLong, VersionNotServed, MethodNotServed, HostField, BodyLengthFields}
use Rattle.http1_requests.specs.HeadJudgement.{Refused, Served, judgement}
use Rattle.http1_requests.specs.ExampleBytes.{lines, get_line, host_line, get_head, plain_head}

-- the lines, with the empty line behind them, are a head that is refused for this
abbrev pub IsRefusedAs : List (List ℕ) → Refusal → Type 0
IsRefusedAs texts refusal = judgement (lines (texts ++ [] ∷ [])) ≡ Refused refusal

-- the lines, with the empty line behind them, are a head that is served, and says this
abbrev pub IsServedAs : List (List ℕ) → MessageHead → Type 0
IsServedAs texts head = judgement (lines (texts ++ [] ∷ [])) ≡ Served head

-- a head with another method
abbrev pub head_by : List ℕ → MessageHead
head_by method = record {
  method = method;
  target = codes "/";
  fields = (codes "Host", codes "h") ∷ [];
  body = Nothing;
  close = false;
  expect = false;
}

-- methods have their case, and a version or a method that is not served comes before the fields
pub record RequestLinesAreJudged : Type 0 where
  pub plain : IsServedAs (get_line ∷ host_line ∷ []) plain_head
  pub lower_case_method : IsServedAs (codes "get / HTTP/1.1" ∷ host_line ∷ []) (head_by (codes "get"))
  pub lower_case_head : IsServedAs (codes "head / HTTP/1.1" ∷ host_line ∷ []) (head_by (codes "head"))
  pub head_method : IsRefusedAs (codes "HEAD / HTTP/1.1" ∷ host_line ∷ []) MethodNotServed
  pub connect_without_host : IsRefusedAs (codes "CONNECT h:1 HTTP/1.1" ∷ []) MethodNotServed
  pub old_version : IsRefusedAs (codes "HEAD / HTTP/1.0" ∷ []) VersionNotServed
  pub unknown_version : IsRefusedAs (codes "GET / HTTP/1.2" ∷ host_line ∷ []) HeadNotReadable
  pub two_spaces : IsRefusedAs (codes "GET  / HTTP/1.1" ∷ host_line ∷ []) HeadNotReadable
  pub no_version : IsRefusedAs (codes "GET /" ∷ host_line ∷ []) HeadNotReadable
  pub blank_before_colon : IsRefusedAs (get_line ∷ codes "Host : h" ∷ []) HeadNotReadable
  pub folded_field : IsRefusedAs (get_line ∷ host_line ∷ codes " more" ∷ []) HeadNotReadable

-- a target is UTF-8: no byte 0x80 stands behind a slash
abbrev pub lone_continuation : List (List ℕ)
lone_continuation = (codes "GET /" ++ 128 ∷ codes " HTTP/1.1") ∷ host_line ∷ []

-- so a head with such a target is not readable
abbrev pub TargetsAreText : Type 0
TargetsAreText = IsRefusedAs lone_continuation HeadNotReadable

-- the field Host stands once, be it empty
pub record HostsAreCounted : Type 0 where
  pub empty_host : IsServedAs (get_line ∷ codes "Host:" ∷ []) (record {
    method = codes "GET";
    target = codes "/v1/items/x";
    fields = (codes "Host", []) ∷ [];
    body = Nothing;
    close = false;
    expect = false;
  })
  pub no_host : IsRefusedAs (get_line ∷ []) HostField
  pub two_hosts : IsRefusedAs (get_line ∷ host_line ∷ codes "HOST: h" ∷ []) HostField
  pub two_hosts_and_bad_length : IsRefusedAs
      (get_line ∷ host_line ∷ host_line ∷ codes "Content-Length: x" ∷ []) HostField

-- how long the body is
pub record LengthsAreRead : Type 0 where
  pub no_body : IsServedAs (get_line ∷ host_line ∷ codes "Content-Length: 0" ∷ [])
      (get_head ((codes "Content-Length", codes "0") ∷ []) (Length 0))
  pub longest : IsServedAs (get_line ∷ host_line ∷ codes "Content-Length: 123456789012345678" ∷ [])
      (get_head ((codes "Content-Length", codes "123456789012345678") ∷ []) (Length 123456789012345678))
  pub leading_zeros : IsServedAs (get_line ∷ host_line ∷ codes "content-length:  007 " ∷ [])
      (get_head ((codes "content-length", codes "007") ∷ []) (Length 7))
  pub chunked : IsServedAs (get_line ∷ host_line ∷ codes "transfer-encoding: CHUNKED" ∷ [])
      (get_head ((codes "transfer-encoding", codes "CHUNKED") ∷ []) Chunked)
  pub too_many_digits : IsRefusedAs
      (get_line ∷ host_line ∷ codes "Content-Length: 1234567890123456789" ∷ []) BodyLengthFields
  pub no_digit : IsRefusedAs (get_line ∷ host_line ∷ codes "Content-Length:" ∷ []) BodyLengthFields
  pub sign : IsRefusedAs (get_line ∷ host_line ∷ codes "Content-Length: +1" ∷ []) BodyLengthFields
  pub list : IsRefusedAs (get_line ∷ host_line ∷ codes "Content-Length: 1, 1" ∷ []) BodyLengthFields
  pub same_twice : IsRefusedAs
      (get_line ∷ host_line ∷ codes "Content-Length: 1" ∷ codes "Content-Length: 1" ∷ []) BodyLengthFields
  pub both : IsRefusedAs
      (get_line ∷ host_line ∷ codes "Content-Length: 1" ∷ codes "Transfer-Encoding: chunked" ∷ []) BodyLengthFields
  pub two_codings : IsRefusedAs (get_line ∷ host_line ∷ codes "Transfer-Encoding: gzip, chunked" ∷ []) BodyLengthFields
  pub coding_twice : IsRefusedAs
      (get_line ∷ host_line ∷ codes "Transfer-Encoding: chunked" ∷ codes "Transfer-Encoding: chunked"
      ∷ []) BodyLengthFields

-- a head with these fields behind Host, which asks for the connection to be closed, or waits for `100 Continue`
abbrev pub head_that : Bool → Bool → List Header → MessageHead
head_that close expect fields = record {
  method = codes "GET";
  target = codes "/v1/items/x";
  fields = (codes "Host", codes "h") ∷ fields;
  body = Nothing;
  close = close;
  expect = expect;
}

-- any field of the name counts: Connection by its parts between commas, Expect by its whole value
pub record OptionsAreRead : Type 0 where
  pub close_in_second : IsServedAs
      (get_line ∷ host_line ∷ codes "Connection: keep-alive" ∷ codes "connection: CLOSE" ∷ [])
      (head_that true false ((codes "Connection", codes "keep-alive") ∷ (codes "connection", codes "CLOSE") ∷ []))
  pub close_in_list : IsServedAs (get_line ∷ host_line ∷ codes "Connection: a, close ,b" ∷ [])
      (head_that true false ((codes "Connection", codes "a, close ,b") ∷ []))
  pub no_close : IsServedAs (get_line ∷ host_line ∷ codes "Connection: closed" ∷ [])
      (head_that false false ((codes "Connection", codes "closed") ∷ []))
  pub expect_in_second : IsServedAs (get_line ∷ host_line ∷ codes "Expect: x" ∷ codes "EXPECT: 100-Continue" ∷ [])
      (head_that false true ((codes "Expect", codes "x") ∷ (codes "EXPECT", codes "100-Continue") ∷ []))
  pub no_expect : IsServedAs (get_line ∷ host_line ∷ codes "Expect: 100-continue, x" ∷ [])
      (head_that false false ((codes "Expect", codes "100-continue, x") ∷ []))

-- a head of more than 64 fields is refused for that, whatever else is wrong with it
pub record FieldsAreCounted : Type 0 where
  pub most : IsServedAs (get_line ∷ host_line ∷ replicate 63 (codes "a: b"))
      (get_head (replicate 63 (codes "a", codes "b")) Nothing)
  pub more : IsRefusedAs (get_line ∷ host_line ∷ replicate 64 (codes "a: b")) HeadTooLong
  pub before_method : IsRefusedAs (codes "HEAD / HTTP/1.1" ∷ host_line ∷ replicate 64 (codes "a: b")) HeadTooLong
  pub before_lengths : IsRefusedAs (get_line ∷ host_line ∷ replicate 64 (codes "Content-Length: 1")) HeadTooLong
  pub before_grammar : IsRefusedAs (codes "GET" ∷ replicate 65 (codes "a")) HeadTooLong
