-- Worked examples of the requests of a client's bytes (RFC 9112, sections 2.2, 6.3, 7.1 and 9.3.2).
use Rattle.std.specs.Prelude.{◌≡◌, ℕ, ◌++◌, true, false, List, [], ◌∷◌, codes, replicate}
use Rattle.gate_world.specs.declared.body_length.BodyLength.TheVariants.{Length}
use Rattle.gate_world.specs.declared.refusal.Refusal.TheVariants.{HeadNotReadable, HeadTooLong, HostField}
use Rattle.http1_requests.specs.ClientRequests.{RefusedHead, Request, Open, Ended, Broken, ClientRequest, client_requests}
use Rattle.http1_requests.specs.ExampleBytes.{line, lines, head_of, get_line, host_line, get_head, plain_head, chunked_lines, chunked_head}

-- the requests of bytes behind which the client goes on
abbrev pub Shows : List ℕ → List ClientRequest → Type 0
Shows bytes requests = client_requests bytes false ≡ requests

-- the requests of bytes behind which the client has ended
abbrev pub ShowsAtEnd : List ℕ → List ClientRequest → Type 0
ShowsAtEnd bytes requests = client_requests bytes true ≡ requests

-- a head with a length of three bytes, and what it says
abbrev pub length_lines : List ℕ
length_lines = head_of (codes "Content-Length: 3" ∷ [])

-- a request of three bytes
abbrev pub three_bytes : ClientRequest
three_bytes = Request (get_head ((codes "Content-Length", codes "3") ∷ []) (Length 3)) (codes "abc") Ended

-- a body with a length ends with its last byte, and the next request begins there
pub record CountedBodiesAreRead : Type 0 where
  pub next : Shows (length_lines ++ codes "abc" ++ head_of []) (three_bytes ∷ Request plain_head [] Ended ∷ [])
  pub part : Shows (length_lines ++ codes "ab")
      (Request (get_head ((codes "Content-Length", codes "3") ∷ []) (Length 3)) (codes "ab") Open ∷ [])
  pub client_ends : ShowsAtEnd (length_lines ++ codes "ab")
      (Request (get_head ((codes "Content-Length", codes "3") ∷ []) (Length 3)) (codes "ab") Broken ∷ [])
  pub end_between : ShowsAtEnd (length_lines ++ codes "abc") (three_bytes ∷ [])
  pub end_in_head : ShowsAtEnd (length_lines ++ codes "abcGE") (three_bytes ∷ [])
  pub length_zero : Shows (head_of (codes "Content-Length: 0" ∷ []) ++ head_of [])
      (Request (get_head ((codes "Content-Length", codes "0") ∷ []) (Length 0)) [] Ended ∷ Request plain_head [] Ended
      ∷ [])
  pub refused_second : Shows (head_of [] ++ lines (get_line ∷ [] ∷ []) ++ head_of [])
      (Request plain_head [] Ended ∷ RefusedHead HostField ∷ [])

-- chunks, their size lines and what stands behind their data
pub record ChunksAreRead : Type 0 where
  pub next : Shows
      (chunked_lines ++ lines
      (codes "3" ∷ codes "abc" ∷ codes "2;x=y" ∷ codes "de" ∷ codes "0" ∷ [] ∷ []) ++ head_of [])
      (Request chunked_head (codes "abcde") Ended ∷ Request plain_head [] Ended ∷ [])
  pub part : Shows (chunked_lines ++ lines (codes "3" ∷ codes "abc" ∷ codes "2" ∷ []) ++ codes "d")
      (Request chunked_head (codes "abcd") Open ∷ [])
  pub client_ends : ShowsAtEnd (chunked_lines ++ lines (codes "3" ∷ codes "abc" ∷ codes "2" ∷ []) ++ codes "d")
      (Request chunked_head (codes "abcd") Broken ∷ [])
  pub no_return_behind_data : Shows (chunked_lines ++ line (codes "3") ++ codes "abcd")
      (Request chunked_head (codes "abc") Broken ∷ [])
  pub return_behind_data : Shows (chunked_lines ++ line (codes "3") ++ codes "abc" ++ 13 ∷ [])
      (Request chunked_head (codes "abc") Open ∷ [])
  pub return_without_feed : Shows (chunked_lines ++ line (codes "3") ++ codes "abc" ++ 13 ∷ 13 ∷ [])
      (Request chunked_head (codes "abc") Broken ∷ [])
  pub sixteen_digits : Shows
      (chunked_lines ++ lines (codes "0000000000000002" ∷ codes "ab" ∷ codes "0000000000000000" ∷ [] ∷ []))
      (Request chunked_head (codes "ab") Ended ∷ [])
  pub largest_size : Shows (chunked_lines ++ line (codes "fFfFfFfFfFfFfFfF") ++ codes "ab")
      (Request chunked_head (codes "ab") Open ∷ [])
  pub seventeen_digits : Shows (chunked_lines ++ line (codes "00000000000000002"))
      (Request chunked_head [] Broken ∷ [])
  pub no_hexadecimal : Shows (chunked_lines ++ line (codes "zz")) (Request chunked_head [] Broken ∷ [])
  pub no_line_end : Shows (chunked_lines ++ codes "zz") (Request chunked_head [] Open ∷ [])
  pub feed_alone : Shows (chunked_lines ++ codes "3" ++ 10 ∷ []) (Request chunked_head [] Broken ∷ [])
  pub broken_second : Shows (chunked_lines ++ lines (codes "1" ∷ codes "a" ∷ [] ∷ []) ++ head_of [])
      (Request chunked_head (codes "a") Broken ∷ [])

-- trailer sections, which are read and dropped
pub record TrailersAreRead : Type 0 where
  pub none : Shows (chunked_lines ++ lines (codes "0" ∷ [] ∷ [])) (Request chunked_head [] Ended ∷ [])
  pub feed_alone : Shows (chunked_lines ++ line (codes "0") ++ 10 ∷ []) (Request chunked_head [] Ended ∷ [])
  pub part : Shows (chunked_lines ++ line (codes "0") ++ 13 ∷ []) (Request chunked_head [] Open ∷ [])
  pub fields : Shows (chunked_lines ++ lines (codes "0" ∷ codes "a: b" ∷ codes "c:" ∷ [] ∷ []) ++ head_of [])
      (Request chunked_head [] Ended ∷ Request plain_head [] Ended ∷ [])
  pub no_field : Shows (chunked_lines ++ lines (codes "0" ∷ codes "a" ∷ [] ∷ [])) (Request chunked_head [] Broken ∷ [])
  pub most : Shows (chunked_lines ++ lines (codes "0" ∷ (replicate 64 (codes "a: b") ++ [] ∷ [])))
      (Request chunked_head [] Ended ∷ [])
  pub more : Shows (chunked_lines ++ lines (codes "0" ∷ (replicate 65 (codes "a: b") ++ [] ∷ [])))
      (Request chunked_head [] Broken ∷ [])

-- empty lines before a request are skipped, and line feeds alone end lines
pub record EmptyLinesAreSkipped : Type 0 where
  pub before_first : Shows (lines ([] ∷ []) ++ 10 ∷ head_of []) (Request plain_head [] Ended ∷ [])
  pub between : Shows (head_of [] ++ 10 ∷ lines ([] ∷ [] ∷ []) ++ head_of [])
      (Request plain_head [] Ended ∷ Request plain_head [] Ended ∷ [])
  pub behind_body : Shows (length_lines ++ codes "abc" ++ lines ([] ∷ []) ++ head_of [])
      (three_bytes ∷ Request plain_head [] Ended ∷ [])
  pub alone : ShowsAtEnd (lines ([] ∷ [] ∷ [])) []
  pub feeds_alone : Shows (get_line ++ 10 ∷ host_line ++ 10 ∷ 10 ∷ []) (Request plain_head [] Ended ∷ [])
  pub return_alone : Shows (13 ∷ head_of []) (RefusedHead HeadNotReadable ∷ [])

-- a head that long, with the empty lines before it
abbrev pub head_behind : ℕ → List ℕ
head_behind k = replicate k 10 ++ head_of []

-- 16,384 bytes are read, the end of a head among them; behind so many without an end nothing is waited for
pub record LimitsAreKept : Type 0 where
  pub largest : Shows (head_behind 16347) (Request plain_head [] Ended ∷ [])
  pub too_large : Shows (head_behind 16348) (RefusedHead HeadTooLong ∷ [])
  pub no_end : Shows (replicate 16384 10) (RefusedHead HeadTooLong ∷ [])
  pub one_less : Shows (replicate 16383 10) []
  pub fields_before_end : Shows (lines (get_line ∷ replicate 65 (codes "a: b"))) []
