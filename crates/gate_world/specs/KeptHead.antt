-- A request head that is kept in room reserved for it: all its bytes stand in one list, and spans say where.
use Rattle.std.specs.Prelude.{◌≤◌, ◌-◌, ℕ, Bool, false, List, [], take, drop, map}
use Rattle.gate_world.specs.MessageHead.{MessageHead}
use Rattle.gate_world.specs.declared.body_length.BodyLength.{BodyLength}
use Rattle.gate_world.specs.declared.body_length.BodyLength.TheVariants.{Nothing}
use Rattle.gate_world.specs.declared.head.FieldSpan.{FieldSpan}

-- a head, how many bytes it has, and room for so many bytes and so many fields
pub record KeptHead : Type 0 where
  pub head : MessageHead
  pub used : ℕ
  pub room : ℕ
  pub field_room : ℕ

-- a head that says no more than its request line
abbrev pub started_head : List ℕ → List ℕ → MessageHead
started_head method target = record {
  method = method;
  target = target;
  fields = [];
  body = Nothing;
  close = false;
  expect = false;
}

-- a head with these fields
abbrev pub with_fields : MessageHead → List (List ℕ × List ℕ) → MessageHead
with_fields head fields = record {
  method = head.method;
  target = head.target;
  fields = fields;
  body = head.body;
  close = head.close;
  expect = head.expect;
}

-- a head with this body, and what the client wants
abbrev pub with_ending : MessageHead → BodyLength → Bool → Bool → MessageHead
with_ending head body close expect = record {
  method = head.method;
  target = head.target;
  fields = head.fields;
  body = body;
  close = close;
  expect = expect;
}

-- the bytes from one place up to another
abbrev pub bytes_between : List ℕ → ℕ → ℕ → List ℕ
bytes_between bytes start end = take (end - start) (drop start bytes)

-- the field of a span
abbrev pub field_at : List ℕ → FieldSpan → List ℕ × List ℕ
field_at bytes s = (bytes_between bytes s.start s.middle, bytes_between bytes s.middle s.end)

-- the fields of spans
abbrev pub fields_at : List ℕ → List FieldSpan → List (List ℕ × List ℕ)
fields_at bytes spans = map (field_at bytes) spans

-- a span lies within so many bytes
abbrev pub LiesWithin : ℕ → FieldSpan → Type 0
LiesWithin size s = (s.start ≤ s.middle) × (s.middle ≤ s.end) × (s.end ≤ size)
