-- The worked examples, computed.
use Rattle.std.proofs.Common.{◌≡◌, ◌++◌, ◌<◌, ◌≤◌, ℕ, pos, zero, suc, List, [], ◌∷◌, codes, length, Some, Err, Result, slice_get, append-nil, refl, ◌∙◌, subst, sym, lit<, lit≤, inl, inr, arith}
use Rattle.std.proofs.lemmas.Str.{IsUtf8-from_ascii}
use Rattle.std.specs.Int.Signed.{le_z_yes, lt_z_yes}
use Rattle.std.specs.List.{AllByRecursion}
use Rattle.std.specs.Str.{IsAscii, IsUtf8}
use Rattle.std.specs.Str.Parse.{AllDigits, digits_value}
use Rattle.percent_encoding.specs.Percent.{percent_decode}
use Rattle.field_binding.specs.BindingExamples.{Orders, Two, order_binding, order_types, sets, span, through, two_binding}
use Rattle.field_binding.specs.PathSettings.{EndsAt, FailsAt, HasTextFault, IsVariable, SetsAt, text_at}
use Rattle.field_binding.specs.Assignments.{Assignments}
use Rattle.field_binding.specs.declared.fault.BindFault.{BindFault}
use Rattle.field_binding.specs.declared.fault.BindFault.TheVariants.{Path}
use Rattle.field_binding.specs.declared.fault.ValueKind.TheVariants.{OutOfRange, TooDeep}
use Rattle.field_settings.specs.declared.setting.Setting.{Setting}
use Rattle.http_rules.specs.PercentDecoding.{decode_but_slashes}
use Rattle.http_rules.specs.declared.template.Segment.{Segment}
use Rattle.http_rules.specs.declared.template.Segment.TheVariants.{One as OneSegment, Rest}
use Rattle.json_events.specs.JsonNumbers.{DenotesInteger, IsInt}
use Rattle.linked_api.specs.LinkedExamples.{type_at}
use Rattle.linked_api.specs.SmallApi.{get_item}
use Rattle.message_types.specs.declared.fields.Scalar.{Scalar}
use Rattle.message_types.specs.declared.fields.Scalar.TheVariants.{Int32, Text as TextOf, Enumeration}
use Rattle.scalar_texts.specs.ScalarTexts.{IsScalarText}
use Rattle.scalar_texts.specs.declared.fault.ScalarFault.TheVariants as faults
use Rattle.schema.specs.declared.value.Item.{Item, Number, Text, out-Item}
use Rattle.schema.specs.declared.value.Item.TheVariants.{outs-Number, outs-Text}
use Rattle.schema.specs.declared.value.Slot.{One}

-- ASCII is UTF-8
plain_ascii : (bs : List ℕ) → AllByRecursion (λ b. b < 128) bs → IsAscii bs
plain_ascii [] h i = lit< tt
plain_ascii (b ∷ bs) h zero = h.0
plain_ascii (b ∷ bs) h (suc i) = plain_ascii bs h.1 i

plain_utf8 : (bs : List ℕ) → AllByRecursion (λ b. b < 128) bs → IsUtf8 bs
plain_utf8 bs h = IsUtf8-from_ascii bs (plain_ascii bs h)

-- digits denote the number that they write
digits_denote : (n : ℕ) (text : List ℕ) → IsInt text → digits_value 10 text ≡ n → DenotesInteger (pos n) text
digits_denote n text int value = record {
  number = record {
    parts = record { minus = []; int = text; fraction = []; exponent = [] };
    text_is = sym (append-nil text);
    allowed = record { minus = inl refl; int = int; fraction = tt; exponent = tt };
  };
  magnitude = n;
  exact = rw (append-nil text, value) refl;
  signed = refl;
}

-- twelve
twelve : DenotesInteger (pos 12) (codes "12")
twelve = digits_denote 12 (codes "12") (inr (lit≤ tt, (lit< tt, (lit< tt, tt)))) refl

-- the number behind the last of 32 bits
past_range : DenotesInteger (pos 2147483648) (codes "2147483648")
past_range =
    digits_denote 2147483648 (codes "2147483648")
    (inr (lit≤ tt, digits)) refl
  where
    last : AllDigits 10 (codes "83648")
    last = (lit< tt, (lit< tt, (lit< tt, (lit< tt, (lit< tt, tt)))))

    digits : AllDigits 10 (codes "2147483648")
    digits = (lit< tt, (lit< tt, (lit< tt, (lit< tt, (lit< tt, last)))))

-- the last of 32 bits
largest_number : DenotesInteger (pos 2147483647) (codes "2147483647")
largest_number =
    digits_denote 2147483647 (codes "2147483647")
    (inr (lit≤ tt, digits)) refl
  where
    last : AllDigits 10 (codes "83647")
    last = (lit< tt, (lit< tt, (lit< tt, (lit< tt, (lit< tt, tt)))))

    digits : AllDigits 10 (codes "2147483647")
    digits = (lit< tt, (lit< tt, (lit< tt, (lit< tt, (lit< tt, last)))))

-- the variable of a path under `/orders/`
order_variable : (segment : Segment) (numbers : List ℕ) (end : ℕ) (path text : List ℕ)
    → text_at (order_binding segment numbers) path (span 8 end ∷ []) 0 ≡ Some text
    → IsVariable (order_binding segment numbers) path (span 8 end ∷ []) 0 numbers text
order_variable segment numbers end path text e = record { there = lit< tt; numbers_are = refl; text_is = e }

-- an order of which the variable means an item
order_set : (segment : Segment) (numbers : List ℕ) (end : ℕ) (raw text : List ℕ) (scalar : Scalar) (i : Item)
    → length numbers ≤ 100 → EndsAt order_types (type_at 0) numbers scalar
    → text_at (order_binding segment numbers) (codes "/orders/" ++ raw) (span 8 end ∷ []) 0 ≡ Some text
    → IsScalarText order_types scalar text (out-Item i) → Orders segment numbers end raw (sets numbers i)
order_set segment numbers end raw text scalar i few ends e means = record {
  binding = order_binding segment numbers;
  method = get_item;
  call = record { binding_is = refl; method_is = refl };
  query = refl;
  one_each = refl;
  each = each;
}
  where
    first : Setting
    first = record { path = numbers; slot = One i }

    set : SetsAt order_types (type_at 0) (order_binding segment numbers) (codes "/orders/" ++ raw)
        (span 8 end ∷ []) 0 first
    set = record {
      numbers = numbers;
      text = text;
      variable = order_variable segment numbers end (codes "/orders/" ++ raw) text e;
      sets = record {
        shallow = few;
        scalar = scalar;
        ends = ends;
        item = i;
        means = means;
        setting_is = refl;
      };
    }

    each : (j : ℕ) (s : Setting) → slice_get (first ∷ []) j ≡ Some s
        → SetsAt order_types (type_at 0) (order_binding segment numbers) (codes "/orders/" ++ raw)
        (span 8 end ∷ []) j s
    each zero s d =
        let same : first ≡ s = cc d in
        subst (λ x. SetsAt order_types (type_at 0) (order_binding segment numbers) (codes "/orders/" ++ raw)
        (span 8 end ∷ []) 0 x) same set
    each (suc j) s d = absurd (cc d)

-- a name
pub name_set : Orders OneSegment (1 ∷ []) 11 (codes "pen") (sets (1 ∷ []) (Text (codes "pen")))
unfolding percent_decode
name_set =
    order_set OneSegment (1 ∷ []) 11 (codes "pen") (codes "pen") TextOf (Text (codes "pen")) (lit≤ tt)
    (record { field = _; field_is = refl; kind_is = refl }) refl
    (rw outs-Text (refl, plain_utf8 (codes "pen") (lit< tt, (lit< tt, (lit< tt, tt)))))

-- the name of the item
pub inner_set : Orders OneSegment (4 ∷ 1 ∷ []) 11 (codes "pen") (sets (4 ∷ 1 ∷ []) (Text (codes "pen")))
unfolding percent_decode
inner_set =
    order_set OneSegment (4 ∷ 1 ∷ []) 11 (codes "pen") (codes "pen") TextOf (Text (codes "pen")) (lit≤ tt)
    (record { field = _; field_is = refl; kind_is = refl }) refl
    (rw outs-Text (refl, plain_utf8 (codes "pen") (lit< tt, (lit< tt, (lit< tt, tt)))))

-- 12 is a number of 32 bits
twelve_means : (types : _) → IsScalarText types Int32 (codes "12") (out-Item (Number (pos 12)))
twelve_means types = rw outs-Number (twelve, (le_z_yes tt, lt_z_yes tt))

-- a number
pub number_set : Orders OneSegment (2 ∷ []) 10 (codes "12") (sets (2 ∷ []) (Number (pos 12)))
unfolding percent_decode
number_set =
    order_set OneSegment (2 ∷ []) 10 (codes "12") (codes "12") Int32 (Number (pos 12)) (lit≤ tt)
    (record { field = _; field_is = refl; kind_is = refl }) refl (twelve_means order_types)

-- with an escape
pub escaped_set : Orders OneSegment (2 ∷ []) 12 (codes "%312") (sets (2 ∷ []) (Number (pos 12)))
unfolding percent_decode
escaped_set =
    order_set OneSegment (2 ∷ []) 12 (codes "%312") (codes "12") Int32 (Number (pos 12)) (lit≤ tt)
    (record { field = _; field_is = refl; kind_is = refl }) refl (twelve_means order_types)

-- an enum by name
pub enum_name_set : Orders OneSegment (3 ∷ []) 13 (codes "LARGE") (sets (3 ∷ []) (Number (pos 5)))
unfolding percent_decode
enum_name_set =
    order_set OneSegment (3 ∷ []) 13 (codes "LARGE") (codes "LARGE") (Enumeration (record { 0 = 0 }))
    (Number (pos 5)) (lit≤ tt) (record { field = _; field_is = refl; kind_is = refl }) refl
    (rw outs-Number (refl, (le_z_yes tt, lt_z_yes tt)))

-- and an enum by number
pub enum_number_set : Orders OneSegment (3 ∷ []) 10 (codes "12") (sets (3 ∷ []) (Number (pos 12)))
unfolding percent_decode
enum_number_set =
    order_set OneSegment (3 ∷ []) 10 (codes "12") (codes "12") (Enumeration (record { 0 = 0 })) (Number (pos 12))
    (lit≤ tt) (record { field = _; field_is = refl; kind_is = refl }) refl
    (rw outs-Number (twelve, (le_z_yes tt, lt_z_yes tt)))

-- an escaped slash in one segment
pub one_segment_set : Orders OneSegment (1 ∷ []) 13 (codes "a%2Fb") (sets (1 ∷ []) (Text (codes "a/b")))
unfolding percent_decode
one_segment_set =
    order_set OneSegment (1 ∷ []) 13 (codes "a%2Fb") (codes "a/b") TextOf (Text (codes "a/b")) (lit≤ tt)
    (record { field = _; field_is = refl; kind_is = refl }) refl
    (rw outs-Text (refl, plain_utf8 (codes "a/b") (lit< tt, (lit< tt, (lit< tt, tt)))))

-- and in several
pub several_set : Orders Rest (1 ∷ []) 13 (codes "a%2Fb") (sets (1 ∷ []) (Text (codes "a%2Fb")))
unfolding decode_but_slashes
several_set =
    order_set Rest (1 ∷ []) 13 (codes "a%2Fb") (codes "a%2Fb") TextOf (Text (codes "a%2Fb")) (lit≤ tt)
    (record { field = _; field_is = refl; kind_is = refl }) refl
    (rw outs-Text (refl, plain_utf8 (codes "a%2Fb") (lit< tt, (lit< tt, (lit< tt, (lit< tt, (lit< tt, tt)))))))

-- the last number of 32 bits
pub largest_set : Orders OneSegment (2 ∷ []) 18 (codes "2147483647") (sets (2 ∷ []) (Number (pos 2147483647)))
unfolding percent_decode
largest_set =
    order_set OneSegment (2 ∷ []) 18 (codes "2147483647") (codes "2147483647") Int32 (Number (pos 2147483647))
    (lit≤ tt) (record { field = _; field_is = refl; kind_is = refl }) refl
    (rw outs-Number (largest_number, (le_z_yes tt, lt_z_yes tt)))

-- the number behind it is past the range of a count, and of a size
count_past : HasTextFault order_types (type_at 0) (2 ∷ []) (codes "2147483648") faults.OutOfRange
count_past = record {
  shallow = lit≤ tt;
  scalar = Int32;
  ends = record { field = _; field_is = refl; kind_is = refl };
  wrong = (tt, (pos 2147483648, past_range, λ h. h.1.lt));
}

size_past : HasTextFault order_types (type_at 0) (3 ∷ []) (codes "2147483648") faults.OutOfRange
size_past = record {
  shallow = lit≤ tt;
  scalar = Enumeration (record { 0 = 0 });
  ends = record { field = _; field_is = refl; kind_is = refl };
  wrong = (tt, (pos 2147483648, past_range, λ h. h.1.lt));
}

-- so it is refused
pub past_refused : Orders OneSegment (2 ∷ []) 18 (codes "2147483648") (Err (Path 1 OutOfRange))
unfolding percent_decode
past_refused = record {
  binding = order_binding OneSegment (2 ∷ []);
  method = get_item;
  call = record { binding_is = refl; method_is = refl };
  before = 0;
  number = refl;
  fails = record {
    numbers = 2 ∷ [];
    text = codes "2147483648";
    variable =
        order_variable OneSegment (2 ∷ []) 18 (codes "/orders/2147483648") (codes "2147483648") refl;
    wrong = count_past;
  };
  first = λ i lt. absurd (omega arith);
}

-- of two variables past their ranges the first counts
pub first_refused : Two (Err (Path 1 OutOfRange))
unfolding percent_decode
first_refused = record {
  binding = two_binding;
  method = get_item;
  call = record { binding_is = refl; method_is = refl };
  before = 0;
  number = refl;
  fails = record {
    numbers = 2 ∷ [];
    text = codes "2147483648";
    variable = record { there = lit< tt; numbers_are = refl; text_is = refl };
    wrong = count_past;
  };
  first = λ i lt. absurd (omega arith);
}

-- though the second is at fault
pub second_fails : FailsAt order_types (type_at 0) two_binding (codes "/x/2147483648/2147483648")
    (span 3 13 ∷ span 14 24 ∷ []) 1 OutOfRange
unfolding percent_decode
second_fails = record {
  numbers = 3 ∷ [];
  text = codes "2147483648";
  variable = record { there = lit< tt; numbers_are = refl; text_is = refl };
  wrong = size_past;
}

-- the fault is not that of the second
pub second_not_told : (r s : BindFault) → ◌≡◌ {A = Result Assignments BindFault} (Err r) (Err s)
    → r ≡ Path 1 OutOfRange → s ≡ Path 2 OutOfRange → ⊥
second_not_told r s e p q =
    let same : r ≡ s = cc e in
    let told : Path 1 OutOfRange ≡ Path 2 OutOfRange = sym p ∙ same ∙ q in
    cc told

-- a path of 100 numbers
pub shallow_set : Orders OneSegment (through 99) 10 (codes "12") (sets (through 99) (Number (pos 12)))
unfolding percent_decode
shallow_set =
    order_set OneSegment (through 99) 10 (codes "12") (codes "12") Int32 (Number (pos 12)) (lit≤ tt)
    (record { field = _; field_is = refl; kind_is = refl }) refl (twelve_means order_types)

-- and one of 101
pub deep_refused : (text : List ℕ) (end : ℕ) → Orders OneSegment (through 100) end text (Err (Path 1 TooDeep))
deep_refused text end = record {
  binding = order_binding OneSegment (through 100);
  method = get_item;
  call = record { binding_is = refl; method_is = refl };
  before = 0;
  number = refl;
  fails = record {
    numbers = through 100;
    text = _;
    variable = order_variable OneSegment (through 100) end (codes "/orders/" ++ text) _ refl;
    wrong = lit< tt;
  };
  first = λ i lt. absurd (omega arith);
}
