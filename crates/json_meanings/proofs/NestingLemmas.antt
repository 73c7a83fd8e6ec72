-- The brackets of tokens that are taken nest at most twice as deep as a message has levels.
use Rattle.std.proofs.Common.{◌≡◌, ◌∙◌, ◌≤◌, ◌+◌, ◌-◌, ◌*◌, sym, ap, subst, refl, arith, cond, ℕ, zero, suc, Bool, true, false, List, [], ◌∷◌, length, Option, Some, None, Result, Ok, Err}
use Rattle.message_types.specs.Types.{field_in, fields_of}
use Rattle.message_types.specs.declared.fields.Field.{Field}
use Rattle.message_types.specs.declared.fields.Kind.{Kind}
use Rattle.message_types.specs.declared.fields.Kind.TheVariants.{One as OneOf, Message as MessageOf}
use Rattle.message_types.specs.declared.fields.Shape.{Shape}
use Rattle.message_types.specs.declared.fields.Shape.TheVariants.{Single, Member, Many as ManyOf, Map as MapOf}
use Rattle.message_types.specs.declared.messages.Known.{Known}
use Rattle.message_types.specs.declared.messages.Known.TheVariants.{Plain, Timestamp, Duration, FieldMask, Wrapper}
use Rattle.message_types.specs.declared.messages.TypeId.{TypeId}
use Rattle.schema.specs.Layers.{ItemLayer}
use Rattle.schema.specs.declared.key.Key.{Key}
use Rattle.json_events.specs.JsonText.{Span, marks_of}
use Rattle.json_events.specs.JsonTokens.{level_behind, level_from}
use Rattle.json_events.specs.JsonTree.{Mark, opens, closes, comma, colon, key, text, digits, name}
use Rattle.json_events.specs.declared.state.Bracket.{Bracket}
use Rattle.json_events.specs.declared.state.Bracket.TheVariants.{Array, Object}
use Rattle.json_meanings.specs.FaultPlaces.{Fault, at_once, behind, onward}
use Rattle.json_meanings.specs.JsonDenotes.{part_spot, spot_of}
use Rattle.json_meanings.specs.JsonScalars.{Schema}
use Rattle.json_meanings.specs.PartialMessages.{FieldForm, PartialMessage, empty_message, entry_key, is_taken, key_of}
use Rattle.json_meanings.specs.ReadingSpots.{Filled, OpenArray, OpenObject, Spot, element, entry, member, of_map, of_message, part, whole}
use Rattle.json_meanings.specs.ReadingTurns.{Levels, Stands, Turn, array_opened, close, give, given, has_ended, in_array, in_object, named, object_opened, run, start, step, turn_behind, turn_in, value_turn, wants_value}
use Rattle.json_meanings.specs.SpotTables.{array_by, as_message, as_single, below, entry_at, field_as, fills, in_levels, kind_as, known_of, member_at, message_as, message_by, names_spot, object_by, object_in, opens_array, opens_object, shape_as, wrapper_as}
use Rattle.json_meanings.specs.TokenNesting.{NestingLawsHold, nesting, nesting_from, nesting_limit}
use Rattle.json_meanings.specs.declared.fault.FieldKind.{FieldKind}
use Rattle.json_meanings.specs.declared.fault.FieldKind.TheVariants.{OneofTwice, WrongShape}
use Rattle.json_meanings.proofs.FaultLemmas.{run_of_begun}

-- how many brackets may be opened at a spot, one in another
abbrev room_at : Spot → ℕ
room_at (whole k id) = 2 * k
room_at (part k f) = 2 * k + 1
room_at (member k id p f) = 2 * k + 1
room_at (entry k s kind es t) = 2 * below k
room_at (element a) = 2 * a.levels

-- how many may be opened in an object
abbrev room_in : OpenObject → ℕ
room_in (of_message k id p) = 2 * k + 1
room_in (of_map k s kind es) = 2 * below k

-- how many may be opened next
abbrev room_for : Turn → ℕ
room_for (wants_value spot) = room_at spot
room_for (in_array a) = 2 * a.levels
room_for (in_object o) = room_in o
room_for (has_ended x) = 0

-- so many as are around, and those that may be opened at a spot, are within the limit
abbrev AllFit : List Spot → Type 0
AllFit [] = Unit {0}
AllFit (spot ∷ st) = (length st + room_at spot ≤ nesting_limit) × AllFit st

-- the brackets that are open, and those that may be opened next, are within the limit
pub record FitsLimit (l : Levels) : Type 0 where
  pub next : length l.around + room_for l.turn ≤ nesting_limit
  pub around : AllFit l.around

spot_same : (a b : Spot) → ◌≡◌ {A = Result Spot FieldKind} (Ok a) (Ok b) → a ≡ b
spot_same a b e = cc

levels_same : (a b : Levels) → ◌≡◌ {A = Result Levels Fault} (Ok a) (Ok b) → a ≡ b
levels_same a b e = cc

-- a token leaves so many brackets open, within the limit
abbrev IsGood : ℕ → Result Levels FieldKind → Type 0
IsGood n (Ok l) = FitsLimit l × (length l.around ≡ n)
IsGood n (Err k) = Unit {0}

room_behind : (x : Filled) (spot : Spot) → room_for (turn_behind x spot) ≤ room_at spot
room_behind x (whole k id) = omega arith
room_behind x (part k f) = omega arith
room_behind x (member k id p f) = omega arith
room_behind x (entry k s kind es t) = omega arith
room_behind x (element a) = omega arith

give_good : (x : Filled) (spot : Spot) (st : List Spot) → length st + room_at spot ≤ nesting_limit → AllFit st
    → IsGood (length st) (Ok (give x spot st))
give_good x spot st low all = (record { next = omega (arith, low, room_behind x spot); around = all }, refl)

close_good : (x : Filled) (st : List Spot) → AllFit st → IsGood (length st - 1) (close x st)
close_good x [] all = tt
close_good x (spot ∷ st) all =
    let h = give_good x spot st all.0 all.1 in (h.0, omega arith)

given_good : (spot : Spot) (st : List Spot) (r : Result Filled FieldKind) → length st + room_at spot ≤ nesting_limit
    → AllFit st → IsGood (length st) (given spot st r)
given_good spot st (Ok x) low all = give_good x spot st low all
given_good spot st (Err k) low all = tt

-- an array or an object that opens leaves one bracket fewer
abbrev LeavesArray : ℕ → Result OpenArray FieldKind → Type 0
LeavesArray n (Ok a) = 1 + 2 * a.levels ≤ n
LeavesArray n (Err k) = Unit {0}

abbrev LeavesObject : ℕ → Result OpenObject FieldKind → Type 0
LeavesObject n (Ok o) = 1 + room_in o ≤ n
LeavesObject n (Err k) = Unit {0}

array_by_leaves : (k : ℕ) (f : FieldForm) (shape : Shape) → LeavesArray (2 * k + 1) (array_by k f shape)
array_by_leaves k f Single = tt
array_by_leaves k f (Member n) = tt
array_by_leaves k f ManyOf = omega arith
array_by_leaves k f (MapOf s) = tt

opens_array_leaves : (spot : Spot) → LeavesArray (room_at spot) (opens_array spot)
opens_array_leaves (whole k id) = tt
opens_array_leaves (part k f) = array_by_leaves k f f.shape
opens_array_leaves (member k id p f) = by_taken (is_taken p f.shape)
  where
    by_taken : (t : Bool) → LeavesArray (2 * k + 1) (cond t (Err OneofTwice) (array_by k f f.shape))
    by_taken true = tt
    by_taken false = array_by_leaves k f f.shape
opens_array_leaves (entry k s kind es t) = tt
opens_array_leaves (element a) = tt

message_leaves : (k : ℕ) (known : Known) (id : TypeId) → LeavesObject (2 * k) (message_by k known id)
message_leaves zero Plain id = tt
message_leaves (suc k) Plain id = omega arith
message_leaves zero Timestamp id = tt
message_leaves (suc k) Timestamp id = tt
message_leaves zero Duration id = tt
message_leaves (suc k) Duration id = tt
message_leaves zero FieldMask id = tt
message_leaves (suc k) FieldMask id = tt
message_leaves zero Wrapper id = tt
message_leaves (suc k) Wrapper id = tt

-- a closing bracket is no value
abbrev IsRefused : {A : Type 0} → Result A FieldKind → Type 0
IsRefused r = (k : FieldKind) × (r ≡ Err k)

single_refused : (r : Result ItemLayer FieldKind) → IsRefused r → IsRefused (as_single r)
single_refused r h = (h.0, ap as_single h.1)

module _ (c : Schema) where
  kind_leaves : (k : ℕ) (kind : Kind) → LeavesObject (2 * k) (object_by c k kind)
  kind_leaves k (OneOf s) = tt
  kind_leaves k (MessageOf id) = message_leaves k (known_of c.types id) id

  more_room : (n m : ℕ) (r : Result OpenObject FieldKind) → n ≤ m → LeavesObject n r → LeavesObject m r
  more_room n m (Ok o) low h = omega (arith, low, h)
  more_room n m (Err k) low h = tt

  below_low : (k : ℕ) → below k ≤ k
  below_low zero = omega arith
  below_low (suc k) = omega arith

  object_in_leaves : (k : ℕ) (f : FieldForm) (shape : Shape) → LeavesObject (2 * k + 1) (object_in c k f shape)
  object_in_leaves k f Single = more_room (2 * k) (2 * k + 1) _ (omega arith) (kind_leaves k f.kind)
  object_in_leaves k f (Member n) = more_room (2 * k) (2 * k + 1) _ (omega arith) (kind_leaves k f.kind)
  object_in_leaves k f ManyOf = tt
  object_in_leaves k f (MapOf s) = omega (arith, below_low k)

  opens_object_leaves : (spot : Spot) → LeavesObject (room_at spot) (opens_object c spot)
  opens_object_leaves (whole k id) = kind_leaves k (MessageOf id)
  opens_object_leaves (part k f) = object_in_leaves k f f.shape
  opens_object_leaves (member k id p f) = by_taken (is_taken p f.shape)
    where
      by_taken : (t : Bool) → LeavesObject (2 * k + 1) (cond t (Err OneofTwice) (object_in c k f f.shape))
      by_taken true = tt
      by_taken false = object_in_leaves k f f.shape
  opens_object_leaves (entry k s kind es t) = kind_leaves (below k) kind
  opens_object_leaves (element a) = kind_leaves a.levels a.kind

  array_good : (spot : Spot) (st : List Spot) (r : Result OpenArray FieldKind) → LeavesArray (room_at spot) r
      → length st + room_at spot ≤ nesting_limit → AllFit st → IsGood (length st + 1) (array_opened spot st r)
  array_good spot st (Ok a) h low all = (record { next = omega (arith, h, low); around = (low, all) }, omega arith)
  array_good spot st (Err k) h low all = tt

  object_good : (spot : Spot) (st : List Spot) (r : Result OpenObject FieldKind) → LeavesObject (room_at spot) r
      → length st + room_at spot ≤ nesting_limit → AllFit st → IsGood (length st + 1) (object_opened spot st r)
  object_good spot st (Ok o) h low all = (record { next = omega (arith, h, low); around = (low, all) }, omega arith)
  object_good spot st (Err k) h low all = tt

  module _ (b : Bracket) where
    wrapper_refused : (k : ℕ) (o : Option Field) → IsRefused (as_message (in_levels k (wrapper_as c o (closes b))))
    wrapper_refused zero None = (WrongShape, refl)
    wrapper_refused (suc k) None = (WrongShape, refl)
    wrapper_refused zero (Some f) = (WrongShape, refl)
    wrapper_refused (suc k) (Some f) = (WrongShape, refl)

    message_refused : (k : ℕ) (known : Known) (fields : List Field) → IsRefused (message_as c k known fields (closes b))
    message_refused k Plain fields = (WrongShape, refl)
    message_refused zero Timestamp fields = (WrongShape, refl)
    message_refused (suc k) Timestamp fields = (WrongShape, refl)
    message_refused zero Duration fields = (WrongShape, refl)
    message_refused (suc k) Duration fields = (WrongShape, refl)
    message_refused zero FieldMask fields = (WrongShape, refl)
    message_refused (suc k) FieldMask fields = (WrongShape, refl)
    message_refused k Wrapper fields = wrapper_refused k (field_in fields 1)

    kind_refused : (k : ℕ) (kind : Kind) → IsRefused (kind_as c k kind (closes b))
    kind_refused k (OneOf s) = (WrongShape, refl)
    kind_refused k (MessageOf id) = message_refused k (known_of c.types id) (fields_of c.types id)

    shape_refused : (k : ℕ) (f : FieldForm) (shape : Shape) → IsRefused (shape_as c k f shape (closes b))
    shape_refused k f Single = single_refused _ (kind_refused k f.kind)
    shape_refused k f (Member n) = single_refused _ (kind_refused k f.kind)
    shape_refused k f ManyOf = (WrongShape, refl)
    shape_refused k f (MapOf s) = (WrongShape, refl)

    field_refused : (k : ℕ) (p : PartialMessage) (f : FieldForm) → IsRefused (field_as c k p f (closes b))
    field_refused k p f = by_taken (is_taken p f.shape)
      where
        by_taken : (t : Bool) → IsRefused (cond t (Err OneofTwice) (shape_as c k f f.shape (closes b)))
        by_taken true = (OneofTwice, refl)
        by_taken false = shape_refused k f f.shape

    fills_refused : (spot : Spot) → IsRefused (fills c spot (closes b))
    fills_refused (whole k id) = single_refused _ (kind_refused k (MessageOf id))
    fills_refused (part k f) = field_refused k empty_message f
    fills_refused (member k id p f) = field_refused k p f
    fills_refused (entry k s kind es t) = single_refused _ (kind_refused (below k) kind)
    fills_refused (element a) = single_refused _ (kind_refused a.levels a.kind)

  value_good : (spot : Spot) (st : List Spot) (m : Mark) → length st + room_at spot ≤ nesting_limit → AllFit st
      → IsGood (level_behind m (length st)) (value_turn c spot st m)
  value_good spot st (opens Array) low all = array_good spot st (opens_array spot) (opens_array_leaves spot) low all
  value_good spot st (opens Object) low all =
      object_good spot st (opens_object c spot) (opens_object_leaves spot) low all
  value_good spot st (closes b) low all =
      subst (λ r. IsGood (length st - 1) (given spot st r)) (sym (fills_refused b spot).1) tt
  value_good spot st comma low all = given_good spot st (fills c spot comma) low all
  value_good spot st colon low all = given_good spot st (fills c spot colon) low all
  value_good spot st (key t) low all = given_good spot st (fills c spot (key t)) low all
  value_good spot st (text t) low all = given_good spot st (fills c spot (text t)) low all
  value_good spot st (digits t) low all = given_good spot st (fills c spot (digits t)) low all
  value_good spot st (name n) low all = given_good spot st (fills c spot (name n)) low all

  -- the spot behind a key
  named_good : (st : List Spot) (n : ℕ) (r : Result Spot FieldKind)
      → ((spot : Spot) → r ≡ Ok spot → room_at spot ≤ n) → length st + n ≤ nesting_limit → AllFit st
      → IsGood (length st) (named st r)
  named_good st n (Ok spot) h low all = (record { next = omega (arith, h spot refl, low); around = all }, refl)
  named_good st n (Err k) h low all = tt

  key_room : (o : OpenObject) (t : List ℕ) (spot : Spot) → names_spot c o t ≡ Ok spot → room_at spot ≤ room_in o
  key_room (of_message k id p) t spot is = by_field (key_of (fields_of c.types id) p t) is
    where
      by_field : (r : Result FieldForm FieldKind) → member_at k id p r ≡ Ok spot → room_at spot ≤ 2 * k + 1
      by_field (Ok f) e = subst (λ w. room_at w ≤ 2 * k + 1) (spot_same (member k id p f) spot e) (omega arith)
      by_field (Err e) q = absurd cc
  key_room (of_map k s kind es) t spot is = by_key (entry_key c.types k s kind es t) is
    where
      by_key : (r : Result Key FieldKind) → entry_at k s kind es r ≡ Ok spot → room_at spot ≤ 2 * below k
      by_key (Ok u) e = subst (λ w. room_at w ≤ 2 * below k) (spot_same (entry k s kind es u) spot e) (omega arith)
      by_key (Err e) q = absurd cc

  object_turn_good : (o : OpenObject) (st : List Spot) (m : Mark) → length st + room_in o ≤ nesting_limit
      → AllFit st → IsGood (level_behind m (length st)) (turn_in c (in_object o) st m)
  object_turn_good o st (closes b) low all = close_good _ st all
  object_turn_good o st (key t) low all = named_good st (room_in o) (names_spot c o t) (key_room o t) low all
  object_turn_good o st (opens b) low all = tt
  object_turn_good o st comma low all = tt
  object_turn_good o st colon low all = tt
  object_turn_good o st (text t) low all = tt
  object_turn_good o st (digits t) low all = tt
  object_turn_good o st (name n) low all = tt

  array_turn_good : (a : OpenArray) (st : List Spot) (m : Mark) → length st + 2 * a.levels ≤ nesting_limit
      → AllFit st → IsGood (level_behind m (length st)) (turn_in c (in_array a) st m)
  array_turn_good a st (closes b) low all = close_good _ st all
  array_turn_good a st (opens b) low all = value_good (element a) st (opens b) low all
  array_turn_good a st comma low all = value_good (element a) st comma low all
  array_turn_good a st colon low all = value_good (element a) st colon low all
  array_turn_good a st (key t) low all = value_good (element a) st (key t) low all
  array_turn_good a st (text t) low all = value_good (element a) st (text t) low all
  array_turn_good a st (digits t) low all = value_good (element a) st (digits t) low all
  array_turn_good a st (name n) low all = value_good (element a) st (name n) low all

  turn_good : (turn : Turn) (st : List Spot) (m : Mark) → length st + room_for turn ≤ nesting_limit → AllFit st
      → IsGood (level_behind m (length st)) (turn_in c turn st m)
  turn_good (wants_value spot) st m low all = value_good spot st m low all
  turn_good (in_array a) st m low all = array_turn_good a st m low all
  turn_good (in_object o) st m low all = object_turn_good o st m low all
  turn_good (has_ended x) st m low all = tt

  -- all tokens
  run_good : (l next : Levels) (ts : List Mark) → FitsLimit l → run c l ts ≡ Ok next
      → FitsLimit next × (nesting_from (length l.around) ts ≡ length next.around)
  run_good l next [] h e =
      subst (λ n. FitsLimit n × (length l.around ≡ length n.around)) (levels_same l next e) (h, refl)
  run_good l next (t ∷ ts) h e =
      by_step (step c l t) (turn_good l.turn l.around t h.next h.around) e (λ m. run_good m next ts)
    where
      by_rest : (m : Levels) (r : Result Levels Fault) → behind 1 r ≡ Ok next → r ≡ Ok next
      by_rest m (Ok n) q = cc
      by_rest m (Err f) q = absurd cc

      by_step : (r : Result Levels FieldKind) → IsGood (level_behind t (length l.around)) r
          → onward (at_once r) (λ n. behind 1 (run c n ts)) ≡ Ok next
          → ((m : Levels) → FitsLimit m → run c m ts ≡ Ok next
          → FitsLimit next × (nesting_from (length m.around) ts ≡ length next.around))
          → FitsLimit next × (nesting_from (level_behind t (length l.around)) ts ≡ length next.around)
      by_step (Ok m) good q ih =
          let rest = ih m good.0 (by_rest m (run c m ts) q) in
          (rest.0, ap (λ n. nesting_from n ts) (sym good.1) ∙ rest.1)
      by_step (Err k) good q ih = absurd cc

  start_within : (id : TypeId) (n : Option ℕ) → FitsLimit (start (spot_of c id n))
  start_within id None = record { next = omega arith; around = tt }
  start_within id (Some n) = by_field (field_in (fields_of c.types id) n)
    where
      by_field : (o : Option Field) → FitsLimit (start (part_spot o id))
      by_field None = record { next = omega arith; around = tt }
      by_field (Some f) = record { next = omega arith; around = tt }

  counted_from : (n : ℕ) (ts : List Span) → level_from n ts ≡ nesting_from n (marks_of ts)
  counted_from n [] = refl
  counted_from n (t ∷ ts) = counted_from (level_behind t.mark n) ts

  -- the brackets of tokens
  pub nesting_laws : (id : TypeId) (n : Option ℕ) → NestingLawsHold c id n
  nesting_laws id n = record {
    begins = λ ts h. let l = run_of_begun c id n ts h in low l.0 ts l.1;
    stands = low;
    around = λ l ts stands. (run_good (start (spot_of c id n)) l ts (start_within id n) stands).1;
    counted = counted_from 0;
  }
    where
      low : (l : Levels) (ts : List Mark) → Stands c id n l ts → nesting ts ≤ nesting_limit
      low l ts stands =
          let h = run_good (start (spot_of c id n)) l ts (start_within id n) stands in
          omega (arith, h.1, h.0.next)
