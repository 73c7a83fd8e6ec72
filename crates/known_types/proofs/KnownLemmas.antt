-- What is read of a text has a text and is valid, and what is written is read back.
use Rattle.std.proofs.Common.{◌≡◌, ◌∙◌, ◌<◌, ◌≤◌, ◌^◌, ◌++◌, sym, ap, subst, refl, arith, cond, ℕ, suc, Bool, true, false, List, [], ◌∷◌, Option, Some, None, Result, Ok, Err}
use Rattle.std.specs.Prelude.{ℤ, pos, is_some, option_and_then, unsigned_abs, ◌≤ℤ◌, ◌<ℤ◌}
use Rattle.std.specs.List.{AllByRecursion}
use Rattle.std.specs.Str.{IsUtf8}
use Rattle.std.proofs.lemmas.Int.{ints}
use Rattle.known_types.specs.KnownAnswers.{IsKnownShown}
use Rattle.known_types.specs.KnownTexts.{instant_text, mask_items, mask_value, masked, moment_of, moment_value, paths_text, timed}
use Rattle.known_types.specs.declared.fault.TextFault.{TextFault}
use Rattle.known_types.proofs.MomentLemmas.{moment_back, moment_valid, value_back, value_with}
use Rattle.known_types.proofs.PathSlots.{items_back, mask_back, mask_slots, paths_valid}
use Rattle.mask_texts.specs.MaskItems.{item_paths, paths_as_items}
use Rattle.mask_texts.specs.MaskTexts.{mask_reading, mask_text}
use Rattle.message_types.specs.Types.{fields_of}
use Rattle.message_types.specs.declared.messages.Known.TheVariants.{FieldMask}
use Rattle.message_types.specs.declared.messages.TypeId.{TypeId}
use Rattle.message_types.specs.declared.messages.Types.{Types}
use Rattle.schema.specs.Soundness.{HasKnownFields, HasSecondsAndNanos}
use Rattle.schema.specs.Validity.{Inner, IsInt32, IsInt64, IsMessage}
use Rattle.schema.specs.declared.value.Item.{Item}
use Rattle.schema.specs.declared.value.Value.{Value}
use Rattle.time_texts.specs.DurationTexts.{IsPrintableDuration}
use Rattle.time_texts.specs.PrintableTimes.{is_printable_timestamp}
use Rattle.time_texts.specs.TimestampTexts.{AppendsTimestamp, IsPrintableTimestamp, IsTimestampShown}
use Rattle.time_texts.specs.UtcTimes.{timestamp_text}
use Rattle.time_texts.specs.declared.fault.TimeFault.{TimeFault}
use Rattle.time_texts.specs.declared.fault.TimeFault.TheVariants.{BadText, OutOfRange}
use Rattle.time_texts.specs.declared.moment.Moment.{Moment}

-- a value that was read
abbrev read_value : Value → Result Value TextFault
read_value v = Ok v

-- the numbers of an instant that has a text have 64 and 32 bits
pub instant_ranged : (m : Moment) → IsPrintableTimestamp m → IsInt64 m.seconds × IsInt32 m.nanos
instant_ranged m p =
    let from = p.seconds.from in
    let to = p.seconds.to in
    let low = p.nanos_from in
    let high = p.nanos_to in (
      (omega (arith, ints, from), omega (arith, ints, to)),
      (omega (arith, ints, low), omega (arith, ints, high)),
    )

-- and so have those of a duration
pub length_ranged : (m : Moment) → IsPrintableDuration m → IsInt64 m.seconds × IsInt32 m.nanos
length_ranged m p =
    let seconds = p.seconds in
    let nanos = p.nanos in (
      (omega (arith, ints, seconds), omega (arith, ints, seconds)),
      (omega (arith, ints, nanos), omega (arith, ints, nanos)),
    )

-- a time that was read is the message of a moment
pub record IsTimed (r : Result Moment TimeFault) (v : Value) : Type 0 where
  pub moment : Moment
  pub read : r ≡ Ok moment
  pub value : moment_value moment ≡ v

timed_is : (r : Result Moment TimeFault) (v : Value) → timed r ≡ Ok v → IsTimed r v
timed_is (Ok m) v h = record { moment = m; read = refl; value = cc }
timed_is (Err BadText) v h = absurd cc
timed_is (Err OutOfRange) v h = absurd cc

-- a text under a condition
some_is : (b : Bool) (x t : List ℕ) → cond b (Some x) None ≡ Some t → (b ≡ true) × (x ≡ t)
some_is true x t h = (refl, cc)
some_is false x t h = absurd cc

-- a kind of times: how texts are read, which moments have a text, and which they have
module _ (reading : List ℕ → Result Moment TimeFault) (printable : Moment → Bool) (text : Moment → List ℕ) where
  -- what is read has a text
  pub time_has_text : (t : List ℕ) (v : Value) → ((m : Moment) → reading t ≡ Ok m → printable m ≡ true)
      → timed (reading t) ≡ Ok v
      → is_some (cond (printable (moment_of v)) (Some (text (moment_of v))) None) ≡ true
  time_has_text t v read h =
      let k = timed_is (reading t) v h in
      let m : moment_of v ≡ k.moment = ap moment_of (sym k.value) ∙ moment_back k.moment in
      ap (λ b. is_some (cond b (Some (text (moment_of v))) None)) (ap printable m ∙ read k.moment k.read)

  -- and is valid
  pub time_valid : (inner : Inner) (types : Types) (id : TypeId) (t : List ℕ) (v : Value)
      → ((m : Moment) → reading t ≡ Ok m → IsInt64 m.seconds × IsInt32 m.nanos)
      → HasSecondsAndNanos (fields_of types id) → timed (reading t) ≡ Ok v → IsMessage inner types id v
  time_valid inner types id t v ranged known h =
      let k = timed_is (reading t) v h in
      let r = ranged k.moment k.read in
      subst (IsMessage inner types id) k.value (moment_valid inner types id known k.moment r.0 r.1)

  -- what is written is read back
  pub time_read_back : (inner : Inner) (types : Types) (id : TypeId) (v : Value) (t : List ℕ)
      → ((m : Moment) → printable m ≡ true → reading (text m) ≡ Ok m)
      → HasSecondsAndNanos (fields_of types id) → IsMessage inner types id v
      → cond (printable (moment_of v)) (Some (text (moment_of v))) None ≡ Some t → timed (reading t) ≡ Ok v
  time_read_back inner types id v t back known valid h =
      let k = some_is (printable (moment_of v)) (text (moment_of v)) t h in
      ap (λ s. timed (reading s)) (sym k.1)
      ∙ (ap timed (back (moment_of v) k.0) ∙ ap read_value (value_back inner types id v known valid))

-- what was appended for an instant is its text
pub instant_shown : (m : Moment) (old new : List ℕ) → is_printable_timestamp m ≡ true
    → ((t : List ℕ) → IsTimestampShown m t → t ≡ timestamp_text m)
    → AppendsTimestamp m old new → IsKnownShown (instant_text m) old new
instant_shown m old new printable one a =
    subst (λ b. IsKnownShown (cond b (Some (timestamp_text m)) None) old new) (sym printable)
    (a.appended ∙ ap (λ t. old ++ t) (one a.text a.shown))

-- a mask that was read is the message of paths
pub record IsMasked (r : Option (List (List ℕ))) (v : Value) : Type 0 where
  pub paths : List (List ℕ)
  pub read : r ≡ Some paths
  pub value : mask_value (paths_as_items paths) ≡ v

masked_is : (r : Option (List (List ℕ))) (v : Value) → masked r ≡ Ok v → IsMasked r v
masked_is (Some ps) v h = record { paths = ps; read = refl; value = cc }
masked_is None v h = absurd cc

-- what is read as a mask has a text
pub mask_has_text : (t : List ℕ) (v : Value)
    → ((ps : List (List ℕ)) → mask_reading t ≡ Some ps → mask_text ps ≡ Some t)
    → ((ps : List (List ℕ)) → item_paths (paths_as_items ps) ≡ ps)
    → masked (mask_reading t) ≡ Ok v → is_some (option_and_then paths_text (mask_items v)) ≡ true
mask_has_text t v written back h =
    let k = masked_is (mask_reading t) v h in
    let items : mask_items v ≡ Some (paths_as_items k.paths) =
    ap mask_items (sym k.value) ∙ mask_back (paths_as_items k.paths) in
    ap (λ o. is_some (option_and_then paths_text o)) items
    ∙ (ap (λ ps. is_some (mask_text ps)) (back k.paths) ∙ ap is_some (written k.paths k.read))

-- and is valid
pub mask_valid : (inner : Inner) (types : Types) (id : TypeId) (t : List ℕ) (v : Value)
    → ((ps : List (List ℕ)) → mask_reading t ≡ Some ps → AllByRecursion IsUtf8 ps)
    → HasKnownFields FieldMask (fields_of types id) → masked (mask_reading t) ≡ Ok v → IsMessage inner types id v
mask_valid inner types id t v utf8 known h =
    let k = masked_is (mask_reading t) v h in
    subst (IsMessage inner types id) k.value (paths_valid inner types id known k.paths (utf8 k.paths k.read))

-- what is written for a mask is read back
pub mask_read_back : (inner : Inner) (types : Types) (id : TypeId) (v : Value) (t : List ℕ)
    → ((ps : List (List ℕ)) → mask_text ps ≡ Some t → mask_reading t ≡ Some ps)
    → HasKnownFields FieldMask (fields_of types id) → IsMessage inner types id v
    → option_and_then paths_text (mask_items v) ≡ Some t → masked (mask_reading t) ≡ Ok v
mask_read_back inner types id v t back known valid h =
    let k = mask_slots inner types id known v valid in
    let whole : v ≡ mask_value k.items = ap value_with k.are in
    let text : mask_text (item_paths k.items) ≡ Some t =
    sym (ap (λ o. option_and_then paths_text o) (ap mask_items whole ∙ mask_back k.items)) ∙ h in
    ap masked (back (item_paths k.items) text)
    ∙ (ap (λ is. read_value (mask_value is)) (items_back k.items k.texts) ∙ ap read_value (sym whole))

-- a text is read as one value
pub same_value : (r : Result Value TextFault) (v w : Value) → r ≡ Ok v → r ≡ Ok w → v ≡ w
same_value r v w p q = cc
