-- Worked examples of well-known types (the ProtoJSON guide): wrappers, and types that are written as texts, of which
-- `t` stands for a lawful one here.
use Rattle.std.specs.Prelude.{◌≡◌, pos, [], ◌∷◌, codes, Some, None, Ok, Err}
use Rattle.schema.specs.declared.key.Key.TheVariants.{Number as NumberKey}
use Rattle.schema.specs.declared.value.Item.TheOpen.{Number, Message, Many, Pairs as Entries}
use Rattle.schema.specs.declared.value.Item.{roll-Item}
use Rattle.schema.specs.declared.value.Slot.{roll-Slot}
use Rattle.json_events.specs.JsonTree.{literal, number, string, array, object, no_items, item, no_pairs}
use Rattle.json_events.specs.declared.state.Name.TheVariants as names
use Rattle.json_meanings.specs.ExampleTypes.{in_things, is_read, one_pair, only, priced, priced_thing, thing_around, two_pairs, type_at}
use Rattle.json_meanings.specs.JsonDenotes.{reading}
use Rattle.json_meanings.specs.declared.fault.FieldKind.TheVariants.{BadNumber, BadText, KeyTwice, NullInside, OutOfRange, TooDeep, WrongShape}

-- wrappers are written as their values
pub record WrapperMeaningsHold : Type 0 where
  pub wrapped : reading priced priced_thing (Some 1) (string (codes "5"))
      ≡ Ok (only 1 (Message (only 1 (Number (pos 5)))))
  pub wrapped_default : reading priced priced_thing (Some 1) (number (codes "0"))
      ≡ Ok (only 1 (Message (record { fields = [] })))
  pub unset : reading priced priced_thing None (one_pair (codes "price") (literal names.Null)) ≡ is_read []
  pub whole : reading priced (type_at 1) None (number (codes "5")) ≡ Ok (only 1 (Number (pos 5)))
  pub in_a_list : reading priced priced_thing (Some 6) (array (item (number (codes "0")) no_items))
      ≡ is_read ((6, roll-Slot (Many (roll-Item (Message (record { fields = [] })) ∷ []))) ∷ [])
  pub whole_is_null : reading priced (type_at 1) None (literal names.Null) ≡ Err (0, WrongShape)
  pub null_in_a_list : reading priced priced_thing (Some 6) (array (item (literal names.Null) no_items))
      ≡ Err (1, NullInside)
  pub object_is_none : reading priced priced_thing (Some 1) (object no_pairs) ≡ Err (0, WrongShape)
  pub truth_is_none : reading priced priced_thing (Some 1) (literal names.True) ≡ Err (0, WrongShape)
  pub half_is_none : reading priced priced_thing (Some 1) (number (codes "0.5")) ≡ Err (0, BadNumber)

-- types that are written as texts
pub record TextTypeMeaningsHold : Type 0 where
  pub time : reading priced priced_thing (Some 2) (string (codes "t")) ≡ Ok (only 2 (Message (record { fields = [] })))
  pub duration : reading priced priced_thing (Some 4) (string (codes "t"))
      ≡ Ok (only 4 (Message (record { fields = [] })))
  pub mask : reading priced priced_thing (Some 5) (string (codes "t")) ≡ Ok (only 5 (Message (record { fields = [] })))
  pub whole : reading priced (type_at 2) None (string (codes "t")) ≡ is_read []
  pub entry : reading priced priced_thing (Some 3) (one_pair (codes "1e0") (string (codes "t")))
      ≡ is_read ((
        3,
        roll-Slot
            (Entries (record { entries = (NumberKey (pos 1), roll-Item (Message (record { fields = [] }))) ∷ [] })),
      ) ∷ [])
  pub bad_time : reading priced priced_thing (Some 2) (string (codes "u")) ≡ Err (0, BadText)
  pub far_time : reading priced priced_thing (Some 2) (string (codes "far")) ≡ Err (0, OutOfRange)
  pub time_is_a_number : reading priced priced_thing (Some 2) (number (codes "1")) ≡ Err (0, WrongShape)
  pub time_is_an_object : reading priced priced_thing (Some 2) (object no_pairs) ≡ Err (0, WrongShape)
  pub key_twice : reading priced priced_thing (Some 3)
      (two_pairs (codes "1") (string (codes "t")) (codes "1e0") (string (codes "t"))) ≡ Err (3, KeyTwice)
  pub bad_key : reading priced priced_thing (Some 3) (one_pair (codes "a") (string (codes "t"))) ≡ Err (1, BadNumber)
  pub time_at_level_101 : reading priced priced_thing None
      (in_things 99 (one_pair (codes "made") (string (codes "t")))) ≡ Err (200, TooDeep)
  pub depth_before_text : reading priced priced_thing None
      (in_things 99 (one_pair (codes "made") (string (codes "u")))) ≡ Err (200, TooDeep)
  pub shape_before_depth : reading priced priced_thing None
      (in_things 99 (one_pair (codes "made") (number (codes "1")))) ≡ Err (200, WrongShape)
  pub bracket_before_depth : reading priced priced_thing None
      (in_things 99 (one_pair (codes "made") (object no_pairs))) ≡ Err (200, WrongShape)
  pub time_at_level_100 : reading priced priced_thing None (in_things 98 (one_pair (codes "made") (string (codes "t"))))
      ≡ Ok (thing_around 98 (only 2 (Message (record { fields = [] }))))
