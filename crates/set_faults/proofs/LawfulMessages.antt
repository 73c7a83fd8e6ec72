-- Messages without faults are lawful.
use Rattle.std.proofs.Common.{◌≡◌, ◌||◌, ℕ, Bool, true, false, List, [], not, sym, ap, ◌∙◌, codes}
use Rattle.std.proofs.lemmas.Slice.Eq.{bytes_eq-Decides}
use Rattle.std.specs.List.{AllByRecursion}
use Rattle.std.specs.Option.{option_map_or}
use Rattle.std.specs.Str.{bytes_eq}
use Rattle.base.proofs.EachLemmas.{each_weaker}
use Rattle.descriptor_pool.specs.DeclaredNames.{DeclaredMessage}
use Rattle.descriptor_pool.specs.DeclaredTypes.{SetTypes}
use Rattle.descriptor_pool.specs.ReachableTypes.{Joined}
use Rattle.descriptor_pool.specs.WellKnownTypes.{are_published}
use Rattle.set_faults.specs.LawfulSets.{IsLawfulItem, IsLawfulMessage}
use Rattle.set_faults.specs.LinkFaults.{fault_if}
use Rattle.set_faults.specs.MessageFaults.{fields_faults, has_extensions, head_faults, is_proto2, is_struct, joined_faults, json_faults, message_faults, reached_faults}
use Rattle.set_faults.specs.declared.fault.LinkFault.TheVariants.{At}
use Rattle.set_faults.specs.declared.fault.LinkKind.TheVariants.{AnyType, Edition, Extension, KnownShape, Proto2, StructType}
use Rattle.set_faults.proofs.ApartFields.{keys_distinct, numbers_distinct}
use Rattle.set_faults.proofs.LawfulFields.{fields_lawful}
use Rattle.set_faults.proofs.Theorems.{each_faultless, none_parts, test_fails, test_holds}

other_of_two : (a b : Bool) → a ≡ false → (a || b) ≡ true → b ≡ true
other_of_two true b e h = absurd (cc e)
other_of_two false b e h = h

module _ (types : SetTypes) (path : List ℕ) (m : DeclaredMessage) where
  -- a message without faults is lawful
  message_lawful : message_faults types path m ≡ [] → IsLawfulMessage types m
  message_lawful h =
      let head = none_parts (head_faults types path m) _ h in
      let fields = none_parts (fields_faults types path m [] m.fields) (json_faults m [] m.fields) head.1 in
      let any_name = bytes_eq m.name (codes "google.protobuf.Any") in
      let proto3 = bytes_eq m.syntax (codes "proto3") in
      let proto2 = none_parts (fault_if (is_proto2 m.syntax) (At Proto2 m.name [])) _ head.0 in
      let edition = none_parts (fault_if (not (is_proto2 m.syntax || proto3)) (At Edition m.name [])) _ proto2.1 in
      let any = none_parts (fault_if any_name (At AnyType m.name path)) _ edition.1 in
      let struct = none_parts (fault_if (is_struct m.name) (At StructType m.name path)) _ any.1 in
      let shape = fault_if (not (are_published m.name m.fields)) (At KnownShape m.name []) in
      let extension = none_parts (fault_if (has_extensions types m) (At Extension m.name [])) shape struct.1 in
      let old = test_fails (is_proto2 m.syntax) (At Proto2 m.name []) proto2.0 in
      let known = test_holds (is_proto2 m.syntax || proto3) (At Edition m.name []) edition.0 in
      record {
        syntax = (bytes_eq-Decides m.syntax (codes "proto3")).0 (other_of_two (is_proto2 m.syntax) proto3 old known);
        any = test_fails any_name (At AnyType m.name path) any.0;
        struct = test_fails (is_struct m.name) (At StructType m.name path) struct.0;
        extensions = test_fails (has_extensions types m) (At Extension m.name []) extension.0;
        published = test_holds (are_published m.name m.fields) (At KnownShape m.name []) extension.1;
        fields = fields_lawful types path m [] m.fields fields.0;
        numbers = numbers_distinct types path m [] m.fields fields.0;
        keys = keys_distinct m [] m.fields fields.1;
      }

item_lawful : (types : SetTypes) (j : Joined) → joined_faults types j ≡ [] → IsLawfulItem types j
item_lawful types j h m is =
    message_lawful types j.path m (sym (ap (λ o. option_map_or (message_faults types j.path) o []) is) ∙ h)

-- messages that are reached are lawful where they have no faults
pub reached_lawful : (types : SetTypes) (js : List Joined) → reached_faults types js ≡ []
    → AllByRecursion (IsLawfulItem types) js
reached_lawful types js h =
    each_weaker (λ (j : Joined). joined_faults types j ≡ []) (IsLawfulItem types) (item_lawful types) js
    (each_faultless (joined_faults types) js h)
