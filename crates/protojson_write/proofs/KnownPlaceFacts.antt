-- The worked examples of well-known types in each place, computed of whatever texts these have.
use Rattle.std.proofs.Common.{◌≡◌, ◌∙◌, ◌++◌, ap, refl, append-nil, codes, ℕ, List, [], ◌∷◌, Some}
use Rattle.message_types.specs.declared.messages.Known.{Known}
use Rattle.message_types.specs.declared.messages.Known.TheVariants.{Plain, Wrapper, Timestamp, Duration, FieldMask}
use Rattle.schema.specs.declared.value.Item.{out-roll-Item}
use Rattle.schema.specs.declared.value.Slot.{out-roll-Slot}
use Rattle.json_meanings.specs.TextTypes.{IsTextType}
use Rattle.protojson_write.specs.JsonOutput.{array_text, json_text, object_text, text_within}
use Rattle.protojson_write.specs.KnownParts.{KnownTexts, parts_within}
use Rattle.protojson_write.specs.ScalarOutput.{quoted}
use Rattle.protojson_write.specs.KnownPlaces.{PlacesHold, UnprintablePlacesHold}

-- an object of one member
one_member : (m : List ℕ) → Some (object_text (m ++ [])) ≡ Some (object_text m)
one_member m = ap (λ x. Some (object_text x)) (append-nil m)

-- whose slot is a list of two items
two_shown : (name t u : List ℕ)
    → Some (object_text ((name ++ array_text (quoted t ++ ((44 ∷ quoted u) ++ []))) ++ []))
    ≡ Some (object_text (name ++ array_text (quoted t ++ 44 ∷ quoted u)))
two_shown name t u =
    ap (λ x. Some (object_text ((name ++ array_text (quoted t ++ x)) ++ []))) (append-nil (44 ∷ quoted u))
    ∙ one_member (name ++ array_text (quoted t ++ 44 ∷ quoted u))

-- or an object of one
inner_shown : (name m : List ℕ)
    → Some (object_text ((name ++ object_text (m ++ [])) ++ [])) ≡ Some (object_text (name ++ object_text m))
inner_shown name m =
    ap (λ x. Some (object_text ((name ++ object_text x) ++ []))) (append-nil m) ∙ one_member (name ++ object_text m)

-- with texts
pub places_hold : (texts : KnownTexts) (known : Known) → IsTextType known → PlacesHold texts known
unfolding json_text text_within parts_within
places_hold texts Plain kind v w t u e d = absurd kind
places_hold texts Wrapper kind v w t u e d = absurd kind
places_hold texts Timestamp kind v w t u e d = record {
  alone = simp e refl;
  single = simp (out-roll-Slot, out-roll-Item, e) (one_member (codes "\"one\":" ++ quoted t));
  items = simp (out-roll-Slot, out-roll-Item, e, d) (two_shown (codes "\"many\":") t u);
  entry = simp (out-roll-Slot, out-roll-Item, e) (inner_shown (codes "\"keyed\":") (codes "\"true\":" ++ quoted t));
  member = simp (out-roll-Slot, out-roll-Item, e) (one_member (codes "\"member\":" ++ quoted t));
  inner = simp (out-roll-Slot, out-roll-Item, e) (inner_shown (codes "\"inner\":") (codes "\"one\":" ++ quoted t));
}
places_hold texts Duration kind v w t u e d = record {
  alone = simp e refl;
  single = simp (out-roll-Slot, out-roll-Item, e) (one_member (codes "\"one\":" ++ quoted t));
  items = simp (out-roll-Slot, out-roll-Item, e, d) (two_shown (codes "\"many\":") t u);
  entry = simp (out-roll-Slot, out-roll-Item, e) (inner_shown (codes "\"keyed\":") (codes "\"true\":" ++ quoted t));
  member = simp (out-roll-Slot, out-roll-Item, e) (one_member (codes "\"member\":" ++ quoted t));
  inner = simp (out-roll-Slot, out-roll-Item, e) (inner_shown (codes "\"inner\":") (codes "\"one\":" ++ quoted t));
}
places_hold texts FieldMask kind v w t u e d = record {
  alone = simp e refl;
  single = simp (out-roll-Slot, out-roll-Item, e) (one_member (codes "\"one\":" ++ quoted t));
  items = simp (out-roll-Slot, out-roll-Item, e, d) (two_shown (codes "\"many\":") t u);
  entry = simp (out-roll-Slot, out-roll-Item, e) (inner_shown (codes "\"keyed\":") (codes "\"true\":" ++ quoted t));
  member = simp (out-roll-Slot, out-roll-Item, e) (one_member (codes "\"member\":" ++ quoted t));
  inner = simp (out-roll-Slot, out-roll-Item, e) (inner_shown (codes "\"inner\":") (codes "\"one\":" ++ quoted t));
}

-- and without one
pub unprintable_places_hold : (texts : KnownTexts) (known : Known) → IsTextType known
    → UnprintablePlacesHold texts known
unfolding json_text text_within parts_within
unprintable_places_hold texts Plain kind v w t e d = absurd kind
unprintable_places_hold texts Wrapper kind v w t e d = absurd kind
unprintable_places_hold texts Timestamp kind v w t e d = record {
  alone = simp d refl;
  single = simp (out-roll-Slot, out-roll-Item, d) refl;
  last_item = simp (out-roll-Slot, out-roll-Item, e, d) refl;
  first_item = simp (out-roll-Slot, out-roll-Item, e, d) refl;
  entry = simp (out-roll-Slot, out-roll-Item, d) refl;
  member = simp (out-roll-Slot, out-roll-Item, d) refl;
  inner = simp (out-roll-Slot, out-roll-Item, e, d) refl;
}
unprintable_places_hold texts Duration kind v w t e d = record {
  alone = simp d refl;
  single = simp (out-roll-Slot, out-roll-Item, d) refl;
  last_item = simp (out-roll-Slot, out-roll-Item, e, d) refl;
  first_item = simp (out-roll-Slot, out-roll-Item, e, d) refl;
  entry = simp (out-roll-Slot, out-roll-Item, d) refl;
  member = simp (out-roll-Slot, out-roll-Item, d) refl;
  inner = simp (out-roll-Slot, out-roll-Item, e, d) refl;
}
unprintable_places_hold texts FieldMask kind v w t e d = record {
  alone = simp d refl;
  single = simp (out-roll-Slot, out-roll-Item, d) refl;
  last_item = simp (out-roll-Slot, out-roll-Item, e, d) refl;
  first_item = simp (out-roll-Slot, out-roll-Item, e, d) refl;
  entry = simp (out-roll-Slot, out-roll-Item, d) refl;
  member = simp (out-roll-Slot, out-roll-Item, d) refl;
  inner = simp (out-roll-Slot, out-roll-Item, e, d) refl;
}
