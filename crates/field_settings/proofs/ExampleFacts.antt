-- The orders of the examples, computed.
use Rattle.std.proofs.Common.{◌≡◌, ◌<◌, ◌==◌, ℕ, cond, List, [], ◌∷◌, codes, Option, Some, None, arith, refl, sym, ap, subst, ◌∙◌, length}
use Rattle.field_settings.proofs.OneSetting.{message_back}
use Rattle.field_settings.proofs.SetFields.{field_is_set}
use Rattle.field_settings.specs.AppliedSettings.{AreSet, SetsField, Sets, is_absence, message_in, message_slot, stored}
use Rattle.field_settings.specs.SettingExamples.{Gives, address, message, no_items, order, orders, text}
use Rattle.field_settings.specs.SettingSteps.{field_set}
use Rattle.linked_api.specs.FieldPaths.{LeadsInto}
use Rattle.linked_api.specs.LinkedExamples.{field_of_kind, type_at}
use Rattle.message_types.specs.Types.{field_of, fields_of}
use Rattle.message_types.specs.declared.fields.Field.{Field}
use Rattle.message_types.specs.declared.fields.Kind.TheVariants.{One as OneOf, Message as MessageOf}
use Rattle.message_types.specs.declared.fields.Presence.TheVariants.{Implicit, Explicit}
use Rattle.message_types.specs.declared.fields.Scalar.TheVariants.{Text as TextOf}
use Rattle.message_types.specs.declared.fields.Shape.TheVariants.{Single, Member, Many as ManyOf}
use Rattle.message_types.specs.declared.messages.TypeId.{TypeId}
use Rattle.schema.specs.Soundness.{AreNumbersApart}
use Rattle.schema.specs.Validity.{is_default}
use Rattle.schema.specs.Value.{RiseFrom, slot_at, slots_of}
use Rattle.schema.specs.declared.value.Item.TheOpen.{Text, One, Many}
use Rattle.schema.specs.declared.value.Item.{out-roll-Item, roll-Item}
use Rattle.schema.specs.declared.value.Slot.{Slot, out-Slot, out-roll-Slot}
use Rattle.schema.specs.declared.value.Value.{Value}

-- what a field with explicit presence holds of a string, and one with implicit presence
holds_text : (f : Field) (t : List ℕ) → f.presence ≡ Explicit → stored f (text t) ≡ Some (text t)
holds_text f t e =
    ap (λ p. cond (is_absence p (out-Slot (text t))) None (Some (text t))) e
    ∙ ap (λ s. cond (is_absence Explicit s) None (Some (text t))) (out-roll-Slot (One (roll-Item (Text t))))

implicit_text : (f : Field) (t : List ℕ) → f.presence ≡ Implicit
    → stored f (text t) ≡ cond (length t == 0) None (Some (text t))
implicit_text f t e =
    ap (λ p. cond (is_absence p (out-Slot (text t))) None (Some (text t))) e
    ∙ ap (λ s. cond (is_absence Implicit s) None (Some (text t))) (out-roll-Slot (One (roll-Item (Text t))))
    ∙ ap (λ i. cond (is_default i) None (Some (text t))) (out-roll-Item (Text t))

-- the field is set, where the value that is made is computed
set_by : (fields : List Field) (f : Field) (held : Option Slot) (v w : Value) → AreNumbersApart fields
    → 0 < f.number → RiseFrom 0 (slots_of v) → field_set fields f held v ≡ w → SetsField fields f held v w
set_by fields f held v w apart some r e =
    subst (SetsField fields f held v) e (field_is_set fields f held v apart some r)

-- the numbers of both types are apart
orders_apart : AreNumbersApart (fields_of orders (type_at 0))
orders_apart = (
  (refl, (refl, (refl, (refl, (refl, (refl, tt)))))),
  (
    (refl, (refl, (refl, (refl, (refl, tt))))),
    ((refl, (refl, (refl, (refl, tt)))), ((refl, (refl, (refl, tt))), ((refl, (refl, tt)), ((refl, tt), (tt, tt))))),
  ),
)

addresses_apart : AreNumbersApart (fields_of orders (type_at 1))
addresses_apart = ((refl, tt), (tt, tt))

-- one field of a message is set
last_set : (id : TypeId) (n : ℕ) (slot : Slot) (f : Field) (held : Option Slot) (v w : Value)
    → AreNumbersApart (fields_of orders id) → field_of orders id n ≡ Some f → 0 < f.number → RiseFrom 0 (slots_of v)
    → stored f slot ≡ held → field_set (fields_of orders id) f held v ≡ w → Sets orders id (n ∷ []) slot v w
last_set id n slot f held v w apart found some r e k = (
  f,
  found,
  subst (λ o. SetsField (fields_of orders id) f o v w) (sym e)
      (set_by (fields_of orders id) f held v w apart some r k),
)

-- a field of an address in an order
way_set : (n m : ℕ) (slot : Slot) (f : Field) (inside u v w : Value) → field_of orders (type_at 0) n ≡ Some f
    → f.kind ≡ MessageOf (type_at 1) → 0 < f.number → RiseFrom 0 (slots_of v) → message_in (slot_at v n) ≡ inside
    → Sets orders (type_at 1) (m ∷ []) slot inside u → field_set order.fields f (Some (message_slot u)) v ≡ w
    → Sets orders (type_at 0) (n ∷ m ∷ []) slot v w
way_set n m slot f inside u v w found kind some r held below k = (
  f,
  found,
  type_at 1,
  subst (λ x. LeadsInto orders x (type_at 1)) (sym kind)
      (refl, record { message = address; message_is = refl; plain = refl }),
  u,
  subst (λ x. Sets orders (type_at 1) (m ∷ []) slot x u) (sym held) below,
  set_by order.fields f (Some (message_slot u)) v w orders_apart some r k,
)

abbrev note : Field
note = field_of_kind (codes "note") 1 (OneOf TextOf) Single Implicit

abbrev label : Field
label = field_of_kind (codes "label") 2 (OneOf TextOf) Single Explicit

abbrev address_field : Field
address_field = field_of_kind (codes "address") 3 (MessageOf (type_at 1)) Single Explicit

abbrev card : Field
card = field_of_kind (codes "card") 4 (OneOf TextOf) (Member 0) Explicit

abbrev bill_to : Field
bill_to = field_of_kind (codes "bill_to") 5 (MessageOf (type_at 1)) (Member 0) Explicit

abbrev tags : Field
tags = field_of_kind (codes "tags") 6 (OneOf TextOf) ManyOf Implicit

abbrev town : Field
town = field_of_kind (codes "town") 1 (OneOf TextOf) Single Implicit

abbrev street : Field
street = field_of_kind (codes "street") 2 (OneOf TextOf) Single Explicit

-- a note is set
note_set : (t : List ℕ) (held : Option Slot) (old new : List (ℕ × Slot)) → RiseFrom 0 old
    → cond (length t == 0) None (Some (text t)) ≡ held → field_set order.fields note held (message old) ≡ message new
    → Gives (1 ∷ []) (text t) old new
note_set t held old new r e k =
    last_set (type_at 0) 1 (text t) note held (message old) (message new) orders_apart refl (omega arith) r
    (implicit_text note t refl ∙ e) k

-- and a town
town_set : (t : List ℕ) (held : Option Slot) (old new : List (ℕ × Slot)) → RiseFrom 0 old
    → cond (length t == 0) None (Some (text t)) ≡ held → field_set address.fields town held (message old) ≡ message new
    → Sets orders (type_at 1) (1 ∷ []) (text t) (message old) (message new)
town_set t held old new r e k =
    last_set (type_at 1) 1 (text t) town held (message old) (message new) addresses_apart refl (omega arith) r
    (implicit_text town t refl ∙ e) k

-- a note is set
pub top_given : Gives (1 ∷ []) (text (codes "a")) [] ((1, text (codes "a")) ∷ [])
top_given = note_set (codes "a") (Some (text (codes "a"))) [] ((1, text (codes "a")) ∷ []) tt refl refl

-- a label is replaced between other fields
pub replaced_given : Gives (2 ∷ []) (text (codes "a"))
    ((1, text (codes "x")) ∷ (2, text (codes "b")) ∷ (4, text (codes "y")) ∷ [])
    ((1, text (codes "x")) ∷ (2, text (codes "a")) ∷ (4, text (codes "y")) ∷ [])
replaced_given =
    last_set (type_at 0) 2 (text (codes "a")) label (Some (text (codes "a")))
    (message ((1, text (codes "x")) ∷ (2, text (codes "b")) ∷ (4, text (codes "y")) ∷ []))
    (message ((1, text (codes "x")) ∷ (2, text (codes "a")) ∷ (4, text (codes "y")) ∷ []))
    orders_apart refl (omega arith) (omega arith, (omega arith, (omega arith, tt)))
    (holds_text label (codes "a") refl) refl

-- an address is made for its town
pub made_given : Gives (3 ∷ 1 ∷ []) (text (codes "a")) []
    ((3, message_slot (message ((1, text (codes "a")) ∷ []))) ∷ [])
made_given =
    way_set 3 1 (text (codes "a")) address_field (message []) (message ((1, text (codes "a")) ∷ [])) (message [])
    (message ((3, message_slot (message ((1, text (codes "a")) ∷ []))) ∷ [])) refl refl (omega arith) tt refl
    (town_set (codes "a") (Some (text (codes "a"))) [] ((1, text (codes "a")) ∷ []) tt refl refl) refl

-- an address with two lines
abbrev lines : List ℕ → Value
lines t = message ((1, text t) ∷ (2, text (codes "c")) ∷ [])

-- an address that stands keeps its street
pub kept_given : Gives (3 ∷ 1 ∷ []) (text (codes "a")) ((3, message_slot (lines (codes "b"))) ∷ [])
    ((3, message_slot (lines (codes "a"))) ∷ [])
kept_given =
    way_set 3 1 (text (codes "a")) address_field (lines (codes "b")) (lines (codes "a"))
    (message ((3, message_slot (lines (codes "b"))) ∷ [])) (message ((3, message_slot (lines (codes "a"))) ∷ []))
    refl refl (omega arith) (omega arith, tt) (message_back (lines (codes "b")))
    (town_set (codes "a") (Some (text (codes "a"))) ((1, text (codes "b")) ∷ (2, text (codes "c")) ∷ [])
    ((1, text (codes "a")) ∷ (2, text (codes "c")) ∷ []) (omega arith, (omega arith, tt)) refl refl) refl

-- an empty note is none
pub cleared_given : Gives (1 ∷ []) (text []) ((1, text (codes "a")) ∷ []) []
cleared_given = note_set [] None ((1, text (codes "a")) ∷ []) [] (omega arith, tt) refl refl

-- an address is made where its town is none
pub absent_given : Gives (3 ∷ 1 ∷ []) (text []) [] ((3, message_slot (message [])) ∷ [])
absent_given =
    way_set 3 1 (text []) address_field (message []) (message []) (message [])
    (message ((3, message_slot (message [])) ∷ [])) refl refl (omega arith) tt refl
    (town_set [] None [] [] tt refl refl) refl

-- an empty street is one
pub present_given : Gives (3 ∷ 2 ∷ []) (text []) [] ((3, message_slot (message ((2, text []) ∷ []))) ∷ [])
present_given =
    way_set 3 2 (text []) address_field (message []) (message ((2, text []) ∷ [])) (message [])
    (message ((3, message_slot (message ((2, text []) ∷ []))) ∷ [])) refl refl (omega arith) tt refl
    (last_set (type_at 1) 2 (text []) street (Some (text [])) (message []) (message ((2, text []) ∷ []))
    addresses_apart refl (omega arith) tt (holds_text street [] refl) refl) refl

-- a list without items is none
pub listed_given : Gives (6 ∷ []) no_items [] []
listed_given =
    last_set (type_at 0) 6 no_items tags None (message []) (message []) orders_apart refl (omega arith) tt
    (ap (λ s. cond (is_absence Implicit s) None (Some no_items)) (out-roll-Slot (Many []))) refl

-- a card clears the address of the oneof
pub member_given : Gives (4 ∷ []) (text (codes "a"))
    ((1, text (codes "x")) ∷ (5, message_slot (message ((1, text (codes "b")) ∷ []))) ∷ (7, text (codes "y")) ∷ [])
    ((1, text (codes "x")) ∷ (4, text (codes "a")) ∷ (7, text (codes "y")) ∷ [])
member_given =
    last_set (type_at 0) 4 (text (codes "a")) card (Some (text (codes "a")))
    (message ((1, text (codes "x")) ∷ (5, message_slot (message ((1, text (codes "b")) ∷ [])))
    ∷ (7, text (codes "y")) ∷ []))
    (message ((1, text (codes "x")) ∷ (4, text (codes "a")) ∷ (7, text (codes "y")) ∷ [])) orders_apart refl
    (omega arith) (omega arith, (omega arith, (omega arith, tt))) (holds_text card (codes "a") refl) refl

-- the address of the oneof clears a card
pub passed_given : Gives (5 ∷ 1 ∷ []) (text (codes "a")) ((4, text (codes "b")) ∷ (7, text (codes "y")) ∷ [])
    ((5, message_slot (message ((1, text (codes "a")) ∷ []))) ∷ (7, text (codes "y")) ∷ [])
passed_given =
    way_set 5 1 (text (codes "a")) bill_to (message []) (message ((1, text (codes "a")) ∷ []))
    (message ((4, text (codes "b")) ∷ (7, text (codes "y")) ∷ []))
    (message ((5, message_slot (message ((1, text (codes "a")) ∷ []))) ∷ (7, text (codes "y")) ∷ []))
    refl refl (omega arith) (omega arith, (omega arith, tt)) refl
    (town_set (codes "a") (Some (text (codes "a"))) [] ((1, text (codes "a")) ∷ []) tt refl refl) refl

-- the second of two notes counts
pub last_given : AreSet orders (type_at 0)
    (record { path = 1 ∷ []; slot = text (codes "a") } ∷ record { path = 1 ∷ []; slot = text (codes "b") } ∷ [])
    (message []) (message ((1, text (codes "b")) ∷ []))
last_given = (
  message ((1, text (codes "a")) ∷ []),
  top_given,
  (
    message ((1, text (codes "b")) ∷ []),
    note_set (codes "b") (Some (text (codes "b"))) ((1, text (codes "a")) ∷ []) ((1, text (codes "b")) ∷ [])
        (omega arith, tt) refl refl,
    refl,
  ),
)

-- there is no eighth field
pub no_field_given : (w : Value) → Sets orders (type_at 0) (8 ∷ []) (text []) (message []) w → ⊥
no_field_given w h = let none : None ≡ Some h.0 = h.1 in absurd (cc none)

-- nothing is behind a note
pub behind_none : (w : Value) → Sets orders (type_at 0) (1 ∷ 1 ∷ []) (text []) (message []) w → ⊥
behind_none w h =
    let some : Some note ≡ Some h.0 = h.1 in
    let same : note ≡ h.0 = cc some in
    subst (λ (f : Field). LeadsInto orders f.kind h.2) (sym same) h.3
