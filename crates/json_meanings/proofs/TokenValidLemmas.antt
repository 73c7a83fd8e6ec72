-- What a token is at a spot is valid there.
use Rattle.std.proofs.Common.{◌≡◌, ◌∙◌, sym, ap, subst, refl, cond, ℕ, zero, suc, Bool, true, false, List, Some, Result, Ok, Err}
use Rattle.std.specs.Prelude.{ℤ}
use Rattle.message_types.specs.Types.{field_in, fields_of}
use Rattle.message_types.specs.declared.fields.Field.{Field}
use Rattle.message_types.specs.declared.fields.Kind.{Kind}
use Rattle.message_types.specs.declared.fields.Kind.TheVariants.{One as OneOf, Message as MessageOf}
use Rattle.message_types.specs.declared.fields.Scalar.{Scalar}
use Rattle.message_types.specs.declared.fields.Shape.{Shape}
use Rattle.message_types.specs.declared.fields.Shape.TheVariants.{Single, Member, Many as ManyOf, Map as MapOf}
use Rattle.message_types.specs.declared.messages.Known.{Known}
use Rattle.message_types.specs.declared.messages.Known.TheVariants.{Plain, Timestamp, Duration, FieldMask, Wrapper}
use Rattle.message_types.specs.declared.messages.TypeId.{TypeId}
use Rattle.schema.specs.Layers.{ItemLayer}
use Rattle.schema.specs.Soundness.{IsSound}
use Rattle.schema.specs.Validity.{IsItem, IsScalarItem, valid_within}
use Rattle.schema.specs.declared.value.Item.TheOpen.{Message}
use Rattle.schema.specs.declared.value.Value.{Value}
use Rattle.json_events.specs.JsonTree.{Mark, digits, text, name, opens, closes, comma, colon, key}
use Rattle.json_events.specs.declared.state.Name.TheVariants as names
use Rattle.json_meanings.specs.TextTypes.{IsTextType}
use Rattle.json_meanings.specs.JsonScalars.{IsNumberKind, Schema, scalar_as}
use Rattle.json_meanings.specs.PartialMessages.{FieldForm, PartialMessage, empty_message, form_of, is_taken, put_field, stored, value_of}
use Rattle.json_meanings.specs.ReadingSpots.{Filled, many, pairs, single, unset}
use Rattle.json_meanings.specs.ScalarLaws.{NumberLawsHold, RangeLawsHold}
use Rattle.json_meanings.specs.SpotTables.{as_message, as_single, field_as, in_levels, inner_as, kind_as, known_as, known_of, message_as, scalar_in, shape_as, unless_taken, wrapped, wrapper_as}
use Rattle.json_meanings.specs.ValidLaws.{GivesValid, MarkIsUtf8}
use Rattle.json_meanings.specs.declared.fault.FieldKind.{FieldKind}
use Rattle.json_meanings.specs.declared.fault.FieldKind.TheVariants.{UnknownKey, KeyTwice, OneofTwice, WrongShape, BadNumber, OutOfRange, BadEnum, BadText, NullInside, TooDeep}
use Rattle.json_meanings.proofs.FieldLemmas.{IsFieldOf, numbered_field, wrapper_field}
use Rattle.json_meanings.proofs.FilledLemmas.{FillsField, IsOneShape, empty_valid, put_filled, valid_at_end}
use Rattle.json_meanings.proofs.ScalarItemLemmas.{IsReadOf, scalar_read}

-- past the last level there is no message
deep_fault : (e : FieldKind) → (k : FieldKind) × (in_levels {A = Value} zero (Err e) ≡ Err k)
deep_fault UnknownKey = (TooDeep, refl)
deep_fault KeyTwice = (TooDeep, refl)
deep_fault OneofTwice = (TooDeep, refl)
deep_fault WrongShape = (WrongShape, refl)
deep_fault BadNumber = (TooDeep, refl)
deep_fault OutOfRange = (TooDeep, refl)
deep_fault BadEnum = (TooDeep, refl)
deep_fault BadText = (TooDeep, refl)
deep_fault NullInside = (TooDeep, refl)
deep_fault TooDeep = (TooDeep, refl)

ok_message : (v : Value) (i : ItemLayer) → as_message (Ok v) ≡ Ok i → Message v ≡ i
ok_message v i e = cc e

no_message : (k : FieldKind) (i : ItemLayer) → as_message (Err k) ≡ Ok i → ⊥
no_message k i e = cc e

ok_item : (i j : ItemLayer) → ◌≡◌ {A = Result ItemLayer FieldKind} (Ok i) (Ok j) → i ≡ j
ok_item i j e = cc e

ok_single : (i : ItemLayer) (x : Filled) → ◌≡◌ {A = Result Filled FieldKind} (Ok (single i)) (Ok x) → single i ≡ x
ok_single i x e = cc e

ok_value : (v w : Value) → ◌≡◌ {A = Result Value FieldKind} (Ok v) (Ok w) → v ≡ w
ok_value v w e = cc e

no_value : (k : FieldKind) (w : Value) → ◌≡◌ {A = Result Value FieldKind} (Err k) (Ok w) → ⊥
no_value k w e = cc e

-- what fills a spot of one item of a kind, with so many levels left
abbrev pub IsOne : Schema → ℕ → Kind → Filled → Type 0
IsOne c k kind (single i) = IsItem (valid_within k c.types) kind i
IsOne c k kind unset = ⊥
IsOne c k kind (many is) = ⊥
IsOne c k kind (pairs es) = ⊥

-- what fills a field, and that no other member of its oneof has a value
abbrev pub FillsFreely : Schema → ℕ → PartialMessage → FieldForm → Filled → Type 0
FillsFreely c k p f x = FillsField c.types k f x × ((x ≡ unset → ⊥) → is_taken p f.shape ≡ false)

-- a field whose oneof no other member has taken
pub free_of : {A : Type 0} (p : PartialMessage) (f : FieldForm) (r : Result A FieldKind) (a : A) → unless_taken p f r
    ≡ Ok a
    → (is_taken p f.shape ≡ false) × (r ≡ Ok a)
free_of p f r a e = by_test (is_taken p f.shape) refl e
  where
    by_test : (t : Bool) → is_taken p f.shape ≡ t → cond t (Err OneofTwice) r ≡ Ok a → (is_taken p f.shape ≡ false)
        × (r ≡ Ok a)
    by_test true is q = absurd (cc q)
    by_test false is q = (is, q)

-- one item fills a field of one
pub one_fills : (c : Schema) (k : ℕ) (f : FieldForm) (x : Filled) → IsOneShape f.shape → IsOne c k f.kind x
    → FillsField c.types k f x
one_fills c k f (single i) shape h = (shape, h)
one_fills c k f unset shape h = absurd h
one_fills c k f (many is) shape h = absurd h
one_fills c k f (pairs es) shape h = absurd h

module _ (numbers : (s : Scalar) (t : List ℕ) → IsNumberKind s → NumberLawsHold s t)
    (ranges : (s : Scalar) (z : ℤ) → IsNumberKind s → RangeLawsHold s z) (c : Schema) (sound : IsSound c.types)
    (valid : GivesValid c) where
  scalar_is : (s : Scalar) (m : Mark) (i : ItemLayer) → MarkIsUtf8 m → scalar_as c.types s m ≡ Ok i → IsScalarItem s i
  scalar_is s m i utf8 e = subst (IsReadOf s) e (scalar_read numbers ranges c.types s m utf8)

  -- the message of a wrapper's value
  wrapped_valid : (k : ℕ) (id : TypeId) (f : Field) → IsFieldOf c.types id f → (s : Scalar) → f.kind ≡ OneOf s
      → f.shape ≡ Single
      → (i : ItemLayer) → IsScalarItem s i
      → (valid_within (suc k) c.types).message id (value_of (put_field empty_message (form_of f) (stored f.presence i)))
  wrapped_valid k id f field s kind shape i h =
      valid_at_end c.types k id (put_field empty_message (form_of f) (stored f.presence i))
      (put_filled c.types k id empty_message (empty_valid c.types k id) f field refl (single i)
      (subst IsOneShape (sym shape) tt, subst (λ w. IsItem (valid_within k c.types) w i) (sym kind) h)
      (λ some. ap (is_taken empty_message) shape))

  levels_read : (id : TypeId) (k : ℕ) (r : Result Value FieldKind)
      → ((v : Value) (j : ℕ) → r ≡ Ok v → (valid_within (suc j) c.types).message id v)
      → (i : ItemLayer) → as_message (in_levels k r) ≡ Ok i → IsItem (valid_within k c.types) (MessageOf id) i
  levels_read id (suc k) (Ok v) h i e =
      subst (IsItem (valid_within (suc k) c.types) (MessageOf id)) (ok_message v i e) (h v k refl)
  levels_read id (suc k) (Err f) h i e = absurd (no_message f i e)
  levels_read id zero (Ok v) h i e = absurd (no_message TooDeep i e)
  levels_read id zero (Err f) h i e =
      let deep = deep_fault f in absurd (no_message deep.0 i (ap as_message (sym deep.1) ∙ e))

  wrapped_read : (id : TypeId) (f : Field) → IsFieldOf c.types id f → (s : Scalar) → f.kind ≡ OneOf s → f.shape ≡ Single
      → (r : Result ItemLayer FieldKind) → ((i : ItemLayer) → r ≡ Ok i → IsScalarItem s i)
      → (v : Value) (j : ℕ) → wrapped (Some f) r ≡ Ok v → (valid_within (suc j) c.types).message id v
  wrapped_read id f field s kind shape (Ok i) h v j e =
      subst (λ w. (valid_within (suc j) c.types).message id w) (ok_value _ v e)
      (wrapped_valid j id f field s kind shape i (h i refl))
  wrapped_read id f field s kind shape (Err k) h v j e = absurd (no_value k v e)

  known_read : (known : Known) (m : Mark) (v : Value) → known_as c known m ≡ Ok v → (t : List ℕ)
      × (c.known known t ≡ Ok v)
  known_read known (text t) v e = (t, e)
  known_read known (digits t) v e = absurd (no_value WrongShape v e)
  known_read known (name n) v e = absurd (no_value WrongShape v e)
  known_read known (opens b) v e = absurd (no_value WrongShape v e)
  known_read known (closes b) v e = absurd (no_value WrongShape v e)
  known_read known comma v e = absurd (no_value WrongShape v e)
  known_read known colon v e = absurd (no_value WrongShape v e)
  known_read known (key t) v e = absurd (no_value WrongShape v e)

  -- a message that is a token without brackets
  message_read : (k : ℕ) (id : TypeId) (m : Mark) (i : ItemLayer) → MarkIsUtf8 m → kind_as c k (MessageOf id) m ≡ Ok i
      → IsItem (valid_within k c.types) (MessageOf id) i
  message_read k id m i utf8 is = by_known (known_of c.types id) refl
    where
      as_known : (known : Known) → known_of c.types id ≡ known → message_as c k known (fields_of c.types id) m ≡ Ok i
      as_known known e = ap (λ w. message_as c k w (fields_of c.types id) m) (sym e) ∙ is

      text_read : (known : Known) → known_of c.types id ≡ known → IsTextType known → (v : Value) (j : ℕ)
          → known_as c known m ≡ Ok v → (valid_within (suc j) c.types).message id v
      text_read known e text_type v j q =
          let h = known_read known m v q in
          valid id h.0 v j (subst IsTextType (sym e) text_type) (ap (λ w. c.known w h.0) e ∙ h.1)

      by_known : (known : Known) → known_of c.types id ≡ known → IsItem (valid_within k c.types) (MessageOf id) i
      by_known Plain e = absurd (no_item (as_known Plain e))
        where
          no_item : ◌≡◌ {A = Result ItemLayer FieldKind} (Err WrongShape) (Ok i) → ⊥
          no_item q = cc q
      by_known Timestamp e =
          levels_read id k (known_as c Timestamp m) (text_read Timestamp e tt) i (as_known Timestamp e)
      by_known Duration e = levels_read id k (known_as c Duration m) (text_read Duration e tt) i (as_known Duration e)
      by_known FieldMask e =
          levels_read id k (known_as c FieldMask m) (text_read FieldMask e tt) i (as_known FieldMask e)
      by_known Wrapper e =
          let w = wrapper_field c.types sound id e in
          let f = w.0 in
          let known = w.2.2.1 in
          let field = numbered_field c.types sound id 1 f w.1 in
          levels_read id k (wrapper_as c (field_in (fields_of c.types id) 1) m)
          (λ v j q. wrapped_read id f field w.2.0 known.0 known.1 (scalar_as c.types (scalar_in f.kind) m)
          (λ x p. scalar_is w.2.0 m x utf8 (ap (λ n. scalar_as c.types (scalar_in n) m) (sym known.0) ∙ p)) v j
          (ap (λ o. wrapper_as c o m) (sym w.1) ∙ q)) i (as_known Wrapper e)

  -- a value of a kind
  kind_read : (k : ℕ) (kind : Kind) (m : Mark) (i : ItemLayer) → MarkIsUtf8 m → kind_as c k kind m ≡ Ok i
      → IsItem (valid_within k c.types) kind i
  kind_read k (OneOf s) m i utf8 e = scalar_is s m i utf8 e
  kind_read k (MessageOf id) m i utf8 e = message_read k id m i utf8 e

  -- one item of a kind
  pub one_read : (k : ℕ) (kind : Kind) (m : Mark) (x : Filled) → MarkIsUtf8 m → as_single (kind_as c k kind m) ≡ Ok x
      → IsOne c k kind x
  one_read k kind m x utf8 e = by_item (kind_as c k kind m) refl e
    where
      by_item : (r : Result ItemLayer FieldKind) → kind_as c k kind m ≡ r → as_single r ≡ Ok x → IsOne c k kind x
      by_item (Ok i) is q = subst (IsOne c k kind) (ok_single i x q) (kind_read k kind m i utf8 is)
      by_item (Err f) is q = absurd (cc q)

  -- a token that is an item, where null is none
  pub inner_read : (k : ℕ) (kind : Kind) (m : Mark) (x : Filled) → inner_as c k kind m ≡ Ok x
      → as_single (kind_as c k kind m) ≡ Ok x
  inner_read k kind (name names.Null) x e = absurd (cc e)
  inner_read k kind (name names.True) x e = e
  inner_read k kind (name names.False) x e = e
  inner_read k kind (digits t) x e = e
  inner_read k kind (text t) x e = e
  inner_read k kind (opens b) x e = e
  inner_read k kind (closes b) x e = e
  inner_read k kind comma x e = e
  inner_read k kind colon x e = e
  inner_read k kind (key t) x e = e

  shape_read : (k : ℕ) (f : FieldForm) (shape : Shape) → f.shape ≡ shape → (m : Mark) (x : Filled) → MarkIsUtf8 m
      → shape_as c k f shape m ≡ Ok x → FillsField c.types k f x
  shape_read k f Single is m x utf8 e = one_fills c k f x (subst IsOneShape (sym is) tt) (one_read k f.kind m x utf8 e)
  shape_read k f (Member n) is m x utf8 e =
      one_fills c k f x (subst IsOneShape (sym is) tt) (one_read k f.kind m x utf8 e)
  shape_read k f ManyOf is m x utf8 e = absurd (cc e)
  shape_read k f (MapOf s) is m x utf8 e = absurd (cc e)

  given_read : (k : ℕ) (p : PartialMessage) (f : FieldForm) (m : Mark) (x : Filled) → MarkIsUtf8 m
      → unless_taken p f (shape_as c k f f.shape m) ≡ Ok x → FillsFreely c k p f x
  given_read k p f m x utf8 e =
      let h = free_of p f (shape_as c k f f.shape m) x e in
      (shape_read k f f.shape refl m x utf8 h.1, λ some. h.0)

  -- a token that is a field's value
  pub field_read : (k : ℕ) (p : PartialMessage) (f : FieldForm) (m : Mark) (x : Filled) → MarkIsUtf8 m
      → field_as c k p f m ≡ Ok x → FillsFreely c k p f x
  field_read k p f (name names.Null) x utf8 e =
      subst (FillsFreely c k p f) (unset_is x e) (tt, λ some. absurd (some refl))
    where
      unset_is : (x : Filled) → ◌≡◌ {A = Result Filled FieldKind} (Ok unset) (Ok x) → unset ≡ x
      unset_is x e = cc e
  field_read k p f (name names.True) x utf8 e = given_read k p f (name names.True) x utf8 e
  field_read k p f (name names.False) x utf8 e = given_read k p f (name names.False) x utf8 e
  field_read k p f (digits t) x utf8 e = given_read k p f (digits t) x utf8 e
  field_read k p f (text t) x utf8 e = given_read k p f (text t) x utf8 e
  field_read k p f (opens b) x utf8 e = given_read k p f (opens b) x utf8 e
  field_read k p f (closes b) x utf8 e = given_read k p f (closes b) x utf8 e
  field_read k p f comma x utf8 e = given_read k p f comma x utf8 e
  field_read k p f colon x utf8 e = given_read k p f colon x utf8 e
  field_read k p f (key t) x utf8 e = given_read k p f (key t) x utf8 e
