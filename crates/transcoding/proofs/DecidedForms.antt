-- Whether a request is of a form that is built can be told (`each_request_is_answered`).
use Rattle.std.proofs.Common.{◌≡◌, ℕ, Bool, true, false, IsTrue, List, [], ◌∷◌, Option, Some, None, slice_get, refl, sym, ap, ◌∙◌, subst}
use Rattle.std.specs.List.{AllByRecursion}
use Rattle.field_binding.specs.PathSettings.{BindsScalars, EndsAtScalar, IsCall}
use Rattle.field_binding.specs.RequestMessages.{IsBodyless}
use Rattle.http_rules.specs.declared.template.Binding.{Binding}
use Rattle.http_rules.specs.declared.template.Body.{Body}
use Rattle.http_rules.specs.declared.template.Body.TheVariants.{Nothing, Whole, Part}
use Rattle.linked_api.specs.NumberPaths.{last_field}
use Rattle.linked_api.specs.declared.api.Api.{Api}
use Rattle.linked_api.specs.declared.api.MethodInfo.{MethodInfo}
use Rattle.message_types.specs.declared.fields.Field.{Field}
use Rattle.message_types.specs.declared.fields.Kind.{Kind}
use Rattle.message_types.specs.declared.fields.Kind.TheVariants.{One as OneOf, Message as MessageOf}
use Rattle.message_types.specs.declared.fields.Scalar.{Scalar}
use Rattle.message_types.specs.declared.fields.Scalar.TheVariants.{Int32, Int64, Uint32, Uint64, Sint32, Sint64, Fixed32, Fixed64, Sfixed32, Sfixed64, Bool as BoolOf, Text, Bytes, Enumeration}
use Rattle.message_types.specs.declared.messages.TypeId.{TypeId}
use Rattle.message_types.specs.declared.messages.Types.{Types}
use Rattle.transcoding.proofs.CallLemmas.{one_call}
use Rattle.transcoding.specs.BuiltForms.{HasQuery, IsBuilt, TakesOneMessage}

is_true : (b : Bool) → Dec (IsTrue b)
is_true true = yes refl
is_true false = no (λ h. absurd (cc h))

is_false : (b : Bool) → Dec (b ≡ false)
is_false true = no (λ h. absurd (cc h))
is_false false = yes refl

is_nothing : (b : Body) → Dec (b ≡ Nothing)
is_nothing Nothing = yes refl
is_nothing Whole = no (λ h. absurd (cc h))
is_nothing (Part n) = no (λ h. absurd (cc h))

is_bytes : (s : Scalar) → Dec (s ≡ Bytes)
is_bytes Int32 = no (λ h. absurd (cc h))
is_bytes Int64 = no (λ h. absurd (cc h))
is_bytes Uint32 = no (λ h. absurd (cc h))
is_bytes Uint64 = no (λ h. absurd (cc h))
is_bytes Sint32 = no (λ h. absurd (cc h))
is_bytes Sint64 = no (λ h. absurd (cc h))
is_bytes Fixed32 = no (λ h. absurd (cc h))
is_bytes Fixed64 = no (λ h. absurd (cc h))
is_bytes Sfixed32 = no (λ h. absurd (cc h))
is_bytes Sfixed64 = no (λ h. absurd (cc h))
is_bytes BoolOf = no (λ h. absurd (cc h))
is_bytes Text = no (λ h. absurd (cc h))
is_bytes Bytes = yes refl
is_bytes (Enumeration id) = no (λ h. absurd (cc h))

-- ---- where a path of numbers ends

module _ (types : Types) (id : TypeId) (numbers : List ℕ) where
  one_kind : (f : Field) (k : Kind) → last_field types id numbers ≡ Some f → f.kind ≡ k
      → (h : EndsAtScalar types id numbers) → k ≡ OneOf h.scalar
  one_kind f k e is h =
      let field : f ≡ h.ends.field = cc (e, h.ends.field_is) in
      sym is ∙ ap (λ (x : Field). x.kind) field ∙ h.ends.kind_is

  of_kind : (f : Field) → last_field types id numbers ≡ Some f → (k : Kind) → f.kind ≡ k
      → Dec (EndsAtScalar types id numbers)
  of_kind f e (MessageOf inner) is =
      no (λ h. let same : ◌≡◌ {A = Kind} (MessageOf inner) (OneOf h.scalar) = one_kind f (MessageOf inner) e is h in
      absurd (cc same))
  of_kind f e (OneOf s) is =
      elim (is_bytes s) [
        | yes b ↦
            no (λ h. let same : ◌≡◌ {A = Kind} (OneOf s) (OneOf h.scalar) = one_kind f (OneOf s) e is h in
            let scalar : s ≡ h.scalar = cc same in h.not_bytes (sym scalar ∙ b))
        | no n ↦ yes (record { scalar = s; ends = record { field = f; field_is = e; kind_is = is }; not_bytes = n })
      ]

  of_field : (o : Option Field) → last_field types id numbers ≡ o → Dec (EndsAtScalar types id numbers)
  of_field None e = no (λ h. absurd (cc (e, h.ends.field_is)))
  of_field (Some f) e = of_kind f e f.kind refl

  ends_at_scalar : Dec (EndsAtScalar types id numbers)
  ends_at_scalar = of_field (last_field types id numbers) refl

all_end : (types : Types) (id : TypeId) (paths : List (List ℕ)) → Dec (AllByRecursion (EndsAtScalar types id) paths)
all_end types id [] = yes tt
all_end types id (p ∷ paths) =
    elim (ends_at_scalar types id p) [
      | no n ↦ no (λ h. n h.0)
      | yes e ↦ elim (all_end types id paths) [ yes es ↦ yes (e, es) | no n ↦ no (λ h. n h.1) ]
    ]

-- ---- forms

module _ (api : Api) (index : ℕ) (b : Binding) (m : MethodInfo) (call : IsCall api index b m) where
  one_binding : (c : Binding) → slice_get api.bindings index ≡ Some c → c ≡ b
  one_binding c e = let both : Some c ≡ Some b = sym e ∙ call.binding_is in cc both

  bodyless : Dec (IsBodyless api index)
  bodyless =
      elim (is_nothing b.body) [
        | yes e ↦ yes (record { binding = b; binding_is = call.binding_is; body = e })
        | no n ↦ no (λ h. n (subst (λ (z : Binding). z.body ≡ Nothing) (one_binding h.binding h.binding_is) h.body))
      ]

  one_message : Dec (TakesOneMessage api index)
  one_message =
      elim (is_false m.client_streams) [
        | yes e ↦ yes (record { binding = b; method = m; call = call; unary = e })
        | no n ↦
            no (λ h. n (subst (λ (z : MethodInfo). z.client_streams ≡ false)
            (one_call api index h.binding b h.method m h.call call) h.unary))
      ]

  scalars : Dec (BindsScalars api index)
  scalars =
      elim (all_end api.types m.input b.paths) [
        | yes e ↦ yes (record { binding = b; method = m; call = call; each = e })
        | no n ↦
            no (λ h. n (subst (λ (z : Binding). AllByRecursion (EndsAtScalar api.types m.input) z.paths)
            (one_binding h.binding h.call.binding_is)
            (subst (λ (z : MethodInfo). AllByRecursion (EndsAtScalar api.types z.input) h.binding.paths)
            (one_call api index h.binding b h.method m h.call call) h.each)))
      ]

  -- a request is of a form that is built, or not
  pub built_decided : (target : List ℕ) → Dec (IsBuilt api target index)
  built_decided target =
      elim (has_query target) [
        | yes q ↦ no (λ h. h.no_query q)
        | no q ↦ elim bodyless [
          | no n ↦ no (λ h. n h.bodyless)
          | yes body ↦ elim one_message [
            | no n ↦ no (λ h. n h.unary)
            | yes one ↦ elim scalars [
              | no n ↦ no (λ h. n h.scalars)
              | yes s ↦ yes (record { no_query = q; bodyless = body; unary = one; scalars = s })
            ]
          ]
        ]
      ]
    where
      has_query : (target : List ℕ) → Dec (HasQuery target)
      has_query target = is_true _
