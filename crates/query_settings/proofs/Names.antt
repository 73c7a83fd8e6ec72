-- What names name, part by part.
use Rattle.std.proofs.Common.{◌≡◌, ◌∙◌, ◌++◌, ◌==◌, ℕ, Bool, true, false, cond, List, [], ◌∷◌, Option, Some, None, Bor, is_some, option_and_then, option_map, refl, sym, ap}
use Rattle.form_urlencoded.specs.Form.{dot, onto_first, split}
use Rattle.json_meanings.specs.PartialMessages.{field_named}
use Rattle.message_types.specs.Types.{fields_of}
use Rattle.message_types.specs.declared.fields.Field.{Field}
use Rattle.message_types.specs.declared.messages.TypeId.{TypeId}
use Rattle.message_types.specs.declared.messages.Types.{Types}
use Rattle.query_parameters.specs.QueryParameters.{pieces_left}
use Rattle.query_settings.specs.QueryTargets.{named, passes, step_of, target_at}
use Rattle.query_settings.specs.declared.targets.Step.{Step}
use Rattle.query_settings.specs.declared.targets.Target.{Target}

-- bytes have a first piece
first_piece_of : (b : ℕ) (bytes : List ℕ)
    → (piece : List ℕ) × (pieces : List (List ℕ)) × (split b bytes ≡ piece ∷ pieces)
unfolding split
first_piece_of b [] = ([], [], refl)
first_piece_of b (x ∷ bytes) = pick (x == b) (first_piece_of b bytes)
  where
    pick : (t : Bool)
        → ((piece : List ℕ) × (pieces : List (List ℕ)) × (split b bytes ≡ piece ∷ pieces))
        → (piece : List ℕ) × (pieces : List (List ℕ))
        × (cond t ([] ∷ split b bytes) (onto_first x (split b bytes)) ≡ piece ∷ pieces)
    pick true h = ([], split b bytes, refl)
    pick false h = (x ∷ h.0, h.1, ap (onto_first x) h.2)

module _ (types : Types) (id : TypeId) (way : List Step) (name : List ℕ) where
  -- a part that names no field
  pub named_nothing : (names : List (List ℕ)) → field_named name (fields_of types id) ≡ None
      → named types id way (name ∷ names) ≡ None
  named_nothing [] e = ap (option_map (target_at way)) e
  named_nothing (next ∷ names) e =
      ap (option_and_then (λ (f : Field).
      option_and_then (λ (inner : TypeId). named types inner (way ++ step_of f ∷ []) (next ∷ names))
      (passes types f))) e

  module _ (f : Field) (e : field_named name (fields_of types id) ≡ Some f) where
    -- the last part
    pub named_last : named types id way (name ∷ []) ≡ Some (target_at way f)
    named_last = ap (option_map (target_at way)) e

    -- a part in front of others
    pub named_through : (b : ℕ) (bytes : List ℕ)
        → named types id way (name ∷ split b bytes)
        ≡ option_and_then (λ (inner : TypeId). named types inner (way ++ step_of f ∷ []) (split b bytes))
        (passes types f)
    named_through b bytes =
        let parts = first_piece_of b bytes in
        ap (λ ns. named types id way (name ∷ ns)) parts.2
        ∙ ap (option_and_then (λ (g : Field).
        option_and_then (λ (inner : TypeId). named types inner (way ++ step_of g ∷ []) (parts.0 ∷ parts.1))
        (passes types g))) e
        ∙ ap (λ ns. option_and_then (λ (inner : TypeId). named types inner (way ++ step_of f ∷ []) ns) (passes types f))
        (sym parts.2)

module _ (types : Types) (id : TypeId) (way : List Step) (names part : List ℕ) (f : Field)
    (e : field_named part (fields_of types id) ≡ Some f) where
  -- a part that is not passed through, in front of others
  pub through_none : (behind : Option (Bor (List ℕ))) → split dot names ≡ part ∷ pieces_left dot behind
      → (behind ≡ None → ⊥) → passes types f ≡ None → named types id way (split dot names) ≡ None
  through_none None pieces some none = absurd (some refl)
  through_none (Some b) pieces some none =
      ap (named types id way) pieces ∙ named_through types id way part f e dot b.now
      ∙ ap (option_and_then (λ (inner : TypeId). named types inner (way ++ step_of f ∷ []) (split dot b.now))) none

  -- one that is passed through
  pub through_some : (behind : Option (Bor (List ℕ))) → split dot names ≡ part ∷ pieces_left dot behind
      → (behind ≡ None → ⊥) → (next : TypeId) → passes types f ≡ Some next
      → named types id way (split dot names) ≡ named types next (way ++ step_of f ∷ []) (pieces_left dot behind)
  through_some None pieces some next is = absurd (some refl)
  through_some (Some b) pieces some next is =
      ap (named types id way) pieces ∙ named_through types id way part f e dot b.now
      ∙ ap (option_and_then (λ (inner : TypeId). named types inner (way ++ step_of f ∷ []) (split dot b.now))) is
