-- What a builder keeps is what the turns over its tokens come to.
use Rattle.std.proofs.Common.{◌≡◌, ◌∙◌, ◌↔◌, sym, ap, subst, refl, append-nil, ℕ, List, [], ◌∷◌, ◌++◌, Option, Result, Ok, Err}
use Rattle.std.specs.Prelude.{Bool, IsTrue}
use Rattle.json_events.specs.JsonTree.{Json, Mark}
use Rattle.json_meanings.specs.FieldFaults.{BeginsTree, tree_tokens}
use Rattle.json_meanings.specs.JsonDenotes.{Denotes, alone, spot_of}
use Rattle.json_meanings.specs.JsonScalars.{Schema}
use Rattle.json_meanings.specs.ReadingLaws.{ReadingLawsHold}
use Rattle.json_events.specs.ReaderAnswers.{mark_seen}
use Rattle.json_events.specs.declared.token.Token.{Token}
use Rattle.json_events.specs.declared.token.Token.TheVariants as tokens
use Rattle.json_meanings.specs.SpotTables.{fills}
use Rattle.json_meanings.specs.ReadingSpots.{Filled, OpenArray, Spot, element}
use Rattle.json_meanings.specs.ReadingTurns.{Levels, array_turn, at_turn, given, value_turn, Stands, Turn, has_ended, start, step, turn_in, wants_value}
use Rattle.json_meanings.specs.declared.fault.FieldKind.{FieldKind}
use Rattle.json_meanings.specs.declared.fault.FieldKind.TheVariants.{WrongShape}
use Rattle.message_types.specs.declared.messages.TypeId.{TypeId}
use Rattle.protojson_read.specs.BuilderReads.{HoldsValue, IsBehind, IsTokenFault, Keeps, KeepsNext, fault_by, root_spot}
use Rattle.protojson_read.specs.TurnsSeen.{Turns, levels_seen, turn_seen}
use Rattle.protojson_read.specs.declared.builder.State.{State}
use Rattle.protojson_read.specs.declared.builder.State.TheVariants.{Open, Ended, Refused}
use Rattle.protojson_read.specs.declared.fault.FieldFault.TheVariants.{At}
use Rattle.protojson_read.specs.declared.partial_message.FieldForm.{FieldForm}
use Rattle.protojson_read.specs.declared.refusal.Refusal.{Refusal}
use Rattle.protojson_read.specs.declared.refusal.Refusal.TheVariants as refusals
use Rattle.protojson_read.specs.declared.spots.Filled.{Filled as FilledKept}
use Rattle.protojson_read.specs.declared.turns.Levels.{Levels as LevelsKept}
use Rattle.protojson_read.specs.declared.turns.Turn.{Turn as TurnKept}
use Rattle.protojson_read.specs.declared.turns.Turn.TheVariants.{WantsValue, InArray, InObject, HasEnded}
use Rattle.schema.specs.declared.value.Value.{Value}

-- a value that has ended is kept
pub kept_value : (part : Option FieldForm) (x : Filled) (around : List Spot) (v : Value)
    → ((id : TypeId) → v ≡ alone (root_spot id part) x)
    → Keeps part (Ended v) (at_turn (has_ended x) around)
kept_value part x around v is id = record { filled = x; ended = refl; value_is = is id }

-- what is open is kept
pub kept_open : (part : Option FieldForm) (m : LevelsKept) → ((x : FilledKept) → m.turn ≡ HasEnded x → ⊥)
    → Keeps part (Open m) (levels_seen m)
kept_open part m more = (refl, unended m.turn more)
  where
    unended : (t : TurnKept) → ((x : FilledKept) → t ≡ HasEnded x → ⊥) → (x : Filled) → turn_seen t ≡ has_ended x → ⊥
    unended (WantsValue s) n x e = absurd (cc e)
    unended (InArray a) n x e = absurd (cc e)
    unended (InObject o) n x e = absurd (cc e)
    unended (HasEnded y) n x e = n y refl

-- a token that opens nothing
pub filling : (c : Schema) (spot : Spot) (st : List Spot) (t : Token) (r : Result LevelsKept Refusal)
    → (t ≡ tokens.BeginArray → ⊥) → (t ≡ tokens.BeginObject → ⊥)
    → Turns r (given spot st (fills c spot (mark_seen t)))
    → Turns r (value_turn c spot st (mark_seen t))
filling c spot st tokens.BeginObject r a b h = absurd (b refl)
filling c spot st tokens.EndObject r a b h = h
filling c spot st tokens.BeginArray r a b h = absurd (a refl)
filling c spot st tokens.EndArray r a b h = h
filling c spot st (tokens.Key s) r a b h = h
filling c spot st (tokens.Text s) r a b h = h
filling c spot st (tokens.Number s) r a b h = h
filling c spot st tokens.True r a b h = h
filling c spot st tokens.False r a b h = h
filling c spot st tokens.Null r a b h = h

-- a token that closes nothing
pub in_array_filling : (c : Schema) (a : OpenArray) (st : List Spot) (t : Token) (r : Result LevelsKept Refusal)
    → (t ≡ tokens.EndArray → ⊥) → (t ≡ tokens.EndObject → ⊥)
    → Turns r (value_turn c (element a) st (mark_seen t))
    → Turns r (array_turn c a st (mark_seen t))
in_array_filling c a st tokens.BeginObject r f g h = h
in_array_filling c a st tokens.EndObject r f g h = absurd (g refl)
in_array_filling c a st tokens.BeginArray r f g h = h
in_array_filling c a st tokens.EndArray r f g h = absurd (f refl)
in_array_filling c a st (tokens.Key s) r f g h = h
in_array_filling c a st (tokens.Text s) r f g h = h
in_array_filling c a st (tokens.Number s) r f g h = h
in_array_filling c a st tokens.True r f g h = h
in_array_filling c a st tokens.False r f g h = h
in_array_filling c a st tokens.Null r f g h = h

-- before the first token
pub begun : (part : Option FieldForm) (m : LevelsKept) (c : Schema) (id : TypeId) (n : Option ℕ)
    → root_spot id part ≡ spot_of c id n
    → levels_seen m ≡ start (root_spot id part)
    → IsBehind part (Open m) c id n []
begun part m c id n root is = record {
  levels = levels_seen m;
  root = root;
  stands = ap Ok (ap start (sym root) ∙ sym is);
  keeps = (refl, λ x e. wants x (ap (λ (l : Levels). l.turn) (sym is) ∙ e));
}
  where
    wants : (x : Filled) → wants_value (root_spot id part) ≡ has_ended x → ⊥
    wants x e = cc e

module _ (laws : (c : Schema) (id : TypeId) (n : Option ℕ) → ReadingLawsHold c id n) (part : Option FieldForm)
    (c : Schema) (id : TypeId) (n : Option ℕ) (ts : List Mark) (m : Mark) where
  -- a token that is taken
  pub taken : (kept : LevelsKept) (s : State) → KeepsNext part (Ok s) (step c (levels_seen kept) m)
      → IsBehind part (Open kept) c id n ts
      → IsBehind part s c id n (ts ++ m ∷ [])
  taken kept s k h = by_step (step c h.levels m) refl
      (subst (λ l. KeepsNext part (Ok s) (step c l m)) (h.keeps.0) k)
    where
      by_step : (r : Result Levels FieldKind) → step c h.levels m ≡ r → KeepsNext part (Ok s) r
          → IsBehind part s c id n (ts ++ m ∷ [])
      by_step (Ok next) e j = record {
        levels = next;
        root = h.root;
        stands = (laws c id n).goes_on h.levels next ts m h.stands e;
        keeps = j;
      }
      by_step (Err f) e j = absurd j

  -- a token that is refused
  pub not_taken : (kept : LevelsKept) (place : ℕ) (f : Refusal)
      → KeepsNext part (Err f) (step c (levels_seen kept) m)
      → IsBehind part (Open kept) c id n ts
      → BeginsTree (ts ++ m ∷ [])
      → IsTokenFault (fault_by place f) place c id n ts m
  not_taken kept place refusals.NoMemory k h begins = tt
  not_taken kept place (refusals.Fault f) k h begins = by_step (step c h.levels m) refl
      (subst (λ l. KeepsNext part (Err (refusals.Fault f)) (step c l m)) (h.keeps.0) k)
    where
      by_step : (r : Result Levels FieldKind) → step c h.levels m ≡ r → KeepsNext part (Err (refusals.Fault f)) r
          → IsTokenFault (At place f) place c id n ts m
      by_step (Ok next) e j = absurd j
      by_step (Err g) e j = (refl, (laws c id n).refuses h.levels ts m f h.stands (e ∙ ap Err (sym j)) begins)

  -- a token behind a value that has ended
  pub not_taken_behind : (v : Value) (place : ℕ) → IsBehind part (Ended v) c id n ts → BeginsTree (ts ++ m ∷ [])
      → IsTokenFault (At place WrongShape) place c id n ts m
  not_taken_behind v place h begins =
      let come = h.keeps id in (
        refl,
        (laws c id n).refuses h.levels ts m WrongShape h.stands
            (ap (λ (t : Turn). turn_in c t h.levels.around m) come.ended) begins,
      )

module _ (laws : (c : Schema) (id : TypeId) (n : Option ℕ) → ReadingLawsHold c id n) (part : Option FieldForm)
    (c : Schema) (id : TypeId) (n : Option ℕ) where
  -- a value that has ended has all tokens of a tree
  pub ended_tokens : (v : Value) (ts : List Mark) → IsBehind part (Ended v) c id n ts → BeginsTree ts
      → (j : Json) × (tree_tokens j ≡ ts)
  ended_tokens v ts h begins =
      let come = h.keeps id in
      let none : begins.1 ≡ []
      = (laws c id n).over h.levels come.filled ts begins.1 begins.0 h.stands come.ended begins.2 in
      (begins.0, begins.2 ∙ (ap (λ (more : List Mark). ts ++ more) none ∙ append-nil ts))

  -- and one that has not ended has not
  pub open_tokens : (m : LevelsKept) (ts : List Mark) → IsBehind part (Open m) c id n ts
      → ((j : Json) × (tree_tokens j ≡ ts))
      → ⊥
  open_tokens m ts h all =
      let over = (laws c id n).whole h.levels all.0 (subst (Stands c id n h.levels) (sym all.1) h.stands) in
      h.keeps.1 over.0 over.1

  -- with all tokens of a tree a value has ended
  pub all_ended : (s : State) (j : Json) → IsBehind part s c id n (tree_tokens j) → HoldsValue s
  all_ended (Open m) j h = absurd (open_tokens m (tree_tokens j) h (j, refl))
  all_ended (Ended v) j h = tt
  all_ended (Refused f) j h = absurd h.keeps

  -- a value has ended exactly where its tokens are all those of a tree
  pub whole_is : (s : State) (t : Bool) (ts : List Mark) → (IsTrue t ↔ HoldsValue s) → IsBehind part s c id n ts
      → BeginsTree ts
      → (IsTrue t ↔ ((j : Json) × (tree_tokens j ≡ ts)))
  whole_is (Open m) t ts is h begins = (λ a. absurd (is.0 a), λ all. absurd (open_tokens m ts h all))
  whole_is (Ended v) t ts is h begins = (λ a. ended_tokens v ts h begins, λ all. is.1 tt)
  whole_is (Refused f) t ts is h begins = absurd h.keeps

  -- a value that has ended is what the tree with its tokens means
  pub ended_value : (v : Value) (j : Json) → IsBehind part (Ended v) c id n (tree_tokens j) → Denotes c id n j v
  ended_value v j h =
      let come = h.keeps id in
      subst (Denotes c id n j) (sym (come.value_is ∙ ap (λ (s : Spot). alone s come.filled) h.root))
      ((laws c id n).ends h.levels come.filled j h.stands come.ended)
