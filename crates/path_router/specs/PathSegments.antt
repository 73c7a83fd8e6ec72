-- A path cut at its slashes, beside segments of a template that take the pieces in order. These definitions stand for
-- the crate's own proofs: no public clause cites them.
use Rattle.std.specs.Prelude.{◌≡◌, ◌≢◌, ◌++◌, ℕ, List, [], ◌∷◌, IsSome}
use Rattle.std.specs.List.{AllByRecursion}
use Rattle.http_rules.specs.Template.{verb_text}
use Rattle.http_rules.specs.TemplateMatch.{IsPath, IsPathSegment, slashed}
use Rattle.http_rules.specs.declared.template.Segment.{Segment}
use Rattle.http_rules.specs.declared.template.Segment.TheVariants.{Literal, One, Rest}
use Rattle.http_rules.specs.declared.template.Template.{Template}
use Rattle.path_router.specs.TargetPath.{IsEndedBy}

-- a piece is cut at slashes: it has none
abbrev pub IsUncut : List ℕ → Type 0
IsUncut piece = AllByRecursion (λ b. b ≢ 47) piece

-- nothing follows, or a slash does
abbrev pub IsAtCut : List ℕ → Type 0
IsAtCut text = IsEndedBy (λ b. b ≡ 47) text

-- a path begins with a slash and this piece, and this follows
pub record BeginsWith (path piece more : List ℕ) : Type 0 where
  pub written : path ≡ 47 ∷ (piece ++ more)
  pub uncut : IsUncut piece
  pub cut : IsAtCut more

-- a segment other than `**` takes a piece: a literal one that is equal, `*` one that is not empty
abbrev pub TakesOne : Segment → List ℕ → Type 0
TakesOne (Literal l) piece = piece ≡ l
TakesOne One piece = piece ≢ []
TakesOne Rest piece = ⊥

-- a segment takes the first piece of a path, and this follows
abbrev pub TakesFront : Segment → List ℕ → List ℕ → Type 0
TakesFront s path more = (piece : List ℕ) × BeginsWith path piece more × TakesOne s piece

-- segments take pieces, one by one; `**`, the last, takes all that are left
abbrev pub TakeEach : List Segment → List (List ℕ) → Type 0
TakeEach [] [] = Unit {0}
TakeEach [] (p ∷ ps) = ⊥
TakeEach (Rest ∷ ss) ps = AllByRecursion IsPathSegment ps
TakeEach (Literal l ∷ ss) [] = ⊥
TakeEach (Literal l ∷ ss) (p ∷ ps) = ((p ≡ l) × IsUncut p) × TakeEach ss ps
TakeEach (One ∷ ss) [] = ⊥
TakeEach (One ∷ ss) (p ∷ ps) = IsPathSegment p × TakeEach ss ps

-- segments take all pieces of a path
abbrev pub TakeAll : List Segment → List ℕ → Type 0
TakeAll ss path = (pieces : List (List ℕ)) × TakeEach ss pieces × (path ≡ slashed pieces)

-- what each segment takes of these pieces
abbrev pub shares_of : List Segment → List (List ℕ) → List (List (List ℕ))
shares_of [] ps = []
shares_of (Rest ∷ ss) ps = ps ∷ []
shares_of (Literal l ∷ ss) [] = []
shares_of (Literal l ∷ ss) (p ∷ ps) = (p ∷ []) ∷ shares_of ss ps
shares_of (One ∷ ss) [] = []
shares_of (One ∷ ss) (p ∷ ps) = (p ∷ []) ∷ shares_of ss ps

-- a template fits a path, of which this part stands before the verb
pub record FitsBody (template : Template) (path body : List ℕ) : Type 0 where
  pub is_path : IsPath path
  pub written : path ≡ body ++ verb_text template.verb
  pub before_verb : IsSome template.verb → body ≢ []
  pub taken : TakeAll template.segments body
