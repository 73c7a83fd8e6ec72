-- Which mark may come next: what is wanted, and the brackets around it (the inmost first; for FirstItem,
-- FirstKey, Key and Colon without the one that is just around).
use Rattle.std.specs.Prelude.{◌≡◌, List, [], ◌∷◌, Option, Some, None}
use Rattle.json_events.specs.declared.state.Bracket.{Bracket}
use Rattle.json_events.specs.declared.state.Bracket.TheVariants.{Array, Object}
use Rattle.json_events.specs.declared.state.Want.{Want}
use Rattle.json_events.specs.declared.state.Want.TheVariants as want
use Rattle.json_events.specs.declared.state.Kind.{Kind}
use Rattle.json_events.specs.declared.state.Kind.TheVariants.{Opening, Closing, Separator, Between, Naming, Scalar}
use Rattle.json_events.specs.declared.state.Turn.{Turn}
use Rattle.json_events.specs.declared.state.Turn.TheVariants.{Stay, Push, Pop, Refuse}
use Rattle.json_events.specs.JsonTree.{Mark, opens, closes, comma, colon, key, text, digits, name}

-- what is wanted, and the brackets around it
pub record Place : Type 0 where
  pub want : Want
  pub around : List Bracket

-- the kind of a mark
abbrev pub kind_of : Mark → Kind
kind_of (opens b) = Opening b
kind_of (closes b) = Closing b
kind_of comma = Separator
kind_of colon = Between
kind_of (key k) = Naming
kind_of (text s) = Scalar
kind_of (digits s) = Scalar
kind_of (name n) = Scalar

-- a place that there is
abbrev pub at : Want → List Bracket → Option Place
at w st = Some (record { want = w; around = st })

-- the place behind an opening bracket
abbrev pub inside : Bracket → List Bracket → Option Place
inside Array st = at want.FirstItem st
inside Object st = at want.FirstKey st

-- what a mark leads to where a value is wanted
abbrev pub next_value : List Bracket → Kind → Option Place
next_value st (Opening b) = inside b st
next_value st (Closing b) = None
next_value st Separator = None
next_value st Between = None
next_value st Naming = None
next_value st Scalar = at want.After st

-- where a key is wanted
abbrev pub next_key : List Bracket → Kind → Option Place
next_key st (Opening b) = None
next_key st (Closing b) = None
next_key st Separator = None
next_key st Between = None
next_key st Naming = at want.Colon st
next_key st Scalar = None

-- behind the opening bracket of an array
abbrev pub next_item : List Bracket → Kind → Option Place
next_item st (Opening b) = next_value (Array ∷ st) (Opening b)
next_item st (Closing Array) = at want.After st
next_item st (Closing Object) = None
next_item st Separator = None
next_item st Between = None
next_item st Naming = None
next_item st Scalar = at want.After (Array ∷ st)

-- behind the opening bracket of an object
abbrev pub next_first_key : List Bracket → Kind → Option Place
next_first_key st (Opening b) = None
next_first_key st (Closing Array) = None
next_first_key st (Closing Object) = at want.After st
next_first_key st Separator = None
next_first_key st Between = None
next_first_key st Naming = at want.Colon st
next_first_key st Scalar = None

-- behind a key
abbrev pub next_colon : List Bracket → Kind → Option Place
next_colon st (Opening b) = None
next_colon st (Closing b) = None
next_colon st Separator = None
next_colon st Between = at want.Value (Object ∷ st)
next_colon st Naming = None
next_colon st Scalar = None

-- the mark is of the bracket around
abbrev pub next_after : List Bracket → Kind → Option Place
next_after [] k = None
next_after (b ∷ st) (Opening c) = None
next_after (Array ∷ st) (Closing Array) = at want.After st
next_after (Array ∷ st) (Closing Object) = None
next_after (Object ∷ st) (Closing Array) = None
next_after (Object ∷ st) (Closing Object) = at want.After st
next_after (Array ∷ st) Separator = at want.Value (Array ∷ st)
next_after (Object ∷ st) Separator = at want.Key st
next_after (b ∷ st) Between = None
next_after (b ∷ st) Naming = None
next_after (b ∷ st) Scalar = None

-- what a mark leads to, by what is wanted
abbrev pub next_in : Want → List Bracket → Kind → Option Place
next_in want.Value st k = next_value st k
next_in want.FirstItem st k = next_item st k
next_in want.FirstKey st k = next_first_key st k
next_in want.Key st k = next_key st k
next_in want.Colon st k = next_colon st k
next_in want.After st k = next_after st k

-- the place behind a mark, where it may come
abbrev pub next : Place → Kind → Option Place
next p k = next_in p.want p.around k

-- a whole text has come
abbrev pub IsDone : Place → Type 0
IsDone p = (p.want ≡ want.After) × (p.around ≡ [])

-- these marks lead from there to the end of a text
abbrev pub Leads : Option Place → List Mark → Type 0
Leads None ms = ⊥
Leads (Some p) [] = IsDone p
Leads (Some p) (m ∷ ms) = Leads (next p (kind_of m)) ms

-- the turn by the inmost bracket
abbrev pub top_of : List Bracket → Option Bracket
top_of [] = None
top_of (b ∷ st) = Some b

-- the place outside the inmost bracket, where there is one
abbrev pub popped : Want → List Bracket → Option Place
popped w [] = None
popped w (b ∷ st) = at w st

-- the place that a turn leads to
abbrev pub turned : Turn → List Bracket → Option Place
turned (Stay w) st = at w st
turned (Push b w) st = at w (b ∷ st)
turned (Pop w) st = popped w st
turned Refuse st = None

-- the turn is right whatever brackets are around
abbrev pub IsTurnAnywhere : Turn → Want → Kind → Type 0
IsTurnAnywhere t w k = (st : List Bracket) → turned t st ≡ next_in w st k

-- the turn is right for these brackets
abbrev pub IsTurn : Turn → Want → Option Bracket → Kind → Type 0
IsTurn t w top k = (st : List Bracket) → top_of st ≡ top → turned t st ≡ next_in w st k
