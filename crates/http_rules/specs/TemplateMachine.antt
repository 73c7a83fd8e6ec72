-- Reading a template one byte at a time: a machine, proved to read the grammar of `Template.antt`.
use Rattle.std.specs.Prelude.{ℕ, Bool, true, false, ◌==◌, List, [], ◌∷◌, ◌++◌, length, Option, Some, None, option_map, if◌then◌else◌}
use Rattle.http_rules.specs.declared.template.Segment.{Segment}
use Rattle.http_rules.specs.declared.template.Segment.TheVariants as segments
use Rattle.http_rules.specs.declared.template.Variable.{Variable}
use Rattle.http_rules.specs.declared.template.Template.{Template}
use Rattle.http_rules.specs.declared.state.Kind.{Kind}
use Rattle.http_rules.specs.declared.state.Kind.TheVariants.{Letter, Digit, Dot, Equals, Mark}
use Rattle.http_rules.specs.declared.state.Class.{Class}
use Rattle.http_rules.specs.declared.state.Class.TheVariants as class
use Rattle.http_rules.specs.declared.state.Level.{Level}
use Rattle.http_rules.specs.declared.state.Level.TheVariants.{Outer, Inner}
use Rattle.http_rules.specs.declared.state.State.{State}
use Rattle.http_rules.specs.declared.state.State.TheVariants as state
use Rattle.http_rules.specs.declared.state.Shape.{Shape}
use Rattle.http_rules.specs.declared.state.Shape.TheVariants as shape
use Rattle.http_rules.specs.declared.state.Act.{Act}
use Rattle.http_rules.specs.declared.state.Act.TheVariants as act
use Rattle.http_rules.specs.declared.parts.Parts.{Parts}
use Rattle.http_rules.specs.Template.{is_digit, is_literal_byte, begins_identifier}

-- what a byte of a literal may be besides
abbrev pub kind_of : ℕ → Kind
kind_of b =
    if begins_identifier b then Letter
    else (if is_digit b then Digit
    else (if b == 46 then Dot
    else (if b == 61 then Equals
    else Mark)))

-- what any other byte is
abbrev pub sign_of : ℕ → Class
sign_of b =
    if b == 47 then class.Slash
    else (if b == 42 then class.Star
    else (if b == 58 then class.Colon
    else (if b == 123 then class.Open
    else (if b == 125 then class.Close
    else class.Other))))

-- what a byte may be in a template
abbrev pub class_of : ℕ → Class
class_of b = if is_literal_byte b then class.Literal (kind_of b) else sign_of b

-- a byte leads to this state and does this
abbrev pub goes : State → Act → Option (State × Act)
goes p a = Some (p, a)

-- a segment of this shape ends by the byte
abbrev pub ended : Level → Shape → Class → Option (State × Act)
ended Outer x class.Slash = goes (state.Segment Outer) (act.EndSegment x)
ended Outer x class.Colon = goes state.Colon (act.EndSegment x)
ended Outer x c = None
ended Inner x class.Slash = goes (state.Segment Inner) (act.EndSegment x)
ended Inner x class.Close = goes state.Closed (act.CloseRange x)
ended Inner x c = None

-- where a byte leads and what it does
abbrev pub turn : State → Class → Option (State × Act)
turn state.Start class.Slash = goes (state.Segment Outer) act.Skip
turn state.Start c = None
turn (state.Segment l) class.Star = goes (state.Star l) act.Skip
turn (state.Segment l) (class.Literal k) = goes (state.Literal l) act.Keep
turn (state.Segment Outer) class.Open = goes state.Name act.Skip
turn (state.Segment l) c = None
turn (state.Star l) class.Star = goes (state.Stars l) act.Skip
turn (state.Star l) c = ended l shape.One c
turn (state.Stars Outer) class.Colon = goes state.Colon (act.EndSegment shape.Rest)
turn (state.Stars Inner) class.Close = goes state.ClosedRest (act.CloseRange shape.Rest)
turn (state.Stars l) c = None
turn (state.Literal l) (class.Literal k) = goes (state.Literal l) act.Keep
turn (state.Literal l) c = ended l shape.Literal c
turn state.Name (class.Literal Letter) = goes state.Path act.Keep
turn state.Name c = None
turn state.Path (class.Literal Letter) = goes state.Path act.Keep
turn state.Path (class.Literal Digit) = goes state.Path act.Keep
turn state.Path (class.Literal Dot) = goes state.Name act.EndName
turn state.Path (class.Literal Equals) = goes (state.Segment Inner) act.OpenRange
turn state.Path class.Close = goes state.Closed act.CloseBare
turn state.Path c = None
turn state.Closed class.Slash = goes (state.Segment Outer) act.Skip
turn state.Closed class.Colon = goes state.Colon act.Skip
turn state.Closed c = None
turn state.ClosedRest class.Colon = goes state.Colon act.Skip
turn state.ClosedRest c = None
turn state.Colon (class.Literal k) = goes state.Verb act.Keep
turn state.Colon c = None
turn state.Verb (class.Literal k) = goes state.Verb act.Keep
turn state.Verb c = None

-- a template may end there
abbrev pub is_final : State → Bool
is_final state.Start = false
is_final (state.Segment l) = false
is_final (state.Star Outer) = true
is_final (state.Star Inner) = false
is_final (state.Stars Outer) = true
is_final (state.Stars Inner) = false
is_final (state.Literal Outer) = true
is_final (state.Literal Inner) = false
is_final state.Name = false
is_final state.Path = false
is_final state.Closed = true
is_final state.ClosedRest = true
is_final state.Colon = false
is_final state.Verb = true

-- the state after a byte
abbrev pub after : State → ℕ → Option State
after p b = option_map (λ x. x.0) (turn p (class_of b))

-- the state after bytes
abbrev pub reach : Option State → List ℕ → Option State
reach None s = None
reach (Some p) [] = Some p
reach (Some p) (b ∷ s) = reach (after p b) s

-- parts of these values
abbrev pub parts_of : List Segment → List Variable → List ℕ → List (List ℕ) → ℕ → Parts
parts_of ss vs word path from = record { segments = ss; variables = vs; word = word; path = path; from = from }

-- nothing is read
abbrev pub no_parts : Parts
no_parts = parts_of [] [] [] [] 0

-- the segment of a shape and the word
abbrev pub shaped : Shape → List ℕ → Segment
shaped shape.One word = segments.One
shaped shape.Rest word = segments.Rest
shaped shape.Literal word = segments.Literal word

-- the word has ended as a name
abbrev pub named : Parts → Parts
named m = record m { word = []; path = m.path ++ m.word ∷ [] }

-- a segment has ended
abbrev pub with_segment : Segment → Parts → Parts
with_segment s m = record m { segments = m.segments ++ s ∷ []; word = [] }

-- a variable begins with the next segment
abbrev pub opened : Parts → Parts
opened m = record m { from = length m.segments }

-- the variable has ended with the last segment
abbrev pub with_variable : Parts → Parts
with_variable m = record m { variables = m.variables ++ record { path = m.path; from = m.from; to = length m.segments } ∷ []; path = [] }

-- what a byte does to the parts
abbrev pub did : Act → ℕ → Parts → Parts
did act.Skip b m = m
did act.Keep b m = record m { word = m.word ++ b ∷ [] }
did act.EndName b m = named m
did act.OpenRange b m = opened (named m)
did act.CloseBare b m = with_variable (with_segment segments.One (opened (named m)))
did (act.EndSegment x) b m = with_segment (shaped x m.word) m
did (act.CloseRange x) b m = with_variable (with_segment (shaped x m.word) m)

-- so it does where it leads somewhere
abbrev pub kept : Option (State × Act) → ℕ → Parts → Parts
kept None b m = m
kept (Some x) b m = did x.1 b m

-- the template of the parts
abbrev pub built : Parts → Option (List ℕ) → Template
built m verb = record { segments = m.segments; variables = m.variables; verb = verb }

-- the template where the text ends there
abbrev pub finish : State → Parts → Option Template
finish state.Start m = None
finish (state.Segment l) m = None
finish (state.Star Outer) m = Some (built (with_segment segments.One m) None)
finish (state.Star Inner) m = None
finish (state.Stars Outer) m = Some (built (with_segment segments.Rest m) None)
finish (state.Stars Inner) m = None
finish (state.Literal Outer) m = Some (built (with_segment (segments.Literal m.word) m) None)
finish (state.Literal Inner) m = None
finish state.Name m = None
finish state.Path m = None
finish state.Closed m = Some (built m None)
finish state.ClosedRest m = Some (built m None)
finish state.Colon m = None
finish state.Verb m = Some (built m (Some m.word))

-- the template that the bytes complete, if they do
abbrev pub run : Option State → Parts → List ℕ → Option Template
run None m s = None
run (Some p) m [] = finish p m
run (Some p) m (b ∷ s) = run (after p b) (kept (turn p (class_of b)) b m) s

-- the template of a text, if it is one
abbrev pub read_template : List ℕ → Option Template
read_template text = run (Some state.Start) no_parts text
