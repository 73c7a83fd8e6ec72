-- The grammar of path templates and what a text means (google/api/http.proto, path template syntax):
--   Template = "/" Segments [ Verb ] ;        Segments = Segment { "/" Segment } ;
--   Segment = "*" | "**" | LITERAL | Variable ; Variable = "{" FieldPath [ "=" Segments ] "}" ;
--   FieldPath = IDENT { "." IDENT } ;         Verb = ":" LITERAL ;
-- Texts are lists of bytes.
use Rattle.std.specs.Prelude.{◌≡◌, ◌<◌, ◌≤◌, ℕ, ◌+◌, ◌==◌, nat_le, Bool, ◌&&◌, ◌||◌, IsTrue, List, [], ◌∷◌, ◌++◌, length, map, codes, Option, Some, None}
use Rattle.std.specs.List.{AllByRecursion, flat_map, list_any}
use Rattle.http_rules.specs.declared.template.Segment.{Segment}
use Rattle.http_rules.specs.declared.template.Segment.TheVariants.{Literal, One, Rest}
use Rattle.http_rules.specs.declared.template.Variable.{Variable}
use Rattle.http_rules.specs.declared.template.Template.{Template}

-- a letter of ASCII
abbrev pub is_letter : ℕ → Bool
is_letter b = (nat_le 65 b && nat_le b 90) || (nat_le 97 b && nat_le b 122)

-- a decimal digit
abbrev pub is_digit : ℕ → Bool
is_digit b = nat_le 48 b && nat_le b 57

-- the marks that may stand in a literal beside letters and digits
abbrev pub literal_marks : List ℕ
literal_marks = codes "-._~!$&'()+,;=@"

-- a byte of a LITERAL
abbrev pub is_literal_byte : ℕ → Bool
is_literal_byte b = (is_letter b || is_digit b) || list_any (λ m. b == m) literal_marks

-- a byte that begins an IDENT
abbrev pub begins_identifier : ℕ → Bool
begins_identifier b = is_letter b || b == 95

-- a further byte of an IDENT
abbrev pub is_identifier_byte : ℕ → Bool
is_identifier_byte b = begins_identifier b || is_digit b

-- LITERAL: one or more of its bytes
abbrev pub IsLiteral : List ℕ → Type 0
IsLiteral [] = ⊥
IsLiteral (b ∷ bs) = IsTrue (is_literal_byte b) × AllByRecursion (λ c. IsTrue (is_literal_byte c)) bs

-- IDENT: a letter or an underscore, then letters, digits and underscores
abbrev pub IsIdentifier : List ℕ → Type 0
IsIdentifier [] = ⊥
IsIdentifier (b ∷ bs) = IsTrue (begins_identifier b) × AllByRecursion (λ c. IsTrue (is_identifier_byte c)) bs

-- FieldPath: one or more identifiers
abbrev pub IsFieldPath : List (List ℕ) → Type 0
IsFieldPath [] = ⊥
IsFieldPath (name ∷ names) = IsIdentifier name × AllByRecursion IsIdentifier names

-- Segment, but for a variable
abbrev pub IsSegment : Segment → Type 0
IsSegment (Literal l) = IsLiteral l
IsSegment One = Unit {0}
IsSegment Rest = Unit {0}

-- Segments within braces: one or more
abbrev pub AreSegments : List Segment → Type 0
AreSegments [] = ⊥
AreSegments (s ∷ ss) = IsSegment s × AllByRecursion IsSegment ss

-- what is written between two slashes: a segment, `{path}`, or `{path=segments}`
pub data Part : Type 0 where
  segment : Segment → Part
  variable : List (List ℕ) → Part
  variable_of : List (List ℕ) → List Segment → Part

-- a part is made of literals and identifiers
abbrev pub IsPart : Part → Type 0
IsPart (segment s) = IsSegment s
IsPart (variable path) = IsFieldPath path
IsPart (variable_of path ss) = IsFieldPath path × AreSegments ss

-- the pieces with this byte between them
abbrev pub joined : ℕ → List (List ℕ) → List ℕ
joined c [] = []
joined c (x ∷ xs) = x ++ flat_map (λ y. c ∷ y) xs

-- how a segment is written
abbrev pub segment_text : Segment → List ℕ
segment_text (Literal l) = l
segment_text One = 42 ∷ []
segment_text Rest = 42 ∷ 42 ∷ []

-- how a part is written
abbrev pub part_text : Part → List ℕ
part_text (segment s) = segment_text s
part_text (variable path) = 123 ∷ (joined 46 path ++ 125 ∷ [])
part_text (variable_of path ss) = 123 ∷ (joined 46 path ++ 61 ∷ (joined 47 (map segment_text ss) ++ 125 ∷ []))

-- how a verb is written
abbrev pub verb_text : Option (List ℕ) → List ℕ
verb_text None = []
verb_text (Some l) = 58 ∷ l

-- how parts and a verb are written: a slash before each part
abbrev pub parts_text : List Part → Option (List ℕ) → List ℕ
parts_text parts verb = flat_map (λ p. 47 ∷ part_text p) parts ++ verb_text verb

-- the segments of a part; `{path}` is `{path=*}`
abbrev pub part_segments : Part → List Segment
part_segments (segment s) = s ∷ []
part_segments (variable path) = One ∷ []
part_segments (variable_of path ss) = ss

-- the segments of all parts
abbrev pub segments_of : List Part → List Segment
segments_of parts = flat_map part_segments parts

-- a variable of this path that takes so many segments from there on
abbrev pub variable_at : List (List ℕ) → ℕ → ℕ → Variable
variable_at path from count = record { path = path; from = from; to = from + count }

-- the variables of parts, the first of which begins at this segment
abbrev pub variables_from : ℕ → List Part → List Variable
variables_from n [] = []
variables_from n (segment s ∷ parts) = variables_from (n + 1) parts
variables_from n (variable path ∷ parts) = variable_at path n 1 ∷ variables_from (n + 1) parts
variables_from n (variable_of path ss ∷ parts) = variable_at path n (length ss) ∷ variables_from (n + length ss) parts

-- these may follow the segment: `**` is the last
abbrev pub MayFollow : Segment → List Segment → Type 0
MayFollow (Literal l) ss = Unit {0}
MayFollow One ss = Unit {0}
MayFollow Rest ss = ss ≡ []

-- `**` stands last alone
abbrev pub IsRestLast : List Segment → Type 0
IsRestLast [] = Unit {0}
IsRestLast (s ∷ ss) = MayFollow s ss × IsRestLast ss

-- a verb is a literal
abbrev pub IsVerb : Option (List ℕ) → Type 0
IsVerb None = Unit {0}
IsVerb (Some l) = IsLiteral l

-- the template of these parts and this verb
abbrev pub template_of : List Part → Option (List ℕ) → Template
template_of parts verb = record { segments = segments_of parts; variables = variables_from 0 parts; verb = verb }

-- the text is a template, written in these parts, and means this
pub record IsTemplateText (text : List ℕ) (template : Template) : Type 0 where
  pub first : Part
  pub more : List Part
  pub each : AllByRecursion IsPart (first ∷ more)
  pub rest_last : IsRestLast (segments_of (first ∷ more))
  pub verb : IsVerb template.verb
  pub written : text ≡ parts_text (first ∷ more) template.verb
  pub means : template ≡ template_of (first ∷ more) template.verb

-- at most 64 segments and 16 variables
abbrev pub IsWithinLimits : Template → Type 0
IsWithinLimits t = (length t.segments ≤ 64) × (length t.variables ≤ 16)

-- a template that some text means, within the limits: one that can be parsed
pub record IsTemplate (template : Template) : Type 0 where
  pub text : List ℕ
  pub means : IsTemplateText text template
  pub within : IsWithinLimits template

-- two templates are one route: their segments and verbs are equal, whatever their variables are
abbrev pub IsSameFlat : Template → Template → Type 0
IsSameFlat a b = (a.segments ≡ b.segments) × (a.verb ≡ b.verb)

-- the ranges of the variables are not empty, one after another, and between these bounds
abbrev pub AreRanges : ℕ → List Variable → ℕ → Type 0
AreRanges low [] high = low ≤ high
AreRanges low (v ∷ vs) high = (low ≤ v.from) × (v.from < v.to) × AreRanges v.to vs high
