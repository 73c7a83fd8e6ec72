-- The path of a request's target (RFC 9112, section 3.2; RFC 3986, section 3): of one in origin form, and of one in
-- absolute form whose scheme is `http`. No other target has a path, and `#` is a byte like others.
use Rattle.std.specs.Prelude.{◌≡◌, ◌≢◌, ◌++◌, ◌⊎◌, ℕ, List, [], ◌∷◌, codes, map}
use Rattle.std.specs.Char.{to_ascii_lowercase}
use Rattle.std.specs.List.{AllByRecursion}

-- the first byte is a slash
abbrev pub IsRooted : List ℕ → Type 0
IsRooted [] = ⊥
IsRooted (b ∷ bs) = b ≡ 47

-- there is nothing, or a byte of this kind comes first
abbrev pub IsEndedBy : (ℕ → Type 0) → List ℕ → Type 0
IsEndedBy Ends [] = Unit {0}
IsEndedBy Ends (b ∷ bs) = Ends b

-- there is nothing, or a `?` with anything behind it
abbrev pub IsQuery : List ℕ → Type 0
IsQuery text = IsEndedBy (λ b. b ≡ 63) text

-- a target in origin form has this path: it begins with a slash, and goes to the first `?` or to the end
pub record IsOriginForm (target path : List ℕ) : Type 0 where
  pub query : List ℕ
  pub written : target ≡ path ++ query
  pub rooted : IsRooted path
  pub no_query : AllByRecursion (λ b. b ≢ 63) path
  pub is_query : IsQuery query

-- a target begins with `http` in any case of letters and `://`, and this stands behind them
pub record IsBehindScheme (target behind : List ℕ) : Type 0 where
  pub scheme : List ℕ
  pub http : map to_ascii_lowercase scheme ≡ codes "http"
  pub written : target ≡ scheme ++ (codes "://" ++ behind)

-- a byte ends an authority: a slash, or a `?`
abbrev pub EndsAuthority : ℕ → Type 0
EndsAuthority b = (b ≡ 47) ⊎ (b ≡ 63)

-- an authority, which may be empty, ends where this rest begins
pub record IsBehindAuthority (behind rest : List ℕ) : Type 0 where
  pub authority : List ℕ
  pub inside : AllByRecursion (λ b. EndsAuthority b → ⊥) authority
  pub written : behind ≡ authority ++ rest

-- what stands behind an authority has this path: its own, or `/` where there is none
abbrev pub IsPathBehind : List ℕ → List ℕ → Type 0
IsPathBehind rest path = IsOriginForm rest path ⊎ (IsQuery rest × (path ≡ codes "/"))

-- a target in absolute form has this path
pub record IsAbsoluteForm (target path : List ℕ) : Type 0 where
  pub behind : List ℕ
  pub rest : List ℕ
  pub scheme : IsBehindScheme target behind
  pub authority : IsBehindAuthority behind rest
  pub path_is : IsPathBehind rest path

-- a target has this path
abbrev pub IsTargetPath : List ℕ → List ℕ → Type 0
IsTargetPath target path = IsOriginForm target path ⊎ IsAbsoluteForm target path
