-- A target has one path at most.
use Rattle.std.proofs.Common.{◌≡◌, ◌≢◌, ◌≤◌, ◌++◌, ℕ, zero, suc, List, [], ◌∷◌, codes, length, map, take, drop, Bor, Option, Some, None, MatchOption, refl, sym, ap, ◌∙◌, subst, inl, inr, ⊎_elim, arith, length-append}
use Rattle.std.proofs.Math.Seq.{take-append_seam, drop-append_seam}
use Rattle.std.proofs.lemmas.List.{length-map, take-append-drop}
use Rattle.std.specs.Char.{to_ascii_lowercase}
use Rattle.std.specs.List.{AllByRecursion}
use Rattle.path_router.proofs.EndLemmas.{head_or, one_end, tail_or_none}
use Rattle.path_router.specs.TargetPath.{EndsAuthority, IsAbsoluteForm, IsBehindAuthority, IsBehindScheme, IsEndedBy, IsOriginForm, IsPathBehind, IsQuery, IsRooted, IsTargetPath}

-- ---- origin form

-- a target in origin form has one path
pub one_origin : (target p q : List ℕ) → IsOriginForm target p → IsOriginForm target q → p ≡ q
one_origin target p q a b =
    let one = one_end (λ z. z ≡ 63) p q a.query b.query a.no_query b.no_query a.is_query b.is_query in
    (one (sym a.written ∙ b.written)).0

rooted_front : (path query : List ℕ) → IsRooted path → IsRooted (path ++ query)
rooted_front [] query h = absurd h
rooted_front (b ∷ bs) query h = h

-- what is in origin form begins with a slash
pub origin_rooted : (target path : List ℕ) → IsOriginForm target path → IsRooted target
origin_rooted target path o = subst IsRooted (sym o.written) (rooted_front path o.query o.rooted)

-- what stands before the first `?` of what begins with a slash is its path
pub origin_of : (text : List ℕ) (n : ℕ) → IsRooted text → AllByRecursion (λ b. b ≢ 63) (take n text)
    → IsQuery (drop n text) → IsOriginForm text (take n text)
origin_of [] n h a q = absurd h
origin_of (b ∷ bs) zero h a q = absurd (omega (arith, h, q))
origin_of (b ∷ bs) (suc n) h a q = record {
  query = drop n bs;
  written = sym (take-append-drop (suc n) (b ∷ bs));
  rooted = h;
  no_query = a;
  is_query = q;
}

-- ---- absolute form

scheme_length : (target behind : List ℕ) → (s : IsBehindScheme target behind) → length s.scheme ≡ 4
scheme_length target behind s = sym (length-map s.scheme to_ascii_lowercase) ∙ ap length s.http

-- a target with a scheme has four bytes of it, and three and the rest behind
pub scheme_parts : (target behind : List ℕ) → IsBehindScheme target behind
    → (4 ≤ length target) × (map to_ascii_lowercase (take 4 target) ≡ codes "http")
    × (drop 4 target ≡ codes "://" ++ behind)
scheme_parts target behind s =
    let four = scheme_length target behind s in
    let more = codes "://" ++ behind in
    let first : take 4 target ≡ s.scheme =
    ap (take 4) s.written ∙ ap (λ n. take n (s.scheme ++ more)) (sym four) ∙ take-append_seam s.scheme more in
    let last : drop 4 target ≡ more =
    ap (drop 4) s.written ∙ ap (λ n. drop n (s.scheme ++ more)) (sym four) ∙ drop-append_seam s.scheme more in
    (omega (arith, ap length s.written, length-append s.scheme more), ap (map to_ascii_lowercase) first ∙ s.http, last)

-- what stands behind `http` and `://` is behind a scheme
pub behind_scheme_is : (target front back behind : List ℕ) → front ≡ take 4 target → back ≡ drop 4 target
    → map to_ascii_lowercase front ≡ codes "http" → back ≡ codes "://" ++ behind → IsBehindScheme target behind
behind_scheme_is target front back behind f b h w = record {
  scheme = front;
  http = h;
  written = sym (take-append-drop 4 target) ∙ ap (λ z. z ++ drop 4 target) (sym f) ∙ ap (λ z. front ++ z) (sym b ∙ w);
}

-- behind four bytes that are `http` what stands behind `://` is behind a scheme, and nothing else is
pub behind_scheme_found : (target front back : List ℕ) (r : Option (Bor (List ℕ))) → front ≡ take 4 target
    → back ≡ drop 4 target → map to_ascii_lowercase front ≡ codes "http"
    → MatchOption r ((b : List ℕ) → back ≢ codes "://" ++ b) (λ b. back ≡ codes "://" ++ b.now)
    → MatchOption r ((b : List ℕ) → IsBehindScheme target b → ⊥) (λ b. IsBehindScheme target b.now)
behind_scheme_found target front back None f e h m = λ b s. m b (e ∙ (scheme_parts target b s).2)
behind_scheme_found target front back (Some b) f e h m = behind_scheme_is target front back b.now f e h m

-- behind one scheme stands one text
pub one_behind_scheme : (target a b : List ℕ) → IsBehindScheme target a → IsBehindScheme target b → a ≡ b
one_behind_scheme target a b s t =
    let e : codes "://" ++ a ≡ codes "://" ++ b =
    sym (scheme_parts target a s).2 ∙ (scheme_parts target b t).2 in
    ap (λ z. tail_or_none (tail_or_none (tail_or_none z))) e

slash_ends : (b : ℕ) → b ≡ 47 → EndsAuthority b
slash_ends b e = inl e

rooted_ends : (text : List ℕ) → IsRooted text → IsEndedBy EndsAuthority text
rooted_ends [] h = absurd h
rooted_ends (b ∷ bs) h = inl h

query_ends : (text : List ℕ) → IsQuery text → IsEndedBy EndsAuthority text
query_ends [] h = tt
query_ends (b ∷ bs) h = inr h

-- what ends an authority and does not begin with a slash is a query or nothing
end_is_query : (text : List ℕ) → IsEndedBy EndsAuthority text → (IsRooted text → ⊥) → IsQuery text
end_is_query [] e n = tt
end_is_query (b ∷ bs) e n = ⊎_elim (λ h. absurd (n h)) (λ h. h) e

-- where nothing in origin form stands behind an authority, the path is `/`
pub root_behind : (behind rest : List ℕ) (n : ℕ) → rest ≡ drop n behind
    → AllByRecursion (λ b. EndsAuthority b → ⊥) (take n behind) → IsEndedBy EndsAuthority (drop n behind)
    → (IsRooted rest → ⊥)
    → (x : List ℕ) × IsBehindAuthority behind x × IsPathBehind x (47 ∷ [])
root_behind behind rest n r a e none =
    let d = drop n behind in (
      d,
      record { authority = take n behind; inside = a; written = sym (take-append-drop n behind) },
      inr (end_is_query d e (λ h. none (subst IsRooted (sym r) h)), refl),
    )

-- what has a path behind an authority ends the authority
path_ends : (rest path : List ℕ) → IsPathBehind rest path → IsEndedBy EndsAuthority rest
path_ends rest path p = ⊎_elim (λ o. rooted_ends rest (origin_rooted rest path o)) (λ q. query_ends rest q.0) p

rooted_no_query : (text : List ℕ) → IsRooted text → IsQuery text → ⊥
rooted_no_query [] h q = h
rooted_no_query (b ∷ bs) h q = absurd (omega (arith, h, q))

one_path_behind : (rest p q : List ℕ) → IsPathBehind rest p → IsPathBehind rest q → p ≡ q
one_path_behind rest p q a b =
    ⊎_elim
    (λ o. ⊎_elim (λ r. one_origin rest p q o r) (λ r. absurd (rooted_no_query rest (origin_rooted rest p o) r.0)) b)
    (λ s. ⊎_elim (λ r. absurd (rooted_no_query rest (origin_rooted rest q r) s.0)) (λ r. s.1 ∙ sym r.1) b) a

one_absolute : (target p q : List ℕ) → IsAbsoluteForm target p → IsAbsoluteForm target q → p ≡ q
one_absolute target p q a b =
    let behind = one_behind_scheme target a.behind b.behind a.scheme b.scheme in
    let ends = one_end EndsAuthority a.authority.authority b.authority.authority a.rest b.rest a.authority.inside in
    let written = sym a.authority.written ∙ behind ∙ b.authority.written in
    let rests =
    (ends b.authority.inside (path_ends a.rest p a.path_is) (path_ends b.rest q b.path_is) written).1 in
    one_path_behind b.rest p q (subst (λ z. IsPathBehind z p) rests a.path_is) b.path_is

-- ---- one form

not_both : (target behind : List ℕ) → IsRooted target → IsBehindScheme target behind → ⊥
not_both [] behind r s = r
not_both (b ∷ bs) behind r s =
    let first : map to_ascii_lowercase (take 4 (47 ∷ bs)) ≡ codes "http" =
    subst (λ z. map to_ascii_lowercase (take 4 (z ∷ bs)) ≡ codes "http") r (scheme_parts (b ∷ bs) behind s).1 in
    let heads : 47 ≡ 104 = ap (head_or 0) first in
    absurd (omega (arith, heads))

-- a target that begins with no slash, and with no `http://`, has no path
pub pathless : (target : List ℕ) → (IsRooted target → ⊥) → ((b : List ℕ) → IsBehindScheme target b → ⊥)
    → (path : List ℕ) → IsTargetPath target path → ⊥
pathless target root scheme path p =
    ⊎_elim (λ o. root (origin_rooted target path o)) (λ a. scheme a.behind a.scheme) p

-- a target has one path at most
pub one_path : (target p q : List ℕ) → IsTargetPath target p → IsTargetPath target q → p ≡ q
one_path target p q a b =
    ⊎_elim
    (λ o. ⊎_elim (λ r. one_origin target p q o r)
    (λ r. absurd (not_both target r.behind (origin_rooted target p o) r.scheme)) b)
    (λ s. ⊎_elim (λ r. absurd (not_both target s.behind (origin_rooted target q r) s.scheme))
    (λ r. one_absolute target p q s r) b) a
