-- Which targets have a path (`which_targets_have_paths`).
use Rattle.std.proofs.Common.{◌≡◌, ◌≢◌, ◌⊎◌, inl, inr, ◌++◌, ℕ, zero, suc, List, [], ◌∷◌, codes, map, take, drop, refl, sym, subst, ap, ◌∙◌}
use Rattle.std.specs.Prelude.{◌↔◌}
use Rattle.std.proofs.lemmas.Bool.{cases_eq}
use Rattle.std.proofs.lemmas.List.{take-append-drop}
use Rattle.std.specs.Char.{to_ascii_lowercase}
use Rattle.std.specs.List.{AllByRecursion}
use Rattle.path_router.proofs.DecidedFits.{same_bytes}
use Rattle.path_router.proofs.TargetLemmas.{behind_scheme_is, origin_of, pathless, root_behind, scheme_parts}
use Rattle.path_router.specs.TargetPath.{EndsAuthority, IsBehindAuthority, IsBehindScheme, IsEndedBy, IsOriginForm, IsPathBehind, IsRooted, IsTargetPath}

-- a text has no byte of a kind up to an offset, and ends there or has one
record EndsAt (Ends : ℕ → Type 0) (text : List ℕ) : Type 0 where
  offset : ℕ
  inside : AllByRecursion (λ b. Ends b → ⊥) (take offset text)
  ended : IsEndedBy Ends (drop offset text)

each_end : (Ends : ℕ → Type 0) → ((b : ℕ) → Dec (Ends b)) → (text : List ℕ) → EndsAt Ends text
each_end Ends d [] = record { offset = zero; inside = tt; ended = tt }
each_end Ends d (b ∷ text) = on (d b) (each_end Ends d text)
  where
    on : Dec (Ends b) → EndsAt Ends text → EndsAt Ends (b ∷ text)
    on (yes e) r = record { offset = zero; inside = tt; ended = e }
    on (no n) r = record { offset = suc r.offset; inside = (n, r.inside); ended = r.ended }

is_byte : (a b : ℕ) → Dec (b ≡ a)
is_byte a b = elim (cases_eq b a) [ inl e ↦ yes e | inr n ↦ no n ]

ends_authority : (b : ℕ) → Dec (EndsAuthority b)
ends_authority b =
    elim (is_byte 47 b) [
      | yes e ↦ yes (inl e)
      | no n ↦ elim (is_byte 63 b) [ yes e ↦ yes (inr e) | no m ↦ no (λ h. elim h [ inl e ↦ n e | inr e ↦ m e ]) ]
    ]

is_rooted : (text : List ℕ) → Dec (IsRooted text)
is_rooted [] = no (λ h. h)
is_rooted (b ∷ text) = is_byte 47 b

-- a text that begins with a slash has a path
origin : (text : List ℕ) → IsRooted text → (path : List ℕ) × IsOriginForm text path
origin text h =
    let r = each_end (λ b. b ≡ 63) (is_byte 63) text in
    (take r.offset text, origin_of text r.offset h r.inside r.ended)

-- what stands behind `://`, or that it is not there
behind_slashes : (text : List ℕ) → ((b : List ℕ) × (text ≡ codes "://" ++ b)) ⊎ ((b : List ℕ) → text ≢ codes "://" ++ b)
behind_slashes text =
    elim (same_bytes (take 3 text) (codes "://")) [
      | yes e ↦ inl (drop 3 text, sym (take-append-drop 3 text) ∙ ap (λ z. z ++ drop 3 text) e)
      | no n ↦ inr (λ b w. n (ap (take 3) w))
    ]

-- what stands behind the scheme, or that it is not there
behind_scheme : (target : List ℕ)
    → ((b : List ℕ) × IsBehindScheme target b) ⊎ ((b : List ℕ) → IsBehindScheme target b → ⊥)
behind_scheme target =
    elim (same_bytes (map to_ascii_lowercase (take 4 target)) (codes "http")) [
      | yes h ↦ elim (behind_slashes (drop 4 target)) [
        | inl s ↦ inl (s.0, behind_scheme_is target (take 4 target) (drop 4 target) s.0 refl refl h s.1)
        | inr n ↦ inr (λ b s. n b (scheme_parts target b s).2)
      ]
      | no n ↦ inr (λ b s. n (scheme_parts target b s).1)
    ]

-- what stands behind the scheme has a path
absolute : (behind : List ℕ) → (path rest : List ℕ) × IsBehindAuthority behind rest × IsPathBehind rest path
absolute behind =
    let r = each_end EndsAuthority ends_authority behind in
    let rest = drop r.offset behind in
    elim (is_rooted rest) [
      | yes h ↦
          let o = origin rest h in (
            o.0,
            rest,
            record {
              authority = take r.offset behind;
              inside = r.inside;
              written = sym (take-append-drop r.offset behind);
            },
            inl o.1,
          )
      | no n ↦ let s = root_behind behind rest r.offset refl r.inside r.ended n in (codes "/", s.0, s.1, s.2)
    ]

-- a target has a path, or none
pub each_target : (target : List ℕ)
    → ((path : List ℕ) × IsTargetPath target path) ⊎ ((path : List ℕ) → IsTargetPath target path → ⊥)
each_target target =
    elim (is_rooted target) [
      | yes h ↦ let o = origin target h in inl (o.0, inl o.1)
      | no n ↦ elim (behind_scheme target) [
        | inl b ↦
            let a = absolute b.0 in
            inl (a.0, inr (record { behind = b.0; rest = a.1; scheme = b.1; authority = a.2; path_is = a.3 }))
        | inr m ↦ inr (pathless target n m)
      ]
    ]

-- what is rooted has a first byte that stays first, whatever follows
rooted_in : (path query target : List ℕ) → IsRooted path → target ≡ path ++ query → IsRooted target
rooted_in [] query target r e = absurd r
rooted_in (b ∷ path) query target r e = subst IsRooted (sym e) r

-- a target has a path exactly where it begins with a slash or behind a scheme
pub path_is_there : (target : List ℕ)
    → ((path : List ℕ) × IsTargetPath target path)
    ↔ (IsRooted target ⊎ ((behind : List ℕ) × IsBehindScheme target behind))
path_is_there target = (
  λ p. elim p.1 [ inl o ↦ inl (rooted_in p.0 o.query target o.rooted o.written) | inr a ↦ inr (a.behind, a.scheme) ],
  λ h. elim h [
    | inl r ↦ let o = origin target r in (o.0, inl o.1)
    | inr b ↦
        let a = absolute b.0 in
        (a.0, inr (record { behind = b.0; rest = a.1; scheme = b.1; authority = a.2; path_is = a.3 }))
  ],
)
