use Rattle.std.proofs.Common.{◌≡◌, ℕ, List, [], ◌∷◌, codes, refl, ap, inl, inr, ⊎_elim, arith}
use Rattle.path_router.proofs.EndLemmas.{head_or, tail_or_none}
use Rattle.path_router.proofs.TargetLemmas.{pathless, scheme_parts}
use Rattle.path_router.specs.TargetPath.{EndsAuthority, IsBehindScheme, IsPathBehind, IsTargetPath}
use Rattle.path_router.proofs.examples.target_examples.Goals as goal

-- `h` does not end an authority
h_inside : EndsAuthority 104 → ⊥
h_inside e = ⊎_elim (λ x. absurd (omega (arith, x))) (λ x. absurd (omega (arith, x))) e

-- what stands behind `http://h` has this path
behind_h : (target rest path : List ℕ) → IsBehindScheme target (104 ∷ rest) → IsPathBehind rest path → IsTargetPath target path
behind_h target rest path s p =
    inr (record {
      behind = 104 ∷ rest;
      rest = rest;
      scheme = s;
      authority = record { authority = codes "h"; inside = (h_inside, tt); written = refl };
      path_is = p;
    })

pub returns : goal.returns
returns c = record {
  query = inl (record { query = codes "?x=1"; written = refl; rooted = refl; no_query = (λ e. absurd (cc (e)), (λ e. absurd (cc (e)), (λ e. absurd (cc (e)), (λ e. absurd (cc (e)), tt)))); is_query = refl });
  root = inl (record { query = []; written = refl; rooted = refl; no_query = (λ e. absurd (cc (e)), tt); is_query = tt });
  two_queries = inl (record { query = codes "?b?c"; written = refl; rooted = refl; no_query = (λ e. absurd (cc (e)), (λ e. absurd (cc (e)), tt)); is_query = refl });
  two_slashes = inl (record { query = []; written = refl; rooted = refl; no_query = (λ e. absurd (cc (e)), (λ e. absurd (cc (e)), (λ e. absurd (cc (e)), tt))); is_query = tt });
  fragment = inl (record { query = []; written = refl; rooted = refl; no_query = (λ e. absurd (cc (e)), (λ e. absurd (cc (e)), (λ e. absurd (cc (e)), (λ e. absurd (cc (e)), tt)))); is_query = tt });
  query_alone = pathless (codes "?x") (λ e. absurd (cc (e))) (λ b s. absurd (omega (arith, (scheme_parts (codes "?x") b s).0)));
  empty = pathless [] (λ e. e) (λ b s. absurd (omega (arith, (scheme_parts [] b s).0)));
  asterisk = pathless (codes "*") (λ e. absurd (cc (e))) (λ b s. absurd (omega (arith, (scheme_parts (codes "*") b s).0)));
  behind_authority =
      behind_h (codes "http://h/a?b/c") (codes "/a?b/c") (codes "/a") (record { scheme = codes "http"; http = refl; written = refl })
      (inl (record { query = codes "?b/c"; written = refl; rooted = refl; no_query = (λ e. absurd (cc (e)), (λ e. absurd (cc (e)), tt)); is_query = refl }));
  no_path =
      behind_h (codes "HtTp://h") [] (codes "/") (record { scheme = codes "HtTp"; http = refl; written = refl })
      (inr (tt, refl));
  no_path_but_query =
      behind_h (codes "http://h?x") (codes "?x") (codes "/") (record { scheme = codes "http"; http = refl; written = refl })
      (inr (refl, refl));
  no_authority =
      inr (record {
        behind = [];
        rest = [];
        scheme = record { scheme = codes "http"; http = refl; written = refl };
        authority = record { authority = []; inside = tt; written = refl };
        path_is = inr (tt, refl);
      });
  one_slash =
      pathless (codes "http:/a") (λ e. absurd (cc (e)))
      (λ b s. let e : 97 ≡ 47 = ap (λ z. head_or 0 (tail_or_none (tail_or_none z))) (scheme_parts (codes "http:/a") b s).2 in absurd (omega (arith, e)));
  another_scheme =
      pathless (codes "https://h/a") (λ e. absurd (cc (e)))
      (λ b s. let e : 115 ≡ 58 = ap (head_or 0) (scheme_parts (codes "https://h/a") b s).2 in absurd (omega (arith, e)));
}
