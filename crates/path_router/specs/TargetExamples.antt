-- Worked examples of targets, with the paths that they have.
use Rattle.std.specs.Prelude.{ℕ, List, [], codes}
use Rattle.path_router.specs.TargetPath.{IsTargetPath}

-- a target has no path
abbrev pub HasNoPath : List ℕ → Type 0
HasNoPath target = (path : List ℕ) → IsTargetPath target path → ⊥

-- which targets have a path, and which
pub record TargetExamplesHold : Type 0 where
  -- origin form: what stands before the first `?`
  pub query : IsTargetPath (codes "/a/b?x=1") (codes "/a/b")
  pub root : IsTargetPath (codes "/") (codes "/")
  pub two_queries : IsTargetPath (codes "/a?b?c") (codes "/a")
  pub two_slashes : IsTargetPath (codes "//a") (codes "//a")
  pub fragment : IsTargetPath (codes "/a#b") (codes "/a#b")
  -- nothing before the path, and the asterisk form
  pub query_alone : HasNoPath (codes "?x")
  pub empty : HasNoPath []
  pub asterisk : HasNoPath (codes "*")
  -- absolute form: what stands behind the authority, which may be empty, or `/`
  pub behind_authority : IsTargetPath (codes "http://h/a?b/c") (codes "/a")
  pub no_path : IsTargetPath (codes "HtTp://h") (codes "/")
  pub no_path_but_query : IsTargetPath (codes "http://h?x") (codes "/")
  pub no_authority : IsTargetPath (codes "http://") (codes "/")
  -- another scheme, and no authority
  pub one_slash : HasNoPath (codes "http:/a")
  pub another_scheme : HasNoPath (codes "https://h/a")
