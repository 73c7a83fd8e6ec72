-- Lists that begin with others, over some more bytes.
use Rattle.std.proofs.Common.{◌≡◌, ◌++◌, ℕ, List}
use Rattle.base.specs.Extends.{Extends}
use Rattle.base.proofs.ExtendsLemmas.{extends_more}

-- what begins with a list, and some more behind another, begins with that
pub extends_over : (a b c d x : List ℕ) → Extends a b → c ≡ b ++ x → Extends c d → Extends a d
extends_over a b c d x p e q = extends_more a c d (extends_more a b c p (x, e)) q
