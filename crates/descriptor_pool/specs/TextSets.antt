-- Sets of texts, as tests of texts.
use denote.Ref.{Bor}
use Rattle.std.specs.Prelude.{ℕ, Bool, false, List}
use Rattle.std.specs.BTreeSet.{BTreeSet, contains_by}
use Rattle.std.specs.Cmp.Lexicographic.{slice_cmp}
use Rattle.std.specs.Ordering.{nat_cmp}
use Rattle.descriptor_pool.specs.DeclaredNames.{Declaration, File, Message, Enum, Service, Extension}

-- a set has a text
abbrev pub has : BTreeSet (Bor (List ℕ)) → List ℕ → Bool
has s q = contains_by (λ k. slice_cmp nat_cmp q k.now) s

-- a declaration's name is among those of files, or among the others
abbrev pub is_known : (List ℕ → Bool) → (List ℕ → Bool) → Declaration → Bool
is_known files names (File name) = files name
is_known files names (Message m) = names m.name
is_known files names (Enum e) = names e.name
is_known files names (Service name) = names name
is_known files names (Extension name) = false
