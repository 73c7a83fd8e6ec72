-- Maps from texts and full names to indexes, beside the lists that they index.
use denote.Ref.{Bor}
use Rattle.std.specs.Prelude.{◌≡◌, ℕ, List, map, Option}
use Rattle.std.specs.List.{list_any}
use Rattle.std.specs.Str.{bytes_eq}
use Rattle.std.specs.BTreeMap.{BTreeMap, get_by}
use Rattle.std.specs.BTreeSet.{BTreeSet}
use Rattle.std.specs.Cmp.Lexicographic.{slice_cmp}
use Rattle.std.specs.Ordering.{nat_cmp}
use Rattle.descriptor_pool.specs.DeclaredTypes.{SetTypes, first_from}
use Rattle.descriptor_pool.specs.NameOrder.{at_name, has_name}

-- what a map has at a text
abbrev pub index_at : BTreeMap (Bor (List ℕ)) ℕ → List ℕ → Option ℕ
index_at m q = get_by (λ k. slice_cmp nat_cmp q k.now) m

-- the maps have the index of each name, and the set has the names of what is extended
pub record IsIndexed (types : SetTypes) (messages enums : BTreeMap (List ℕ) ℕ) (extended : BTreeSet (List ℕ)) : Type 0 where
  pub by_message : (q : List ℕ) → at_name messages q ≡ first_from 0 (map (λ m. m.name) types.messages) q
  pub by_enum : (q : List ℕ) → at_name enums q ≡ first_from 0 (map (λ e. e.name) types.enums) q
  pub by_extended : (q : List ℕ) → has_name extended q ≡ list_any (bytes_eq q) types.extended
