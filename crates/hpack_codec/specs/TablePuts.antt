-- Fields of the tables that are appended to bytes.
use Rattle.std.specs.Prelude.{◌≡◌, ◌<◌, ◌++◌, ℕ, Bool, true, false, List, [], length, get_or, Option, Some, None}
use Rattle.std.specs.Option.{IsSomeAnd}
use Rattle.hpack_codec.specs.StaticTable.{HeaderField, static_table}
use Rattle.hpack_codec.specs.DynamicTable.{HeaderTable}
use Rattle.hpack_codec.specs.declared.index_table.TableRow.{TableRow}
use Rattle.hpack_codec.specs.declared.index_table.TableRow.TheVariants.{Static, Dynamic}

-- where the field of an index stands in a table, or that there is none
abbrev pub IsTableRow : Option HeaderField → HeaderTable → Option TableRow → Type 0
IsTableRow field t None = field ≡ None
IsTableRow field t (Some (Static i)) = (field ≡ Some (get_or static_table i ([], []))) × (i < 61)
IsTableRow field t (Some (Dynamic i)) = (field ≡ Some (get_or t.fields i ([], []))) × (i < length t.fields)

-- the name of a field was appended, or there is no field
abbrev pub IsNamePut : Option HeaderField → List ℕ → List ℕ → Bool → Type 0
IsNamePut field old new true = IsSomeAnd field (λ f. new ≡ old ++ f.0)
IsNamePut field old new false = (field ≡ None) × (new ≡ old)

-- the name and the value of a field were appended, and the name is so long, or there is no field
abbrev pub IsFieldPut : Option HeaderField → List ℕ → List ℕ → Option ℕ → Type 0
IsFieldPut field old new (Some middle) = IsSomeAnd field (λ f. (new ≡ old ++ (f.0 ++ f.1)) × (middle ≡ length f.0))
IsFieldPut field old new None = (field ≡ None) × (new ≡ old)
