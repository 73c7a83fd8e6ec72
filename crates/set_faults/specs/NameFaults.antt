-- Faults of a set's size and of its names, before its methods are looked at.
use Rattle.std.specs.Prelude.{◌++◌, ℕ, Bool, false, List, [], ◌∷◌, length, map, codes, nat_lt, count_by, if◌then◌else◌}
use Rattle.std.specs.List.{list_any}
use Rattle.std.specs.Set.{distinct_count}
use Rattle.std.specs.Str.{bytes_eq}
use Rattle.descriptor_pool.specs.DeclaredNames.{Declaration, File, Message, Enum, Service, Extension, is_type, name_of}
use Rattle.set_faults.specs.LinkFaults.{fault_if}
use Rattle.descriptor_pool.specs.SetMethods.{BoundMethod, all_rules, rule_methods}
use Rattle.set_faults.specs.declared.fault.LinkFault.{LinkFault}
use Rattle.set_faults.specs.declared.fault.LinkFault.TheVariants.{At}
use Rattle.set_faults.specs.declared.fault.LinkKind.TheVariants.{TooMany, DoubleName, NoRoute}

-- over 10,000 messages and enums, over 10,000 bindings, or over 64 distinct HTTP methods
abbrev pub too_many : List Declaration → List BoundMethod → List LinkFault
too_many ds ms =
    fault_if (nat_lt 10000 (count_by is_type ds)) (At TooMany (codes "types") [])
    ++ (fault_if (nat_lt 10000 (length (all_rules ms))) (At TooMany (codes "bindings") [])
    ++ fault_if (nat_lt 64 (distinct_count bytes_eq (rule_methods (all_rules ms)))) (At TooMany (codes "methods") []))

-- a file has this name
abbrev pub is_file_named : List ℕ → Declaration → Bool
is_file_named name (File other) = bytes_eq name other
is_file_named name _ = false

-- a message, an enum or a service has this full name
abbrev pub is_named : List ℕ → Declaration → Bool
is_named name (Message m) = bytes_eq name m.name
is_named name (Enum e) = bytes_eq name e.name
is_named name (Service other) = bytes_eq name other
is_named name _ = false

-- a declaration has the name of another: files among themselves, and messages, enums and services
abbrev pub has_name_of : Declaration → Declaration → Bool
has_name_of (File name) e = is_file_named name e
has_name_of (Message m) e = is_named m.name e
has_name_of (Enum d) e = is_named d.name e
has_name_of (Service name) e = is_named name e
has_name_of (Extension name) e = false

-- those of a list that have the name of one before, where `before` stand in front of it
abbrev pub doubled : List Declaration → List Declaration → List Declaration
doubled before [] = []
doubled before (d ∷ ds) = if list_any (has_name_of d) before then d ∷ doubled (before ++ d ∷ []) ds else doubled (before ++ d ∷ []) ds

-- the faults of names that came before
abbrev pub double_names : List Declaration → List LinkFault
double_names ds = map (λ d. At DoubleName (name_of d) []) (doubled [] ds)

-- no method has an annotation
abbrev pub no_route : List BoundMethod → List LinkFault
no_route [] = At NoRoute (codes "set") [] ∷ []
no_route (m ∷ ms) = []
