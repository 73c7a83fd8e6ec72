-- The faults of a set, in the order in which they count: of its size, of its names, of its methods, of the
-- messages that the methods reach.
use Rattle.std.specs.Prelude.{◌++◌, List}
use Rattle.descriptors.specs.declared.file_set.FileSet.{FileSet}
use Rattle.descriptor_pool.specs.DeclaredNames.{Declaration, declarations}
use Rattle.descriptor_pool.specs.DeclaredTypes.{SetTypes, types_in}
use Rattle.set_faults.specs.MessageFaults.{reached_faults}
use Rattle.set_faults.specs.MethodFaults.{methods_faults}
use Rattle.set_faults.specs.NameFaults.{double_names, no_route, too_many}
use Rattle.descriptor_pool.specs.ReachableTypes.{reachable}
use Rattle.descriptor_pool.specs.SetMethods.{BoundMethod, bound_methods}
use Rattle.set_faults.specs.declared.fault.LinkFault.{LinkFault}

-- that no method has an annotation; the faults of methods, and then of the messages that they reach
abbrev pub reaching_faults : SetTypes → List BoundMethod → List LinkFault
reaching_faults types ms = no_route ms ++ (methods_faults types ms ++ reached_faults types (reachable types ms))

-- the faults of declarations with methods
abbrev pub all_faults : List Declaration → List BoundMethod → List LinkFault
all_faults ds ms = too_many ds ms ++ (double_names ds ++ reaching_faults (types_in ds) ms)

-- the faults of a set
abbrev pub faults : FileSet → List LinkFault
faults set = all_faults (declarations set) (bound_methods set)
