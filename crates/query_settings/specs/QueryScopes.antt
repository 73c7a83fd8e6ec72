-- What the parameters of a request are judged by.
use Rattle.http_rules.specs.declared.template.Binding.{Binding}
use Rattle.message_types.specs.declared.messages.TypeId.{TypeId}
use Rattle.message_types.specs.declared.messages.Types.{Types}
use Rattle.query_settings.specs.ParameterFaults.{QueryScope}

-- the types, the type of the message, and what the binding takes
abbrev pub scope_of : Types → TypeId → Binding → QueryScope
scope_of types input b = record { types = types; input = input; paths = b.paths; body = b.body }
