-- What a parameter that the code gives has of the query.
use Rattle.query_parameters.specs.QueryParameters.{EncodedParameter}
use Rattle.query_parameters.specs.declared.parameters.Parameter.{Parameter}

-- the number, the name and the value of a parameter
abbrev pub encoded_of : Parameter → EncodedParameter
encoded_of p = record { number = p.number; name = p.name.now; value = p.value.now }
