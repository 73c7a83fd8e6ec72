use Rattle.std.proofs.Common.{rules, ◌-◌, ◌+◌, ◌<◌, ◌^◌, length}
use Rattle.query_parameters.proofs.parameters.ParametersIterator.next.Goals as goal

pub overflow_add-self : goal.overflow_add-self
overflow_add-self c =
    let fits : c.loop-self.self-inside.before + length c.in-Some.bytes.now < 2 ^ 32 - 1 =
    c.loop-self.self-inside.fits c.in-Some.bytes c.in-Some.is in
    search rules
