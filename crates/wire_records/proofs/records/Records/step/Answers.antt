use Rattle.std.proofs.Common.{◌≡◌, ◌+◌, drop, sym, refl, Ok, ◌∙◌, ap}
use Rattle.std.proofs.lemmas.List.{take_rest}
use Rattle.wire_records.specs.WireRecord.{record_in}
use Rattle.wire_records.specs.RecordViews.{raw_of}
use Rattle.wire_records.proofs.records.Records.step.Goals as goal

pub returns-in-Ok : goal.returns-in-Ok
returns-in-Ok c =
    let rest = take_rest c.self.inside.bytes.now c.self.inside.at in
    let found : record_in 99 (drop c.self.inside.at c.self.inside.bytes.now) ≡ Ok (raw_of c.in-Ok.found) = ap (record_in 99) (sym rest) ∙ c.in-Ok.ensures.value in
    rw (← c.self.view_is) (raw_of c.in-Ok.found, found, c.in-Ok.ensures.within.0, ap (λ w. record { number = c.in-Ok.found.number; wire = w; place = c.self.inside.at; from = c.self.inside.at + c.in-Ok.found.head; to = c.self.inside.at + c.in-Ok.found.size }) c.wire_type.ensures, refl)
