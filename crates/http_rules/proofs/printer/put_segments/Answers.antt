use Rattle.http_rules.proofs.PrintLemmas.{segments_put}
use Rattle.http_rules.proofs.printer.put_segments.Goals as goal

pub returns-in_ok-put_slashed : goal.returns-in_ok-put_slashed
returns-in_ok-put_slashed c = segments_put c.args.out.now.items c.put_segment.new.out.items c.put_slashed.new.out.items c.args.segments.now c.first-item.result c.in-len1-up.len_at_least c.first-item.is c.in_ok-put_segment.ensures c.in_ok-put_slashed.ensures
