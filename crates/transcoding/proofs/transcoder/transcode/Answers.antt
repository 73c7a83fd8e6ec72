use Rattle.transcoding.proofs.CallLemmas.{found_within, ready_of}
use Rattle.transcoding.proofs.transcoder.transcode.Goals as goal

pub is_built-requires-clause-binding : goal.is_built-requires-clause-binding
is_built-requires-clause-binding c =
    let r = c.in_ok-route.route in
    found_within c.args.api.now c.args.method.now r.path.now r.binding r.captures c.in_ok-route.ensures.ok.found

pub transcoded-requires-clause-binding : goal.transcoded-requires-clause-binding
transcoded-requires-clause-binding c =
    let r = c.in_ok-route.route in
    found_within c.args.api.now c.args.method.now r.path.now r.binding r.captures c.in_ok-route.ensures.ok.found

pub transcoded-requires-clause-ready : goal.transcoded-requires-clause-ready
transcoded-requires-clause-ready c =
    let r = c.in_ok-route.route in
    ready_of c.args.api.now c.args.method.now c.args.target.now r.path.now r.binding r.captures
    (c.found_spans_lie_inside.ensures c.args.api.now.bindings c.args.method.now r.path.now r.binding r.captures)
    c.in_ok-route.ensures.ok.found (c.is_built.ensures.0 c.if-not-is_built.false)
