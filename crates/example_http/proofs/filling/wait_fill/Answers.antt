use Rattle.std.proofs.Common.{rules}
use Rattle.example_http.proofs.Waits.{WaitedFill, at_value, fill_waited}
use Rattle.example_http.proofs.filling.wait_fill.Goals as goal

pub returns : goal.returns
returns g c =
    let h = fill_waited g.T.ReadSpec.reads g.T.AsyncBufRead.buffer_of g.T.ReadSpec.read_laws _ _ c.wait_for.ensures.0 c.wait_for.result
    c.wait_for.ensures.1 c.wait_for.ensures.2.1 in
    let lends = h.1 in
    at_value (WaitedFill g.T.ReadSpec.reads g.T.AsyncBufRead.buffer_of c.args.reader.now c.wait_for.result) h.0 (search rules)
