use Rattle.properties_met.proofs.Pausing.{nest_pauses, nest_waits, registers_own, registers_source}
use Rattle.properties_met.proofs.merges.poll_mapped.Goals as goal

pub returns-clause-own : goal.returns-clause-own
returns-clause-own g c none =
    let own = nest_pauses c.args.nest.now c.poll_next.new.self c.poll_next.result c.poll_next.ensures.ran none in
    (own.0, registers_own _ c.poll_next.new.cx _ c.poll_next.result own.1 c.poll_next.ensures.registered)

pub returns-clause-source : goal.returns-clause-source
returns-clause-source g c some =
    let waits = nest_waits c.args.nest.now c.poll_next.new.self c.poll_next.result c.poll_next.ensures.ran some in
    registers_source _ c.poll_next.new.cx _ c.poll_next.result waits c.poll_next.ensures.registered
