use Rattle.std.proofs.Common.{None}
use Rattle.lite_reshape.specs.Laws.SteadyFlatten.{inner_alike}
use Rattle.properties_met.proofs.holding.held_streams_are_alike.Goals as goal

pub returns : goal.returns
returns g c =
    let outer = g.met.S.SteadyStream.steady.steady _ _ c.requires.outer in (
      inner_alike g.S.SteadyStream.same g.S.SteadyStream.ample g.B.SteadyStream.alike _ _ None outer c.requires.inner,
      c.requires.held,
    )
