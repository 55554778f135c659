use Rattle.lite_reshape.specs.FlatMap.{flat_map_parts}
use Rattle.lite_reshape.specs.Laws.FlatMap.{each_made, made_promises, outer_laws}
use Rattle.lite_reshape.specs.Uses.{runs_of, Calls, Maps}
use Rattle.lite_reshape.specs.Laws.Flatten.{flat_answer}
use Rattle.lite_reshape.proofs.flat_map.FlatMapStream.poll_next.Goals as goal

pub drive-requires : goal.drive-requires
drive-requires g c =
    (c.requires.0, c.requires.1, each_made g.F.FnMut g.U.Stream.can_poll g.S.Stream.run g.U.Stream.run _ _ c.requires.2)

pub returns-clause-ran : goal.returns-clause-ran
returns-clause-ran g c =
    let steps = c.drive.ensures.stepped in
    flat_answer g.U.Stream.run
    (Maps g.S.Stream.run (Calls g.F.FnMut)) (runs_of (outer_laws g.F.FnMut g.met.S.Stream.laws)) flat_map_parts _ _ steps.0 _ _ steps.1 steps.2

pub returns-clause-again : goal.returns-clause-again
returns-clause-again g c =
    let last = c.drive.ensures.stepped.2.0 in (
      last.0,
      last.1,
      (
        last.2.0,
        made_promises g.F.FnMut g.U.Stream.can_poll g.S.Stream.run g.U.Stream.run _ _ _ c.requires.2
            (returns-clause-ran g c),
      ),
    )
