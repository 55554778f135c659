use Rattle.std.specs.Prelude.{[]}
use Rattle.lite_theorems.specs.Uses.{rules, refl}
use Rattle.lite_theorems.proofs.BothWriters.{both_written}
use Rattle.lite_theorems.proofs.both_writers.write_both.Goals as goal

pub returns-in_err-on : goal.returns-in_err-on
returns-in_err-on g c =
    let rests = g.T.WriteSpec.write_laws.rests in
    ([], [], (rests _, (_, refl)), (rests _, (_, refl)), search rules)

pub returns-in_err-first : goal.returns-in_err-first
returns-in_err-first g c =
    let rests = g.T.WriteSpec.write_laws.rests in
    let one = c.write_up.ensures in
    (one.0, [], one.1, (rests _, (_, refl)), search rules)

pub returns-in_err-second : goal.returns-in_err-second
returns-in_err-second g c =
    let one = c.write_up.ensures in
    let two = c.write_up-2.ensures in
    (one.0, two.0, one.1, two.1, search rules)

pub returns : goal.returns
returns g c =
    let one = c.in_ok-first.ensures in
    let two = c.in_ok-second.ensures in (
      one.0,
      two.0,
      one.1,
      two.1,
      both_written g.met.T.SteadyWrite.steady _ _ _ _ _ one.0 two.0 _ _ c.requires.alike one.1 two.1 one.2 two.2,
    )
