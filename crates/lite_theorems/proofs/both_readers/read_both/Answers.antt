use Rattle.std.specs.Prelude.{[]}
use Rattle.lite_theorems.specs.Uses.{rules, append-nil, sym}
use Rattle.lite_theorems.proofs.BothReaders.{both_read}
use Rattle.lite_theorems.proofs.both_readers.read_both.Goals as goal

pub returns-in_err-on-clause-agree : goal.returns-in_err-on-clause-agree
returns-in_err-on-clause-agree g c = ([], [], sym (append-nil _), sym (append-nil _), search rules, search rules)

pub returns-clause-agree : goal.returns-clause-agree
returns-clause-agree g c =
    let one = c.in_ok-first.ensures.read in
    let two = c.in_ok-second.ensures.read in (
      one.0,
      two.0,
      one.1,
      two.1,
      both_read g.met.T.SteadyRead.steady _ _ _ _ _ _ one.0 two.0 _ _ c.requires.alike one.2 two.2,
      tt,
    )
