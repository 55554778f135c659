use Rattle.std.specs.Prelude.{◌≡◌, length}
use Rattle.std.proofs.lemmas.Grind.{common_steps}
use Rattle.lite_halves.specs.Uses.{arith, refl}
use Rattle.lite_halves.proofs.Counted.{none_counted, read_counted}
use Rattle.lite_halves.proofs.journalled.read_half.JournalReadHalf.make.Goals as goal

pub returns-in_err-buf-clause-made : goal.returns-in_err-buf-clause-made
returns-in_err-buf-clause-made g c = none_counted _ _ _ _ c.from_residual.ensures refl

pub returns-in_err-polled-clause-made : goal.returns-in_err-polled-clause-made
returns-in_err-polled-clause-made g c =
    none_counted _ _ _ _ c.from_residual-in_err-polled.ensures c.in_err-polled.ensures.counted

pub returns-clause-made : goal.returns-clause-made
returns-clause-made g c =
    let counted = c.in_ok-polled.ensures.counted in
    let buf = c.step_read.new.buf in
    let fits : length buf ≡ c.args.room = grind (arith, common_steps) in
    read_counted _ _ _ buf _ _ _ fits c.in_ok-polled.ensures.bound counted.0 counted.1 (grind (arith, common_steps))
    c.buffer_answer.ensures
