use Rattle.std.specs.Prelude.{◌≡◌, ◌≤◌, ◌<◌, ◌-◌, Ok, length, take, drop}
use Rattle.lite_buffered.specs.Uses.{rules, arith, length-take-le, subst, common_steps, Ready, moved_marks}
use Rattle.lite_io_base.specs.Laws.Runs.{read_marks_room}
use Rattle.lite_buffered.specs.Budgeted.{PacesMarks}
use Rattle.lite_buffered.proofs.Pacing.{paced_moved}
use Rattle.lite_buffered.proofs.budgeted.BudgetedAsyncRead.poll_read.Goals.{in-Pending, in-Ready-Err, in-Ready-Ok}
use Rattle.lite_buffered.proofs.budgeted.BudgetedAsyncRead.poll_read.Goals as goal

pub returns-clause-ran : goal.returns-clause-ran
returns-clause-ran g c = elim c.match-polled.branch [
  | in-Ready-Ok w ↦
      let n = w.in-Ready-Ok.n in
      let buf = c.poll_read-polled.new.buf in
      let more = drop c.min-most.result c.args.buf.now in
      let budget = c.args.self.now.budget in
      let left = c.allowed-left.result in
      let got : c.poll_read-polled.result ≡ Ready (Ok n) = search rules in
      let fits : n ≤ length buf = rw got at c.poll_read-polled.ensures.bound in
      let some : 0 < length buf = grind (arith, common_steps) in
      let within : n ≤ left = grind (arith, common_steps) in
      let len : length (take n buf) ≡ n = length-take-le n buf fits in
      let marks = moved_marks buf (take n buf) in
      rw (got, w.self-is, read_marks_room (Ready (Ok n)) buf more some fits)
      (record {
        came = marks;
        ran = rw got at c.poll_read-polled.ensures.ran;
        paced = rw (← c.allowed-left.ensures)
            (subst (λ k. PacesMarks (budget, left) marks marks (budget, left - k)) len
            (paced_moved budget left buf (take n buf) (omega (arith, len)) (omega arith) some));
      })
  | in-Ready-Err w ↦ search rules
  | in-Pending w ↦ search rules
]
