use Rattle.std.proofs.Common.{arith, refl, rules}
use Rattle.example_words.proofs.Refusals.{words_refused}
use Rattle.example_words.specs.Records.{counted_records}
use Rattle.example_words.specs.Laws.{counts_next, counts_no}
use Rattle.example_words.proofs.counts.Counts.add_line.Goals as goal

pub loop-word-init : goal.loop-word-init
loop-word-init c = (λ w. refl, λ h. h, λ w. omega arith)

pub loop-word-preserved : goal.loop-word-preserved
loop-word-preserved c = (
  λ w. omega (arith, c.loop-word.invariant.0 w, c.in_ok-add.ensures.counts w, counts_next c.loop-word.rest.now c.in-Some.word.now c.in-Some.behind.now w c.in-Some.ensures.0),
  λ h. c.in_ok-add.ensures.positive (c.loop-word.invariant.1 h),
  λ w. omega (arith, c.loop-word.invariant.2 w, c.in_ok-add.ensures.counts w),
)

pub returns-clause-counts : goal.returns-clause-counts
returns-clause-counts c w = omega (arith, c.loop-word.invariant.0 w, counts_no c.loop-word.rest.now w c.in_default.ensures)

pub returns-clause-positive : goal.returns-clause-positive
returns-clause-positive c = c.loop-word.invariant.1

pub returns-in_err-add-clause-refused : goal.returns-in_err-add-clause-refused
returns-in_err-add-clause-refused c =
    let more = words_refused (counted_records c.args.self.now) (counted_records c.loop-word.self) c.args.line.now c.loop-word.rest.now
    c.in-Some.word.now c.in-Some.behind.now c.loop-word.invariant.0 c.loop-word.invariant.2 c.in-Some.ensures.0 in search (rules, more)
