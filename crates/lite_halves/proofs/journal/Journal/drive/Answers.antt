use Rattle.std.specs.Prelude.{Result, Ok, Err, OnErr}
use Rattle.lite_halves.specs.Uses.{arith, inr, refl, sym}
use Rattle.lite_halves.specs.Entry.{asked_of}
use Rattle.lite_halves.proofs.Driven.{asks_at, journal_ends, journal_fails, journal_more, journal_none}
use Rattle.lite_halves.proofs.journal.Journal.drive.Goals as goal

pub loop-call-init : goal.loop-call-init
loop-call-init g c =
    (journal_none g.T.ReadSpec.reads g.T.WriteSpec.writes asked_of c.args.calls.now _ _, λ fact h. h, omega arith)

pub loop-call-preserved : goal.loop-call-preserved
loop-call-preserved g c = (
  journal_more g.T.ReadSpec.reads g.T.WriteSpec.writes asked_of c.args.calls.now _ _ _ _ _ _ _ _ _ _ c.call-item.result
      c.loop-call.invariant.0 c.loop-call-test.true (sym c.call-item.is)
      (rw c.in_ok-answer.ensures.ok_part at c.make.ensures.made)
      c.in_ok-reserve.ensures.items c.push_reserved.ensures.items,
  λ fact h. c.make.ensures.context fact (c.loop-call.invariant.1 fact h),
  omega arith,
)

on_any : {A E P : Type 0} (r : Result A E) → P → OnErr r P
on_any (Ok x) h = tt
on_any (Err e) h = h

pub returns-in_err-answer-clause-refused : goal.returns-in_err-answer-clause-refused
returns-in_err-answer-clause-refused g c =
    let none = rw c.in_err-answer.ensures.ok_part at c.make.ensures.made in
    on_any _ (inr (asks_at _ _ c.args.calls.now _ _ c.call-item.result none.1 none.0 c.call-item.is c.loop-call-test.true
    (omega arith)))

pub returns-in_err-reserve-clause-drives : goal.returns-in_err-reserve-clause-drives
returns-in_err-reserve-clause-drives g c =
    journal_fails g.T.ReadSpec.reads g.T.WriteSpec.writes asked_of c.args.calls.now _ _ _ _ _ _ _ _
    c.loop-call.invariant.0 c.loop-call-test.true c.from_residual.ensures.0 refl c.in_err-reserve.ensures.items

pub returns-in_err-answer-clause-drives : goal.returns-in_err-answer-clause-drives
returns-in_err-answer-clause-drives g c =
    let none = rw c.in_err-answer.ensures.ok_part at c.make.ensures.made in
    journal_fails g.T.ReadSpec.reads g.T.WriteSpec.writes asked_of c.args.calls.now _ _ _ _ _ _ _ _
    c.loop-call.invariant.0 c.loop-call-test.true c.from_residual-in_err-answer.ensures.0 none.0
    c.in_ok-reserve.ensures.items

pub returns-clause-drives : goal.returns-clause-drives
returns-clause-drives g c =
    journal_ends g.T.ReadSpec.reads g.T.WriteSpec.writes asked_of c.args.calls.now _ _ _ _ _ c.loop-call.invariant.0
    c.loop-call-test.false c.loop-call.auto.call-index-end
