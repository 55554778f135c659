use Rattle.std.specs.Prelude.{List, ℕ, ◌≡◌, Result, Some}
use Rattle.lite_read.specs.Uses.{◌∙◌, refl, sym, Bor, MutBor, Error, Poll, Runs, ReadMark, fill_marks, LendsFront}
use Rattle.lite_read.specs.FillBuf.{FillsOnce, held_after}
use Rattle.lite_read.specs.declared.fill_buf.FillBuf.{FillBuf}
use Rattle.lite_read.proofs.fill_buf.FillBufFuture.poll.Goals as goal

filled_once : {R : Type 0} {reads : Runs ReadMark R} {buffer_of : R → List ℕ} {x y : FillBuf R} (reader : MutBor R)
    (filled : R) (c : Poll (Result (Bor (List ℕ)) Error)) → x.reader ≡ Some reader
    → reads reader.now (fill_marks c (buffer_of filled)) filled → LendsFront c (buffer_of filled)
    → y.reader ≡ held_after c (record reader { now = filled }) → FillsOnce reads buffer_of x c y
filled_once reader filled c held came lends after =
    record { reader = reader; filled = filled; held = held; came = came; lends = lends; after = after }

pub returns-in-Ready-Ok-clause-ran : goal.returns-in-Ready-Ok-clause-ran
returns-in-Ready-Ok-clause-ran g c = (
  filled_once c.in-Some.reader c.fill.new.reader _ (sym c.take.ensures.value ∙ c.in-Some.is)
      (rw c.in-Ready-Ok.field-0-is at (rw c.in-Ready-Ok.is at c.fill.ensures.ran)) c.shown.ensures c.take.ensures.after,
  refl,
)

pub returns-in-Ready-Err-clause-ran : goal.returns-in-Ready-Err-clause-ran
returns-in-Ready-Err-clause-ran g c = (
  filled_once c.in-Some.reader c.fill.new.reader _ (sym c.take.ensures.value ∙ c.in-Some.is)
      (rw c.in-Ready-Err.field-0-is at (rw c.in-Ready-Err.is at c.fill.ensures.ran))
      (rw c.in-Ready-Err.field-0-is at (rw c.in-Ready-Err.is at c.fill.ensures.lends)) refl,
  refl,
)

pub returns-in-Pending-clause-ran : goal.returns-in-Pending-clause-ran
returns-in-Pending-clause-ran g c = (
  _,
  filled_once c.in-Some.reader c.fill.new.reader _ (sym c.take.ensures.value ∙ c.in-Some.is)
      (rw c.in-Pending.is at c.fill.ensures.ran) (rw c.in-Pending.is at c.fill.ensures.lends) refl,
  refl,
)
