-- The `fill_buf` future: each poll calls `poll_fill_buf` once, and the bytes it returns are borrowed from the reader.
use Rattle.std.specs.Prelude.{◌≡◌, ℕ, List, Option, Some, None, Result, Ok, Err}
use Rattle.lite_read.specs.Uses.{Bor, MutBor, Error, Poll, Ready, Pending, ReadMark, fill_marks, LendsFront, Runs}
use Rattle.lite_read.specs.declared.fill_buf.FillBuf.{FillBuf}

-- The reader that the future still holds after a poll result: the reader `r` after `Pending` or an error, and none
-- after `Ok`, because the result borrows it.
abbrev pub held_after : {A S : Type 0} → Poll (Result A Error) → S → Option S
held_after Pending r = Some r
held_after (Ready (Err e)) r = Some r
held_after (Ready (Ok a)) r = None

-- One poll of `fill_buf`. The reader ran by the marks of a fill with this result, and an `Ok` result is what the reader
-- has buffered then. The future keeps its reader as `held_after` says.
pub record FillsOnce {R : Type 0} (reads : Runs ReadMark R) (buffer_of : R → List ℕ) (x : FillBuf R)
    (c : Poll (Result (Bor (List ℕ)) Error)) (y : FillBuf R) : Type 0 where
  pub reader : MutBor R
  pub filled : R
  pub held : x.reader ≡ Some reader
  pub came : reads reader.now (fill_marks c (buffer_of filled)) filled
  pub lends : LendsFront c (buffer_of filled)
  pub after : y.reader ≡ held_after c (record reader { now = filled })
