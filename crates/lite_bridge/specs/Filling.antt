-- A fill whose bytes are borrowed only afterwards, by a call of its own.
use Rattle.std.specs.Prelude.{◌≡◌, ℕ, List, Result}
use Rattle.lite_bridge.specs.Uses.{Error, Poll, ReadMark, fill_marks, Runs}
use Rattle.lite_bridge.specs.declared.filling.Filling.{Filling}

-- One poll of such a fill: the reader ran by the marks of a fill with this result. The future keeps its reference.
pub record FillsLent {T : Type 0} (reads : Runs ReadMark T) (buffer_of : T → List ℕ) (x : Filling T)
    (c : Poll (Result (Unit {0}) Error)) (y : Filling T) : Type 0 where
  pub came : reads x.io.now (fill_marks c (buffer_of y.io.now)) y.io.now
  pub stays : y ≡ record x { io = record x.io { now = y.io.now } }
