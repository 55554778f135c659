-- Which of two streams that follow one another is polled next.
use Rattle.std.specs.Prelude.{Bool, true, false}

-- The stream that is polled next, or neither once both have ended.
pub data Turn : Type 0 where
  First : Turn
  Second : Turn
  Done : Turn

-- Whose turn it is: the first flag says that the first stream has ended, and the second that the second has.
abbrev pub turn_of : Bool → Bool → Turn
turn_of false second = Turn.First
turn_of true false = Turn.Second
turn_of true true = Turn.Done
