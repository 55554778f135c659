-- Types of your own of which nothing is known: every list of results is allowed that the laws allow. Their laws are
-- `anything_stream`, `anything_future`, `anything_reads` and `anything_writes`.
use Rattle.std.specs.Prelude.{⊤}
use Rattle.lite_theorems.specs.Uses.{FoldsTo, Poll, Answer, Runs}
use Rattle.lite_theorems.specs.Futures.{StepsToValue}

-- Any results of a stream. Nothing is said except that without a poll the stream stays as it is.
abbrev pub AnyAnswers : {S A : Type 0} → Runs (Answer A) S
AnyAnswers = FoldsTo (λ x a y. ⊤)

-- Any results of a future. Nothing is said except that without a poll the future stays as it is, and that it returns
-- one value at most.
abbrev pub AnyValue : {F A : Type 0} → Runs (Poll A) F
AnyValue = StepsToValue (λ x a y. ⊤)
