-- Laws of types of your own of which nothing is known.
use Rattle.std.specs.Prelude.{⊤}
use Rattle.lite_theorems.specs.Uses.{FutureLaws, MarkLaws, ReadMark, WriteMark}
use Rattle.lite_base.specs.Laws.Streams.{stream_by_steps}
use Rattle.lite_base.specs.Runs.{NoHint}
use Rattle.lite_base.specs.StreamLaws.{StreamLaws}
use Rattle.lite_io_base.specs.Laws.Runs.{anything_laws}
use Rattle.lite_io_base.specs.Runs.{Anything}
use Rattle.lite_theorems.specs.Futures.{future_by_steps}
use Rattle.lite_theorems.specs.Anything.{AnyAnswers, AnyValue}

module _ {S : Type 0} where
  pub anything_reads : MarkLaws (Anything {A = ReadMark} {S = S})
  anything_reads = anything_laws

  pub anything_writes : MarkLaws (Anything {A = WriteMark} {S = S})
  anything_writes = anything_laws

module _ {S A : Type 0} where
  pub anything_stream : StreamLaws (λ _. ⊤) (AnyAnswers {S = S} {A = A}) NoHint
  anything_stream = stream_by_steps (λ x a y. ⊤)

  pub anything_future : FutureLaws (λ _. ⊤) (AnyValue {F = S} {A = A})
  anything_future = future_by_steps (λ x a y. ⊤)
