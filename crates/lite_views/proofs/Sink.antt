-- The writes of a `sink` do not fail.
use Rattle.std.specs.Prelude.{List, [], ◌∷◌}
use Rattle.lite_views.specs.Uses.{WriteMark}
use Rattle.lite_write.specs.Sink.{Sinks}
use Rattle.lite_write.specs.declared.sink.Sink.{Sink}
use Rattle.lite_views.specs.OneCall.{AcceptsAll, AllAccepted}

pub sink_accepts : (x : Sink) → AcceptsAll Sinks x
unfolding AcceptsAll
sink_accepts x l y h = each l h
  where
    each : (l : List WriteMark) → Sinks x l y → AllAccepted l
    each [] h = tt
    each (WriteMark.wrote [] ∷ l) h = absurd h
    each (WriteMark.pending ∷ l) h = absurd h
    each (WriteMark.fault kind ∷ l) h = absurd h
    each (_ ∷ l) h = each l h
