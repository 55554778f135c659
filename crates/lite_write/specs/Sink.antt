-- `sink`: a writer that takes all bytes and keeps none.
use Rattle.std.specs.Prelude.{◌≡◌, [], ◌∷◌}
use Rattle.lite_write.specs.Uses.{WriteMark, Runs}
use Rattle.lite_write.specs.declared.sink.Sink.{Sink}

-- The run of a `sink`: no mark is a `Pending` or an error, each write that is offered bytes takes some, and the sink
-- never changes.
abbrev pub Sinks : Runs WriteMark Sink
Sinks x [] y = y ≡ x
Sinks x (WriteMark.wrote [] ∷ l) y = ⊥
Sinks x (WriteMark.pending ∷ l) y = ⊥
Sinks x (WriteMark.fault kind ∷ l) y = ⊥
Sinks x (_ ∷ l) y = Sinks x l y
