-- Laws of `sink`.
use Rattle.std.specs.Prelude.{List, [], ◌∷◌, ◌++◌, ⊤}
use Rattle.lite_write.specs.Uses.{refl, MarkLaws, CalmWriteLaws, NoPendingWrite, WriteMark}
use Rattle.lite_io_base.specs.Steady.{SteadyWriteLaws}
use Rattle.lite_write.specs.Sink.{Sinks}
use Rattle.lite_write.specs.declared.sink.Sink.{Sink}

module _ (x y z : Sink) where
  follows : (l m : List WriteMark) → Sinks x l y → Sinks y m z → Sinks x (l ++ m) z
  follows [] m h k = rw (← h) k
  follows (WriteMark.wrote [] ∷ l) m h k = absurd h
  follows (WriteMark.pending ∷ l) m h k = absurd h
  follows (WriteMark.fault kind ∷ l) m h k = absurd h
  follows (_ ∷ l) m h k = follows l m h k

pub sinks_laws : MarkLaws Sinks
sinks_laws = record { rests = λ x. refl; follows = follows }

module _ (x y : Sink) where
  no_pending : (l : List WriteMark) → Sinks x l y → NoPendingWrite l
  no_pending [] h = tt
  no_pending (WriteMark.wrote [] ∷ l) h = absurd h
  no_pending (WriteMark.pending ∷ l) h = absurd h
  no_pending (WriteMark.fault kind ∷ l) h = absurd h
  no_pending (_ ∷ l) h = no_pending l h

-- A sink keeps no byte.
pub sinks_steady : SteadyWriteLaws Sinks (λ x y. ⊤) (λ x. [])
sinks_steady = record { steady = λ x y x' y' l m e h k a b f g same. (refl, tt) }

pub sinks_calm : CalmWriteLaws Sinks (λ x. ⊤)
sinks_calm = record { no_pending = λ x y l c h. no_pending x y l h; calm_on = λ x y l c h. tt }
