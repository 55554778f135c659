-- `drain`: an end of stream replaces each `Pending`.
use Rattle.std.specs.Prelude.{◌≡◌, List, [], ◌∷◌}
use Rattle.lite_merge.specs.Uses.{Ready, Pending, Answer, end, Runs, AdapterParts, Through, parts_of, Relates}
use Rattle.lite_base.specs.Runs.{Lent}
use denote.MutBor.{MutBor}
use Rattle.lite_merge.specs.declared.drain.Drain.{Drain}

-- The results with each `Pending` replaced by the end of the stream. Items and ends stay as they are.
abbrev pub with_ends : {A : Type 0} → List (Answer A) → List (Answer A)
with_ends [] = []
with_ends (Pending ∷ l) = end ∷ with_ends l
with_ends (Ready o ∷ l) = Ready o ∷ with_ends l

-- The results are the source's results, with the end of the stream for each `Pending`.
abbrev pub Drained : {A : Type 0} → Relates (Unit {0}) A A
Drained f ins out g = out ≡ with_ends ins

-- The results of the borrowed stream, with the end of the stream for each `Pending`.
abbrev pub Drains : {S A : Type 0} → Runs (Answer A) S → Runs (Answer A) (Drain S)
Drains run x l y = Through (Lent run) Drained x.stream tt l y.stream tt

-- A `Drain` consists of the reference to its stream.
abbrev pub drain_parts : {S : Type 0} → AdapterParts (Drain S) (MutBor S) (Unit {0})
drain_parts = parts_of (λ m. m.stream) (λ m. tt) (λ s _. record { stream = s }) (λ x y p. p)
