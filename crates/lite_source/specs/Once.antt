-- `once`: its item, and then the end of the stream at every poll.
use Rattle.std.specs.Prelude.{◌∷◌, List, [], Option, Some, None, length}
use Rattle.lite_source.specs.Uses.{Answer, item, Ranks, number_ranks, Runs}
use Rattle.lite_source.specs.Script.{GivesScript}
use Rattle.lite_source.specs.declared.once.Once.{Once}

module _ {A : Type 0} where
  -- The results that are still to come before it ends for good.
  abbrev pub once_left : Option A → List (Answer A)
  once_left None = []
  once_left (Some x) = item x ∷ []

  -- The item that it holds, at the first poll, and then the end of the stream at every poll.
  abbrev pub GivesOnce : Runs (Answer A) (Once A)
  GivesOnce x l y = GivesScript (once_left x.value) l (once_left y.value)

  -- The rank of a `once` is how many results are still to come before it ends for good.
  abbrev pub once_ranks : Ranks (Once A)
  once_ranks = number_ranks (λ x. length (once_left x.value))
