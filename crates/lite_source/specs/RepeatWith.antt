-- `repeat_with`: every poll makes one call of its function and yields the result as an item.
use Rattle.std.specs.Prelude.{◌≡◌}
use Rattle.lite_source.specs.Uses.{FoldsTo, Mut, Called, Answer, item, Runs}

module _ {F A : Type 0} (g : Mut F (Unit {0}) A) where
  -- One call of the function, whose result is yielded as an item.
  abbrev pub Call : F → Answer A → F → Type 0
  Call p a q = (x : A) × (a ≡ item x) × Called g p tt x q

  -- The results are those of calls of the function, one for each poll.
  abbrev pub RepeatsWith : Runs (Answer A) F
  RepeatsWith = FoldsTo Call
