-- The list of the items of `iter` over an iterator of std.
use Rattle.std.specs.Prelude.{⊤, List, Option}
use Rattle.lite_views.specs.Uses.{Count, Answer, Runs, Iterates, Iter}
use Rattle.lite_views.specs.Views.{Fronts, ListsAs}

module _ {I A : Type 0} (steps : I → Option A → I → Type 0) (remaining : I → Count) where
  -- The runs of `iter` over an iterator whose `next` may always be called.
  abbrev pub IterRuns : Runs (Answer A) (Iter I)
  IterRuns x l y = Iterates (λ _. ⊤) steps remaining x.iter l y.iter

  -- The items of `x` are `xs`, also those that may come after an end of the stream.
  abbrev pub GivesAll : Iter I → List A → Type 0
  GivesAll x xs = ListsAs IterRuns x xs × Fronts IterRuns x xs
