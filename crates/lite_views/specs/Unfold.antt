-- Which items `unfold` and `try_unfold` yield from a seed, if their closure acts as a function.
use Rattle.std.specs.Prelude.{◌≡◌, List, [], ◌∷◌, Option, Some, None, MatchOption}
use Rattle.lite_views.specs.Uses.{Called, Mut, Poll, Runs}
use Rattle.lite_views.specs.Views.{HasValue}

module _ {F S V O B : Type 0} (call : Mut F (S × Unit {0}) V) (run : Runs (Poll O) V) (after : O → Option S)
    (shown : O → Option B) (f : F) where
  -- Each future that the closure makes of the seed has a value of which `P` holds. The closure stays as it was.
  abbrev pub MakesValue : S → (O → Type 0) → Type 0
  MakesValue s P = (v : V) (g : F) → Called call f (s, tt) v g → (g ≡ f) × (o : O) × HasValue run v o × P o

  -- The value of a future holds the first item of the list, and from the next seed the closure makes the others. It
  -- holds no item if the list is empty. Without a next seed there are no others.
  abbrev pub GoesOnWith : List B → O → Type 0
  GoesOnWith [] o = shown o ≡ None
  GoesOnWith (x ∷ xs) o =
      (shown o ≡ Some x) × MatchOption (after o) (xs ≡ []) (λ s. MakesValue s (λ next. GoesOnWith xs next))

  -- The closure makes the items `xs`, one after the other, and the first of them from the seed.
  abbrev pub UnfoldsInto : S → List B → Type 0
  UnfoldsInto s xs = MakesValue s (λ o. GoesOnWith xs o)
