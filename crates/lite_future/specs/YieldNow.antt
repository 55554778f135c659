-- `yield_now`: one `Pending`, and then the value.
use Rattle.std.specs.Prelude.{◌≡◌, ◌⊎◌, List, [], ◌∷◌, ◌++◌, Bool, true, false}
use Rattle.lite_future.specs.Uses.{Poll, Ready, Pending, Runs}

-- The results that are to come: one `Pending` and then the value, or only the value if `Pending` was returned already.
abbrev pub to_come : Bool → List (Poll (Unit {0}))
to_come false = Pending ∷ Ready tt ∷ []
to_come true = Ready tt ∷ []

-- The results, with those that are still to come after them, are those that were to come before. Or they are all of
-- those.
abbrev pub YieldsOnce : Runs (Poll (Unit {0})) Bool
YieldsOnce yielded l left = (l ++ to_come left ≡ to_come yielded) ⊎ ((l ≡ to_come yielded) × (left ≡ true))
