-- The part of a list before a place that a search found.
use Rattle.std.specs.Prelude.{ℕ, List, take, Option, Some, None}

-- The bytes before the place `at`, or all bytes if the search found none.
abbrev pub up_to : Option ℕ → List ℕ → List ℕ
up_to (Some at) xs = take at xs
up_to None xs = xs
