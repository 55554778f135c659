-- Sources that never change.
use Rattle.std.specs.Prelude.{◌≡◌, ⊤, []}
use Rattle.lite_source.specs.Uses.{AllByRecursion, Answer, Ranks, Runs}

-- Each result is one that `may` allows for the source, and the source stays as it is.
abbrev pub Unchanging : {S A : Type 0} → (S → Answer A → Type 0) → Runs (Answer A) S
Unchanging may x l y = AllByRecursion (may x) l × (y ≡ x)

-- The rank of a source that yields no item: there is nothing to count, so it always counts and is always firm.
abbrev pub no_ranks : {S : Type 0} → Ranks S
no_ranks = record { width = 0; rank = λ _. []; counts = λ _. ⊤; firm = λ _. ⊤ }
