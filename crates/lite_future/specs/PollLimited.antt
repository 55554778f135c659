-- A future that polls its inner future a limited number of times.
use Rattle.std.specs.Prelude.{ℕ, suc, List, [], ◌∷◌, Result, Ok, Err}
use Rattle.lite_future.specs.Uses.{Pending, Poll, Ready, Runs}
use Rattle.lite_future.specs.declared.poll_limited.PollLimited.{PollLimited}
use Rattle.lite_future.specs.declared.poll_limited.Exhausted.{Exhausted}

-- What a limit of so many polls makes of the results of the inner future, and how many polls are left then. Nothing
-- comes of nothing (`nothing`). A `Pending` is handed on while a poll is left after it (`waits`). The last one becomes an
-- error (`last`), and so does a poll for which none is left (`over`). A value is handed on (`value`).
pub data SpendsPolls {A : Type 0} : ℕ → List (Poll A) → List (Poll (Result A Exhausted)) → ℕ → Type 0 where
  nothing : (n : ℕ) → SpendsPolls n [] [] n
  waits : (n m : ℕ) (ins : List (Poll A)) (out : List (Poll (Result A Exhausted))) → SpendsPolls (suc n) ins out m
      → SpendsPolls (suc (suc n)) (Pending ∷ ins) (Pending ∷ out) m
  last : (e : Exhausted) → SpendsPolls 1 (Pending ∷ []) (Ready (Err e) ∷ []) 0
  over : (e : Exhausted) → SpendsPolls 0 [] (Ready (Err e) ∷ []) 0
  value : (n : ℕ) (v : A) → SpendsPolls (suc n) (Ready v ∷ []) (Ready (Ok v) ∷ []) (suc n)

-- The inner future had a run, of whose results the limit made those of the future.
abbrev pub LimitsPolls : {F A : Type 0} → Runs (Poll A) F → Runs (Poll (Result A Exhausted)) (PollLimited F)
LimitsPolls {F} {A} run x out y = (ins : List (Poll A)) × run x.inner ins y.inner × SpendsPolls x.left ins out y.left
