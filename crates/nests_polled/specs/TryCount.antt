-- Counting `Ok` items, up to an error, the end of the stream or a `Pending`.
use Rattle.std.specs.Prelude.{◌≡◌, ℕ, ◌+◌, ◌%◌, ◌^◌, List, [], ◌∷◌, Option, Some, None, Result, Ok, Err}
use Rattle.futures.specs.declared.task.Poll.{Poll}
use Rattle.futures.specs.declared.task.Poll.TheVariants.{Ready, Pending}
use Rattle.lite_base.specs.Answers.{Answer, end, item, items}
use Rattle.lite_base.specs.Ranks.{all_ok}
use Rattle.lite_base.specs.Runs.{Runs}
use Rattle.nests_polled.specs.declared.try_count.TryCount.{TryCount}

-- The number `n` and as many more, modulo 2^64.
abbrev pub counted : {T : Type 0} → ℕ → List T → ℕ
counted n [] = n
counted n (x ∷ xs) = counted ((n + 1) % 2 ^ 64) xs

module _ {S T E : Type 0} (run : Runs (Answer (Result T E)) S) where
  -- What the poll returns after `n` `Ok` items: an error as itself, and at the end of the stream the number.
  abbrev pub DecidesCount : S → ℕ → Poll (Result ℕ E) → S → Type 0
  DecidesCount s n Pending t = run s (Pending ∷ []) t
  DecidesCount s n (Ready (Ok k)) t = (k ≡ n) × run s (end ∷ []) t
  DecidesCount s n (Ready (Err e)) t = run s (item (Err e) ∷ []) t

  -- One step: an `Ok` item is counted, or the poll returns.
  abbrev pub TryStep : S → ℕ → Option (Poll (Result ℕ E)) → S → ℕ → Type 0
  TryStep s n None t m = (x : T) × run s (item (Ok x) ∷ []) t × (m ≡ (n + 1) % 2 ^ 64)
  TryStep s n (Some b) t m = DecidesCount s n b t × (m ≡ n)

  -- One step of a poll, after which another step may be made.
  abbrev pub TrySteps : (S → Type 0) → TryCount S → Option (Poll (Result ℕ E)) → TryCount S → Type 0
  TrySteps Can x r y = Can y.stream × TryStep x.stream x.n r y.stream y.n

  -- Some `Ok` items were counted, and then the poll returned.
  pub record CountsUntil (x : TryCount S) (b : Poll (Result ℕ E)) (y : TryCount S) : Type 0 where
    pub oks : List T
    pub between : S
    pub came : run x.stream (all_ok (items oks)) between
    pub number : y.n ≡ counted x.n oks
    pub decided : DecidesCount between y.n b y.stream
