-- `once_future`: the future's poll results, its value as an item, and then the end of the stream at every poll.
use Rattle.std.specs.Prelude.{◌≡◌, Some}
use Rattle.lite_source.specs.Uses.{AllByRecursion, option_len, Poll, Answer, end, Spends, Ranks, number_ranks, handed, Runs}
use Rattle.lite_source.specs.declared.once_future.OnceFuture.{OnceFuture}

-- The future's poll results, its value as an item, and then the end of the stream at every poll.
abbrev pub GivesFuture : {F A : Type 0} → Runs (Poll A) F → Runs (Answer A) (OnceFuture F)
GivesFuture run x out y = Spends run (handed Some) (AllByRecursion (λ a. a ≡ end)) x.future out y.future

-- The rank of a `once_future` is 1 while it holds the future, and 0 afterwards.
abbrev pub once_future_ranks : {F : Type 0} → Ranks (OnceFuture F)
once_future_ranks = number_ranks (λ x. option_len x.future)
