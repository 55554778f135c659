-- A stream of your own that is specified by a step: what one poll may return and leave. Its run is `FoldsTo step`, its
-- laws are `stream_by_steps` or `stream_hinting`, or `stream_by_keeping_steps` if it may not always be polled. Its rank
-- is `stream_counting` or `stream_ranking`.
use Rattle.std.specs.Prelude.{◌≡◌, ◌<◌, ◌≤◌, ℕ, [], ◌∷◌, length, Some}
use Rattle.lite_base.specs.Uses.{Pending}
use Rattle.lite_base.specs.Answers.{Answer, end, item}
use Rattle.lite_base.specs.Ranks.{Below, Lowers, Ranks}
use Rattle.lite_base.specs.Runs.{Hints}

-- The size hint is this number, as the lower bound and as the upper bound.
abbrev pub HintsAt : {S : Type 0} → (S → ℕ) → Hints S
HintsAt number x hint = hint ≡ (number x, Some (number x))

-- `step` says what one poll may return, and which value it leaves.
module _ {S A : Type 0} (step : S → Answer A → S → Type 0) where
  -- Each item lowers the number, and no `Pending` and no end of the stream raises it.
  pub record ItemsLower (number : S → ℕ) : Type 0 where
    pub by_item : (x y : S) (a : A) → step x (item a) y → number y < number x
    pub by_pending : (x y : S) → step x Pending y → number y ≤ number x
    pub by_end : (x y : S) → step x end y → number y ≤ number x

  -- What each step does to a rank that is a list of numbers. From a value that counts, an item lowers it. From a firm
  -- one an item does too, and no `Pending` and no end of the stream raises it. Each step keeps both.
  pub record RankLowers (r : Ranks S) : Type 0 where
    pub sized : (x : S) → length (r.rank x) ≡ r.width
    pub counts_on : (x y : S) (a : Answer A) → r.counts x → step x a y → r.counts y
    pub firm_on : (x y : S) (a : Answer A) → r.firm x → step x a y → r.firm y
    pub falls : (x y : S) (a : A) → r.counts x → step x (item a) y → Below (r.rank y) (r.rank x)
    pub lowers : (x y : S) (a : Answer A) → r.firm x → step x a y → Lowers (a ∷ []) (r.rank y) (r.rank x)
