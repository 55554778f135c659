-- Laws of a stream that is specified by a step.
use Rattle.std.specs.Prelude.{⊤, ◌≤◌, ℕ, List, [], ◌∷◌, Some, None, refl}
use Rattle.lite_base.specs.Uses.{FoldsTo, ap, arith, inl, inr, subst, sym, Ready, Pending}
use Rattle.lite_base.specs.Answers.{Answer, before_end, items}
use Rattle.lite_base.specs.Laws.Calling.{folds_follow}
use Rattle.lite_base.specs.Laws.Ranks.{AtMost-then_below, Below-one, Lowers-at_most, Lowers-then_at_most, at_most_one, number_counting}
use Rattle.lite_base.specs.Laws.StreamLaws.{same_hint, laws_of}
use Rattle.lite_base.specs.Ranks.{AtMost, Counting, Lowers, Ranks, number_ranks}
use Rattle.lite_base.specs.Runs.{NoHint}
use Rattle.lite_base.specs.StreamLaws.{PollsOn, RunLaws, StreamLaws}
use Rattle.lite_base.specs.Streams.{HintsAt, ItemsLower, RankLowers}

-- `step` says what one poll may return, and which value it leaves.
module _ {S A : Type 0} (step : S → Answer A → S → Type 0) where
  folds_runs : RunLaws (FoldsTo step)
  folds_runs = record { rests = λ x. refl; stays = λ x y h. sym h; follows = folds_follow step }

  steps_on : {can_poll : S → Type 0} → ((x y : S) (a : Answer A) → can_poll x → step x a y → can_poll y)
      → PollsOn can_poll (FoldsTo step)
  steps_on {can_poll} keeps x y [] c h = subst can_poll h c
  steps_on keeps x y (a ∷ l) c h = steps_on keeps h.0 y l (keeps x h.0 a c h.1) h.2

  -- The laws of a stream that may be polled if `can_poll` holds. `keeps` says that each step keeps that.
  pub stream_by_keeping_steps : {can_poll : S → Type 0}
      → ((x y : S) (a : Answer A) → can_poll x → step x a y → can_poll y) → StreamLaws can_poll (FoldsTo step) NoHint
  stream_by_keeping_steps keeps =
      laws_of folds_runs (λ x y hint l e h. same_hint hint (0, None) l e tt) (steps_on keeps)

  -- The laws of a stream that may always be polled.
  pub stream_by_steps : StreamLaws (λ _. ⊤) (FoldsTo step) NoHint
  stream_by_steps = stream_by_keeping_steps (λ x y a c h. tt)

module _ {S A : Type 0} {step : S → Answer A → S → Type 0} {number : S → ℕ} where
  lowers_from : ItemsLower step number → (x y : S) (n : ℕ) (l : List (Answer A)) → number x ≤ n → FoldsTo step x l y
      → Lowers l (number y ∷ []) (n ∷ [])
  lowers_from low x y n [] least h = at_most_one (number y) n (rw (← h) least)
  lowers_from low x y n (Pending ∷ l) least h =
      lowers_from low h.0 y n l (omega (arith, low.by_pending x h.0 h.1, least)) h.2
  lowers_from low x y n (Ready None ∷ l) least h =
      lowers_from low h.0 y n l (omega (arith, low.by_end x h.0 h.1, least)) h.2
  lowers_from low x y n (Ready (Some a) ∷ l) least h =
      Below-one (Lowers-at_most l _ _ (lowers_from low h.0 y (number h.0) l (omega arith) h.2))
      (omega (arith, low.by_item x h.0 a h.1, least))

  -- The number is a rank.
  pub stream_counting : ItemsLower step number → Counting (FoldsTo step) (number_ranks number)
  stream_counting low = number_counting (λ x y l. lowers_from low x y (number x) l (omega arith))

  fewer_left : ItemsLower step number → (x y : S) (l : List (Answer A)) → FoldsTo step x l y → before_end l ≤ number x
  fewer_left low x y (Pending ∷ l) h = omega (arith, low.by_pending x h.0 h.1, fewer_left low h.0 y l h.2)
  fewer_left low x y (Ready (Some a) ∷ l) h = omega (arith, low.by_item x h.0 a h.1, fewer_left low h.0 y l h.2)
  fewer_left low x y _ h = omega arith

  -- The number is a size hint.
  pub stream_hinting : ItemsLower step number → StreamLaws (λ _. ⊤) (FoldsTo step) (HintsAt number)
  stream_hinting low =
      laws_of (folds_runs step)
      (λ x y hint l e h. same_hint hint (number x, Some (number x)) l e (fewer_left low x y l h))
      (λ x y l c h. tt)

module _ {A : Type 0} (l : List (Answer A)) (xs ys zs : List ℕ) (h : Lowers l xs ys) where
  lowers_then : (a : Answer A) → Lowers (a ∷ []) ys zs → Lowers (a ∷ l) xs zs
  lowers_then (Ready (Some a)) k = AtMost-then_below xs ys zs (Lowers-at_most l xs ys h) k
  lowers_then Pending k = Lowers-then_at_most l xs ys zs h k
  lowers_then (Ready None) k = Lowers-then_at_most l xs ys zs h k

module _ {S A : Type 0} {step : S → Answer A → S → Type 0} {r : Ranks S} (low : RankLowers step r) where
  counted_from : (x y : S) (l : List (Answer A)) → r.counts x → FoldsTo step x l y → r.counts y
  counted_from x y [] c h = subst r.counts h c
  counted_from x y (a ∷ l) c h = counted_from h.0 y l (low.counts_on x h.0 a c h.1) h.2

  firm_from : (x y : S) (l : List (Answer A)) → r.firm x → FoldsTo step x l y → r.firm y
  firm_from x y [] c h = subst r.firm h c
  firm_from x y (a ∷ l) c h = firm_from h.0 y l (low.firm_on x h.0 a c h.1) h.2

  items_lower : (x y : S) (l : List A) → r.counts x → FoldsTo step x (items l) y → AtMost (r.rank y) (r.rank x)
  items_lower x y [] c h = inl (ap r.rank (sym h))
  items_lower x y (a ∷ l) c h =
      inr (AtMost-then_below _ _ _ (items_lower h.0 y l (low.counts_on x h.0 _ c h.1) h.2) (low.falls x h.0 a c h.1))

  ranks_lower : (x y : S) (l : List (Answer A)) → r.firm x → FoldsTo step x l y → Lowers l (r.rank y) (r.rank x)
  ranks_lower x y [] c h = inl (ap r.rank (sym h))
  ranks_lower x y (a ∷ l) c h =
      lowers_then l _ _ _ (ranks_lower h.0 y l (low.firm_on x h.0 a c h.1) h.2) a (low.lowers x h.0 a c h.1)

  -- It is enough that each step keeps and lowers the rank.
  pub stream_ranking : Counting (FoldsTo step) r
  stream_ranking =
      record {
        sized = low.sized;
        counts_on = counted_from;
        firm_on = firm_from;
        falls = λ x y a more c h.
            AtMost-then_below _ _ _ (items_lower h.0 y more (low.counts_on x h.0 _ c h.1) h.2) (low.falls x h.0 a c h.1);
        lowers = ranks_lower;
      }
