-- The rank of two streams merged in order.
use Rattle.std.specs.Prelude.{◌≡◌, ℕ, ◌+◌, List, [], ◌∷◌, ◌++◌, length, Some, None, refl}
use Rattle.std.proofs.Common.{inl, inr, ap, arith, subst, sym, length-append, ◌∙◌}
use Rattle.futures_lite.specs.Answers.{Answer, Pending, Ready, item}
use Rattle.futures_lite.specs.Own.{RankLowers, Runs}
use Rattle.futures_lite.specs.Ranks.{AtMost, AtMost-both, Below, Below-after, Below-first, Below-then, Counting, Lowers, Ranks}
use Rattle.example_own.specs.MergeSorted.{MergeStep, SidesYield}
use Rattle.example_own.specs.Side.{Filled}
use Rattle.example_own.specs.declared.merge_sorted.MergeSorted.{MergeSorted}
use Rattle.example_own.specs.declared.side.Side.{Side}

-- The rank of a stream with one number before it, 0 after its end, and one behind it, 1 if an item is there.
abbrev pub side_rank : Answer ℕ → List ℕ → List ℕ
side_rank Pending xs = 1 ∷ xs ++ 0 ∷ []
side_rank (Ready None) xs = 0 ∷ xs ++ 0 ∷ []
side_rank (Ready (Some n)) xs = 1 ∷ xs ++ 1 ∷ []

-- The ranks of both sides.
abbrev pub side_ranks : {S T : Type 0} → Ranks S → Ranks T → Ranks (MergeSorted S T)
side_ranks r r' =
    record {
      width = r.width + 2 + (r'.width + 2);
      rank = λ m. side_rank m.left.answer (r.rank m.left.stream) ++ side_rank m.right.answer (r'.rank m.right.stream);
      counts = λ m. r.counts m.left.stream × r'.counts m.right.stream;
      firm = λ m. r.firm m.left.stream × r'.firm m.right.stream;
    }

side_sized : (a : Answer ℕ) (xs : List ℕ) → length (side_rank a xs) ≡ length xs + 2
side_sized Pending xs = omega (arith, length-append xs (0 ∷ []))
side_sized (Ready None) xs = omega (arith, length-append xs (0 ∷ []))
side_sized (Ready (Some n)) xs = omega (arith, length-append xs (1 ∷ []))

-- A poll of a side's stream does not raise the side's rank.
module _ (xs ys : List ℕ) (same : length ys ≡ length xs) where
  polled_rank : (a : Answer ℕ) → (a ≡ Pending → AtMost ys xs) → ((n : ℕ) → a ≡ item n → Below ys xs)
      → AtMost (side_rank a ys) (side_rank Pending xs)
  polled_rank Pending still falls = AtMost-both (1 ∷ []) (1 ∷ []) _ _ (inl refl) (AtMost-both ys xs _ _ (still refl) (inl refl))
  polled_rank (Ready None) still falls = inr (inl (omega arith, omega (arith, same, length-append ys (0 ∷ []), length-append xs (0 ∷ []))))
  polled_rank (Ready (Some n)) still falls = inr (inr (refl, Below-first ys xs _ _ (falls n refl) refl))

module _ {S : Type 0} {run : Runs (Answer ℕ) S} {r : Ranks S} (c : Counting run r) (x y : Side S) (filled : Filled run x y) where
  -- What each run of the stream keeps, a side that is filled keeps.
  kept_stream : (P : S → Type 0) → ((s t : S) (l : List (Answer ℕ)) → P s → run s l t → P t) → P x.stream → P y.stream
  kept_stream P on p = by x.answer refl
    where
      by : (a : Answer ℕ) → x.answer ≡ a → P y.stream
      by Pending e = on x.stream y.stream (y.answer ∷ []) p (filled.polled e)
      by (Ready a) e = subst (λ z. P z.stream) (sym (filled.kept (λ d. let f = sym e ∙ d in cc))) p

  same_size : length (r.rank y.stream) ≡ length (r.rank x.stream)
  same_size = c.sized y.stream ∙ sym (c.sized x.stream)

  -- If an item lowers the stream's rank, a side that is filled does not get a higher rank, and it gets a lower one when
  -- the item is passed on.
  module _ (falls : (n : ℕ) → run x.stream (item n ∷ []) y.stream → Below (r.rank y.stream) (r.rank x.stream)) where
    filled_rank : (y.answer ≡ Pending → run x.stream (Pending ∷ []) y.stream → AtMost (r.rank y.stream) (r.rank x.stream))
        → AtMost (side_rank y.answer (r.rank y.stream)) (side_rank x.answer (r.rank x.stream))
    filled_rank still = by x.answer refl
      where
        by : (a : Answer ℕ) → x.answer ≡ a
            → AtMost (side_rank y.answer (r.rank y.stream)) (side_rank x.answer (r.rank x.stream))
        by Pending e =
            rw e
            (polled_rank _ _ same_size y.answer
            (λ d. still d (subst (λ b. run x.stream (b ∷ []) y.stream) d (filled.polled e)))
            (λ n d. falls n (subst (λ b. run x.stream (b ∷ []) y.stream) d (filled.polled e))))
        by (Ready a) e =
            inl (ap (λ (z : Side S). side_rank z.answer (r.rank z.stream)) (filled.kept (λ d. let f = sym e ∙ d in cc)))

    passed_rank : (n : ℕ) → y.answer ≡ item n
        → Below (side_rank Pending (r.rank y.stream)) (side_rank x.answer (r.rank x.stream))
    passed_rank n given = by x.answer refl
      where
        by : (a : Answer ℕ) → x.answer ≡ a
            → Below (side_rank Pending (r.rank y.stream)) (side_rank x.answer (r.rank x.stream))
        by Pending e =
            rw e
            (inr (
              refl,
              Below-first (r.rank y.stream) (r.rank x.stream) _ _
                  (falls n (subst (λ b. run x.stream (b ∷ []) y.stream) given (filled.polled e))) refl,
            ))
        by (Ready a) e =
            let same : y ≡ x = filled.kept (λ d. let f = sym e ∙ d in cc) in
            let item_is : x.answer ≡ item n = ap (λ (z : Side S). z.answer) (sym same) ∙ given in
            rw (item_is, same) (inr (refl, Below-then (r.rank x.stream) _ _ (inl (omega arith, refl))))

module _ {S T : Type 0} {run : Runs (Answer ℕ) S} {run' : Runs (Answer ℕ) T} {r : Ranks S} {r' : Ranks T}
    (c : Counting run r) (d : Counting run' r') where
  module _ (x y : MergeSorted S T) (left : Side S) (right : Side T) (filled : Filled run x.left left)
      (filled' : Filled run' x.right right) where
    -- One of the sides gets a lower rank with the item, and the other does not get a higher one.
    item_falls : ((n : ℕ) → run x.left.stream (item n ∷ []) left.stream → Below (r.rank left.stream) (r.rank x.left.stream))
        → ((n : ℕ) → run' x.right.stream (item n ∷ []) right.stream → Below (r'.rank right.stream) (r'.rank x.right.stream))
        → (n : ℕ) → SidesYield left right (item n) y → Below ((side_ranks r r').rank y) ((side_ranks r r').rank x)
    item_falls falls falls' n (inl h) =
        rw h.2
        (Below-first (side_rank Pending (r.rank left.stream)) (side_rank x.left.answer _) _ _
        (passed_rank c x.left left filled falls n h.0)
        (side_sized right.answer _ ∙ ap (λ k. k + 2) (same_size d x.right right filled') ∙ sym (side_sized x.right.answer _)))
    item_falls falls falls' n (inr h) =
        rw h.2
        (Below-after (side_rank left.answer _) (side_rank x.left.answer _) _ _
        (filled_rank c x.left left filled falls (λ e. absurd (rw e at h.1)))
        (passed_rank d x.right right filled' falls' n h.0))

    streams_on : (a : Answer ℕ) → SidesYield left right a y → (y.left.stream ≡ left.stream) × (y.right.stream ≡ right.stream)
    streams_on Pending h = rw h.1 (refl, refl)
    streams_on (Ready None) h = rw h.2 (refl, refl)
    streams_on (Ready (Some n)) (inl h) = rw h.2 (refl, refl)
    streams_on (Ready (Some n)) (inr h) = rw h.2 (refl, refl)

    firm_lowers : r.firm x.left.stream → r'.firm x.right.stream → (a : Answer ℕ) → SidesYield left right a y
        → Lowers (a ∷ []) ((side_ranks r r').rank y) ((side_ranks r r').rank x)
    firm_lowers k k' a h = by a h
      where
        falls : (n : ℕ) → run x.left.stream (item n ∷ []) left.stream → Below (r.rank left.stream) (r.rank x.left.stream)
        falls n = c.lowers x.left.stream left.stream (item n ∷ []) k

        falls' : (n : ℕ) → run' x.right.stream (item n ∷ []) right.stream → Below (r'.rank right.stream) (r'.rank x.right.stream)
        falls' n = d.lowers x.right.stream right.stream (item n ∷ []) k'

        still : AtMost ((side_ranks r r').rank (record { left = left; right = right })) ((side_ranks r r').rank x)
        still =
            AtMost-both (side_rank left.answer _) (side_rank x.left.answer _) _ _
            (filled_rank c x.left left filled falls (λ e. c.lowers x.left.stream left.stream (Pending ∷ []) k))
            (filled_rank d x.right right filled' falls' (λ e. d.lowers x.right.stream right.stream (Pending ∷ []) k'))

        by : (a : Answer ℕ) → SidesYield left right a y
            → Lowers (a ∷ []) ((side_ranks r r').rank y) ((side_ranks r r').rank x)
        by Pending h = rw h.1 still
        by (Ready None) h = rw h.2 still
        by (Ready (Some n)) h = item_falls falls falls' n h

  pub merge_lowers : RankLowers (MergeStep run run') (side_ranks r r')
  merge_lowers =
      record {
        sized = λ x.
            length-append (side_rank x.left.answer _) (side_rank x.right.answer _)
            ∙ omega (
              arith,
              side_sized x.left.answer (r.rank x.left.stream),
              side_sized x.right.answer (r'.rank x.right.stream),
              c.sized x.left.stream,
              d.sized x.right.stream,
            );
        counts_on = λ x y a k h.
            let same = streams_on x y h.0 h.1 h.2 h.3 a h.4 in (
              subst r.counts (sym same.0) (kept_stream c x.left h.0 h.2 r.counts c.counts_on k.0),
              subst r'.counts (sym same.1) (kept_stream d x.right h.1 h.3 r'.counts d.counts_on k.1),
            );
        firm_on = λ x y a k h.
            let same = streams_on x y h.0 h.1 h.2 h.3 a h.4 in (
              subst r.firm (sym same.0) (kept_stream c x.left h.0 h.2 r.firm c.firm_on k.0),
              subst r'.firm (sym same.1) (kept_stream d x.right h.1 h.3 r'.firm d.firm_on k.1),
            );
        falls = λ x y n k h.
            item_falls x y h.0 h.1 h.2 h.3 (λ m. c.falls x.left.stream h.0.stream m [] k.0)
            (λ m. d.falls x.right.stream h.1.stream m [] k.1) n h.4;
        lowers = λ x y a k h. firm_lowers x y h.0 h.1 h.2 h.3 k.0 k.1 a h.4;
      }
