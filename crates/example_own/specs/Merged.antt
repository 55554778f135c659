-- The items of two streams merged in order, by those of the two.
use Rattle.std.specs.Prelude.{◌≡◌, ◌<◌, ◌≤◌, ℕ, List, [], ◌∷◌, Some, None, refl}
use Rattle.std.specs.List.{FoldsTo}
use Rattle.std.proofs.Common.{inl, inr, ap, subst, sym, ◌∙◌}
use Rattle.std.proofs.lemmas.Bool.{le-leb, lt-leb}
use Rattle.futures_lite.specs.Answers.{Answer, Pending, Ready, item}
use Rattle.futures_lite.specs.Lists.{Lists, ListsAs}
use Rattle.futures_lite.specs.Own.{Hints, ItemsAfter, NoHint, Runs, lists_after, lists_as, lists_by_relation, stream_by_keeping_steps}
use Rattle.futures_lite.specs.Runs.{StreamLaws}
use Rattle.example_own.specs.MergeSorted.{IfItem, MergeStep, SidesYield, merge_sorted}
use Rattle.example_own.specs.Side.{Filled, unanswered}
use Rattle.example_own.specs.declared.merge_sorted.MergeSorted.{MergeSorted}
use Rattle.example_own.specs.declared.side.Side.{Side}

-- The items of a side: that of its answer, if it is one, and then those of its stream. After an end there are none.
abbrev pub SideLists : {S : Type 0} → Runs (Answer ℕ) S → Side S → List ℕ → Type 0
SideLists run x xs = ItemsAfter (Lists run) x.answer x.stream xs

-- The items of a merge: those of its two sides, merged.
abbrev pub MergeLists : {S T : Type 0} → Runs (Answer ℕ) S → Runs (Answer ℕ) T → MergeSorted S T → List ℕ → Type 0
MergeLists run run' x items =
    (xs : List ℕ) × (ys : List ℕ) × SideLists run x.left xs × SideLists run' x.right ys × (items ≡ merge_sorted xs ys)

-- A side that is filled keeps its items, and its stream may be polled again.
module _ {S : Type 0} {run : Runs (Answer ℕ) S} {can_poll : S → Type 0} {hints : Hints S} (laws : StreamLaws can_poll run hints) where
  filled_lists : (x y : Side S) (xs : List ℕ) → SideLists run x xs → Filled run x y → SideLists run y xs
  filled_lists x y xs known filled = by x.answer refl
    where
      by : (a : Answer ℕ) → x.answer ≡ a → SideLists run y xs
      by Pending e = lists_after laws x.stream y.stream y.answer xs (rw e at known) (filled.polled e)
      by (Ready a) e = subst (λ z. SideLists run z xs) (sym (filled.kept (λ d. let f = sym e ∙ d in cc))) known

  filled_on : (x y : Side S) → can_poll x.stream → Filled run x y → can_poll y.stream
  filled_on x y can filled = by x.answer refl
    where
      by : (a : Answer ℕ) → x.answer ≡ a → can_poll y.stream
      by Pending e = laws.polls_on x.stream y.stream (y.answer ∷ []) can (filled.polled e)
      by (Ready a) e = rw (filled.kept (λ d. let f = sym e ∙ d in cc)) can

merge_nil : (xs : List ℕ) → merge_sorted xs [] ≡ xs
merge_nil [] = refl
merge_nil (x ∷ xs) = refl

-- The item `n` of one side comes first if the other side's answer allows it.
module _ {T : Type 0} (Left : T → List ℕ → Type 0) (t : T) (n : ℕ) (xs ys : List ℕ) where
  left_first : (a : Answer ℕ) → ItemsAfter Left a t ys → IfItem (λ m. n ≤ m) a
      → merge_sorted (n ∷ xs) ys ≡ n ∷ merge_sorted xs ys
  left_first Pending h c = absurd c
  left_first (Ready None) h c = rw h (ap (λ l. n ∷ l) (sym (merge_nil xs)))
  left_first (Ready (Some m)) h c = rw (h.1, le-leb n m c)

  right_first : (a : Answer ℕ) → ItemsAfter Left a t xs → IfItem (λ m. n < m) a
      → merge_sorted xs (n ∷ ys) ≡ n ∷ merge_sorted xs ys
  right_first Pending h c = absurd c
  right_first (Ready None) h c = rw h
  right_first (Ready (Some m)) h c = rw (h.1, lt-leb m n c)

module _ {S T : Type 0} (run : Runs (Answer ℕ) S) (run' : Runs (Answer ℕ) T) where
  yielded : (l : Side S) (r : Side T) (y : MergeSorted S T) (a : Answer ℕ) (xs ys : List ℕ) → SideLists run l xs
      → SideLists run' r ys → SidesYield l r a y → ItemsAfter (MergeLists run run') a y (merge_sorted xs ys)
  yielded l r y Pending xs ys known known' h = rw h.1 (xs, ys, known, known', refl)
  yielded l r y (Ready None) xs ys known known' h =
      let none : xs ≡ [] = rw h.0 at known in
      let none' : ys ≡ [] = rw h.1 at known' in
      rw (none, none')
  yielded l r y (Ready (Some n)) xs ys known known' (inl h) =
      let taken : ItemsAfter (Lists run) (item n) l.stream xs = rw h.0 at known in (
        merge_sorted taken.0 ys,
        ap (λ l. merge_sorted l ys) taken.1 ∙ left_first (Lists run') r.stream n taken.0 ys r.answer known' h.1,
        rw h.2 (taken.0, ys, taken.2, known', refl),
      )
  yielded l r y (Ready (Some n)) xs ys known known' (inr h) =
      let taken : ItemsAfter (Lists run') (item n) r.stream ys = rw h.0 at known' in (
        merge_sorted xs taken.0,
        ap (merge_sorted xs) taken.1 ∙ right_first (Lists run) l.stream n xs taken.0 l.answer known h.1,
        rw h.2 (xs, taken.0, known, taken.2, refl),
      )

module _ {S T : Type 0} {run : Runs (Answer ℕ) S} {run' : Runs (Answer ℕ) T} {can_poll : S → Type 0} {hints : Hints S} {can_poll' : T → Type 0} {hints' : Hints T}
    (laws : StreamLaws can_poll run hints) (laws' : StreamLaws can_poll' run' hints') where
  moved : (x y : MergeSorted S T) (a : Answer ℕ) (items : List ℕ) → MergeLists run run' x items
      → MergeStep run run' x a y → ItemsAfter (MergeLists run run') a y items
  moved x y a items (xs, ys, known, known', e) (l, r, filled, filled', yields) =
      subst (ItemsAfter (MergeLists run run') a y) (sym e)
      (yielded run run' l r y a xs ys (filled_lists laws x.left l xs known filled)
      (filled_lists laws' x.right r ys known' filled') yields)

  yields_on : (l : Side S) (r : Side T) (a : Answer ℕ) (y : MergeSorted S T) → can_poll l.stream × can_poll' r.stream
      → SidesYield l r a y → can_poll y.left.stream × can_poll' y.right.stream
  yields_on l r Pending y can h = rw h.1 can
  yields_on l r (Ready None) y can h = rw h.2 can
  yields_on l r (Ready (Some n)) y can (inl h) = rw h.2 can
  yields_on l r (Ready (Some n)) y can (inr h) = rw h.2 can

  -- The laws of a merge: it may be polled if both streams may be.
  pub merge_laws : StreamLaws (λ (m : MergeSorted S T). can_poll m.left.stream × can_poll' m.right.stream)
      (FoldsTo (MergeStep run run')) NoHint
  merge_laws =
      stream_by_keeping_steps (MergeStep run run')
      (λ x y a can (l, r, filled, filled', yields).
      yields_on l r a y (filled_on laws x.left l can.0 filled, filled_on laws' x.right r can.1 filled') yields)

  -- Two streams with known items, merged.
  pub merge_sorted_lists : (s : S) (t : T) (xs ys : List ℕ) → Lists run s xs → Lists run' t ys
      → ListsAs (FoldsTo (MergeStep run run')) (record { left = unanswered s; right = unanswered t }) (merge_sorted xs ys)
  merge_sorted_lists s t xs ys known known' =
      lists_as _ _ _
      (lists_by_relation (MergeStep run run') (MergeLists run run') moved _ (merge_sorted xs ys) (xs, ys, known, known', refl))
