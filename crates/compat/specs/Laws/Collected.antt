-- What this library's futures say over the toolchain's: the values and items are those that the toolchain's gives.
use Rattle.std.specs.Prelude.{◌≡◌, ℕ, false, List, [], ◌∷◌, ◌++◌, map, Option, None, Some, Result, Ok, Err, IfOk}
use Rattle.lite_base.specs.Answers.{Gives}
use Rattle.lite_base.specs.Segments.{Paces, left_behind}
use Rattle.lite_base.specs.Spent.{AtEachOk, Finishes}
use Rattle.lite_consume.specs.Consume.{Folds}
use Rattle.lite_consume.specs.declared.consume.Consume.{Consume}
use Rattle.lite_gather.specs.Collect.{collects}
use Rattle.lite_gather.specs.declared.collect.Collect.{Collect}
use Rattle.lite_gather.specs.Uses.{fold_of}
use Rattle.lite_merge.specs.Budgeted.{Budgets}
use Rattle.lite_merge.specs.declared.budgeted.Budgeted.{Budgeted}
use Rattle.lite_theorems.specs.Futures.{StepsToValue}
use Rattle.lite_theorems.specs.Interleaving.{items_given}
use Rattle.lite_theorems.specs.Laws.Collected.{Has, collected}
use Rattle.lite_theorems.specs.Laws.Rows.{WithoutEnd}
use Rattle.compat.specs.FromKit.{FutureStep, StreamStep}
use Rattle.compat.specs.Uses.{Answer, FoldsTo, Pending, Poll, Ready, ap, inl, inr, refl, strip, subst, sym, ◌∙◌}
use Rattle.compat.specs.declared.compat.Compat.{Compat}
use Rattle.futures.specs.Runs.{Runs as Answers}

-- A value that a future of the toolchain was polled to is one that it gives.
module _ {F A : Type 0} (can_poll : F → Type 0) (gives : F → A → Type 0) where
  gave_from : (x y : Compat F) (l : List (Poll A)) (v : A) → Gives l v → FoldsTo (FutureStep can_poll gives) x l y
      → gives x.inner v
  gave_from x y [] v g h = absurd g
  gave_from x y (Pending ∷ l) v g h = h.1.1 v (gave_from h.0 y l v g h.2)
  gave_from x y (Ready w ∷ l) v g h = subst (gives x.inner) g.0 h.1

  pub finishes_gives : (x : Compat F) (l : List (Poll A)) (v : A) → Finishes (StepsToValue (FutureStep can_poll gives)) x l v
      → gives x.inner v
  finishes_gives x l v h = gave_from x h.last l v h.gives h.came.1

-- The same of a wait's result.
pub wait_gives : {F A E : Type 0} (can_poll : F → Type 0) (gives : F → A → Type 0) (x : Compat F) (r : Result A E)
    → IfOk r (λ v. (ins : List (Poll A)) × Finishes (StepsToValue (FutureStep can_poll gives)) x ins v)
    → IfOk r (gives x.inner)
wait_gives can_poll gives x (Ok v) h = finishes_gives can_poll gives x h.0 v h.1
wait_gives can_poll gives x (Err e) h = tt

module _ {S A : Type 0} (can_poll : S → Type 0) (yields : S → Answers A) where
  ended_none : (x y : Compat S) → x.ended ≡ false → StreamStep can_poll yields x (Ready None) y → yields x.inner [] None
  ended_none x y running (e, inl h) = h.1
  ended_none x y running (e, inr h) = absurd (let d = h.0 in cc)

  -- Some items and one more answer, up to the end at most, are such that the stream of the toolchain yields them.
  pub step_yields : (x y : Compat S) (l : List (Answer A)) (xs : List A) (last : Option A) (rest : List (Option A))
      → x.ended ≡ false → FoldsTo (StreamStep can_poll yields) x l y → strip l ≡ map Some xs ++ last ∷ rest
      → yields x.inner xs last
  step_yields x y [] [] last rest running h e = absurd (cc e)
  step_yields x y [] (w ∷ xs) last rest running h e = absurd (cc e)
  step_yields x y (Pending ∷ l) xs last rest running h e =
      h.1.3 xs last (step_yields h.0 y l xs last rest h.1.1 h.2 e)
  step_yields x y (Ready None ∷ l) [] last rest running h e =
      let same : None ≡ last = cc e in
      subst (yields x.inner []) same (ended_none x h.0 running h.1)
  step_yields x y (Ready None ∷ l) (w ∷ xs) last rest running h e = absurd (cc e)
  step_yields x y (Ready (Some v) ∷ l) [] last rest running h e =
      let same : Some v ≡ last = cc e in
      subst (yields x.inner []) same h.1.3
  step_yields x y (Ready (Some v) ∷ l) (w ∷ xs) last rest running h e =
      let same : v ≡ w = cc e in
      let tail : strip l ≡ map Some xs ++ last ∷ rest = cc e in
      subst (λ u. yields x.inner (u ∷ xs) last) same
      (h.1.4 xs last (step_yields h.0 y l xs last rest h.1.1 h.2 tail))

-- A budget adds `Pending`s alone.
paced : {A : Type 0} (out ins : List (Answer A)) (p q : ℕ × ℕ) → Paces Pending left_behind p ins out q
    → strip ins ≡ strip out
paced [] ins p q h = ap strip h.0
paced (b ∷ out) ins p q (inl h) = paced out ins (p.0, p.0) q h.2 ∙ ap (λ c. strip (c ∷ out)) (sym h.1)
paced {A} (Pending ∷ out) ins p q (inr h) = ap strip h.2 ∙ paced out h.1 (p.0, left_behind {A = A} p.0 Pending p.1) q h.3
paced (Ready o ∷ out) ins p q (inr h) =
    ap strip h.2 ∙ ap (λ l. o ∷ l) (paced out h.1 (p.0, left_behind p.0 (Ready o) p.1) q h.3)

whole : {A : Type 0} (body : List (Answer A)) → WithoutEnd body
    → strip (body ++ Ready None ∷ []) ≡ map Some (items_given body) ++ None ∷ []
whole [] n = refl
whole (Pending ∷ body) n = whole body n
whole (Ready None ∷ body) n = absurd n
whole (Ready (Some x) ∷ body) n = ap (λ l. Some x ∷ l) (whole body n)

module _ {S C A : Type 0} (can_poll : S → Type 0) (yields : S → Answers A) (may_refuse : C → A → Type 0)
    (holds : C → List A → Type 0) where
  -- What `collect` gathered is what the stream of the toolchain yields up to its end.
  pub kit_collected : (x : Consume (Budgeted (Compat S)) (Collect C)) → x.stream.stream.ended ≡ false
      → Has holds x.folder.collection []
      → AtEachOk (Folds (Budgets (FoldsTo (StreamStep can_poll yields)))
      (fold_of (λ (f : Collect C). f.collection) (collects may_refuse holds))) x
      (λ y c. (xs : List A) × holds c xs × yields x.stream.stream.inner xs None)
  kit_collected x running is out y c h g =
      let w =
      collected may_refuse holds (λ (f : Collect C). f.collection) out x.folder y.folder h.ins [] c is h.consumed g in
      let stripped = paced h.ins h.came.ins _ _ h.came.related.0 ∙ ap strip w.cut ∙ whole w.body w.no_end in (
        items_given w.body,
        w.held,
        step_yields can_poll yields x.stream.stream y.stream.stream h.came.ins (items_given w.body) None [] running h.came.came
            stripped,
      )
