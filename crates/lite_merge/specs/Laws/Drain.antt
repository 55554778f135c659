-- Laws about `drain`.
use Rattle.std.specs.Prelude.{◌≡◌, ℕ, List, [], ◌∷◌, ◌++◌, Some, None}
use Rattle.std.proofs.Common.{◌≤◌}
use Rattle.lite_merge.specs.Uses.{refl, arith, Ready, Pending, Answer, before_end, items, CalmLaws, NoPending, Lowers, Runs, Relating}
use Rattle.lite_merge.specs.Drain.{Drained, Drains, with_ends}

module _ {A : Type 0} where
  drained_join : (i j : List (Answer A)) → with_ends (i ++ j) ≡ with_ends i ++ with_ends j
  drained_join [] j = refl
  drained_join (Pending ∷ i) j = rw (drained_join i j)
  drained_join (Ready o ∷ i) j = rw (drained_join i j)

  drained_none : (i : List (Answer A)) → [] ≡ with_ends i → i ≡ []
  drained_none [] e = refl
  drained_none (Pending ∷ i) e = cc
  drained_none (Ready o ∷ i) e = cc

  -- An end replaces each `Pending`, so no more items come before the first end.
  drained_bounded : (i : List (Answer A)) → before_end (with_ends i) ≤ before_end i
  drained_bounded (Ready (Some x) ∷ i) = omega (arith, drained_bounded i)
  drained_bounded i = omega arith

  drained_lowers : (i : List (Answer A)) (xs ys : List ℕ) → Lowers i xs ys → Lowers (with_ends i) xs ys
  drained_lowers (Pending ∷ i) xs ys h = drained_lowers i xs ys h
  drained_lowers (Ready None ∷ i) xs ys h = drained_lowers i xs ys h
  drained_lowers i xs ys h = h

  drained_items : (i : List (Answer A)) (l : List A) → items l ≡ with_ends i → i ≡ items l
  drained_items [] [] e = refl
  drained_items (a ∷ i) [] e = absurd (drained_some a i e)
    where
      drained_some : (a : Answer A) (i : List (Answer A)) → [] ≡ with_ends (a ∷ i) → ⊥
      drained_some Pending i e = cc e
      drained_some (Ready o) i e = cc e
  drained_items (Ready (Some y) ∷ i) (x ∷ l) e =
      let same : x ≡ y = cc e in
      rw (same, drained_items i l (cc e))
  drained_items _ (x ∷ l) e = cc

  pub drained_relating : Relating (Drained {A = A})
  drained_relating =
      record {
        following = record {
          starts = λ f. refl;
          empty = λ f g i h. (drained_none i h, refl);
          joins = λ f g h i j l m a b. rw (a, b, drained_join) refl;
        };
        bounds = λ f g i o h. rw h (drained_bounded i);
        lowers = λ f g i o xs ys h k. rw h (drained_lowers i xs ys k);
        from_items = λ f g i y l h. (y, l, drained_items i (y ∷ l) h);
      }

  drained_no_pending : (i : List (Answer A)) → NoPending (with_ends i)
  drained_no_pending [] = tt
  drained_no_pending (Pending ∷ i) = drained_no_pending i
  drained_no_pending (Ready o ∷ i) = drained_no_pending i

-- A `drain` is never pending, whatever its stream is.
pub drain_calm : {S A : Type 0} (run : Runs (Answer A) S) → CalmLaws (Drains run) (λ m. Unit {0})
drain_calm run = record { no_pending = λ x y l k h. rw h.related (drained_no_pending h.ins); calm_on = λ x y l k h. tt }
