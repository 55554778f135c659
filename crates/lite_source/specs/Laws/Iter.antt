-- Laws about `iter`.
use Rattle.std.specs.Prelude.{IfSome, ◌≤◌, List, [], ◌∷◌, ◌++◌, Option, Some, None}
use Rattle.lite_source.specs.Uses.{sym, ℕ, refl, ap, arith, inl, Count, IsFinite, MakesProgress, UpTo, size, Ready}
use Rattle.lite_source.specs.Uses.{Pending, Answer, before_end, Below-one, Lowers-at_most, folds_follow, Lowers}
use Rattle.lite_source.specs.Uses.{Counting, StreamLaws}
use Rattle.lite_base.specs.Answers.{items}
use Rattle.lite_base.specs.Laws.Ranks.{at_most_one}
use Rattle.lite_base.specs.Ranks.{Below}
use Rattle.lite_source.specs.Iter.{AlwaysNext, IterHints, Iterates, NeverRaised, Nexts, iter_ranks}
use Rattle.lite_source.specs.declared.iter.Iter.{Iter}

up_to : (most : Option ℕ) (count : Count) (n : ℕ) → (IsFinite count → n ≤ size count) → IfSome most (UpTo count)
    → IfSome most (λ m. n ≤ m)
up_to None count n h b = tt
up_to (Some m) count n h b = omega arith

module _ {I A : Type 0} (can : I → Type 0) (gives : I → Option A → I → Type 0) (remaining : I → Count) where
  -- After a call `next` may still be called.
  module _ (i j : I) where
    pub always_on : (a : Answer A) → AlwaysNext can gives remaining i → Nexts can gives remaining i a j
        → AlwaysNext can gives remaining j
    always_on a h c = record { at = λ l k d. h.at (a ∷ l) k (j, c, d) }

    iter_on : (l : List (Answer A)) → AlwaysNext can gives remaining i → Iterates can gives remaining i l j
        → AlwaysNext can gives remaining j
    iter_on l h c = record { at = λ m k d. h.at (l ++ m) k (folds_follow _ i j k l m c d) }

    never_on : (l : List (Answer A)) → NeverRaised can gives remaining i → Iterates can gives remaining i l j
        → NeverRaised can gives remaining j
    never_on l h c = record {
      at = λ m k n d. h.at _ k n (folds_follow _ i j k l m c d);
    }

    finite_next : (r : Option A) → MakesProgress can remaining i r j → IsFinite (remaining i) → IsFinite (remaining j)
    finite_next None m f = m.rests f
    finite_next (Some x) m f = (m.on f).1

  finite_on : (i j : I) (l : List (Answer A)) → IsFinite (remaining i) → Iterates can gives remaining i l j
      → IsFinite (remaining j)
  finite_on i j [] f h = rw h at f
  finite_on i j (Pending ∷ l) f h = absurd h.1
  finite_on i j (Ready r ∷ l) f h = finite_on h.0 j l (finite_next i h.0 r h.1.1 f) h.2

  no_more : (i j : I) (l : List (Answer A)) → Iterates can gives remaining i l j → IsFinite (remaining i)
      → before_end l ≤ size (remaining i)
  no_more i j (Pending ∷ l) h f = absurd h.1
  no_more i j (Ready (Some x) ∷ l) h f =
      let on = h.1.1.on f in omega (arith, on.2, no_more h.0 j l h.2 on.1)
  no_more i j l h f = omega arith

  iter_bounded : (i j : I) (most : Option ℕ) (l : List (Answer A)) → IfSome most (UpTo (remaining i))
      → Iterates can gives remaining i l j → IfSome most (λ m. before_end l ≤ m)
  iter_bounded i j most l b h = up_to most (remaining i) (before_end l) (no_more i j l h) b

  items_lower : (i j : I) (l : List A) → IsFinite (remaining i) → Iterates can gives remaining i (items l) j
      → size (remaining j) ≤ size (remaining i)
  items_lower i j [] f h = rw (← h) (omega arith)
  items_lower i j (x ∷ l) f h = let on = h.1.1.on f in omega (arith, on.2, items_lower h.0 j l on.1 h.2)

  iter_falls : (i j : I) (a : A) (more : List A) → IsFinite (remaining i)
      → Iterates can gives remaining i (items (a ∷ more)) j → Below (size (remaining j) ∷ []) (size (remaining i) ∷ [])
  iter_falls i j a more f h = let on = h.1.1.on f in inl (omega (arith, on.2, items_lower h.0 j more on.1 h.2), refl)

  lowers_from : (i j : I) (n : ℕ) (l : List (Answer A)) → size (remaining i) ≤ n → IsFinite (remaining i)
      → NeverRaised can gives remaining i → Iterates can gives remaining i l j
      → Lowers l (size (remaining j) ∷ []) (n ∷ [])
  lowers_from i j n [] least f r h = at_most_one (size (remaining j)) n (rw h at least)
  lowers_from i j n (Pending ∷ l) least f r h = absurd h.1
  lowers_from i j n (Ready None ∷ l) least f r h =
      lowers_from h.0 j n l (omega (arith, r.at [] i h.0 refl h.1, least)) (finite_next i h.0 None h.1.1 f)
      (never_on i h.0 (Ready None ∷ []) r (h.0, h.1, refl)) h.2
  lowers_from i j n (Ready (Some x) ∷ l) least f r h =
      let on = h.1.1.on f in
      let e = lowers_from h.0 j (size (remaining h.0)) l (omega arith) on.1
      (never_on i h.0 (Ready _ ∷ []) r (h.0, h.1, refl)) h.2 in
      Below-one (Lowers-at_most l _ _ e) (omega (arith, on.2, least))

  iter_lowers : (i j : I) (l : List (Answer A)) → IsFinite (remaining i) → NeverRaised can gives remaining i
      → Iterates can gives remaining i l j → Lowers l (size (remaining j) ∷ []) (size (remaining i) ∷ [])
  iter_lowers i j l = lowers_from i j (size (remaining i)) l (omega arith)

  pub iter_laws : StreamLaws (λ x. AlwaysNext can gives remaining x.iter)
      (λ (x : Iter I) (l : List (Answer A)) (y : Iter I). Iterates can gives remaining x.iter l y.iter)
      (λ x. IterHints (remaining x.iter))
  iter_laws =
      record {
        rests = λ x. refl;
        stays = λ x y h. ap (λ (v : I). record x { iter = v }) (sym h);
        follows = λ x y z. folds_follow _ x.iter y.iter z.iter;
        bounded = λ x y hint l e. iter_bounded x.iter y.iter hint.1 l e.1;
        polls_on = λ x y. iter_on x.iter y.iter;
      }

  pub iter_counting : Counting
      (λ (x : Iter I) (l : List (Answer A)) (y : Iter I). Iterates can gives remaining x.iter l y.iter)
      (iter_ranks can gives remaining)
  iter_counting =
      record {
        sized = λ x. refl;
        counts_on = λ x y. finite_on x.iter y.iter;
        firm_on = λ x y l f h. (finite_on x.iter y.iter l f.0 h, never_on x.iter y.iter l f.1 h);
        falls = λ x y. iter_falls x.iter y.iter;
        lowers = λ x y l f. iter_lowers x.iter y.iter l f.0 f.1;
      }
