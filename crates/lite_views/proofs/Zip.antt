-- The items of `zip`, by those of its sources.
use Rattle.std.specs.Prelude.{◌≡◌, ℕ, List, [], ◌∷◌, refl, Option, Some, None}
use Rattle.lite_views.specs.Uses.{zero, suc, inl, inr, sym, subst, Ready, Pending, Answer, item, Runs, Pairs, pendings}
use Rattle.lite_merge.specs.Zip.{Zips}
use Rattle.lite_merge.specs.declared.zip.Zip.{Zip}
use Rattle.std.specs.List.{zip}
use Rattle.lite_views.proofs.Views.{listed}
use Rattle.lite_views.specs.Views.{Fits, Lists, ListsAs}

-- Pendings count for nothing
pendings_fit : {A : Type 0} (n : ℕ) (l : List (Answer A)) (xs : List A) → Fits (pendings n l) xs ≡ Fits l xs
pendings_fit zero l xs = refl
pendings_fit (suc n) l xs = pendings_fit n l xs

module _ {A B : Type 0} where
  paired_fits : (i : List (Answer A)) (j : List (Answer B)) (o : List (Answer (A × B))) (last : Option A)
      (xs : List A) (ys : List B) → Fits i xs → Fits j ys → Pairs i j o last → Fits o (zip xs ys)
  paired_fits [] j o last xs ys e d h = cc
  paired_fits (a ∷ i) j [] last xs ys e d h = tt
  paired_fits (Pending ∷ i) j (c ∷ o) last xs ys e d h = rw h.0 (paired_fits i j o last xs ys e d h.1)
  paired_fits (Ready None ∷ i) j (c ∷ o) last xs ys e d h = rw (h.0, e)
  paired_fits (Ready (Some x) ∷ i) j (c ∷ o) last [] ys e d h = absurd e
  paired_fits (Ready (Some x) ∷ i) j (c ∷ o) last (y ∷ xs) ys e d (inl h) =
      subst (λ l. Fits l (zip (y ∷ xs) ys)) (sym h.3) (rw pendings_fit tt)
  paired_fits (Ready (Some x) ∷ i) j (c ∷ o) last (y ∷ xs) ys e d (inr (n, None, more, rest, js, out, follows)) =
      subst (λ l. Fits l (zip (y ∷ xs) ys)) (sym out) (rw (pendings_fit, rw (js, pendings_fit) at d))
  paired_fits (Ready (Some x) ∷ i) j (c ∷ o) last (y ∷ xs) [] e d (inr (n, Some z, more, rest, js, out, follows)) =
      absurd (rw (js, pendings_fit) at d)
  paired_fits (Ready (Some x) ∷ i) j (c ∷ o) last (y ∷ xs) (w ∷ ys) e d
      (inr (n, Some z, more, rest, js, out, follows)) =
      let second : Fits (item z ∷ more) (w ∷ ys) = rw (js, pendings_fit) at d in
      subst (λ l. Fits l (zip (y ∷ xs) (w ∷ ys))) (sym out)
      (rw pendings_fit
      ((let e₀ = e.0 in let e₁ = second.0 in cc), paired_fits i more rest last xs ys e.1 second.1 follows))

  pub paired_lists : {S U : Type 0} (run : Runs (Answer A) S) (run' : Runs (Answer B) U) (x : Zip S U A) (xs : List A)
      (ys : List B) → x.item_slot ≡ None → Lists run x.first xs → Lists run' x.second ys
      → ListsAs (Zips run run') x (zip xs ys)
  unfolding Lists
  paired_lists run run' x xs ys none lists others =
      listed (Zips run run') x (zip xs ys)
      (λ l t r. paired_fits r.firsts r.seconds l t.item_slot xs ys (lists r.firsts t.first r.came)
      (others r.seconds t.second r.then_came) (rw none at r.paired))
