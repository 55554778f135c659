-- The items of `chain`, by those of its sources.
use Rattle.std.specs.Prelude.{◌≡◌, List, [], ◌∷◌, ◌++◌, Some, None}
use Rattle.lite_views.specs.Uses.{inl, inr, Ready, Pending, Answer, item, Runs, Cuts, Joins, is_done, second_after, Turn, First, Second}
use Rattle.lite_reshape.specs.Chain.{Chains}
use Rattle.lite_reshape.specs.declared.chain.Chain.{Chain}
use Rattle.lite_views.proofs.Views.{listed}
use Rattle.lite_views.specs.Views.{Fits, Lists, ListsAs}
use Rattle.lite_views.proofs.Continuing.{continued_fits, endless_fits}

second_fits : {A : Type 0} (j o : List (Answer A)) (q : Turn) (ys : List A) → Fits j ys
    → Cuts is_done second_after Second j o q → Fits o ys
second_fits j [] q ys e h = tt
second_fits j (b ∷ o) q ys e (inl h) = cc
second_fits j (Pending ∷ o) q ys e (inr h) = second_fits h.1 o q ys (rw h.2 at e) h.3
second_fits j (Ready None ∷ o) q ys e (inr h) = rw h.2 at e
second_fits j (Ready (Some x) ∷ o) q [] e (inr h) = absurd (rw h.2 at e)
second_fits j (Ready (Some x) ∷ o) q (y ∷ ys) e (inr h) =
    let here : Fits (item x ∷ h.1) (y ∷ ys) = rw h.2 at e in (here.0, second_fits h.1 o q ys here.1 h.3)

module _ {A : Type 0} (q : Turn) (i j o : List (Answer A)) (xs ys : List A) (e : Fits i xs) (d : Fits j ys) where
  joined_fits : Joins First i j o q → Fits o (xs ++ ys)
  joined_fits (inl h) = rw h.2 (endless_fits i xs ys h.0 e)
  joined_fits (inr h) =
      rw h.joined
      (continued_fits h.own (h.next ∷ h.later) xs ys h.endless (rw h.through_end at e)
      (second_fits j (h.next ∷ h.later) q ys d h.followed))

pub joined_lists : {S U A : Type 0} (run : Runs (Answer A) S) (run' : Runs (Answer A) U) (x : Chain S U)
    (xs ys : List A)
    → x.part ≡ First → Lists run x.first xs → Lists run' x.second ys → ListsAs (Chains run run') x (xs ++ ys)
unfolding Lists
joined_lists run run' x xs ys first lists others =
    listed (Chains run run') x (xs ++ ys)
    (λ l t r. joined_fits t.part r.firsts r.seconds l xs ys (lists r.firsts t.first r.came)
    (others r.seconds t.second r.then_came) (rw first at r.joined))
