-- A closure that calls leave as it is may be asked about each item, where it may be asked about those of the list.
use Rattle.std.specs.Prelude.{◌≡◌, List, [], ◌∷◌, ◌++◌, refl, Some}
use Rattle.lite_views.specs.Uses.{sym, subst, AllByRecursion, FoldsTo, Ready, Answer, item, Question, Runs, items_in}
use Rattle.lite_base.specs.EachItem.{AtEachItem}
use Rattle.lite_views.specs.Lists.{Front}

last_all : {A : Type 0} (P : A → Type 0) (ins : List (Answer A)) (x : A) (rest : List A)
    → AllByRecursion P (items_in (ins ++ item x ∷ []) ++ rest) → P x
last_all P [] x rest h = h.0
last_all P (Ready (Some y) ∷ ins) x rest h = last_all P ins x rest h.1
last_all P (_ ∷ ins) x rest h = last_all P ins x rest h

module _ {F A O : Type 0} (call : Question F A O) (f : F) (keeps : (x : A) (o : O) (g : F) → call f x o g → g ≡ f) where
  kept : (p q : F) (xs : List A) → p ≡ f → FoldsTo (λ q y r. (o : O) × call q y o r) p xs q → q ≡ f
  kept p q [] e h = cc
  kept p q (x ∷ xs) e h = kept h.0 q xs (keeps x h.1.0 h.0 (rw (← e) h.1.1)) h.2

  pub may_ask : {S : Type 0} (run : Runs (Answer A) S) (s : S) (xs : List A) (Asks : F → A → Type 0)
      → ((l : List (Answer A)) (t : S) → run s l t → Front (items_in l) xs) → AllByRecursion (Asks f) xs
      → AtEachItem run call Asks s f
  may_ask run s xs Asks fronts all =
      record {
        at = λ ins x t p ran folds.
            let front = fronts (ins ++ item x ∷ []) t ran in
            subst (λ q. Asks q x) (sym (kept f p (items_in ins) refl folds))
            (last_all (Asks f) ins x front.0 (rw (← front.1) all));
      }
