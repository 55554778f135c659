-- Laws about sources that never change.
use Rattle.std.specs.Prelude.{⊤, ◌≡◌, ◌≤◌, List, [], ◌∷◌, ◌++◌, Option, Some, IfSome}
use Rattle.lite_source.specs.Uses.{◌∙◌, ℕ, refl, inl, arith, AllByRecursion, Ready, Pending, Answer, ComparableBy}
use Rattle.lite_source.specs.Uses.{before_end, item, strip, NoPending, all_append, same_hint, Lowers, Counting}
use Rattle.lite_source.specs.Uses.{StreamLaws}
use Rattle.lite_base.specs.Ranks.{AtMost}
use Rattle.lite_source.specs.Always.{Unchanging, no_ranks}

module _ {A : Type 0} (may : Answer A → Type 0) where
  -- Such lists hold no items.
  module _ (none : (x : A) → may (item x) → ⊥) where
    no_items : (l : List (Answer A)) → AllByRecursion may l → before_end l ≤ 0
    no_items (Pending ∷ l) h = no_items l h.1
    no_items (Ready (Some x) ∷ l) h = absurd (none x h.0)
    no_items l h = omega arith

    pub no_items_lower : (l : List (Answer A)) (xs ys : List ℕ) → AllByRecursion may l → AtMost xs ys → Lowers l xs ys
    no_items_lower [] xs ys h e = e
    no_items_lower (Ready (Some x) ∷ l) xs ys h e = absurd (none x h.0)
    no_items_lower (a ∷ l) xs ys h e = no_items_lower l xs ys h.1 e

module _ {S A : Type 0} (may : S → Answer A → Type 0) where
  always_follow : (x y z : S) (l m : List (Answer A)) → Unchanging may x l y → Unchanging may y m z
      → Unchanging may x (l ++ m) z
  always_follow x y z l m h k = (all_append (may x) l m h.0 (rw h.1 at k.0), k.1 ∙ h.1)

  -- The size hint of such a source is `known`, which bounds the items that may come.
  pub always_laws : (known : ℕ × Option ℕ)
      → ((x : S) (l : List (Answer A)) → AllByRecursion (may x) l → IfSome known.1 (λ most. before_end l ≤ most))
      → StreamLaws (λ _. ⊤) (Unchanging may) (λ x hint. hint ≡ known)
  always_laws known bound =
      record {
        rests = λ x. (tt, refl);
        stays = λ x y h. h.1;
        follows = always_follow;
        bounded = λ x y hint l e h. same_hint hint known l e (bound x l h.0);
        polls_on = λ x y l c h. tt;
      }

  -- If no item may come, the hint is `(0, Some(0))`, and nothing has to be counted.
  module _ (none : (s : S) (x : A) → may s (item x) → ⊥) where
    pub itemless_laws : StreamLaws (λ _. ⊤) (Unchanging may) (λ x hint. hint ≡ (0, Some 0))
    itemless_laws = always_laws (0, Some 0) (λ x. no_items (may x) (none x))

    pub itemless_counting : Counting (Unchanging may) no_ranks
    itemless_counting =
        record {
          sized = λ x. refl;
          counts_on = λ x y l c h. tt;
          firm_on = λ x y l c h. tt;
          falls = λ x y a more c h. absurd (none x a h.0.0);
          lowers = λ x y l c h. no_items_lower (may x) (none x) l [] [] h.0 (inl refl);
        }

module _ {A : Type 0} (b : Option A) where
  -- Two lists that hold one result alone are the same, if that result is the same as itself.
  pub answers_same : (same : Option A → Option A → Type 0) → same b b → (l m : List (Answer A))
      → AllByRecursion (λ a. a ≡ Ready b) l
      → AllByRecursion (λ a. a ≡ Ready b) m → ComparableBy same (strip l) (strip m)
  answers_same same itself [] m h k = tt
  answers_same same itself (a ∷ l) [] h k = rw h.0 tt
  answers_same same itself (a ∷ l) (c ∷ m) h k = rw (h.0, k.0) (itself, answers_same same itself l m h.1 k.1)

  pub answers_no_pending : (l : List (Answer A)) → AllByRecursion (λ a. a ≡ Ready b) l → NoPending l
  answers_no_pending [] h = tt
  answers_no_pending (a ∷ l) h = rw h.0 (answers_no_pending l h.1)

pub pendings_strip : {A : Type 0} (l : List (Answer A)) → AllByRecursion (λ a. a ≡ Pending) l → strip l ≡ []
pendings_strip [] h = refl
pendings_strip (a ∷ l) h = rw h.0 (pendings_strip l h.1)
