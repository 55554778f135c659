-- Closures that answer the same at each call, and iterators whose items are a list.
use Rattle.std.specs.Prelude.{⊤, MatchOption}
use Rattle.std.proofs.Common.{◌≡◌, ◌∙◌, ℕ, ◌+◌, ◌≤◌, List, [], ◌∷◌, Option, Some, None, ap, arith, refl, sym}
use Rattle.std.specs.Iterator.{Count}
use Rattle.std.specs.Fn.{Called, Mut}
use Rattle.std.specs.List.{FoldsTo}
use denote.Ref.{MutBor}
use Rattle.futures.specs.declared.task.Poll.{Poll}
use Rattle.futures.specs.declared.task.Poll.TheVariants.{Ready, Pending}
use Rattle.futures.specs.declared.task.context.Context.{Context}
use Rattle.lite_base.specs.Alike.{Alike}
use Rattle.lite_base.specs.Calm.{NoPending}
use Rattle.lite_base.specs.Pollers.{CallAnswers, NeverPends, Poller}
use Rattle.lite_source.specs.Iter.{Iterates, Nexts}
use Rattle.lite_source.specs.Laws.Folds.{folds_alike}
use Rattle.lite_source.specs.RepeatWith.{Call}

-- a closure that is polled answers v
module _ {F A : Type 0} (g : Poller F (Option A)) (v : Option A)
    (answers : (p q : F) (cx left : MutBor Context) (a : Poll (Option A)) → Called g p (cx, tt) (a, (left, tt)) q
    → a ≡ Ready v) where
  one_answer : (p q r s : F) (a b : Option A) → CallAnswers g p (Ready a) r → CallAnswers g q (Ready b) s → a ≡ b
  one_answer p q r s a b h k =
      let first = answers p r h.0 h.1 (Ready a) h.2 in
      let second = answers q s k.0 k.1 (Ready b) k.2 in
      cc

  pub polls_alike : (p q : F) → Alike (FoldsTo (CallAnswers g)) p q
  polls_alike p q =
      folds_alike (CallAnswers g) (λ _ _. ⊤) (λ p q r a h. tt) (λ p q r a h. tt)
      (λ p q r s a b e h k. (one_answer p q r s a b h k, tt)) p q tt

  no_pending : (l : List (Poll (Option A))) (p q : F) → FoldsTo (CallAnswers g) p l q → NoPending l
  no_pending [] p q h = tt
  no_pending (Pending ∷ l) p q h = absurd (let e = answers p h.0 h.1.0 h.1.1 Pending h.1.2 in cc)
  no_pending (Ready a ∷ l) p q h = no_pending l h.0 q h.2

  pub polls_no_pending : (p : F) → NeverPends g p
  polls_no_pending p = record { at = λ l q h. no_pending l p q h }

-- a closure that is called without arguments answers v
module _ {F A : Type 0} (g : Mut F (Unit {0}) A) (v : A) (answers : (p q : F) (a : A) → Called g p tt a q → a ≡ v) where
  one_item : (p q r s : F) (a b : Option A) → Call g p (Ready a) r → Call g q (Ready b) s → a ≡ b
  one_item p q r s a b h k =
      let first = answers p r h.0 h.2 in
      let second = answers q s k.0 k.2 in
      let x = h.1 in
      let y = k.1 in
      cc

  pub calls_alike : (p q : F) → Alike (FoldsTo (Call g)) p q
  calls_alike p q =
      folds_alike (Call g) (λ _ _. ⊤) (λ p q r a h. tt) (λ p q r a h. tt)
      (λ p q r s a b e h k. (one_item p q r s a b h k, tt)) p q tt

-- an iterator over a list, which is known as long as items are left
module _ {I A : Type 0} (items : I → List A) (len : I → ℕ) (can : I → Type 0) (remaining : I → Count) where
  abbrev Gives : I → Option A → I → Type 0
  Gives i r j = MatchOption r ((len i ≡ 0) × (len j ≡ 0)) (λ x. (items i ≡ x ∷ items j) × (len j + 1 ≡ len i))

  abbrev Same : I → I → Type 0
  Same i j = (len i ≡ len j) × (1 ≤ len i → items i ≡ items j)

  same_next : (p q r s : I) (a b : Option A) → Same p q → Gives p a r → Gives q b s → (a ≡ b) × Same r s
  same_next p q r s None None e h k = (refl, (h.1 ∙ sym k.1, λ some. absurd (omega (arith, h.1, some))))
  same_next p q r s None (Some b) e h k = absurd (omega (arith, e.0, h.0, k.1))
  same_next p q r s (Some a) None e h k = absurd (omega (arith, e.0, k.0, h.1))
  same_next p q r s (Some a) (Some b) e h k =
      let some : 1 ≤ len p = omega (arith, h.1) in
      let whole : a ∷ items r ≡ b ∷ items s = sym h.0 ∙ e.1 some ∙ k.0 in
      let rest : items r ≡ items s = cc in
      let first : a ≡ b = cc in
      (ap (λ x. Some x) first, (omega (arith, e.0, h.1, k.1), λ _. rest))

  pub iterates_alike : (i : I) → Alike (Iterates can Gives remaining) i i
  iterates_alike i =
      folds_alike (Nexts can Gives remaining) Same (λ p q r a h. absurd h) (λ p q r a h. absurd h)
      (λ p q r s a b e h k. same_next p q r s a b e h.0 k.0) i i (refl, λ _. refl)
