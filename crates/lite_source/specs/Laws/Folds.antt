-- Laws about sources that make one call for each poll.
use Rattle.std.specs.Prelude.{⊤, ◌≡◌, List, [], ◌∷◌, ◌++◌, Option, None}
use Rattle.lite_source.specs.Uses.{ℕ, refl, sym, FoldsTo, Ready, Pending, Alike, Answer, Comparable, strip, CalmLaws, NoPending, calm_both}
use Rattle.lite_source.specs.Uses.{folds_follow, AlwaysObeys, CallAnswers, Mut, Poll, Poller, always_mut, mut_next, subst, same_hint, SteadyLaws}
use Rattle.lite_source.specs.Uses.{steady_always, StreamLaws}
use Rattle.lite_base.specs.StreamLaws.{PollsOn}
use Rattle.lite_source.specs.RepeatWith.{Call}

-- `part` of the source is what changes at each poll, and it is all that the source holds. `next` says how.
module _ {S P A : Type 0} (part : S → P) (next : P → Answer A → P → Type 0)
    (same : (x y : S) → part y ≡ part x → y ≡ x) where
  -- The size hint of such a source bounds no items from above.
  pub folds_laws : {can_poll : S → Type 0} (least : ℕ) → PollsOn can_poll (λ x l y. FoldsTo next (part x) l (part y))
      → StreamLaws can_poll (λ x l y. FoldsTo next (part x) l (part y)) (λ x hint. hint ≡ (least, None))
  folds_laws least on =
      record {
        rests = λ x. refl;
        stays = λ x y h. same x y (sym h);
        follows = λ x y z. folds_follow next (part x) (part y) (part z);
        bounded = λ x y hint l e h. same_hint hint (least, None) l e tt;
        polls_on = on;
      }

  -- Such a source is alike to another if its results are the same.
  pub folds_steady : SteadyLaws (λ x l y. FoldsTo next (part x) l (part y))
      (λ x l y. FoldsTo next (part x) l (part y)) ⊤ (λ x y. Alike (FoldsTo next) (part x) (part y))
  folds_steady =
      steady_always (folds_laws {can_poll = λ _. ⊤} 0 (λ x y l c h. tt)) (λ x y e l m x' y'. e l m (part x') (part y'))

module _ {S P A : Type 0} (part : S → P) (next : P → Answer A → P → Type 0) where
  module _ (never : (p q : P) → next p Pending q → ⊥) where
    folds_no_pending : (p q : P) (l : List (Answer A)) → FoldsTo next p l q → NoPending l
    folds_no_pending p q [] h = tt
    folds_no_pending p q (Pending ∷ l) h = absurd (never p h.0 h.1)
    folds_no_pending p q (Ready r ∷ l) h = folds_no_pending h.0 q l h.2

    -- No call returns `Pending`.
    pub folds_calm : CalmLaws (λ x l y. FoldsTo next (part x) l (part y)) (λ x. ⊤)
    folds_calm = calm_both (λ x y l k h. (folds_no_pending (part x) (part y) l h, tt))

-- Two sources are alike if their results agree step by step. A `Pending` of either has to keep what they agree in.
pub folds_alike : {P A : Type 0} (next : P → Answer A → P → Type 0) (agree : P → P → Type 0)
    → ((p q r : P) → agree p q → next p Pending r → agree r q)
    → ((p q r : P) → agree p q → next q Pending r → agree p r)
    → ((p q r s : P) (a b : Option A) → agree p q → next p (Ready a) r → next q (Ready b) s → (a ≡ b) × agree r s)
    → (p q : P) → agree p q → Alike (FoldsTo next) p q
folds_alike {P} {A} next agree left right same p q e l m p' q' h k = answers l m p q e h k
  where
    after : (a : Option A) (l : List (Answer A))
        → ((m : List (Answer A)) (p q : P) → agree p q → FoldsTo next p l p' → FoldsTo next q m q'
        → Comparable (strip l) (strip m))
        → (m : List (Answer A)) (p q : P) → agree p q → FoldsTo next p (Ready a ∷ l) p' → FoldsTo next q m q'
        → Comparable (a ∷ strip l) (strip m)
    after a l rest [] p q e h k = tt
    after a l rest (Pending ∷ m) p q e h k = after a l rest m p k.0 (right p q k.0 e k.1) h k.2
    after a l rest (Ready b ∷ m) p q e h k = let s = same p q h.0 k.0 a b e h.1 k.1 in (s.0, rest m h.0 k.0 s.1 h.2 k.2)

    answers : (l m : List (Answer A)) (p q : P) → agree p q → FoldsTo next p l p' → FoldsTo next q m q'
        → Comparable (strip l) (strip m)
    answers [] m p q e h k = tt
    answers (Pending ∷ l) m p q e h k = answers l m h.0 q (left p q h.0 e h.1) h.2 k
    answers (Ready a ∷ l) m p q e h k = after a l (answers l) m p q e h k

module _ {F A : Type 0} (g : Mut F (Unit {0}) A) where
  -- A function that may always be called may be called after any calls.
  pub calls_on : (p q : F) (l : List (Answer A)) → always_mut g p → FoldsTo (Call g) p l q → always_mut g q
  calls_on p q [] c h = subst (always_mut g) h c
  calls_on p q (a ∷ l) c h = calls_on h.0 q l (mut_next g p tt h.1.0 h.0 h.0 h.1.2 refl c) h.2

-- A closure that obeys always does so after any calls.
pub obeys_still : {F A : Type 0} (g : Poller F A) (f q : F) (l : List (Poll A)) → AlwaysObeys g (λ _. ⊤) f
    → FoldsTo (CallAnswers g) f l q → AlwaysObeys g (λ _. ⊤) q
obeys_still g f q l h c = record { at = λ m p w d. h.at (l ++ m) p tt (folds_follow _ f q p l m c d) }
