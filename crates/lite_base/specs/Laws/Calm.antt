-- Laws of lists of results without a `Pending`, and of calm values.
use Rattle.std.specs.Prelude.{◌≡◌, ◌≤◌, ◌+◌, List, [], ◌∷◌, ◌++◌, refl}
use Rattle.lite_base.specs.Uses.{arith, Poll, Ready, Pending, MutBor}
use Rattle.lite_base.specs.Calm.{CalmLaws, CalmRuns, NoPending, waits}
use Rattle.lite_base.specs.Runs.{Runs, Lent}

-- A value whose runs are runs of a part is calm if the part is.
pub calm_part : {A S X : Type 0} {NoWait : List A → Type 0} {run : Runs A S} {outer : Runs A X} {is_calm : S → Type 0}
    (part : X → S) → ((x y : X) (l : List A) → outer x l y → run (part x) l (part y)) → CalmRuns NoWait run is_calm
    → CalmRuns NoWait outer (λ x. is_calm (part x))
calm_part part ran c = record {
  no_pending = λ x y l k h. c.no_pending _ (part y) l k (ran x y l h);
  calm_on = λ x y l k h. c.calm_on _ _ l k (ran x y l h);
}

-- A reference is calm if what it points to is.
pub lent_calm : {A S : Type 0} {NoWait : List A → Type 0} {run : Runs A S} {is_calm : S → Type 0}
    → CalmRuns NoWait run is_calm → CalmRuns NoWait (Lent run) (λ (x : MutBor S). is_calm x.now)
lent_calm = calm_part (λ x. x.now) (λ x y l h. h.0)

module _ {A : Type 0} where
  pub no_pending_join : (l m : List (Poll A)) → NoPending l → NoPending m → NoPending (l ++ m)
  no_pending_join [] m h k = k
  no_pending_join (Pending ∷ l) m h k = absurd h
  no_pending_join (Ready x ∷ l) m h k = no_pending_join l m h k

  pub no_pending_front : (l m : List (Poll A)) → NoPending (l ++ m) → NoPending l
  no_pending_front [] m h = tt
  no_pending_front (Pending ∷ l) m h = absurd h
  no_pending_front (Ready x ∷ l) m h = no_pending_front l m h

  pub no_pending_back : (l m : List (Poll A)) → NoPending (l ++ m) → NoPending m
  no_pending_back [] m h = h
  no_pending_back (Pending ∷ l) m h = absurd h
  no_pending_back (Ready x ∷ l) m h = no_pending_back l m h

  -- In a list without a `Pending`, `waits` counts 0.
  pub no_pending_none : (l : List (Poll A)) → NoPending l → waits l ≡ 0
  no_pending_none [] h = refl
  no_pending_none (Pending ∷ l) h = absurd h
  no_pending_none (Ready x ∷ l) h = no_pending_none l h

  pub none_no_pending : (l : List (Poll A)) → waits l ≤ 0 → NoPending l
  none_no_pending [] h = tt
  none_no_pending (Pending ∷ l) h = absurd (omega (arith, h))
  none_no_pending (Ready x ∷ l) h = none_no_pending l h

  pub waits_join : (l m : List (Poll A)) → waits (l ++ m) ≡ waits l + waits m
  waits_join [] m = omega arith
  waits_join (Pending ∷ l) m = let e = waits_join l m in omega (arith, e)
  waits_join (Ready x ∷ l) m = waits_join l m

-- One lemma gives both calm laws, if it shows that a run has no `Pending` and leaves a calm value.
pub calm_both : {S A : Type 0} {run : Runs (Poll A) S} {is_calm : S → Type 0}
    → ((x y : S) (l : List (Poll A)) → is_calm x → run x l y → NoPending l × is_calm y) → CalmLaws run is_calm
calm_both both = record { no_pending = λ x y l k h. (both x y l k h).0; calm_on = λ x y l k h. (both x y l k h).1 }
