-- Laws of one of the two futures of a `zip`.
use Rattle.std.specs.Prelude.{false, ◌≡◌, List, [], ◌∷◌, ◌++◌, refl}
use Rattle.futures.specs.Task.{Lasting}
use Rattle.lite_base.specs.Armed.{Arms, EndsPending}
use Rattle.lite_base.specs.Laws.Armed.{gives_pends, no_pends, pends_join}
use Rattle.lite_future.specs.Uses.{◌∙◌, subst, sym, ap, append_assoc, AllByRecursion, Poll, Ready, Pending, Gives, Waiting, CalmLaws, NoPending}
use Rattle.lite_future.specs.Uses.{FutureRunLaws, WaitsOn, waiting_waiting, no_pending_join, Runs}
use Rattle.lite_future.specs.Side.{Came, CanAsk, IfAsked, InEachRow, IsAskedAnd, Stands}
use Rattle.lite_base.specs.Laws.Answers.{all_append, all_split, no_gives}
use Rattle.lite_base.specs.Laws.Spent.{finishes_found, finishes_later}
use Rattle.lite_base.specs.Steady.{TakesNone}
use Rattle.lite_future.specs.declared.side.Side.{Side}
use Rattle.lite_future.specs.declared.side.Side.TheVariants.{Asked, Gave, Taken}

-- What is held of the future after a row with the result `a`.
abbrev pub AfterRow : {F A R : Type 0} → (A → R) → Side F A → Poll R → Type 0
AfterRow answer (Asked f) a = a ≡ Pending
AfterRow answer (Gave v) a = a ≡ Ready (answer v)
AfterRow answer Taken a = ⊥

-- `IsAskedAnd` is false unless the future has no value yet.
pub asked_no_more : {F A : Type 0} (x : Side F A) (P : F → Type 0) → ((f : F) → x ≡ Asked f → ⊥) → IsAskedAnd x P → ⊥
asked_no_more (Asked f) P gone h = gone f refl
asked_no_more x P gone h = h

module _ {R : Type 0} where
  waiting_last : (l : List (Poll R)) (a : Poll R) → Waiting (l ++ a ∷ []) → a ≡ Pending
  waiting_last [] Pending w = refl
  waiting_last (Pending ∷ l) a w = waiting_last l a w
  waiting_last l a w = absurd w

  came_last : (w : R) (i ins later : List (Poll R)) (a : Poll R) → i ++ a ∷ [] ≡ ins ++ later → Gives ins w
      → AllByRecursion (λ b. b ≡ Ready w) later → a ≡ Ready w
  came_last w i [] later a e g r = absurd g
  came_last w [] (Pending ∷ ins) later a e g r = absurd (no_gives ins later w (cc) g)
  came_last w (b ∷ i) (Pending ∷ ins) later a e g r = came_last w i ins later a (cc) g r
  came_last w [] (Ready x ∷ ins) later a e g r = let first : a ≡ Ready x = (cc) in rw (first, g.0)
  came_last w (b ∷ i) (Ready x ∷ ins) later a e g r =
      let rest : i ++ a ∷ [] ≡ ins ++ later = (cc) in
      let after : i ++ a ∷ [] ≡ later = subst (λ l. i ++ a ∷ [] ≡ l ++ later) g.1 rest in
      (all_split _ i _ (rw (← after) at r)).1.0

module _ {F A R : Type 0} (answer : A → R) (run : Runs (Poll R) F) where
  pub stands_rest : FutureRunLaws run → (x : Side F A) → Stands answer run x [] x
  stands_rest laws (Asked f) = (tt, laws.rests f)
  stands_rest laws (Gave v) = (tt, refl)
  stands_rest laws Taken = (refl, refl)

  pub stands_stay : FutureRunLaws run → (x y : Side F A) → Stands answer run x [] y → y ≡ x
  stands_stay laws (Asked f) (Asked g) h = ap Asked (laws.stays f g h.1)
  stands_stay laws (Asked f) (Gave v) h = absurd (no_gives h.ins h.later (answer v) h.joined h.finishes.gives)
  stands_stay laws (Asked f) Taken h = absurd h
  stands_stay laws x y h = h.1

  -- A future that has no value yet had none before.
  pub stands_asked : (x : Side F A) (g : F) (l : List (Poll R)) → Stands answer run x l (Asked g) → (f : F)
      × (x ≡ Asked f) × Waiting l × run f l g
  stands_asked (Asked f) g l h = (f, refl, h.0, h.1)
  stands_asked x g l h = absurd (let e = h.1 in cc)

  -- The last row says what is held after it.
  pub stands_last : (x y : Side F A) (i : List (Poll R)) (a : Poll R) → Stands answer run x (i ++ a ∷ []) y
      → AfterRow answer y a
  stands_last (Asked f) (Asked g) i a h = waiting_last i a h.0
  stands_last (Asked f) (Gave v) i a h = came_last (answer v) i h.ins h.later a h.joined h.finishes.gives h.repeats
  stands_last (Asked f) Taken i a h = absurd h
  stands_last (Gave v) y i a h = rw h.1 (all_split _ i _ h.0).1.0
  stands_last Taken y [] a h = absurd (let e = h.0 in cc)
  stands_last Taken y (b ∷ i) a h = absurd (let e = h.0 in cc)

  -- What may be asked may be asked after any rows.
  pub stands_ask : {can_poll : F → Type 0} → WaitsOn can_poll run → (x y : Side F A) (l : List (Poll R))
      → CanAsk can_poll x → Stands answer run x l y → CanAsk can_poll y
  stands_ask on (Asked f) (Asked g) l c h = on f g l h.0 c h.1
  stands_ask on (Asked f) (Gave v) l c h = tt
  stands_ask on (Asked f) Taken l c h = absurd h
  stands_ask on (Gave v) y l c h = rw h.1 tt
  stands_ask on Taken y l c h = absurd c

  -- A value that is held is the result in the next row.
  pub stands_on : (can_poll : F → Type 0) (x : Side F A) → CanAsk can_poll x → ((f : F) → x ≡ Asked f → ⊥)
      → (a : Poll R) × Stands answer run x (a ∷ []) x
  stands_on can_poll (Asked f) h gone = absurd (gone f refl)
  stands_on can_poll (Gave v) h gone = (Ready (answer v), ((refl, tt), refl))
  stands_on can_poll Taken h gone = absurd h

  module _ (laws : FutureRunLaws run) where
    came_on : (f : F) (v w : A) (l m : List (Poll R)) → Came answer run f l v → InEachRow answer run v m → w ≡ v
        → Came answer run f (l ++ m) w
    came_on f v w l m h k e =
        subst (λ u. Came answer run f (l ++ m) u) (sym e)
        record {
          ins = h.ins;
          finishes = h.finishes;
          later = h.later ++ m;
          repeats = all_append (λ a. a ≡ Ready (answer v)) h.later m h.repeats k;
          joined = rw (h.joined, append_assoc);
        }

    pub stands_follow : (x y z : Side F A) (l m : List (Poll R)) → Stands answer run x l y → Stands answer run y m z
        → Stands answer run x (l ++ m) z
    stands_follow (Asked f) (Asked g) (Asked j) l m h k =
        (waiting_waiting l m h.0 k.0, laws.follows f g j l m h.0 h.1 k.1)
    stands_follow (Asked f) (Asked g) (Gave v) l m h k =
        record {
          ins = l ++ k.ins;
          finishes = finishes_later laws f g l k.ins (answer v) h.0 h.1 k.finishes;
          later = k.later;
          repeats = k.repeats;
          joined = rw (k.joined, append_assoc);
        }
    stands_follow (Asked f) (Asked g) Taken l m h k = absurd k
    stands_follow (Asked f) (Gave v) (Gave w) l m h k = came_on f v w l m h k.0 (let e = k.1 in cc)
    stands_follow (Asked f) (Gave v) z l m h k = absurd (let e = k.1 in cc)
    stands_follow (Asked f) Taken z l m h k = absurd h
    stands_follow (Gave v) y z l m h k =
        let t = subst (λ u. Stands answer run u m z) h.1 k in (all_append _ l m h.0 t.0, t.1)
    stands_follow Taken y z l m h k = let t = subst (λ u. Stands answer run u m z) h.1 k in (rw (h.0, t.0), t.1)

module _ {F A R : Type 0} (answer : A → R) {run ample : Runs (Poll R) F} where
  -- If no poll needs memory, every run is ample.
  pub stands_found : TakesNone run ample → (x y : Side F A) (l : List (Poll R)) → Stands answer run x l y
      → Stands answer ample x l y
  stands_found takes (Asked f) (Asked g) l h = (h.0, takes f g l h.1)
  stands_found takes (Asked f) (Gave v) l h =
      record {
        ins = h.ins;
        finishes = finishes_found takes f h.ins (answer v) h.finishes;
        later = h.later;
        repeats = h.repeats;
        joined = h.joined;
      }
  stands_found takes x y l h = h

repeats_no_pending : {F A R : Type 0} (answer : A → R) (run : Runs (Poll R) F) (v : A) (l : List (Poll R))
    → InEachRow answer run v l → NoPending l
repeats_no_pending answer run v [] h = tt
repeats_no_pending answer run v (a ∷ l) h = rw h.0 (repeats_no_pending answer run v l h.1)

module _ {F A R : Type 0} (answer : A → R) (run : Runs (Poll R) F) {is_calm : F → Type 0}
    (c : CalmLaws run is_calm) where
  pub stands_calm : (x y : Side F A) (l : List (Poll R)) → IfAsked x is_calm → Stands answer run x l y → NoPending l
      × IfAsked y is_calm
  stands_calm (Asked f) (Asked g) l k h = (c.no_pending f g l k h.1, c.calm_on f g l k h.1)
  stands_calm (Asked f) (Gave v) l k h =
      rw h.joined (
        no_pending_join h.ins h.later (c.no_pending f h.finishes.last h.ins k h.finishes.came)
            (repeats_no_pending answer run v h.later h.repeats),
        tt,
      )
  stands_calm (Asked f) Taken l k h = absurd h
  stands_calm (Gave v) y l k h = rw h.1 (repeats_no_pending answer run v l h.0, tt)
  stands_calm Taken y l k h = rw (h.0, h.1) (tt, tt)

-- What is held after rows of which the last is `Pending`: a future that has no value yet.
module _ {F A R : Type 0} (answer : A → R) {run : Runs (Poll R) F} {registers : F → Lasting → Type 0}
    (a : Arms run registers) where
  pub stands_arms : (x y : Side F A) (l : List (Poll R)) → EndsPending l → Stands answer run x l y
      → IsAskedAnd y (λ f. registers f Lasting.armed)
  stands_arms (Asked f) (Asked g) l e h = a.at f g l e h.1
  stands_arms (Asked f) (Gave v) l e h =
      let joined = pends_join false h.ins h.later in
      absurd (gives_pends false h.ins (answer v) h.finishes.gives
      (no_pends _ h.later (repeats_no_pending answer run v h.later h.repeats) (sym joined ∙ (rw h.joined at e))))
  stands_arms (Asked f) Taken l e h = absurd h
  stands_arms (Gave v) y l e h = absurd (cc (no_pends false l (repeats_no_pending answer run v l h.0) e))
  stands_arms Taken y l e h = absurd (let none = rw h.0 at e in cc none)
