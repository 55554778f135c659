-- Laws of futures that consume a stream.
use Rattle.std.specs.Prelude.{false, ◌≡◌, Option, Some, None, List, [], ◌∷◌, refl}
use Rattle.std.proofs.Common.{◌++◌}
use Rattle.lite_consume.specs.Uses.{Poll, Ready, Pending, Answer, Gives, item, answers_given, answers_taken, Runs}
use Rattle.lite_consume.specs.Uses.{OneAnswer, Segment, FoldsTo, Hints, StreamLaws, items_in}
use Rattle.futures.specs.Task.{Lasting}
use Rattle.lite_base.specs.Armed.{Arms}
use Rattle.lite_base.specs.Laws.Armed.{segments_pend}
use Rattle.lite_base.specs.Answers.{UpToValue, Waiting}
use Rattle.lite_base.specs.Calm.{CalmLaws, NoPending}
use Rattle.lite_base.specs.FutureLaws.{FutureLaws, FutureRunLaws, WaitsOn}
use Rattle.lite_base.specs.Laws.Answers.{up_to_once}
use Rattle.lite_base.specs.Laws.FutureLaws.{future_laws_of}
use Rattle.lite_base.specs.Laws.Segments.{answers_by, to_value_join}
use Rattle.lite_base.specs.Laws.StreamLaws.{runs_of}
use Rattle.lite_base.specs.StreamLaws.{RunLaws}
use Rattle.lite_base.specs.Laws.EachItem.{each_along}
use Rattle.std.specs.List.{AllByRecursion}
use Rattle.lite_consume.specs.Consume.{Returns, CanFold, Folds}
use Rattle.lite_consume.specs.Agreeing.{WithinWhere}
use Rattle.lite_consume.specs.Consuming.{Consumes, Decides, Fold, TakesIn, fold_of}

-- By induction on the stream's results: items are consumed, `Pending`s are passed on, and at last comes the value.
module _ {M A R : Type 0} (fold : Fold M A R) (P : M → List (Answer A) → List (Poll R) → Type 0)
    (taken : (p m : M) (x : A) (i : List (Answer A)) (b : Poll R) (l : List (Poll R)) → TakesIn fold p x m
    → P m i (b ∷ l) → P p (item x ∷ i) (b ∷ l))
    (waits : (p : M) (i : List (Answer A)) (l : List (Poll R)) → P p i l → P p (Pending ∷ i) (Pending ∷ l)) (q : M)
    (settled : (p : M) (o : Option A) (r : R) → Decides fold p (Ready o) (Ready r) q
    → P p (Ready o ∷ []) (Ready r ∷ [])) where
  -- `P` holds of results up to the value. If the future returned nothing, the stream returned nothing.
  abbrev Holds : M → List (Answer A) → List (Poll R) → Type 0
  Holds p i l = (l ≡ [] → (i ≡ []) × (p ≡ q)) × (UpToValue l → P p i l)

  one_given : (p m : M) (a : Answer A) (i : List (Answer A)) (b : Poll R) (l : List (Poll R)) → Decides fold p a b m
      → Holds m i l → Holds p (a ∷ i) (b ∷ l)
  one_given p m Pending i Pending l d h = (λ e. cc e, λ u. waits p i l (rw (← d) (h.1 u)))
  one_given p m (Ready o) i (Ready r) l d h =
      (λ e. cc e, λ u. let none = h.0 u in rw (none.0, u) (settled p o r (rw (← none.1) d)))
  one_given p m _ i _ l d h = absurd d

  pub consumes_steps : (p : M) (i : List (Answer A)) (l : List (Poll R)) → P q [] [] → Consumes fold p i l q → P p i l
  consumes_steps p i l none h =
      (answers_by item (TakesIn fold) (Decides fold) Holds
      (λ p m x i b l t k. (λ e. cc e, λ u. taken p m x i b l t (k.1 u))) one_given p q i l
      (λ e. (refl, refl), λ u. none) h.0).1 h.1

-- What holds of each item that is consumed, and of the result that decides, holds of each result that came before such
-- a value. `kept` says of a state that it holds of all that was consumed.
pub each_consumed : {M A R : Type 0} (fold : Fold M A R) (P : Answer A → Type 0) (kept : M → Type 0) (may : R → Type 0)
    → P Pending → ((p q : M) (x : A) → kept q → TakesIn fold p x q → kept p × P (item x))
    → ((p q : M) (o : Option A) (r : R) → may r → Decides fold p (Ready o) (Ready r) q → kept p × P (Ready o))
    → (p q : M) (i : List (Answer A)) (l : List (Poll R)) (v : R) → may v → Gives l v → Consumes fold p i l q
    → kept p × AllByRecursion P i
each_consumed fold P kept may waits taken decided p q i l v m g h =
    consumes_steps fold (λ p i l. Gives l v → kept p × AllByRecursion P i)
    (λ p n x i b l t k g. let rest = k g in let first = taken p n x rest.0 t in (first.0, (first.1, rest.1)))
    (λ p i l k g. let rest = k g in (rest.0, (waits, rest.1))) q
    (λ p o r d g. let last = decided p q o r (rw g.0 m) d in (last.0, (last.1, tt))) p i l absurd h g

-- Each step of the one fold is a step of the other, by a part of the state, if the value that it returns is of this
-- kind.
module _ {N M A R : Type 0} (part : N → M) (fold : Fold N A R) (other : Fold M A R) {may : R → Type 0}
    (within : WithinWhere may fold (fold_of part other)) where
  decides_by : (p q : N) (o : Option A) (r : R) → may r → Decides fold p (Ready o) (Ready r) q
      → Decides other (part p) (Ready o) (Ready r) (part q)
  decides_by p q None r m h = within.closes p q r m h
  decides_by p q (Some x) r m h = within.asks p q x (Some r) m h

  pub consumes_by : (p q : N) (i : List (Answer A)) (l : List (Poll R)) → ((r : R) → Gives l r → may r)
      → Consumes fold p i l q → Consumes other (part p) i l (part q)
  consumes_by p q i l m h =
      consumes_steps fold (λ p i l. ((r : R) → Gives l r → may r) → Consumes other (part p) i l (part q))
      (λ p n x i b l t k m. let rest = k m in (
        answers_taken item (TakesIn other) (Decides other) (part p) (part n) (part q) x i b l
            (within.asks p n x None tt t) rest.0,
        rest.1,
      ))
      (λ p i l k m. let rest = k m in (
        answers_given item (TakesIn other) (Decides other) (part p) (part p) (part q) Pending i Pending l refl rest.0,
        rest.1,
      ))
      q
      (λ p o r d m. (
        answers_given item (TakesIn other) (Decides other) (part p) (part q) (part q) (Ready o) [] (Ready r) []
            (decides_by p q o r (m r (refl, refl)) d) (refl, refl),
        refl,
      ))
      p i l (λ m. ((refl, refl), tt)) h m

module _ {S M A R : Type 0} {run : Runs (Answer A) S} (fold : Fold M A R) where
  pub consumed_runs : RunLaws run → FutureRunLaws (Folds run fold)
  consumed_runs laws =
      record {
        rests = λ x. record { ins = []; came = laws.rests x.stream; consumed = ((refl, refl), tt) };
        stays = λ x y h.
            let e = laws.stays x.stream y.stream (rw (← h.consumed.0.0) h.came) in
            λ i. record { stream = e i; folder = h.consumed.0.1 i };
        follows = λ x y z l m w h k.
            record {
              ins = h.ins ++ k.ins;
              came = laws.follows x.stream y.stream z.stream h.ins k.ins h.came k.came;
              consumed = to_value_join (Segment item (TakesIn fold) (OneAnswer (Decides fold))) x.folder y.folder
                  z.folder h.ins k.ins l m w h.consumed k.consumed;
            };
        once = λ x y l h. up_to_once l h.consumed.1;
      }

  -- The future is never pending if its stream never is: no `Pending` is made up.
  pub consumed_calm : {is_calm : S → Type 0} → CalmLaws run is_calm → CalmLaws (Folds run fold) (λ x. is_calm x.stream)
  consumed_calm c =
      record {
        no_pending = λ x y l k h.
            consumes_steps fold (λ p i l. NoPending i → NoPending l) (λ p m x i b l t k. k) (λ p i l k. absurd) y.folder
            (λ p o r d e. tt) x.folder h.ins l (λ e. e) h.consumed (c.no_pending x.stream y.stream h.ins k h.came);
        calm_on = λ x y l k h. c.calm_on x.stream y.stream h.ins k h.came;
      }

-- The future is pending only when the stream is.
decides_pending : {M A R : Type 0} (fold : Fold M A R) (p q : M) (a : Answer A) → Decides fold p a Pending q
    → a ≡ Pending
decides_pending fold p q Pending h = refl
decides_pending fold p q (Ready o) h = absurd h

-- The future is armed if its stream is.
pub consumed_arms : {S M A R : Type 0} {run : Runs (Answer A) S} {registers : S → Lasting → Type 0}
    (fold : Fold M A R) → Arms run registers → Arms (Folds run fold) (λ x. registers x.stream)
consumed_arms fold a =
    record {
      at = λ x y l e h.
          let pends = segments_pend (TakesIn fold) (Decides fold) (decides_pending fold) x.folder y.folder h.ins l
          h.consumed.0 false e in
          a.at x.stream y.stream h.ins pends h.came;
    }

-- Such a future may be polled again while it has no value.
module _ {S M A R : Type 0} {run : Runs (Answer A) S} {fold : Fold M A R} {counts : S → Type 0} {is_open : M → Type 0}
    (returns : Returns run fold counts is_open) where
  still_open : (p q : M) (i : List (Answer A)) (l : List (Poll R)) → Waiting l → is_open p → Consumes fold p i l q
      → is_open q × FoldsTo (λ p x q. (o : Unit {0}) × TakesIn fold p x q) p (items_in i) q
  still_open p q i l w o h =
      consumes_steps fold
      (λ p i l. Waiting l → is_open p
      → is_open q × FoldsTo (λ p x q. (o : Unit {0}) × TakesIn fold p x q) p (items_in i) q)
      (λ p m x i b l t k w o. let e = k w (returns.opens p m x o t) in (e.0, (m, (tt, t), e.1)))
      (λ p i l k w o. k w o) q (λ p a r d w o. absurd w) p i l (λ w o. (o, refl)) h w o

  consumed_on : {can_poll : S → Type 0} {hints : Hints S} {can_take : M → A → Type 0} → StreamLaws can_poll run hints
      → WaitsOn (CanFold run fold can_poll counts is_open can_take) (Folds run fold)
  consumed_on laws x y l w c h =
      let e = still_open x.folder y.folder h.ins l w c.2 h.consumed in (
        laws.polls_on x.stream y.stream h.ins c.0 h.came,
        returns.counts_on x.stream y.stream h.ins c.1 h.came,
        e.0,
        each_along laws h.ins c.3 h.came e.1,
      )

  pub consumed_laws : {can_poll : S → Type 0} {hints : Hints S} {can_take : M → A → Type 0}
      → StreamLaws can_poll run hints
      → FutureLaws (CanFold run fold can_poll counts is_open can_take) (Folds run fold)
  consumed_laws laws = future_laws_of (consumed_runs fold (runs_of laws)) (consumed_on laws)
