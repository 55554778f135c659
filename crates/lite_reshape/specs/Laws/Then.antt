-- Laws about `then`, whose items are replaced by the results of futures.
use Rattle.std.specs.Prelude.{IfSome, cond, nat_lt, ◌≡◌, ℕ, ◌+◌, ◌-◌, ◌^◌, List, [], ◌∷◌, ◌++◌, Option, Some, None, Bool, true, false}
use Rattle.std.proofs.Common.{◌≤◌, map}
use Rattle.lite_reshape.specs.Uses.{Mut, refl, arith, Poll, Ready, Pending, count_held, OptionBy, SameItem, Sameness}
use Rattle.lite_reshape.specs.Uses.{Answer, Gives, item, CalmLaws, NoPending, handed, no_pending_join, same_hint}
use Rattle.lite_reshape.specs.Uses.{SteadyLawsBy, makes_on, AgreeFrom, Calls, agree_from_matches, Hints, Question}
use Rattle.lite_reshape.specs.Uses.{◌∙◌, sym, FoldsTo, PollsOn, Runs, StreamLaws, ap, each_along, items_in, subst}
use Rattle.futures.specs.Task.{Lasting}
use Rattle.lite_base.specs.Armed.{Arms, EndsPending}
use Rattle.lite_base.specs.Laws.Armed.{pends_handed, pends_later}
use Rattle.lite_reshape.specs.Laws.Arming.{before_held, expanding_pends, held_armed}
use Rattle.lite_base.specs.FutureLaws.{FutureLaws, FutureRunLaws}
use Rattle.lite_base.specs.Laws.Alike.{alike_agrees}
use Rattle.lite_base.specs.Laws.Spent.{handed_no_pending, handed_waiting, shown_gives, spends_follow, spends_found, spends_rest, spends_stay}
use Rattle.lite_base.specs.Laws.FutureLaws.{future_runs_of}
use Rattle.lite_base.specs.Steady.{FutureSteadyLawsBy}
use Rattle.lite_stream.specs.Laws.Agreeing.{through_steady_by}
use Rattle.lite_stream.specs.Laws.Through.{bounded_by, laws_bounded}
use Rattle.lite_reshape.specs.FlatMap.{EachMade}
use Rattle.lite_reshape.specs.Laws.Calming.{expanding_calm, through_calm_by}
use Rattle.lite_reshape.specs.Laws.Expanding.{FollowLaws, GivingOne, expanding_bounded, expanding_by, expanding_following}
use Rattle.lite_reshape.specs.Expanding.{Expanding, HeldRegisters}
use Rattle.lite_reshape.specs.Laws.SteadyExpanding.{OneMade, expanding_agreeing, expanding_found}
use Rattle.lite_reshape.specs.Then.{CanThen, HandsOut, MakesEach, Thens, one_more_at_most, then_hint, then_parts}
use Rattle.lite_reshape.specs.declared.then.Then.{Then}

module _ {B : Type 0} where
  one_handed : (l : List (Poll B)) (x : B) → Gives l x → Gives (map (handed Some) l ++ []) (Some x)
  one_handed [] x h = absurd h
  one_handed (Pending ∷ l) x h = one_handed l x h
  one_handed (Ready y ∷ l) x h = rw (h.0, h.1) (refl, refl)

module _ {V B : Type 0} {run : Runs (Poll B) V} where
  hands_giving : FutureRunLaws run → FollowLaws (HandsOut run)
  hands_giving laws =
      record {
        rests = λ v. spends_rest (handed Some) (λ after. after ≡ []) laws refl (Some v);
        stays = λ v w h. cc (spends_stay (handed Some) (λ after. after ≡ []) laws (Some v) (Some w) h);
        answers = λ v h. shown_gives _ h.ins h.after h.value h.joined h.finishes.gives;
        joins = λ v w next l m. spends_follow (handed Some) (λ after. after ≡ []) laws (λ j k e d. rw (e, d))
            (Some v) (Some w) next l m;
      }

  pub hands_one : GivingOne (HandsOut run)
  hands_one =
      record {
        waits = λ v w l h. rw h.3 (handed_waiting Some h.0 h.1);
        hands = λ v l h. (h.value, rw (h.joined, h.later) (one_handed h.ins h.value h.finishes.gives));
      }

-- One poll of a future.
module _ {V B : Type 0} (run : Runs (Poll B) V) {v w : V} {a : Poll B} where
  pub hands_pending : a ≡ Pending → run v (a ∷ []) w → HandsOut run v (Pending ∷ []) (Some w)
  hands_pending is came = (Pending ∷ [], tt, rw is at came, refl)

  pub hands_value : {y : B} → a ≡ Ready y → run v (a ∷ []) w → HandsOut run v (item y ∷ []) None
  hands_value {y} is came =
      record {
        ins = Ready y ∷ [];
        value = y;
        finishes = record { gives = (refl, refl); last = w; came = rw is at came };
        after = [];
        later = refl;
        joined = refl;
      }

pub ruleset hands_rules = (hands_pending, hands_value)

bounded_if : (b : Bool) (k n : ℕ) → k ≤ n + 1 → IfSome (cond b (Some (n + 1)) None) (λ most. k ≤ most)
bounded_if true k n h = h
bounded_if false k n h = tt

bounded_some : (most : Option ℕ) (k n : ℕ) → k ≤ n + 1 → IfSome most (λ m. n ≤ m)
    → IfSome (one_more_at_most most) (λ m. k ≤ m)
bounded_some None k n h b = tt
bounded_some (Some m) k n h b = bounded_if (nat_lt m (2 ^ 64 - 1)) k m (omega (arith, h, b))

then_bounded : {V : Type 0} (held : Option V) (hint : ℕ × Option ℕ) (k n : ℕ) → k ≤ n + count_held held
    → IfSome hint.1 (λ most. n ≤ most)
    → IfSome (then_hint held hint).1 (λ most. k ≤ most)
then_bounded None hint k n h b = bounded_by hint.1 (omega (arith, h)) b
then_bounded (Some v) hint k n h b = bounded_some hint.1 k n h b

module _ {V B : Type 0} (same : Sameness B) {gives found : Runs (Poll B) V} {none : Type 0} {alike : V → V → Type 0}
    (s : FutureSteadyLawsBy same gives found none alike) where
  hands_alike : OneMade (hands_one {run = found}) same alike
  unfolding hands_one
  hands_alike v w l m a h k = alike_agrees found v w (s.steady v w a) h.ins k.ins h.value k.value h.finishes k.finishes

  -- The steadiness of `then`: the functions make futures that are alike of items that are the same.
  pub then_steady : {S F A : Type 0} (like : Sameness A) (call : Question F A V) {run ample : Runs (Answer A) S}
      {none' : Type 0} {alike' : S → S → Type 0} → SteadyLawsBy like run ample none' alike'
      → SteadyLawsBy same (Thens run call gives) (Thens ample call found) (none' × none)
      (λ (x y : Then S F V). alike' x.stream y.stream
      × (AgreeFrom (SameItem like) alike call x.f y.f × OptionBy alike x.future y.future))
  then_steady like call outer =
      through_steady_by then_parts like same outer (expanding_following call _ (hands_giving s.laws))
      (expanding_agreeing hands_one call like same (agree_from_matches _ alike call) hands_alike)
      (λ n. (
        n.0,
        expanding_found call
            (λ v l next. spends_found (handed Some) (λ after. after ≡ []) (s.found n.1) (Some v) next l),
      ))

module _ {V B : Type 0} {gives : Runs (Poll B) V} {calm : V → Type 0} (c : CalmLaws gives calm) where
  hands_calm : (v : V) (l : List (Answer B)) (next : Option V) → calm v → HandsOut gives v l next → NoPending l
      × IfSome next calm
  hands_calm v l (Some w) k h =
      (rw h.3 (handed_no_pending Some h.0 (c.no_pending v w h.0 k h.2)), c.calm_on v w h.0 k h.2)
  hands_calm v l None k h =
      let ins = handed_no_pending Some h.ins (c.no_pending v h.finishes.last h.ins k h.finishes.came) in
      (rw (h.joined, h.later) (no_pending_join (map _ h.ins) [] ins tt), tt)

  -- A `then` is calm, if its source is and its function makes calm futures.
  pub then_calm : {S F A : Type 0} (g : Mut F (A × Unit {0}) V) {run : Runs (Answer A) S} {is_calm : S → Type 0}
      → CalmLaws run is_calm
      → CalmLaws (Thens run (Calls g) gives) (λ (m : Then S F V). is_calm m.stream × EachMade g calm m.f m.future)
  then_calm g d =
      through_calm_by then_parts d
      (expanding_calm _ _ (λ f x. makes_on g calm f (x, tt)) hands_calm)

-- What is held of the values that a closure makes of the source's items, and the calls that make them. `Fact` holds of
-- what is made of the last item, and of what remains of a value of which it holds.
module _ {F A V B : Type 0} (call : Question F A V) (gives : V → List (Answer B) → Option V → Type 0)
    (Fact : V → Type 0) (kept : (v w : V) (l : List (Answer B)) → Fact v → gives v l (Some w) → Fact w) where
  -- After items of the list, `Fact` holds of the value that the closure makes of the last one.
  abbrev LastMakes : F → List (Answer A) → Type 0
  LastMakes f i =
      (before : List (Answer A)) (x : A) (p q : F) (v : V) → i ≡ before ++ item x ∷ []
      → FoldsTo (λ p x q. (v : V) × call p x v q) f (items_in before) p → call p x v q → Fact v

  held_on : (s t : F × Option V) (i : List (Answer A)) (o : List (Answer B)) → Expanding call gives s i o t
      → LastMakes s.0 i → (i ≡ [] → IfSome s.1 Fact)
      → IfSome t.1 Fact × FoldsTo (λ p x q. (v : V) × call p x v q) s.0 (items_in i) t.0
  held_on s t =
      expanding_by call gives t
      (λ s i o. LastMakes s.0 i → (i ≡ [] → IfSome s.1 Fact)
      → IfSome t.1 Fact × FoldsTo (λ p x q. (v : V) × call p x v q) s.0 (items_in i) t.0)
      (λ e each held. (rw e tt, refl))
      (λ v w o ran e each held. (rw e (kept v w o (held refl) ran), refl))
      (λ p v i own rest ran k each held. k each (λ e. tt))
      (λ p i o k each held.
      k (λ before x r q v e. each (Pending ∷ before) x r q v (ap (λ l. Pending ∷ l) e)) (λ e. tt))
      (λ p i o k each held.
      k (λ before x r q v e. each (Ready None ∷ before) x r q v (ap (λ l. Ready None ∷ l) e)) (λ e. tt))
      (λ p r x v i b o called k each held.
      let m = k
      (λ before y n q w e f. each (item x ∷ before) y n q w (ap (λ l. item x ∷ l) e) (r, (v, called), f))
      (λ e. each [] x p r v (ap (λ l. item x ∷ l) e) refl called) in
      (m.0, (r, (v, called), m.1))) s

-- A `then` may be polled after any run.
then_on : {S F V A B : Type 0} (g : Mut F (A × Unit {0}) V) {run : Runs (Answer A) S} {can_poll : S → Type 0}
    {hints : Hints S} {gives : Runs (Poll B) V} {can_made : V → Type 0} → StreamLaws can_poll run hints
    → FutureLaws can_made gives
    → PollsOn (CanThen can_poll (MakesEach run g can_made) can_made) (Thens run (Calls g) gives)
then_on g {run} {gives} {can_made} laws laws' x y l k h =
    let e = held_on (Calls g) (HandsOut gives) can_made (λ v w m c d. laws'.waits_on v w d.0 d.1 c d.2) (x.f, x.future)
    (y.f, y.future) h.ins l h.related
    (λ before a p q v e f c. (k.1.at before a y.stream p (subst (λ i. run x.stream i y.stream) e h.came) f).1 v q c)
    (λ e. k.2) in
    (laws.polls_on x.stream y.stream h.ins k.0 h.came, each_along laws h.ins k.1 h.came e.1, e.0)

pub then_laws : {S F V A B : Type 0} (g : Mut F (A × Unit {0}) V) {gives : Runs (Poll B) V} {run : Runs (Answer A) S}
    {can_poll : S → Type 0} {hints : Hints S} {can_made : V → Type 0} → StreamLaws can_poll run hints
    → FutureLaws can_made gives
    → StreamLaws (CanThen can_poll (MakesEach run g can_made) can_made) (Thens run (Calls g) gives)
    (λ (m : Then S F V) hint. (inner : ℕ × Option ℕ) × hints m.stream inner × (hint ≡ then_hint m.future inner))
then_laws g laws laws' =
    laws_bounded then_parts laws (expanding_following _ _ (hands_giving (future_runs_of laws'))) (then_on g laws laws')
    (λ x y hint l e h.
    let fewer = expanding_bounded _ _ hands_one (x.f, x.future) (y.f, y.future) h.ins l h.related in
    same_hint hint (then_hint x.future e.0) l e.2
    (then_bounded x.future e.0 _ _ fewer (laws.bounded x.stream y.stream e.0 h.ins e.1 h.came)))

-- A `then` is armed if its source and the futures that its function makes are.
module _ {V B : Type 0} {gives : Runs (Poll B) V} {registers' : V → Lasting → Type 0} (b : Arms gives registers') where
  hands_still : (v w : V) (l : List (Answer B)) → HandsOut gives v l (Some w) → EndsPending l
      → registers' w Lasting.armed
  hands_still v w l h e = b.at v w h.0 (sym (pends_handed Some false h.0) ∙ (rw h.3 at e)) h.2

  hands_done : (v : V) (l : List (Answer B)) → HandsOut gives v l None → EndsPending l → ⊥
  hands_done v l h e =
      let later = pends_later Some h.ins h.value h.after h.finishes.gives (rw h.joined at e) in
      let none = rw h.later at later in cc none

  pub then_arms : {S F A : Type 0} (g : Mut F (A × Unit {0}) V) {run : Runs (Answer A) S}
      {registers : S → Lasting → Type 0} → Arms run registers
      → Arms (Thens run (Calls g) gives) (λ (m : Then S F V). HeldRegisters registers registers' m.stream m.future)
  then_arms g a =
      record {
        at = λ x y l e h.
            held_armed registers' a x.stream y.stream y.future h.ins h.came
            (expanding_pends (Calls g) (HandsOut gives) _ hands_still hands_done (x.f, x.future) (y.f, y.future) h.ins l
            h.related false false (before_held x.future) e);
      }
