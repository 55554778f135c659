-- Laws about `step_by`. Its count of items to leave out says which number comes next.
use Rattle.std.specs.Prelude.{◌≡◌, ◌==◌, ℕ, ◌+◌, ◌%◌, ◌<◌, ◌-◌, List, [], ◌∷◌, ◌++◌, Option, Some, None}
use Rattle.std.proofs.Common.{◌≤◌, ne_eqb}
use Rattle.lite_reshape.specs.Uses.{◌∙◌, refl, ap, subst, sym, append-nil, arith, Sameness, Answer, before_end, Lowers, comparable_nil}
use Rattle.lite_reshape.specs.Uses.{Runs, AgreeingOver, Calming, Relating, Through, Hints, PollsOn, StreamLaws}
use Rattle.std.proofs.Math.Nat.{add-mod-mod, mod-add-mod, mod-eq_of_lt, mod_self}
use Rattle.lite_reshape.specs.Laws.Agreeing.{leaves_selecting}
use Rattle.lite_stream.specs.Laws.Arming.{Arming}
use Rattle.lite_reshape.specs.Laws.Leaving.{leaves_arming, leaves_as, leaves_calming, leaves_relating}
use Rattle.lite_reshape.specs.Leaving.{LeavesOut}
use Rattle.lite_reshape.specs.StepBy.{CanStep, IsAt, Numbered, StepsBy, StepsOn}

-- One item, by the step and the count of items that are still to be left out.
abbrev pub Countdown : {A : Type 0} → ℕ × ℕ → A → Option A → ℕ × ℕ → Type 0
Countdown p x None q = (q.0 ≡ p.0) × (p.1 ≡ q.1 + 1)
Countdown p x (Some y) q = (q.0 ≡ p.0) × (p.1 ≡ 0) × (y ≡ x) × (q.1 + 1 ≡ p.0)

-- A multiple of the step does not change the remainder.
past_multiple : (s n d : ℕ) → d % s ≡ 0 → (n + d) % s ≡ n % s
past_multiple s n d e = sym (add-mod-mod n d s) ∙ ap (λ k. (n + k) % s) e ∙ ap (λ k. k % s) ((omega arith))

-- A number that is fewer than the step before a multiple of it, and not one itself, is no multiple.
not_multiple : (s n i : ℕ) → i < s → 0 < i → (n + i) % s ≡ 0 → n % s ≡ 0 → ⊥
not_multiple s n i less more at here =
    let left : i % s ≡ 0 = sym (past_multiple s i n here) ∙ ap (λ k. k % s) (sym (omega arith)) ∙ at in
    omega (arith, left, mod-eq_of_lt less, more)

is_at_later : (p : ℕ × ℕ) (n d : ℕ) → d % p.0 ≡ 0 → IsAt p n → IsAt p (n + d)
is_at_later p n d e h = (h.0, ap (λ k. k % p.0) (omega arith) ∙ past_multiple p.0 (n + p.1) d e ∙ h.1)

module _ {A : Type 0} (s : ℕ) where
  -- One item, by its number.
  abbrev NumberSteps : ℕ → A → Option A → ℕ → Type 0
  NumberSteps = Numbered s

  -- One item, by the count of items that are still to be left out. The step stays as it is.
  abbrev CountsItems : ℕ × ℕ → A → Option A → ℕ × ℕ → Type 0
  CountsItems = Countdown

  -- The number and the count go on together.
  module _ (p q : ℕ × ℕ) (n : ℕ) (x : A) where
    counted : (o : Option A) → (p.0 ≡ s) × IsAt p n → CountsItems p x o q → (m : ℕ) × ((q.0 ≡ s) × IsAt q m)
        × NumberSteps n x o m
    counted None r h =
        let step : q.0 ≡ s = h.0 ∙ r.0 in
        let at : (n + p.1) % s ≡ 0 = rw r.0 at r.1.1 in
        let less : p.1 < p.0 = r.1.0 in (
          n + 1,
          (step, (omega (arith, less, h.0, h.1), rw step (ap (λ k. k % s) (omega (arith, h.1)) ∙ at))),
          (ne_eqb _ _ (not_multiple s n p.1 (omega (arith, less, r.0)) (omega (arith, h.1)) at), refl),
        )
    counted (Some y) r h =
        let step : q.0 ≡ s = h.0 ∙ r.0 in
        let at : (n + p.1) % s ≡ 0 = rw r.0 at r.1.1 in
        let here : n % s ≡ 0 = ap (λ k. k % s) (omega (arith, h.1)) ∙ at in (
          n + 1,
          (
            step,
            (
              omega (arith, h.0, h.3),
              rw step (ap (λ k. k % s) (omega (arith, h.3, r.0)) ∙ past_multiple s n s (mod_self s) ∙ here),
            ),
          ),
          (h.2, (ap (λ k. k == 0) here, refl)),
        )

  module _ (d : ℕ) (e : d % s ≡ 0) where
    module _ (p q n : ℕ) (x : A) where
      as_before : n ≡ p + d → (n % s == 0) ≡ (p % s == 0)
      as_before g = ap (λ k. k % s == 0) g ∙ ap (λ k. k == 0) (past_multiple s p d e)

      later : (o : Option A) → n ≡ p + d → NumberSteps p x o q → (m : ℕ) × (m ≡ q + d) × NumberSteps n x o m
      later None g h = (n + 1, omega (arith, g, h.1), (as_before g ∙ h.0, refl))
      later (Some y) g h = (n + 1, omega (arith, g, h.1.1), (h.0, (as_before g ∙ h.1.0, refl)))

    -- All numbers may be later by a multiple of the step.
    shifted : (n m : ℕ) (i o : List (Answer A)) → LeavesOut NumberSteps n i o m
        → LeavesOut NumberSteps (n + d) i o (m + d)
    shifted n m i o h =
        let k = leaves_as NumberSteps NumberSteps _ later n m (n + d) i o refl h in
        rw k.1 at k.2

module _ {A : Type 0} where
  -- Results that follow others go on with their numbers.
  module _ (p q r : ℕ × ℕ) (i j : List (Answer A)) where
    steps_join : (b c : Answer A) (l m : List (Answer A)) → StepsOn p i (b ∷ l) q → StepsOn q j (c ∷ m) r
        → StepsOn p (i ++ j) (b ∷ l ++ c ∷ m) r
    steps_join b c l m h k =
        let first = h.2 + q.1 in
        let second = k.1 + q.1 in
        let by_first : first % p.0 ≡ 0 = subst (λ z. first % z ≡ 0) h.0 h.4.1 in
        let by_second : second % p.0 ≡ 0 = subst (λ z. second % z ≡ 0) h.0 k.3.1 in
        let ahead = shifted p.0 second by_second h.1 h.2 i (b ∷ l) h.5 in
        let behind = shifted p.0 first by_first k.1 k.2 j (c ∷ m)
        (subst (λ z. LeavesOut (Numbered z) k.1 j (c ∷ m) k.2) h.0 k.5) in
        let meet : k.1 + first ≡ h.2 + second = omega arith in
        let last = is_at_later r k.2 first (subst (λ z. first % z ≡ 0) (sym (k.0 ∙ h.0)) by_first) k.4 in (
          k.0 ∙ h.0,
          h.1 + second,
          k.2 + first,
          is_at_later p h.1 second by_second h.3,
          last,
          (leaves_relating (Numbered p.0)).following.joins (h.1 + second) (h.2 + second) (k.2 + first) i j (b ∷ l)
              (c ∷ m) ahead
              (subst (λ z. LeavesOut (Numbered p.0) z j (c ∷ m) (k.2 + first)) meet behind),
        )

    steps_follow : (l m : List (Answer A)) → StepsOn p i l q → StepsOn q j m r → StepsOn p (i ++ j) (l ++ m) r
    steps_follow [] m h k = rw h.0 (rw (← h.1) k)
    steps_follow (b ∷ l) [] h k =
        rw (ap (λ z. i ++ z) k.0 ∙ append-nil i) (subst (λ z. StepsOn p i z r) (sym (append-nil (b ∷ l))) (rw k.1 h))
    steps_follow (b ∷ l) (c ∷ m) h k = steps_join b c l m h k

  module _ (p q : ℕ × ℕ) (i : List (Answer A)) where
    steps_bounded : (o : List (Answer A)) → StepsOn p i o q → before_end o ≤ before_end i
    steps_bounded [] h = omega arith
    steps_bounded (b ∷ o) h = (leaves_relating (Numbered p.0)).bounds h.1 h.2 i (b ∷ o) h.5

    steps_lower : (o : List (Answer A)) (xs ys : List ℕ) → StepsOn p i o q → Lowers i xs ys → Lowers o xs ys
    steps_lower [] xs ys h k = rw h.0 at k
    steps_lower (b ∷ o) xs ys h k = (leaves_relating _).lowers h.1 h.2 i (b ∷ o) xs ys h.5 k

  pub steps_relating : Relating (StepsOn {A = A})
  steps_relating =
      record {
        following = record { starts = λ p. (refl, refl); empty = λ p q i h. h; joins = steps_follow };
        bounds = steps_bounded;
        lowers = steps_lower;
        from_items = λ p q i y l h. (leaves_relating _).from_items h.1 h.2 i y l h.5;
      }

  -- One poll that counts down.
  pub stepped : {S : Type 0} (run : Runs (Answer A) S) (x y : S) (p q : ℕ × ℕ) (b : Answer A) → p.1 < p.0
      → Through run (LeavesOut Countdown) x p (b ∷ []) y q → Through run StepsOn x p (b ∷ []) y q
  stepped run x y p q b less h =
      let at : IsAt p (p.0 - p.1) = (less, ap (λ k. k % p.0) (omega (arith, less)) ∙ mod_self p.0) in
      let e =
      leaves_as Countdown _ _ (counted p.0) p q (p.0 - p.1) h.ins
      (b ∷ []) (refl, at) h.related in
      record { ins = h.ins; came = h.came; related = (e.1.0, p.0 - p.1, e.0, at, e.1.1, e.2) }

-- Two numbers, each `i` less than a multiple of the step, have the same remainder.
module _ (s n m : ℕ) where
  same_remainder : (i : ℕ) → (n + i) % s ≡ 0 → (m + i) % s ≡ 0 → n % s ≡ m % s
  same_remainder i h k =
      sym (past_multiple s n (m + i) k) ∙ ap (λ v. v % s) (omega arith) ∙ past_multiple s m (n + i) h

  next_remainder : n % s ≡ m % s → (n + 1) % s ≡ (m + 1) % s
  next_remainder e = sym (mod-add-mod n s 1) ∙ ap (λ k. (k + 1) % s) e ∙ mod-add-mod m s 1

module _ {A : Type 0} where
  -- Two streams agree, if their steps and their counts are equal.
  pub steps_agreeing : (like : Sameness A) → AgreeingOver like like (StepsOn {A = A}) (λ p q. (q.0 ≡ p.0) × (q.1 ≡ p.1))
  steps_agreeing like p q r t i j [] l e h k c = tt
  steps_agreeing like p q r t i j (a ∷ o) [] e h k c = comparable_nil _ _
  steps_agreeing like p q r t i j (a ∷ o) (b ∷ l) e h k c =
      let at : (k.1 + p.1) % p.0 ≡ 0 =
      subst (λ z. (k.1 + z) % p.0 ≡ 0) e.1 (subst (λ z. (k.1 + q.1) % z ≡ 0) e.0 k.3.1) in
      leaves_selecting (λ n x. n % p.0 == 0) (λ n x. n + 1) like (λ n m. n % p.0 ≡ m % p.0)
      (λ n m x w r s. (ap (λ k. k == 0) r, next_remainder p.0 n m r)) h.1 k.1 h.2 k.2 i j (a ∷ o) (b ∷ l)
      (same_remainder p.0 h.1 k.1 p.1 h.3.1 at) h.5
      (subst (λ z. LeavesOut (Numbered z) k.1 j (b ∷ l) k.2) e.0 k.5) c

  -- No `Pending` is added.
  pub steps_calming : Calming (StepsOn {A = A})
  steps_calming p q i [] h = omega arith
  steps_calming p q i (b ∷ o) h = leaves_calming (Numbered p.0) h.1 h.2 i (b ∷ o) h.5

  pub steps_arming : Arming (StepsOn {A = A})
  steps_arming p q i [] h b e = rw h.0 e
  steps_arming p q i (c ∷ o) h b e = leaves_arming (Numbered p.0) h.1 h.2 i (c ∷ o) h.5 b e

steps_less : {A : Type 0} (p q : ℕ × ℕ) (i o : List (Answer A)) → p.1 < p.0 → StepsOn p i o q → q.1 < q.0
steps_less p q i [] less h = rw h.1 less
steps_less p q i (b ∷ o) less h = h.4.0

-- A `step_by` may be polled after any run.
pub steps_on : {S A : Type 0} {run : Runs (Answer A) S} {can_poll : S → Type 0} {hints : Hints S}
    → StreamLaws can_poll run hints → PollsOn (CanStep can_poll) (StepsBy run)
steps_on laws x y l c h =
    (laws.polls_on x.stream y.stream h.ins c.0 h.came, steps_less (x.step, x.i) (y.step, y.i) h.ins l c.1 h.related)
