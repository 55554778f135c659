-- A future that is polled up to its value, and at most so many times.
use Rattle.std.proofs.Common.{◌≡◌, ℕ, ◌+◌, ◌<◌, ◌≤◌, List, [], ◌∷◌, ◌++◌, length, arith, refl}
use Rattle.futures.specs.declared.task.Poll.{Poll}
use Rattle.futures.specs.declared.task.Poll.TheVariants.{Ready, Pending}
use Rattle.lite_base.specs.Answers.{UpToValue, Waiting}

-- The results are as many `Pending`s as there are polls, or fewer and then the value.
pub record PolledUpTo {A : Type 0} (polls : ℕ) (l : List (Poll A)) : Type 0 where
  pub value_last : UpToValue l
  pub few : length l ≤ polls
  pub all : Waiting l → length l ≡ polls

waiting_more : {A : Type 0} (l : List (Poll A)) → Waiting l → Waiting (l ++ Pending ∷ [])
waiting_more [] w = tt
waiting_more (Pending ∷ l) w = waiting_more l w
waiting_more (Ready x ∷ l) w = absurd w

value_more : {A : Type 0} (l : List (Poll A)) (x : A) → Waiting l → UpToValue (l ++ Ready x ∷ [])
    × (Waiting (l ++ Ready x ∷ []) → ⊥) × (length (l ++ Ready x ∷ []) ≡ length l + 1)
value_more [] x w = (refl, λ h. h, refl)
value_more (Pending ∷ l) x w = let e = value_more l x w in (e.0, e.1, omega (arith, e.2))
value_more (Ready y ∷ l) x w = absurd w

waiting_value : {A : Type 0} (l : List (Poll A)) → Waiting l → UpToValue l
waiting_value [] w = tt
waiting_value (Pending ∷ l) w = waiting_value l w
waiting_value (Ready x ∷ l) w = absurd w

waiting_length : {A : Type 0} (l : List (Poll A)) → length (l ++ Pending ∷ []) ≡ length l + 1
waiting_length [] = refl
waiting_length (a ∷ l) = let e = waiting_length l in omega (arith, e)

-- One more poll, which is pending.
pub pends_more : {A : Type 0} (l : List (Poll A)) (n : ℕ) → Waiting l → length l ≡ n → Waiting (l ++ Pending ∷ [])
    × (length (l ++ Pending ∷ []) ≡ n + 1)
pends_more l n w e = (waiting_more l w, let d = waiting_length l in omega (arith, d, e))

-- One more poll, which returns the value.
pub ends_polled : {A : Type 0} (l : List (Poll A)) (x : A) (n polls : ℕ) → Waiting l → length l ≡ n → n < polls
    → PolledUpTo polls (l ++ Ready x ∷ [])
ends_polled l x n polls w e less =
    let v = value_more l x w in
    record { value_last = v.0; few = (let d = v.2 in omega (arith, d, e, less)); all = λ h. absurd (v.1 h) }

-- No value came so far.
pub waits_polled : {A : Type 0} (l : List (Poll A)) (polls : ℕ) → Waiting l → length l ≡ polls → PolledUpTo polls l
waits_polled l polls w e = record { value_last = waiting_value l w; few = omega (arith, e); all = λ h. e }
