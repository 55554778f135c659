-- How many bytes stand before a byte that was looked for.
use Rattle.std.specs.Prelude.{◌≡◌, ◌≢◌, ◌<◌, ◌≤◌, ◌+◌, ◌==◌, ℕ, Bool, true, List, [], ◌∷◌, Some, None, length}
use Rattle.lite_read.specs.Uses.{false, refl, arith, get_or, eqb-true, eq-eqb, length-take-le, zero, suc, before_first, IsFirstByte, is_byte}
use Rattle.std.proofs.lemmas.List.Sums.{position_or_len_is}
use Rattle.lite_read.specs.Pieces.{through_first}

not_true : (b : Bool) → (b ≡ true → ⊥) → b ≡ false
not_true true n = absurd (n refl)
not_true false n = refl

module _ (byte : ℕ) where
  -- before the first
  pub before_found : (xs : List ℕ) (k : ℕ) → IsFirstByte (is_byte byte) xs (Some k)
      → length (before_first (is_byte byte) xs) ≡ k
  before_found xs k first =
      rw (position_or_len_is (is_byte byte) xs k 0 (omega (arith, first.0.high))
      (λ i small. not_true _ (first.0.before i (omega arith) small)) (λ inside. first.1))
      (length-take-le k xs (omega (arith, first.0.high)))

  -- where there is none
  pub before_none : (xs : List ℕ) → IsFirstByte (is_byte byte) xs None
      → length (before_first (is_byte byte) xs) ≡ length xs
  before_none xs none =
      rw (position_or_len_is (is_byte byte) xs (length xs) 0 (omega arith)
      (λ i small. not_true _ (none i (omega arith) small)) (λ inside. absurd (omega (arith, inside))))
      (length-take-le (length xs) xs (omega arith))

  other : (b : ℕ) → b ≢ byte → (b == byte) ≡ false
  other b n = not_true (b == byte) (λ e. n (eqb-true b byte e))

  -- up to the first, with it
  through_far : (xs : List ℕ) (k : ℕ) → k < length xs → ((i : ℕ) → i < k → get_or xs i 0 ≢ byte)
      → k < length (through_first byte xs)
  through_far [] k inside none = absurd (omega (arith, inside))
  through_far (b ∷ bs) zero inside none = omega arith
  through_far (b ∷ bs) (suc k) inside none =
      let far = through_far bs k (omega (arith, inside)) (λ i small. none (suc i) (omega (arith, small))) in
      rw (other b (none 0 (omega arith))) (omega (arith, far))

  pub through_found : (xs : List ℕ) (k : ℕ) → IsFirstByte (is_byte byte) xs (Some k)
      → k + 1 ≤ length (through_first byte xs)
  through_found xs k first =
      let far = through_far xs k first.0.high (λ i small e. first.0.before i (omega arith) small (eq-eqb _ _ e)) in
      omega (arith, far)

  pub through_none : (xs : List ℕ) → IsFirstByte (is_byte byte) xs None → length xs ≤ length (through_first byte xs)
  through_none [] none = omega arith
  through_none (b ∷ bs) none =
      let all = b ∷ bs in
      let far = through_far all (length bs) (omega arith)
      (λ i small e. none i (omega arith) (omega (arith, small)) (eq-eqb _ _ e)) in
      omega (arith, far)

-- a buffer that had no room for k more bytes, as they stood before the first that passes the test
pub lacks_before : {S : Type 0} (test : ℕ → Bool) (buffer_of : S → List ℕ) {r mid : S} {ys xs : List ℕ} {room k : ℕ}
    → r ≡ mid → ys ≡ xs → length (before_first test (buffer_of mid)) ≡ k → room < length xs + k
    → room < length ys + length (before_first test (buffer_of r))
lacks_before test buffer_of unread held long full = rw (unread, held, long) full

-- or up to and with the first `byte`
pub lacks_through : {S : Type 0} (byte : ℕ) (buffer_of : S → List ℕ) {r mid : S} {ys xs : List ℕ} {room k : ℕ}
    → r ≡ mid → ys ≡ xs → k ≤ length (through_first byte (buffer_of mid)) → room < length xs + k
    → room < length ys + length (through_first byte (buffer_of r))
lacks_through byte buffer_of unread held long full = rw (unread, held) (omega (arith, long, full))
