-- Why a poll that consumes items returns.
use Rattle.std.specs.Prelude.{◌≡◌, ℕ, ◌+◌, [], ⊤, Result, Ok, Err, None}
use Rattle.std.proofs.Common.{◌<◌}
use Rattle.lite_consume.specs.Uses.{arith, MutBor, Answer, Terminates-map, Lent, Runs}
use Rattle.lite_base.specs.Laws.Ranks.{Terminates-count, ok_counting_ends, counting_ends}
use Rattle.lite_base.specs.Ranks.{OkCounting, OkRun, Counting, Ranks}
use Rattle.lite_consume.specs.Consuming.{Fold, TakesIn, fold_of}
use Rattle.lite_consume.specs.Consume.{Returns, TakesItem}
use Rattle.lite_consume.specs.TryNext.{TryNextItem}

-- A count that goes down.
pub one_less : {n m : ℕ} → n ≡ m + 1 → m < n
one_less e = omega arith

module _ {S M A R : Type 0} {run : Runs (Answer A) S} {fold : Fold M A R} {is_open : M → Type 0} where
  -- Because items lower the stream's rank.
  pub returns_counted : {r : Ranks S} → Counting run r
      → ((p q : M) (x : A) → is_open p → TakesIn fold p x q → is_open q) → Returns run fold r.counts is_open
  returns_counted c opens =
      record {
        counts_on = c.counts_on;
        ends = λ s p k. Terminates-map (λ v. v.0) (λ v w h. (h.0, [], h.1)) (s, p) (counting_ends c s k);
        opens = opens;
      }

  -- Because each item that is consumed lowers a count of its own.
  pub returns_fewer : (left : M → ℕ) → ((p q : M) (x : A) → TakesIn fold p x q → left q < left p)
      → ((p q : M) (x : A) → is_open p → TakesIn fold p x q → is_open q) → Returns run fold (λ _. ⊤) is_open
  returns_fewer left fewer opens =
      record {
        counts_on = λ s t l k h. tt;
        ends = λ s p k. Terminates-count (λ v. left v.1) (λ v w h. fewer v.1 w.1 h.0 h.2) (s, p);
        opens = opens;
      }

  -- Because no item is consumed.
  pub returns_none : ((p q : M) (x : A) → TakesIn fold p x q → ⊥) → Returns run fold (λ _. ⊤) is_open
  returns_none none = returns_fewer (λ p. 0) (λ p q x h. absurd (none p q x h)) (λ p q x o h. absurd (none p q x h))

module _ {S M T E R : Type 0} {run : Runs (Answer (Result T E)) S} {fold : Fold M (Result T E) R}
    {is_open : M → Type 0} where
  -- Because `Ok` items lower the stream's rank, and no other item is consumed.
  pub returns_ok : {r : Ranks S} → OkCounting run r → ((p q : M) (e : E) → TakesIn fold p (Err e) q → ⊥)
      → ((p q : M) (x : Result T E) → is_open p → TakesIn fold p x q → is_open q) → Returns run fold r.counts is_open
  returns_ok c errors opens =
      record {
        counts_on = c.counts_on;
        ends = λ s p k. Terminates-map (λ v. v.0) (ok_step errors) (s, p) (ok_counting_ends c s k);
        opens = opens;
      }
    where
      ok_step : ((p q : M) (e : E) → TakesIn fold p (Err e) q → ⊥) → (v w : S × M) → TakesItem run fold v w
          → OkRun run v.0 w.0
      ok_step none v w (Ok x, came, takes) = (x, [], came)
      ok_step none v w (Err e, came, takes) = absurd (none v.1 w.1 e takes)

-- The same for a fold behind a reference, over a stream behind a reference.
pub lent_returns : {S M A R : Type 0} (run : Runs (Answer A) S) (fold : Fold M A R) {counts : S → Type 0}
    {is_open : M → Type 0} → Returns run fold counts is_open
    → Returns (Lent run) (fold_of (λ (p : MutBor M). p.now) fold) (λ s. counts s.now) (λ p. is_open p.now)
lent_returns run fold r =
    record {
      counts_on = λ s t l k h. r.counts_on s.now t.now l k h.0;
      ends = λ s p k. Terminates-map (λ v. (v.0.now, v.1.now)) (λ v w h. (h.0, h.1.0, h.2)) (s, p)
          (r.ends s.now p.now k);
      opens = λ p q x k h. r.opens p.now q.now x k h;
    }

-- A law of `try_next`.

-- No item is consumed.
pub none_given : {M T E : Type 0} (p q : M) (x : Result T E) → TryNextItem x None → ⊥
none_given p q x h = h
