-- One poll of a retry's attempt, as a part of a run.
use Rattle.std.specs.Prelude.{◌≡◌, ◌≤◌, ◌<◌, ◌+◌, ⊤, ℕ, [], ◌∷◌, Option, None, Some, Result, Ok, Err, IfSome, IsSome, refl}
use Rattle.std.specs.Fn.{Mut}
use Rattle.std.proofs.Common.{◌∙◌, ap, inl, inr, subst}
use Rattle.futures_lite.specs.Answers.{Pending, Poll, Ready}
use Rattle.futures_lite.specs.Own.{Runs}
use Rattle.example_retry.specs.OnePoll.{PollsAttempt, PollsHeld, attempt_after}
use Rattle.example_retry.specs.Retry.{AttemptFails, IsAttempt, LeavesAttempt, Retried}
use Rattle.example_retry.specs.declared.retry.Retry.{Retry}

-- the result is an error only if `P`
abbrev pub IfFails : {A E : Type 0} → Poll (Result A E) → Type 0 → Type 0
IfFails Pending P = ⊤
IfFails (Ready (Ok a)) P = ⊤
IfFails (Ready (Err e)) P = P

module _ {V M A E : Type 0} (call : Mut M (ℕ × Unit {0}) V) (run : Runs (Poll (Result A E)) V) where
  pub polls_attempt : (x y z : Retry V M) (o : Option V) (a : Poll (Result A E))
      → y ≡ record x { make = y.make; attempt = o } → IfSome o (λ v. IsAttempt call x v y.make) → IsSome o
      → IfSome o (λ v. PollsHeld run y v a z) → PollsAttempt call run x a z
  polls_attempt x y z None a same is some h = absurd (cc some)
  polls_attempt x y z (Some v) a same is some h =
      record {
        future = v;
        left = h.0;
        make = y.make;
        is_attempt = is;
        polled = h.1;
        held = h.2 ∙ ap (λ (t : Retry V M). record t { attempt = attempt_after a h.0 }) same;
      }

  module _ (x y : Retry V M) where
    -- an attempt that is pending, or that has a value, is the last one so far
    pub polled_last : (a : Poll (Result A E)) → PollsAttempt call run x a y → IfFails a (y.last ≤ y.number)
        → Retried call run x (a ∷ []) y
    polled_last a h none_left =
        record {
          failed = [];
          after = x;
          fails = refl;
          first = a;
          later = [];
          last = record {
            future = h.future;
            left = h.left;
            make = h.make;
            is_attempt = h.is_attempt;
            polled = h.polled;
            leaves = by a none_left h.held;
          };
          joined = refl;
        }
      where
        by : (b : Poll (Result A E)) → IfFails b (y.last ≤ y.number)
            → y ≡ record x { make = h.make; attempt = attempt_after b h.left }
            → LeavesAttempt call run x h.make (b ∷ []) h.left y
        by Pending none_left held = inl (tt, held)
        by (Ready (Ok r)) none_left held = inr (Ok r, (refl, refl), tt, held)
        by (Ready (Err e)) none_left held =
            inr (Err e, (refl, refl), subst (λ (t : Retry V M). t.last ≤ t.number) held none_left, held)

    -- after an error another attempt is due, if one is left
    pub polled_fails : (a : Poll (Result A E)) (e : E) → a ≡ Ready (Err e) → PollsAttempt call run x a y
        → y.number < y.last
        → AttemptFails call run x [] (record y { number = y.number + 1 })
    polled_fails a e is h another =
        record {
          future = h.future;
          make = h.make;
          error = e;
          is_attempt = h.is_attempt;
          waited = tt;
          failed = record { gives = (refl, refl); last = h.left; came = rw is at h.polled };
          another = subst (λ (t : Retry V M). t.number < t.last) h.held another;
          gone =
              ap (λ (t : Retry V M). record t { number = t.number + 1 })
              (subst (λ b. y ≡ record x { make = h.make; attempt = attempt_after b h.left }) is h.held);
        }
