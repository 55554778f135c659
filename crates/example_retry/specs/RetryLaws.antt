-- Laws about the runs of a retry.
use Rattle.std.specs.Prelude.{◌≡◌, ◌≤◌, List, [], ◌∷◌, ◌++◌, length, None, Option, Some, Result, Err, refl}
use Rattle.std.specs.Fn.{Mut}
use Rattle.std.specs.List.{FoldsTo, flat_map}
use Rattle.std.proofs.Common.{append-nil, append_assoc, arith, inl, inr, subst, sym, ℕ}
use Rattle.futures_lite.specs.Answers.{Pending, Poll, Ready, Waiting, strip}
use Rattle.futures_lite.specs.Futures.{FutureLaws}
use Rattle.futures_lite.specs.Laws.Answers.{strip_join, waiting_gives, waiting_not_gives, waiting_strip}
use Rattle.futures_lite.specs.Laws.Answers.{waiting_waiting}
use Rattle.futures_lite.specs.Own.{Runs}
use Rattle.futures_lite.specs.Streams.{MakesAlways, makes_on}
use denote.Param.Always.{always_mut, mut_next}
use Rattle.example_retry.specs.Retry.{LastAttempt, AttemptFails, IsAttempt, LeavesAttempt, MayRetry, Retried, Retries}
use Rattle.example_retry.specs.declared.retry.Retry.{Retry}

module _ {A : Type 0} where
  waiting_back : (l m : List (Poll A)) → Waiting (l ++ m) → Waiting m
  waiting_back [] m w = w
  waiting_back (Pending ∷ l) m w = waiting_back l m w
  waiting_back (Ready x ∷ l) m w = absurd w

  not_none : (l m : List (Poll A)) (a : Poll A) → [] ≡ l ++ a ∷ m → ⊥
  not_none [] m a e = cc e
  not_none (b ∷ l) m a e = cc e

module _ {V M A E : Type 0} (call : Mut M (ℕ × Unit {0}) V) where
  stripped : (run : Runs (Poll (Result A E)) V) (x y : Retry V M) (failed : List (List (Poll (Result A E))))
      (l : List (Poll (Result A E))) → FoldsTo (AttemptFails call run) x failed y → strip (flat_map (λ pendings. pendings) failed ++ l) ≡ strip l
  stripped run x y [] l f = refl
  stripped run x y (pendings ∷ failed) l f =
      rw (append_assoc, strip_join, waiting_strip pendings f.1.waited) (stripped run f.0 y failed l f.2)

module _ {V M A E : Type 0} (call : Mut M (ℕ × Unit {0}) V) {run : Runs (Poll (Result A E)) V} where
  -- An attempt failed, and then the others were made.
  pub fails_before : {x y z : Retry V M} {pendings out : List (Poll (Result A E))} → AttemptFails call run x pendings y
      → Retried call run y out z → Retried call run x (pendings ++ out) z
  fails_before {y} {pendings} f h =
      record {
        failed = pendings ∷ h.failed;
        after = h.after;
        fails = (y, f, h.fails);
        first = h.first;
        later = h.later;
        last = h.last;
        joined = rw (h.joined, append_assoc);
      }

  all_before : (x y z : Retry V M) (failed : List (List (Poll (Result A E)))) (out : List (Poll (Result A E)))
      → FoldsTo (AttemptFails call run) x failed y → Retried call run y out z
      → Retried call run x (flat_map (λ pendings. pendings) failed ++ out) z
  all_before x y z [] out f h = subst (λ t. Retried call run t out z) (sym f) h
  all_before x y z (pendings ∷ failed) out f h =
      rw append_assoc (fails_before f.1 (all_before f.0 y z failed out f.2 h))

  -- The attempt of `x` was pending, and is held.
  module _ {can_poll : V → Type 0} (laws : FutureLaws can_poll run) (x : Retry V M) (future left : V) (make : M) (ins : List (Poll (Result A E)))
      (is : IsAttempt call x future make) (waited : Waiting ins) (polled : run future ins left) where
    -- The retry, with the attempt that it holds now.
    abbrev Held : Retry V M
    Held = record x { make = make; attempt = Some left }

    on : (v w : V) (more : List (Poll (Result A E))) → v ≡ left → run v more w → run future (ins ++ more) w
    on v w more same came = laws.follows future left w ins more waited polled (rw same at came)

    held_fails : (y : Retry V M) (pendings : List (Poll (Result A E))) → AttemptFails call run Held pendings y
        → AttemptFails call run x (ins ++ pendings) y
    held_fails y pendings f =
        record {
          future = future;
          make = make;
          error = f.error;
          is_attempt = is;
          waited = waiting_waiting ins pendings waited f.waited;
          failed = record {
            gives = rw append_assoc (waiting_gives ins _ (Err f.error) waited f.failed.gives);
            last = f.failed.last;
            came = rw append_assoc (on f.future f.failed.last _ f.is_attempt.0 f.failed.came);
          };
          another = f.another;
          gone = rw (f.gone, f.is_attempt.1);
        }

    held_leaves : (y : Retry V M) (q : M) (more : List (Poll (Result A E))) (w : V) → q ≡ make
        → LeavesAttempt call run Held q more w y → LeavesAttempt call run x make (ins ++ more) w y
    held_leaves y q more w same (inl h) = inl (waiting_waiting ins more waited h.0, rw (h.1, same))
    held_leaves y q more w same (inr h) = inr (h.0, waiting_gives ins more h.0 waited h.1, h.2, rw (h.3, same))

    held_attempts : (y : Retry V M) (more : List (Poll (Result A E))) → LastAttempt call run Held more y
        → LastAttempt call run x (ins ++ more) y
    held_attempts y more h =
        record {
          future = future;
          left = h.left;
          make = make;
          is_attempt = is;
          polled = on h.future h.left more h.is_attempt.0 h.polled;
          leaves = held_leaves y h.make more h.left h.is_attempt.1 h.leaves;
        }

    -- A run goes on with the attempt that is held.
    held_goes_on : (y : Retry V M) (first : Poll (Result A E)) (later out : List (Poll (Result A E)))
        → ins ≡ first ∷ later → Retried call run Held out y → Retried call run x (ins ++ out) y
    held_goes_on y first later out cut h = by h.failed h.after h.first h.later h.fails h.last h.joined
      where
        by : (failed : List (List (Poll (Result A E)))) (last : Retry V M) (next : Poll (Result A E))
            (rest : List (Poll (Result A E))) → FoldsTo (AttemptFails call run) Held failed last
            → LastAttempt call run last (next ∷ rest) y
            → out ≡ flat_map (λ pendings. pendings) failed ++ next ∷ rest → Retried call run x (ins ++ out) y
        by [] last next rest f attempts joined =
            record {
              failed = [];
              after = x;
              fails = refl;
              first = first;
              later = later ++ next ∷ rest;
              last =
                  subst (λ l. LastAttempt call run x (l ++ next ∷ rest) y) cut
                  (held_attempts y (next ∷ rest) (subst (λ t. LastAttempt call run t (next ∷ rest) y) (sym f) attempts));
              joined = rw (joined, cut);
            }
        by (pendings ∷ failed) last next rest f attempts joined =
            record {
              failed = (ins ++ pendings) ∷ failed;
              after = last;
              fails = (f.0, held_fails f.0 pendings f.1, f.2);
              first = next;
              later = rest;
              last = attempts;
              joined = rw joined (simp append_assoc);
            }

  module _ {can_poll : V → Type 0} (laws : FutureLaws can_poll run) where
    retried_follow : (x y z : Retry V M) (l m : List (Poll (Result A E))) → Waiting l → Retried call run x l y
        → Retried call run y m z → Retried call run x (l ++ m) z
    retried_follow x y z l m w h k = by h.last.leaves
      where
        waited : Waiting (h.first ∷ h.later)
        waited = waiting_back (flat_map (λ pendings. pendings) h.failed) _ (subst Waiting h.joined w)

        by : LeavesAttempt call run h.after h.last.make (h.first ∷ h.later) h.last.left y
            → Retried call run x (l ++ m) z
        by (inl held) =
            let more =
            held_goes_on laws h.after h.last.future h.last.left h.last.make (h.first ∷ h.later)
            h.last.is_attempt waited h.last.polled z h.first h.later m refl
            (subst (λ t. Retried call run t m z) held.1 k) in
            rw (h.joined, append_assoc) (all_before x h.after z h.failed _ h.fails more)
        by (inr gone) = absurd (waiting_not_gives (h.first ∷ h.later) gone.0 waited gone.1)

    -- The attempt that is polled may be, and the closure may be called again.
    attempt_may : (x : Retry V M) (v : V) (q : M) → MayRetry call (always_mut call) can_poll x → IsAttempt call x v q
        → always_mut call q × MakesAlways call can_poll q × can_poll v
    attempt_may x v q may is = by x.attempt refl
      where
        by : (held : Option V) → x.attempt ≡ held → always_mut call q × MakesAlways call can_poll q × can_poll v
        by None e =
            let called = rw e at is in
            let made = makes_on call can_poll x.make (x.number, tt) v q may.1 called in
            (mut_next call x.make (x.number, tt) v q q called refl may.0, made.1, made.0)
        by (Some held) e = let same = rw e at is in rw (same.0, same.1) (may.0, may.1, rw e at may.2)

    -- What may be polled may be polled again after attempts that failed.
    fails_may : (x y : Retry V M) (failed : List (List (Poll (Result A E))))
        → MayRetry call (always_mut call) can_poll x → FoldsTo (AttemptFails call run) x failed y
        → MayRetry call (always_mut call) can_poll y
    fails_may x y [] may f = rw (← f) may
    fails_may x y (pendings ∷ failed) may f =
        let first = f.1 in
        let next = attempt_may x first.future first.make may first.is_attempt in
        fails_may f.0 y failed (rw first.gone (next.0, next.1, tt)) f.2

    retried_may : (x y : Retry V M) (l : List (Poll (Result A E))) → Waiting l
        → MayRetry call (always_mut call) can_poll x → Retried call run x l y
        → MayRetry call (always_mut call) can_poll y
    retried_may x y l w may h = by h.last.leaves
      where
        waited : Waiting (h.first ∷ h.later)
        waited = waiting_back (flat_map (λ pendings. pendings) h.failed) _ (subst Waiting h.joined w)

        by : LeavesAttempt call run h.after h.last.make (h.first ∷ h.later) h.last.left y
            → MayRetry call (always_mut call) can_poll y
        by (inl held) =
            let after = fails_may x h.after h.failed may h.fails in
            let next = attempt_may h.after h.last.future h.last.make after h.last.is_attempt in
            rw held.1 (next.0, next.1, laws.waits_on _ _ _ waited next.2 h.last.polled)
        by (inr gone) = absurd (waiting_not_gives (h.first ∷ h.later) gone.0 waited gone.1)

    pub retry_laws : FutureLaws (MayRetry call (always_mut call) can_poll) (Retries call run)
    retry_laws =
        record {
          rests = λ x. inl (refl, refl);
          stays = stays;
          follows = follows;
          once = once;
          waits_on = waits_on;
        }
      where
        stays : (x y : Retry V M) → Retries call run x [] y → y ≡ x
        stays x y (inl h) = h.1
        stays x y (inr h) = absurd (not_none _ h.later h.first h.joined)

        follows : (x y z : Retry V M) (l m : List (Poll (Result A E))) → Waiting l → Retries call run x l y
            → Retries call run y m z → Retries call run x (l ++ m) z
        follows x y z l m w (inl h) k = rw h.0 (subst (λ t. Retries call run t m z) h.1 k)
        follows x y z l m w (inr h) (inl k) = rw (k.0, k.1, append-nil) (inr h)
        follows x y z l m w (inr h) (inr k) = inr (retried_follow x y z l m w h k)

        once : (x y : Retry V M) (l : List (Poll (Result A E))) → Retries call run x l y → length (strip l) ≤ 1
        once x y l (inl h) = rw h.0 (omega arith)
        once x y l (inr h) =
            rw (h.joined, stripped call run x h.after h.failed _ h.fails)
            (laws.once h.last.future h.last.left _ h.last.polled)

        waits_on : (x y : Retry V M) (l : List (Poll (Result A E))) → Waiting l
            → MayRetry call (always_mut call) can_poll x → Retries call run x l y
            → MayRetry call (always_mut call) can_poll y
        waits_on x y l w may (inl h) = rw h.1 may
        waits_on x y l w may (inr h) = retried_may x y l w may h
