-- What the polls of a retry return, by its closure's calls and by the futures that these return.
use Rattle.std.specs.Prelude.{◌≡◌, ◌⊎◌, ◌<◌, ◌≤◌, ◌+◌, ℕ, List, [], ◌∷◌, ◌++◌, Option, None, Some, Result, Err, IfErr, IfSome, MatchOption}
use Rattle.std.specs.Fn.{Called, Mut}
use Rattle.std.specs.List.{FoldsTo, flat_map}
use Rattle.futures_lite.specs.Answers.{Gives, Poll, Ready, Waiting}
use Rattle.futures_lite.specs.Contexts.{Lasting}
use Rattle.futures_lite.specs.Futures.{Finishes}
use Rattle.futures_lite.specs.Own.{Runs}
use Rattle.futures_lite.specs.Streams.{MakesAlways}
use Rattle.example_retry.specs.declared.retry.Retry.{Retry}

-- What the attempt that is held has registered.
abbrev pub AttemptRegisters : {V : Type 0} → (V → Lasting → Type 0) → Option V → Lasting → Type 0
AttemptRegisters registers None fact = ⊥
AttemptRegisters registers (Some v) fact = registers v fact

module _ {V M : Type 0} (call : Mut M (ℕ × Unit {0}) V) where
  -- The future `v` is the attempt that is held, or the one that the closure makes for the next number. This leaves the
  -- closure as `q`.
  abbrev pub IsAttempt : Retry V M → V → M → Type 0
  IsAttempt x v q = MatchOption x.attempt (Called call x.make (x.number, tt) v q) (λ w. (v ≡ w) × (q ≡ x.make))

  -- The closure may always be called, and each future that it makes may be polled, and so may the attempt that is held.
  abbrev pub MayRetry : (M → Type 0) → (V → Type 0) → Retry V M → Type 0
  MayRetry callable can_poll x = callable x.make × MakesAlways call can_poll x.make × IfSome x.attempt can_poll

module _ {V M A E : Type 0} (call : Mut M (ℕ × Unit {0}) V) (run : Runs (Poll (Result A E)) V) where
  -- An attempt returned these `Pending`s and then an error, and another attempt was left.
  pub record AttemptFails (x : Retry V M) (pendings : List (Poll (Result A E))) (y : Retry V M) : Type 0 where
    pub future : V
    pub make : M
    pub error : E
    pub is_attempt : IsAttempt call x future make
    pub waited : Waiting pendings
    pub failed : Finishes run future (pendings ++ Ready (Err error) ∷ []) (Err error)
    pub another : x.number < x.last
    pub gone : y ≡ record x { make = make; number = x.number + 1; attempt = None }

  -- The attempt is held, since it was only `Pending`. Or it is gone, since it returned a value. An error is a value of
  -- the last attempt alone.
  abbrev pub LeavesAttempt : Retry V M → M → List (Poll (Result A E)) → V → Retry V M → Type 0
  LeavesAttempt x make ins left y = (Waiting ins × (y ≡ record x { make = make; attempt = Some left }))
      ⊎ ((r : Result A E) × Gives ins r × IfErr r (λ _. x.last ≤ x.number)
      × (y ≡ record x { make = make; attempt = None }))

  -- The last attempt so far returned `ins`.
  pub record LastAttempt (x : Retry V M) (ins : List (Poll (Result A E))) (y : Retry V M) : Type 0 where
    pub future : V
    pub left : V
    pub make : M
    pub is_attempt : IsAttempt call x future make
    pub polled : run future ins left
    pub leaves : LeavesAttempt x make ins left y

  -- Attempts failed, one after the other, and one more attempt was polled. The results are the `Pending`s of those that
  -- failed, and then the results of that one, `first` and `later`.
  pub record Retried (x : Retry V M) (out : List (Poll (Result A E))) (y : Retry V M) : Type 0 where
    pub failed : List (List (Poll (Result A E)))
    pub after : Retry V M
    pub fails : FoldsTo AttemptFails x failed after
    pub first : Poll (Result A E)
    pub later : List (Poll (Result A E))
    pub last : LastAttempt after (first ∷ later) y
    pub joined : out ≡ flat_map (λ pendings. pendings) failed ++ first ∷ later

  -- The runs of a retry: no poll, or polls of its attempts.
  abbrev pub Retries : Runs (Poll (Result A E)) (Retry V M)
  Retries x out y = ((out ≡ []) × (y ≡ x)) ⊎ Retried x out y
