-- What is given of a part, and of a stream that is lent.
use Rattle.std.specs.Prelude.{◌≡◌, Result, Ok, Err, IfOk, OnErr, List, [], ◌∷◌}
use Rattle.lite_consume.specs.Uses.{FoldsTo, Poll, MutBor, Answer, Gives, Hints, Lent, Runs, StreamLaws, items_in}
use Rattle.std.proofs.Common.{ap}
use Rattle.lite_consume.specs.Consume.{Folds, MayTakeEach}
use Rattle.lite_consume.specs.Consuming.{Consumes, Fold, TakesIn, fold_of}
use Rattle.lite_consume.specs.Laws.Agreeing.{within_itself}
use Rattle.lite_consume.specs.Laws.Consuming.{consumes_by}
use Rattle.lite_consume.specs.declared.consume.Consume.{Consume}
use Rattle.lite_consume.specs.Given.{BlockGives}

module _ {N M A R : Type 0} (part : N → M) (fold : Fold M A R) where
  -- what a part folds
  part_consumes : (p q : N) (i : List (Answer A)) (l : List (Poll R)) → Consumes (fold_of part fold) p i l q
      → Consumes fold (part p) i l (part q)
  part_consumes p q i l =
      consumes_by part (fold_of part fold) fold (within_itself (fold_of part fold) tt) p q i l (λ r g. tt)

  -- what was given of it
  pub given : {S E : Type 0} (run : Runs (Answer A) S) (s t : S) (p : N) (r : Result R E)
      → IfOk r (λ v. BlockGives (fold_of part fold) run s p v t) → IfOk r (λ v. BlockGives fold run s (part p) v t)
  given run s t p (Ok v) h =
      let old = h.3 in (
        h.0,
        part h.1,
        h.2,
        record {
          ins = old.ins;
          came = old.came;
          consumed = part_consumes p h.1 old.ins h.0 old.consumed;
        },
      )
  given run s t p (Err e) h = tt

  -- where the stream is gone
  pub given_last : {S E : Type 0} (run : Runs (Answer A) S) (s t : S) (p : N) (r : Result R E)
      → IfOk r (λ v. BlockGives (fold_of part fold) run s p v t)
      → IfOk r (λ v. (left : S) × BlockGives fold run s (part p) v left)
  given_last {E} run s t p (Ok v) h = (t, given {E = E} run s t p (Ok v) h)
  given_last run s t p (Err e) h = tt

  asked_of : (p q : N) (l : List A) → FoldsTo (λ v x w. (o : Unit {0}) × TakesIn (fold_of part fold) v x w) p l q
      → FoldsTo (λ v x w. (o : Unit {0}) × TakesIn fold v x w) (part p) l (part q)
  asked_of p q [] e = λ i. part (e i)
  asked_of p q (x ∷ l) h = (part h.0, (tt, h.1.1), asked_of h.0 q l h.2)

  -- what it may take in
  pub each_of : {S : Type 0} (run : Runs (Answer A) S) (can_take : M → A → Type 0) (s : S) (p : N)
      → MayTakeEach run fold can_take s (part p) → MayTakeEach run (fold_of part fold) (λ q x. can_take (part q) x) s p
  each_of run can_take s p h = record {
    at = λ ins x t q came asked. h.at ins x t (part q) came (asked_of p q (items_in ins) asked);
  }

-- a fold that is lent, over a stream that is
module _ {S M A R : Type 0} (run : Runs (Answer A) S) (fold : Fold M A R) where
  abbrev now : MutBor M → M
  now p = p.now

  pub lent_given : {E : Type 0} (x y : Consume (MutBor S) (MutBor M)) (r : Result R E)
      → IfOk r (λ v. (l : List (Poll R)) × Gives l v × Folds (Lent run) (fold_of now fold) x l y)
      → IfOk r (λ v. BlockGives fold run x.stream.now x.folder.now v y.stream.now)
  lent_given x y (Ok v) h =
      let lent = h.2 in (
        h.0,
        y.folder.now,
        h.1,
        record {
          ins = lent.ins;
          came = lent.came.0;
          consumed = part_consumes now fold x.folder y.folder lent.ins h.0 lent.consumed;
        },
      )
  lent_given x y (Err e) h = tt

  pub lent_stays : {E : Type 0} (x y : Consume (MutBor S) (MutBor M)) (r : Result R E) → OnErr r (y ≡ x)
      → OnErr r (y.stream.now ≡ x.stream.now)
  lent_stays x y (Ok v) h = tt
  lent_stays x y (Err e) h = ap (λ (z : Consume (MutBor S) (MutBor M)). z.stream.now) h

  pub lent_each : (can_take : M → A → Type 0) (s : MutBor S) (p : MutBor M) → MayTakeEach run fold can_take s.now p.now
      → MayTakeEach (Lent run) (fold_of now fold) (λ q x. can_take q.now x) s p
  lent_each can_take s p h = record {
    at = λ ins x t q came asked. h.at ins x t.now q.now came.0 (asked_of now fold p q (items_in ins) asked);
  }

-- the stream that is left may be polled again
pub given_on : {S M A R E : Type 0} {can_poll : S → Type 0} {run : Runs (Answer A) S} {hints : Hints S} (fold : Fold M A R)
    → StreamLaws can_poll run hints → (s t : S) (p : M) (r : Result R E) → OnErr r (t ≡ s) → can_poll s
    → IfOk r (λ v. BlockGives fold run s p v t) → can_poll t
given_on fold laws s t p (Ok v) k c h = laws.polls_on s t h.3.ins c h.3.came
given_on fold laws s t p (Err e) k c h = rw k c
