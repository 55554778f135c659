-- The value of `try_next`, by the items of the stream, and what is left of the stream.
use Rattle.std.specs.Prelude.{List, [], ◌∷◌, Result, Ok, Err, ◌≡◌, ◌++◌, refl, Option}
use Rattle.lite_views.specs.Uses.{Lent, MutBor, inl, inr, slice_get, Answer, Runs, Folds, Consume, Gives, Hints, Poll, StreamLaws, ap}
use Rattle.lite_consume.specs.TryNext.{tries_next}
use Rattle.lite_consume.specs.declared.try_next.TryNext.{TryNext}
use Rattle.std.specs.Option.{option_transpose}
use Rattle.lite_views.proofs.Views.{lent_lists, listed}
use Rattle.lite_views.specs.Views.{Lists, ValueIs, Fits, RestIs}
use Rattle.lite_views.proofs.Consume.{MakesOnly, only_made, LeavesOf, leaves, settles}
use Rattle.lite_views.proofs.Futures.{when_left}
use Rattle.lite_views.specs.Answering.{WhenLeft}

try_next_made : {M T E : Type 0} (p : M) (xs : List (Result T E))
    → MakesOnly (tries_next {M = M}) p xs (option_transpose (slice_get xs 0))
try_next_made p [] v (q, s) = s
try_next_made p (x ∷ xs) v (inl (q, s, more)) = absurd s
try_next_made p (Ok x ∷ xs) v (inr (q, s)) = s
try_next_made p (Err e ∷ xs) v (inr (q, s)) = s

pub try_next_value : {S T E : Type 0} (run : Runs (Answer (Result T E)) S) (x : Consume (MutBor S) TryNext)
    (xs : List (Result T E)) → Lists run x.stream.now xs
    → ValueIs (Folds (Lent run) tries_next) x (option_transpose (slice_get xs 0))
try_next_value run x xs lists =
    only_made tries_next (Lent run) x xs (option_transpose (slice_get xs 0)) (lent_lists run x.stream xs lists)
    (try_next_made x.folder xs)

try_next_leaves : {M T E : Type 0} (p : M) (later : List (Answer (Result T E))) (x : Result T E)
    (xs : List (Result T E)) (v : Result (Option T) E) → LeavesOf (tries_next {M = M}) later p (x ∷ xs) v
    → Fits later xs
try_next_leaves p later x xs v (inl (q, s, more)) = absurd s
try_next_leaves p later x xs v (inr (q, s, rest)) = rest

pub try_next_left : {S T E F : Type 0} {run : Runs (Answer (Result T E)) S} {can_poll : S → Type 0} {hints : Hints S}
    (laws : StreamLaws can_poll run hints) (x : Consume (MutBor S) TryNext) (xs : List (Result T E))
    → Lists run x.stream.now xs
    → WhenLeft F (Folds (Lent run) tries_next) x (λ y. y.stream.ghost_name ≡ x.stream.ghost_name)
    (λ y v. (v ≡ option_transpose (slice_get xs 0)) × RestIs run y.stream.now xs)
unfolding Lists
try_next_left {S} {T} {E} {run = run} laws x xs lists =
    when_left (Folds (Lent run) tries_next) x (λ y. y.stream.ghost_name ≡ x.stream.ghost_name)
    (λ y v. (v ≡ option_transpose (slice_get xs 0)) × RestIs run y.stream.now xs) refl
    (λ ins y ran. ap (λ r. r.ghost_name) ran.came.1)
    (λ ins y v gives ran. (
      try_next_made x.folder xs v
          (settles tries_next x.folder y.folder ran.ins ins xs v (lists ran.ins y.stream.now ran.came.0) gives
          ran.consumed),
      left xs lists ins y v gives ran,
    ))
  where
    left : (xs : List (Result T E)) → Lists run x.stream.now xs → (ins : List (Poll (Result (Option T) E)))
        (y : Consume (MutBor S) TryNext) (v : Result (Option T) E) → Gives ins v
        → Folds (Lent run) tries_next x ins y → RestIs run y.stream.now xs
    left [] all ins y v gives ran = tt
    left (z ∷ xs) all ins y v gives ran =
        listed run y.stream.now xs
        (λ l t h.
        try_next_leaves x.folder l z xs v
        (leaves tries_next l x.folder y.folder ran.ins ins (z ∷ xs) v
        (all (ran.ins ++ l) t (laws.follows x.stream.now y.stream.now t ran.ins l ran.came.0 h)) gives ran.consumed))
