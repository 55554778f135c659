-- The value of `next`, by the items of the stream, and what is left of the stream.
use Rattle.std.specs.Prelude.{◌≡◌, ℕ, List, [], ◌∷◌, ◌++◌, refl, Option, Some, None}
use Rattle.std.proofs.Common.{◌≤◌}
use Rattle.lite_views.specs.Uses.{Lent, MutBor, ◌∙◌, suc, length, inl, inr, ap, arith, slice_get, Poll, Ready, Answer}
use Rattle.lite_views.specs.Uses.{Gives, item, Runs, Folds, Consume, Pending, Hints, StreamLaws, Waiting}
use Rattle.lite_views.specs.Uses.{consumes_steps, end, items_in, replicate, until_end, zero}
use Rattle.lite_consume.specs.Next.{nexts}
use Rattle.lite_consume.specs.declared.next.Next.{Next}
use Rattle.lite_views.proofs.Futures.{when_left}
use Rattle.lite_views.proofs.Views.{lent_lists, listed, seen, value_holds}
use Rattle.lite_views.specs.Answering.{AtOnce, NeverReady, WhenLeft}
use Rattle.lite_views.specs.Views.{EachIs, Fits, FoundBy, GoesOn, Lists, RestIs, ValueHolds, ValueIs}
use Rattle.lite_views.proofs.Consume.{MakesOnly, LeavesOf, settles, leaves, only_made}

next_made : {M A : Type 0} (p : M) (xs : List A) → MakesOnly (nexts {M = M}) p xs (slice_get xs 0)
next_made p [] v (q, s) = s
next_made p (x ∷ xs) v (inl (q, s, more)) = absurd s
next_made p (x ∷ xs) v (inr (q, s)) = s

pub next_value : {S A : Type 0} (run : Runs (Answer A) S) (x : Consume (MutBor S) Next) (xs : List A)
    → Lists run x.stream.now xs → ValueIs (Folds (Lent run) nexts) x (slice_get xs 0)
next_value run x xs lists =
    only_made nexts (Lent run) x xs (slice_get xs 0) (lent_lists run x.stream xs lists) (next_made x.folder xs)

next_leaves : {M A : Type 0} (p : M) (later : List (Answer A)) (x : A) (xs : List A) (v : Option A)
    → LeavesOf (nexts {M = M}) later p (x ∷ xs) v → Fits later xs
next_leaves p later x xs v (inl (q, s, more)) = absurd s
next_leaves p later x xs v (inr (q, s, rest)) = rest

pub next_left : {S A E : Type 0} {run : Runs (Answer A) S} {can_poll : S → Type 0} {hints : Hints S} (laws : StreamLaws can_poll run hints)
    (x : Consume (MutBor S) Next) (xs : List A) → Lists run x.stream.now xs
    → WhenLeft E (Folds (Lent run) nexts) x (λ y. y.stream.ghost_name ≡ x.stream.ghost_name)
    (λ y v. (v ≡ slice_get xs 0) × RestIs run y.stream.now xs)
unfolding Lists
next_left {S} {A} {run = run} laws x xs lists =
    when_left (Folds (Lent run) nexts) x (λ y. y.stream.ghost_name ≡ x.stream.ghost_name)
    (λ y v. (v ≡ slice_get xs 0) × RestIs run y.stream.now xs) refl
    (λ ins y ran. ap (λ r. r.ghost_name) ran.came.1)
    (λ ins y v gives ran. (
      next_made x.folder xs v
          (settles nexts x.folder y.folder ran.ins ins xs v (lists ran.ins y.stream.now ran.came.0) gives ran.consumed),
      rest xs lists ins y v gives ran,
    ))
  where
    rest : (xs : List A) → Lists run x.stream.now xs → (ins : List (Poll (Option A))) (y : Consume (MutBor S) Next)
        (v : Option A) → Gives ins v → Folds (Lent run) nexts x ins y → RestIs run y.stream.now xs
    rest [] all ins y v gives ran = tt
    rest (z ∷ xs) all ins y v gives ran =
        listed run y.stream.now xs
        (λ l t h.
        next_leaves x.folder l z xs v
        (leaves nexts l x.folder y.folder ran.ins ins (z ∷ xs) v
        (all (ran.ins ++ l) t (laws.follows x.stream.now y.stream.now t ran.ins l ran.came.0 h)) gives ran.consumed))

-- `next` of a stream that goes on
each_fits : {A : Type 0} (y : A) (n : ℕ) (l : List (Answer A)) → EachIs y l → length l ≤ n → Fits l (replicate n y)
each_fits y n [] e h = tt
each_fits y n (Pending ∷ l) e h = each_fits y n l e (omega (arith, h))
each_fits y n (Ready None ∷ l) e h = absurd e
each_fits y zero (Ready (Some x) ∷ l) e h = absurd (omega (arith, h))
each_fits y (suc n) (Ready (Some x) ∷ l) e h = (e.0, each_fits y n l e.1 (omega (arith, h)))

goes_on_value : {S A : Type 0} (run : Runs (Answer A) S) (x : Consume (MutBor S) Next) (y : A)
    → GoesOn run x.stream.now y → ValueIs (Folds (Lent run) nexts) x (Some y)
unfolding GoesOn
goes_on_value run x y on = (
  refl,
  value_holds (Folds (Lent run) nexts) x (λ r. r ≡ Some y)
      (λ ins v f.
      let l = f.came.ins in
      next_made x.folder (replicate (suc (length l)) y) v
      (settles nexts x.folder f.last.folder l ins (replicate (suc (length l)) y) v
      (each_fits y (suc (length l)) l (on l f.last.stream.now f.came.came.0) (omega arith)) f.gives f.came.consumed)),
)

pub next_on : {S A : Type 0} (run : Runs (Answer A) S) (x : Consume (MutBor S) Next) (y : A)
    → FoundBy (Some y) x.stream.now y (GoesOn run x.stream.now y → ValueIs (Folds (Lent run) nexts) x (Some y))
next_on run x y = (refl, seen x.stream.now y, goes_on_value run x y)

-- `next` of a stream of which it is known what the first poll returns
any_fits : {A : Type 0} (l : List (Answer A)) → Fits l (items_in (until_end l))
any_fits [] = tt
any_fits (Pending ∷ l) = any_fits l
any_fits (Ready None ∷ l) = refl
any_fits (Ready (Some x) ∷ l) = (refl, any_fits l)

first_fits : {S A : Type 0} (run : Runs (Answer A) S) (s t : S) (o : Option A) (l : List (Answer A)) → AtOnce run s o
    → run s l t → (xs : List A) × Fits l xs × (slice_get xs 0 ≡ o)
unfolding AtOnce
first_fits run s t None [] once h = ([], tt, refl)
first_fits run s t (Some x) [] once h = (x ∷ [], tt, refl)
first_fits run s t o (Pending ∷ l) once h = absurd (let k = once Pending l t h in cc)
first_fits run s t o (Ready None ∷ l) once h = ([], refl, (let k = once end l t h in cc))
first_fits run s t o (Ready (Some x) ∷ l) once h =
    (x ∷ items_in (until_end l), (refl, any_fits l), (let k = once (item x) l t h in cc))

at_once_value : {S A : Type 0} (run : Runs (Answer A) S) (x : Consume (MutBor S) Next) (o : Option A)
    → AtOnce run x.stream.now o → ValueIs (Folds (Lent run) nexts) x o
at_once_value run x o once = (
  refl,
  value_holds (Folds (Lent run) nexts) x (λ r. r ≡ o)
      (λ ins v f.
      let l = f.came.ins in
      let (xs, fits, first) = first_fits run x.stream.now f.last.stream.now o l once f.came.came.0 in
      next_made x.folder xs v (settles nexts x.folder f.last.folder l ins xs v fits f.gives f.came.consumed) ∙ first),
)

pub next_at_once : {S A : Type 0} (run : Runs (Answer A) S) (x : Consume (MutBor S) Next) (y : A)
    → FoundBy (Some y) x.stream.now y
    (AtOnce run x.stream.now (Some y) → ValueIs (Folds (Lent run) nexts) x (Some y))
next_at_once run x y = (refl, seen x.stream.now y, at_once_value run x (Some y))

-- `next` of a stream that is never ready
pub next_never : {S A E : Type 0} (run : Runs (Answer A) S) (x : Consume (MutBor S) Next)
    → NeverReady run x.stream.now → ValueHolds E (Folds (Lent run) nexts) x (λ v. ⊥)
unfolding NeverReady
next_never {A = A} run x never =
    value_holds (Folds (Lent run) nexts) x (λ v. ⊥)
    (λ ins v f.
    consumes_steps nexts (λ p i l. Waiting i → Gives l v → ⊥) (λ p m y i b l t k w. absurd w) (λ p i l k. k)
    f.last.folder (λ p o r d w. absurd w) x.folder f.came.ins ins (λ w g. absurd g) f.came.consumed
    (never f.came.ins f.last.stream.now f.came.came.0) f.gives)
