-- The value of `nth`, by the items of the stream, and what is left of the stream.
use Rattle.std.specs.Prelude.{◌≡◌, ℕ, List, [], ◌∷◌, ◌++◌, refl, Option}
use Rattle.lite_views.specs.Uses.{Lent, MutBor, Nth, suc, inl, inr, arith, slice_get, Answer, Runs, fold_of, nths}
use Rattle.lite_views.specs.Uses.{Consume, Gives, Hints, Poll, StreamLaws, ap, drop, zero}
use Rattle.lite_views.specs.Futures.{NthRuns}
use Rattle.lite_views.proofs.Views.{lent_lists, listed}
use Rattle.lite_views.specs.Views.{Lists, ValueIs, Fits, RestIs}
use Rattle.lite_views.proofs.Consume.{MakesOnly, only_made, LeavesOf, leaves, settles}
use Rattle.lite_views.proofs.Futures.{when_left}
use Rattle.lite_views.specs.Answering.{WhenLeft}

nth_made : {N A : Type 0} (n_of : N → ℕ) (p : N) (xs : List A)
    → MakesOnly (fold_of n_of nths) p xs (slice_get xs (n_of p))
nth_made n_of p [] v (q, s) = s.0
nth_made n_of p (x ∷ xs) v (inl (q, s, more)) =
    let e : n_of p ≡ suc (n_of q) = omega arith in rw e (nth_made n_of q xs v more)
nth_made n_of p (x ∷ xs) v (inr (q, s)) = cc

pub nth_value : {S A : Type 0} (run : Runs (Answer A) S) (x : Consume (MutBor S) Nth) (xs : List A)
    → Lists run x.stream.now xs → ValueIs (NthRuns run) x (slice_get xs x.folder.n)
nth_value run x xs lists =
    only_made (fold_of (λ m. m.n) nths) (Lent run) x xs (slice_get xs x.folder.n) (lent_lists run x.stream xs lists)
    (nth_made (λ m. m.n) x.folder xs)

nth_leaves : {N A : Type 0} (n_of : N → ℕ) (p : N) (later : List (Answer A)) (xs : List A) (v : Option A) (z : A)
    (rest : List A) → drop (n_of p) xs ≡ z ∷ rest → LeavesOf (fold_of n_of nths) later p xs v → Fits later rest
nth_leaves n_of p later [] v z rest e (q, s) = absurd (none (n_of p) e)
  where
    none : (n : ℕ) → drop n [] ≡ z ∷ rest → ⊥
    none zero e = cc
    none (suc n) e = cc
nth_leaves n_of p later (y ∷ xs) v z rest e (inl (q, s, more)) =
    let n : n_of p ≡ suc (n_of q) = omega arith in nth_leaves n_of q later xs v z rest (rw n at e) more
nth_leaves n_of p later (y ∷ xs) v z rest e (inr (q, s, fits)) =
    let none = s.0 in let k : y ∷ xs ≡ z ∷ rest = rw none at e in let same : xs ≡ rest = cc in rw (← same) fits

pub nth_left : {S A E : Type 0} {run : Runs (Answer A) S} {can_poll : S → Type 0} {hints : Hints S} (laws : StreamLaws can_poll run hints)
    (x : Consume (MutBor S) Nth) (xs : List A) → Lists run x.stream.now xs
    → WhenLeft E (NthRuns run) x (λ y. y.stream.ghost_name ≡ x.stream.ghost_name)
    (λ y v. (v ≡ slice_get xs x.folder.n) × RestIs run y.stream.now (drop x.folder.n xs))
unfolding Lists
nth_left {S} {A} {run = run} laws x xs lists =
    when_left (NthRuns run) x (λ y. y.stream.ghost_name ≡ x.stream.ghost_name)
    (λ y v. (v ≡ slice_get xs x.folder.n) × RestIs run y.stream.now (drop x.folder.n xs)) refl
    (λ ins y ran. ap (λ r. r.ghost_name) ran.came.1)
    (λ ins y v gives ran. (
      nth_made (λ m. m.n) x.folder xs v
          (settles (fold_of (λ m. m.n) nths) x.folder y.folder ran.ins ins xs v (lists ran.ins y.stream.now ran.came.0)
          gives ran.consumed),
      left (drop x.folder.n xs) refl ins y v gives ran,
    ))
  where
    left : (zs : List A) → drop x.folder.n xs ≡ zs → (ins : List (Poll (Option A))) (y : Consume (MutBor S) Nth)
        (v : Option A) → Gives ins v → NthRuns run x ins y → RestIs run y.stream.now zs
    left [] e ins y v gives ran = tt
    left (z ∷ zs) e ins y v gives ran =
        listed run y.stream.now zs
        (λ l t h.
        nth_leaves (λ m. m.n) x.folder l xs v z zs e
        (leaves (fold_of (λ m. m.n) nths) l x.folder y.folder ran.ins ins xs v
        (lists (ran.ins ++ l) t (laws.follows x.stream.now y.stream.now t ran.ins l ran.came.0 h)) gives ran.consumed))
