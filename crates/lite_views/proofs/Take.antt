-- The items of `take`, by those of its source.
use Rattle.std.specs.Prelude.{◌≡◌, ℕ, List, [], ◌∷◌, refl, Some, None}
use Rattle.std.proofs.Common.{◌-◌}
use Rattle.lite_views.specs.Uses.{zero, suc, take, inl, inr, replicate, arith, Ready, Pending, Answer, item, Runs, Cuts, is_none_left, left_after}
use Rattle.lite_stream.specs.Take.{Takes, take_parts}
use Rattle.lite_stream.specs.declared.take.Take.{Take}
use Rattle.lite_views.proofs.Views.{Carries, listed, listed_through, seen}
use Rattle.lite_views.specs.Views.{EachIs, Fits, FoundBy, GoesOn, Lists, ListsAs}

taken_fits : {A : Type 0} (n : ℕ) (xs : List A) → Carries (Cuts is_none_left left_after) n xs (take n xs)
taken_fits n xs i [] q e h = tt
taken_fits n xs i (b ∷ o) q e (inl h) = rw (h.0, h.1)
taken_fits n xs i (Pending ∷ o) q e (inr h) = taken_fits n xs h.1 o q (rw h.2 at e) h.3
taken_fits (suc n) xs i (Ready None ∷ o) q e (inr h) = rw (rw h.2 at e)
taken_fits (suc n) [] i (Ready (Some x) ∷ o) q e (inr h) = absurd (rw h.2 at e)
taken_fits (suc n) (y ∷ xs) i (Ready (Some x) ∷ o) q e (inr h) =
    let here : Fits (item x ∷ h.1) (y ∷ xs) = rw h.2 at e in
    let one : suc n - 1 ≡ n = omega arith in
    (here.0, taken_fits n xs h.1 o q here.1 (rw one at h.3))
taken_fits zero xs i (Ready _ ∷ o) q e (inr h) = absurd (h.0 refl)

pub taken_lists : {S A : Type 0} (run : Runs (Answer A) S) (x : Take S) (xs : List A) → Lists run x.stream xs
    → ListsAs (Takes run) x (take x.n xs)
taken_lists run x xs lists =
    listed_through take_parts run (Cuts is_none_left left_after) x xs (take x.n xs) lists (taken_fits x.n xs)

-- `take` of a stream that goes on for ever
repeated_fits : {A : Type 0} (n m : ℕ) (i o : List (Answer A)) (x : A) → EachIs x i
    → Cuts is_none_left left_after n i o m → Fits o (replicate n x)
repeated_fits n m i [] x e h = tt
repeated_fits n m i (b ∷ o) x e (inl h) = rw (h.0, h.1)
repeated_fits n m i (Pending ∷ o) x e (inr h) = repeated_fits n m h.1 o x (rw h.2 at e) h.3
repeated_fits n m i (Ready None ∷ o) x e (inr h) = absurd (rw h.2 at e)
repeated_fits zero m i (Ready (Some y) ∷ o) x e (inr h) = absurd (h.0 refl)
repeated_fits (suc n) m i (Ready (Some y) ∷ o) x e (inr h) =
    let here : EachIs x (item y ∷ h.1) = rw h.2 at e in
    let one : suc n - 1 ≡ n = omega arith in
    (here.0, repeated_fits n m h.1 o x here.1 (rw one at h.3))

repeats : {S A : Type 0} (run : Runs (Answer A) S) (x : Take S) (y : A) → GoesOn run x.stream y
    → ListsAs (Takes run) x (replicate x.n y)
unfolding GoesOn
repeats run x y goes_on =
    listed (Takes run) x (replicate x.n y)
    (λ l t r. repeated_fits x.n t.n r.ins l y (goes_on r.ins t.stream r.came) r.related)

pub repeated_lists : {S A : Type 0} (run : Runs (Answer A) S) (x : Take S) (y : A)
    → FoundBy (replicate x.n y) x.stream y (GoesOn run x.stream y → ListsAs (Takes run) x (replicate x.n y))
repeated_lists run x y = (refl, seen x.stream y, repeats run x y)
