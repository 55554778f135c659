-- The value of `last`, by the items of the stream.
use Rattle.std.specs.Prelude.{List, [], ◌∷◌, Option}
use Rattle.lite_views.specs.Uses.{Last, ◌∙◌, inl, inr, ap, Answer, Runs, fold_of, lasts, Consume}
use Rattle.std.specs.List.{last_or}
use Rattle.lite_views.specs.Futures.{LastRuns}
use Rattle.lite_views.specs.Views.{Lists, ValueIs}
use Rattle.lite_views.proofs.Consume.{MakesOnly, only_made}

last_made : {N A : Type 0} (last_of : N → Option A) (p : N) (xs : List A)
    → MakesOnly (fold_of last_of lasts) p xs (last_or (last_of p) xs)
last_made last_of p [] v (q, s) = s
last_made last_of p (x ∷ xs) v (inl (q, s, more)) = last_made last_of q xs v more ∙ ap (λ o. last_or o xs) s.1
last_made last_of p (x ∷ xs) v (inr (q, s)) = cc

pub last_value : {S A : Type 0} (run : Runs (Answer A) S) (x : Consume S (Last A)) (xs : List A)
    → Lists run x.stream xs → ValueIs (LastRuns run) x (last_or x.folder.last xs)
last_value run x xs lists =
    only_made (fold_of (λ m. m.last) lasts) run x xs (last_or x.folder.last xs) lists
    (last_made (λ m. m.last) x.folder xs)
