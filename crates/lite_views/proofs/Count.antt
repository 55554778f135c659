-- The value of `count`, by the items of the stream.
use Rattle.std.specs.Prelude.{◌≡◌, ℕ, List, [], ◌∷◌}
use Rattle.std.proofs.Common.{◌<◌, ◌^◌, ◌+◌}
use Rattle.lite_views.specs.Uses.{◌∙◌, length, inl, inr, sym, arith, Answer, Runs, fold_of, counts, Consume}
use Rattle.lite_consume.specs.declared.count.Count.{Count}
use Rattle.lite_views.specs.Futures.{CountRuns}
use Rattle.lite_views.specs.Views.{Lists, ValueIs}
use Rattle.lite_views.proofs.Consume.{MakesOnly, only_made}

count_made : {N A : Type 0} (count_of : N → ℕ) (p : N) (xs : List A) (n : ℕ) → n ≡ count_of p
    → n + length xs < 2 ^ 64 → MakesOnly (fold_of count_of (counts {A = A})) p xs (n + length xs)
count_made count_of p [] n e b v (q, s) = omega arith
count_made count_of p (x ∷ xs) n e b v (inr (q, s)) = cc
count_made count_of p (x ∷ xs) n e b v (inl (q, s, more)) =
    let small : n + 1 < 2 ^ 64 = omega arith in
    let rest = count_made count_of q xs (n + 1) (let k = s.1 in omega arith) (omega arith) v more in omega arith

pub counted_value : {S A : Type 0} (run : Runs (Answer A) S) (x : Consume S Count) (xs : List A)
    → x.folder.count ≡ 0 → length xs < 2 ^ 64 → Lists run x.stream xs → ValueIs (CountRuns run) x (length xs)
counted_value run x xs none small lists =
    only_made (fold_of (λ m. m.count) counts) run x xs (length xs) lists
    (λ v s. count_made (λ m. m.count) x.folder xs 0 (sym none) (omega arith) v s ∙ omega arith)
