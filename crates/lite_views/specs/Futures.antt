-- The runs of the futures that the facade names. A clause over them needs no bounds on the types of their states.
use Rattle.std.specs.Prelude.{ℕ, Bool, List, [], ◌∷◌, Option, Result, IfSome, cond}
use Rattle.lite_views.specs.Views.{ListsAs}
use Rattle.lite_views.specs.Uses.{Mut, MutBor, Poll, Answer, Lent, Question, Runs, Folds, fold_of, counts, finds, folds}
use Rattle.lite_views.specs.Uses.{lasts, nths, try_fold_steps, Consume, Find, Last, Nth, TryFold, TryZip, TryZips}
use Rattle.lite_consume.specs.Fold.{CallsBoth}
use Rattle.lite_future.specs.Zip.{FutureZips}
use Rattle.lite_future.specs.declared.zip.Zip.{Zip}
use Rattle.lite_consume.specs.declared.count.Count.{Count}
use Rattle.lite_consume.specs.declared.fold.Fold.{Fold}

-- The runs of `count` over a stream with these runs.
abbrev pub CountRuns : {S A : Type 0} → Runs (Answer A) S → Runs (Poll ℕ) (Consume S Count)
CountRuns run = Folds run (fold_of (λ m. m.count) counts)

-- The runs of `fold` over a stream with these runs, with the function `g`.
abbrev pub FoldRuns : {S F T A : Type 0} → Runs (Answer A) S → Mut F (T × (A × Unit {0})) T → Consume S (Fold F T)
    → List (Poll T)
    → Consume S (Fold F T) → Type 0
FoldRuns run g = Folds run (fold_of (λ m. (m.f, m.acc)) (folds (CallsBoth g)))

-- The runs of `last` over a stream with these runs.
abbrev pub LastRuns : {S A : Type 0} → Runs (Answer A) S → Runs (Poll (Option A)) (Consume S (Last A))
LastRuns run = Folds run (fold_of (λ m. m.last) lasts)

-- Over a stream behind a `&mut` reference.
module _ {S A : Type 0} (run : Runs (Answer A) S) where
  -- The runs of `nth` over a stream with these runs.
  abbrev pub NthRuns : Runs (Poll (Option A)) (Consume (MutBor S) Nth)
  NthRuns = Folds (Lent run) (fold_of (λ m. m.n) nths)

  -- The runs of `find` over a stream with these runs, with the predicate `test`.
  abbrev pub FindRuns : {P : Type 0} → Question P A Bool → Runs (Poll (Option A)) (Consume (MutBor S) (Find P))
  FindRuns test = Folds (Lent run) (fold_of (λ m. m.predicate) (finds test))

-- The runs of `try_fold` over a stream with these runs, with the function `g`.
abbrev pub TryFoldRuns : {S F B T E : Type 0} → Runs (Answer (Result T E)) S → Mut F (B × (T × Unit {0})) (Result B E)
    → Runs (Poll (Result B E)) (Consume (MutBor S) (TryFold F B))
TryFoldRuns run g = Folds (Lent run) (fold_of (λ m. (m.f, m.acc)) (try_fold_steps (CallsBoth g)))

-- The runs of `zip` of two futures with these runs.
abbrev pub ZipRuns : {F G A B : Type 0} → Runs (Poll A) F → Runs (Poll B) G → Runs (Poll (A × B)) (Zip F G A B)
ZipRuns run_first run_second x l y = FutureZips run_first run_second x.first x.second l y.first y.second

-- The runs of `try_zip` of two futures with these runs.
abbrev pub TryZipRuns : {F G A B E : Type 0} → Runs (Poll (Result A E)) F → Runs (Poll (Result B E)) G
    → Runs (Poll (Result (A × B) E)) (TryZip F A G B)
TryZipRuns run_first run_second x l y = TryZips run_first run_second x.first x.second l y.first y.second

-- The items behind the first one that passes the test; none if no item does.
abbrev pub behind_match : {A : Type 0} → (A → Bool) → List A → List A
behind_match test [] = []
behind_match test (x ∷ xs) = cond (test x) xs (behind_match test xs)

-- If a search returned `Some`, the items of `s` are `xs`. Nothing is said of `None`.
abbrev pub RestIfFound : {S A B : Type 0} → Runs (Answer A) S → S → Option B → List A → Type 0
RestIfFound run s found xs = IfSome found (λ x. ListsAs run s xs)
