-- The value of `find`, by the items of the stream.
use Rattle.std.specs.Prelude.{◌≡◌, List, Bool, true, false}
use Rattle.lite_views.specs.Uses.{Find, Answer, Consume, Hints, MutBor, Question, Runs, StreamLaws, fold_of, finds}
use Rattle.std.specs.List.{find}
use Rattle.lite_views.specs.Futures.{FindRuns, RestIfFound, behind_match}
use Rattle.lite_views.specs.Views.{Lists}
use Rattle.lite_views.specs.Answering.{WhenLeft}
use Rattle.lite_views.proofs.Views.{AnswersAs}
use Rattle.lite_views.proofs.Consume.{MakesOnly, asked_left, asked_made}

module _ {F A : Type 0} (asked : Question F A Bool) (f : F) (test : A → Bool)
    (acts : AnswersAs asked f test) where
  pub find_made : (p : Find F) (xs : List A) → p.predicate ≡ f → MakesOnly
      (fold_of (λ m. m.predicate) (finds asked)) p xs (find test xs)
  find_made =
      asked_made (fold_of (λ m. m.predicate) (finds asked)) (λ m. m.predicate) asked f test acts _ (λ p q r s. s.0)
      (λ p q x xs s. (false, s, λ e. rw e)) (λ p q x r xs s. (true, s.1, λ e. rw (e, s.0)))

  pub find_left : {S E : Type 0} {run : Runs (Answer A) S} {can_poll : S → Type 0} {hints : Hints S} (laws : StreamLaws can_poll run hints)
      (x : Consume (MutBor S) (Find F)) (xs : List A) → Lists run x.stream.now xs → x.folder.predicate ≡ f
      → WhenLeft E (FindRuns run asked) x (λ y. y.stream.ghost_name ≡ x.stream.ghost_name)
      (λ y v. (v ≡ find test xs) × RestIfFound run y.stream.now v (behind_match test xs))
  find_left laws x xs lists from =
      asked_left (fold_of (λ m. m.predicate) (finds asked)) (λ m. m.predicate) asked f test acts (behind_match test)
      (λ p q r s. s.0) (λ p q x xs s. (false, s, λ e. rw e)) (λ p q x r xs s. (true, s.1, λ e. rw e)) laws x xs lists
      from (find test xs) (find_made x.folder xs from)
