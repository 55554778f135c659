-- The value of `all`, by the items of the stream.
use Rattle.std.specs.Prelude.{◌≡◌, List, Bool, true, false}
use Rattle.lite_views.specs.Uses.{Question, fold_of}
use Rattle.lite_consume.specs.All.{all_fold}
use Rattle.lite_consume.specs.declared.all.All.{All}
use Rattle.std.specs.List.{list_all}
use Rattle.lite_views.proofs.Views.{AnswersAs}
use Rattle.lite_views.proofs.Consume.{MakesOnly, asked_made}

module _ {F A : Type 0} (asked : Question F A Bool) (f : F) (test : A → Bool)
    (acts : AnswersAs asked f test) where
  pub all_made : (p : All F) (xs : List A) → p.predicate ≡ f → MakesOnly (fold_of (λ m. m.predicate) (all_fold asked)) p xs
      (list_all test xs)
  all_made =
      asked_made (fold_of (λ m. m.predicate) (all_fold asked)) (λ m. m.predicate) asked f test acts _ (λ p q r s. s.0)
      (λ p q x xs s. (true, s, λ e. rw e)) (λ p q x r xs s. (false, s.1, λ e. rw (e, s.0)))
