-- Two runs that are recorded, each in a list of its own.
use Rattle.std.specs.Prelude.{◌≡◌, List, ◌++◌, length, Result, IfOk, IfErr}
use Rattle.lite_base.specs.Answers.{Answer, Comparable, strip}
use Rattle.lite_laws.specs.Both.{Fewer}
use Rattle.nests_agree.specs.declared.both.TwoRuns.{TwoRuns}

-- The results of its run were appended to each list, and `agree` holds of the two lists of results. They are as many as
-- the polls if the value is `Ok`, and fewer otherwise.
pub record BothAppended {A R E : Type 0} (agree : List (Answer A) → List (Answer A) → Type 0) (before after : TwoRuns A)
    (result : Result R E) : Type 0 where
  pub answers : List (Answer A)
  pub more_answers : List (Answer A)
  pub appended : (after.out.items ≡ before.out.items ++ answers)
      × (after.out_more.items ≡ before.out_more.items ++ more_answers)
      × (after.polls ≡ before.polls) × (after.more ≡ before.more)
  pub agreed : agree answers more_answers
  pub many : IfOk result (λ _. (length answers ≡ before.polls) × (length more_answers ≡ before.more))
      × IfErr result (λ _. Fewer answers more_answers before.polls before.more)

-- One of the two lists is a prefix of the other, if the `Pending`s are left out.
abbrev pub Begins : {A : Type 0} → List (Answer A) → List (Answer A) → Type 0
Begins l m = Comparable (strip l) (strip m)
