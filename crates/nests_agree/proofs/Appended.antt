-- What is said of the answers of two runs that were appended, in other words.
use Rattle.std.proofs.Common.{List, Result}
use Rattle.lite_base.specs.Answers.{Answer}
use Rattle.nests_agree.specs.Both.{BothAppended}
use Rattle.nests_agree.specs.declared.both.TwoRuns.{TwoRuns}

pub appended_as : {A R E : Type 0} {agree other : List (Answer A) → List (Answer A) → Type 0} {before after : TwoRuns A}
    {result : Result R E} → ((l m : List (Answer A)) → agree l m → other l m)
    → BothAppended agree before after result → BothAppended other before after result
appended_as told h =
    record {
      answers = h.answers;
      more_answers = h.more_answers;
      appended = h.appended;
      agreed = told h.answers h.more_answers h.agreed;
      many = h.many;
    }
