use Rattle.std.proofs.Common.{rules, refl}
use Rattle.lite_base.specs.Alike.{OptionBy}
use Rattle.lite_base.specs.Answers.{strip}
use Rattle.lite_base.specs.Calling.{Kin}
use Rattle.lite_base.specs.Laws.Alike.{comparable_as, option_as}
use Rattle.lite_io_base.specs.Steady.{SameByKind}
use Rattle.nests_agree.proofs.Appended.{appended_as}
use Rattle.nests_agree.proofs.Found.{through_from}
use Rattle.nests_agree.proofs.LinesRead.{lines_read}
use Rattle.nests_agree.proofs.SameLengths.{kin_lengths, kin_tested}
use Rattle.nests_agree.proofs.lines.lengths_agree.Goals as goal

pub both_appended-requires-clause-alike : goal.both_appended-requires-clause-alike
both_appended-requires-clause-alike g c = (
  (((search rules, search rules, refl), Kin.one _), search rules),
  kin_tested _ (λ f g x y d. search rules) _ (λ p q x b d. search rules) _ _,
)

pub returns : goal.returns
returns g c =
    appended_as
    (λ l m h.
    let ran = h.0 in
    let one = ran.first.came.came in
    let other = ran.second.came.came in (
      lines_read one.came (search rules) (search rules),
      lines_read other.came (search rules) (search rules),
      λ a b.
          comparable_as _ (OptionBy SameByKind)
          (option_as _ SameByKind (kin_lengths _ (λ f g x y d. search rules))) (strip l) (strip m)
          (ran.found (through_from ran.first (through_from ran.first.came (through_from one a)))
          (through_from ran.second (through_from ran.second.came (through_from other b)))),
    ))
    c.both_appended.ensures
