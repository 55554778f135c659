use Rattle.std.proofs.Common.{rules, refl}
use Rattle.lite_base.specs.Laws.Calling.{answers_agree_from}
use Rattle.lite_read.specs.Laws.Marks.{SameText}
use Rattle.lite_io_base.specs.Steady.{SameOr}
use Rattle.nests_agree.proofs.Appended.{appended_as}
use Rattle.nests_agree.proofs.Found.{through_from}
use Rattle.nests_agree.proofs.LinesRead.{lines_read}
use Rattle.nests_agree.proofs.SameLengths.{same_future}
use Rattle.nests_agree.specs.Lengths.{WillGiveLength}
use Rattle.nests_agree.proofs.lines.futures_of_lines_agree.Goals as goal

pub both_appended-requires-clause-alike : goal.both_appended-requires-clause-alike
both_appended-requires-clause-alike g c = (
  (
    (search rules, search rules, refl),
    (answers_agree_from (SameOr SameText) _ _ WillGiveLength (λ f k x y d. search rules) same_future _ _, search rules),
  ),
  search rules,
)

pub returns : goal.returns
returns g c =
    appended_as
    (λ l m h.
    let ran = h.0 in
    let one = ran.first.came in
    let other = ran.second.came in (
      lines_read one.came (search rules) (search rules),
      lines_read other.came (search rules) (search rules),
      λ a b. ran.found (through_from ran.first (through_from one a)) (through_from ran.second (through_from other b)),
    ))
    c.both_appended.ensures
