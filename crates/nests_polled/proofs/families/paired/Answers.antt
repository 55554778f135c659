use Rattle.std.proofs.Common.{◌<◌}
use Rattle.futures_lite.specs.Laws.Each.{each_paired}
use Rattle.futures_lite.specs.Laws.Sources.{each_scripted}
use Rattle.nests_polled.proofs.families.paired.Goals as goal

pub returns : goal.returns
returns c =
    let ran = c.run.ensures.ran in
    let zipped = ran.2 in
    let firsts = each_scripted (λ x. x < 10) _ zipped.firsts _
    (rw c.zip-pairs.ensures.parts c.requires.0) zipped.came in
    let seconds = each_scripted (λ y. 90 < y) _ zipped.seconds _
    (rw c.zip-pairs.ensures.parts c.requires.1) zipped.then_came in
    let paired = rw c.zip-pairs.ensures.parts at zipped.paired in (
      ran.0,
      ran.1,
      ran.3,
      ran.4,
      each_paired (λ x. x < 10) (λ y. 90 < y) zipped.firsts zipped.seconds ran.0 _ firsts seconds paired,
    )
