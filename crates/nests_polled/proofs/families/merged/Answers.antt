use Rattle.std.proofs.Common.{◌<◌}
use Rattle.futures_lite.specs.Laws.Each.{each_fused, each_merged}
use Rattle.futures_lite.specs.Laws.Sources.{each_scripted}
use Rattle.nests_polled.proofs.families.merged.Goals as goal

pub returns : goal.returns
returns c =
    let ran = c.run.ensures.ran in
    let merged = ran.2 in
    let came = each_scripted (λ x. x < 10) _ merged.came.ins _ (rw c.or-merged.ensures.parts c.requires.0) merged.came.came in
    let then_came =
    each_scripted (λ x. x < 10) _ merged.then_came.ins _
    (rw c.or-merged.ensures.parts c.requires.1) merged.then_came.came in
    let firsts = each_fused (λ x. x < 10) _ _ merged.came.ins merged.firsts came merged.came.related in
    let seconds = each_fused (λ x. x < 10) _ _ merged.then_came.ins merged.seconds then_came merged.then_came.related in
    let both = each_merged (λ x. x < 10) _ merged.firsts merged.seconds ran.0 firsts seconds merged.rows in
    (ran.0, ran.1, ran.3, ran.4, both)
