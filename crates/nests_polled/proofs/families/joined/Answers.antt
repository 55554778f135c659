use Rattle.std.proofs.Common.{◌<◌}
use Rattle.futures_lite.specs.Laws.Each.{each_fused, each_joined}
use Rattle.futures_lite.specs.Laws.Sources.{each_scripted}
use Rattle.nests_polled.proofs.families.joined.Goals as goal

pub returns : goal.returns
returns c =
    let ran = c.run.ensures.ran in
    let chained = ran.2.came in
    let fused = c.fuse-joined.ensures.parts in
    let made = c.chain-chained.ensures.parts in
    let firsts = each_scripted (λ x. x < 10) _ chained.firsts _ (rw fused (rw made c.requires.0)) chained.came in
    let seconds = each_scripted (λ x. x < 10) _ chained.seconds _ (rw fused (rw made c.requires.1)) chained.then_came in
    let both = each_joined (λ x. x < 10) _ _ _ _ ran.2.ins firsts seconds chained.joined in
    (ran.0, ran.1, ran.3, ran.4, each_fused (λ x. x < 10) _ _ ran.2.ins ran.0 both ran.2.related)
