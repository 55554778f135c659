use Rattle.std.proofs.Common.{◌<◌}
use Rattle.futures_lite.specs.Answers.{EachItem}
use Rattle.futures_lite.specs.Laws.Each.{each_flat}
use Rattle.futures_lite.specs.Laws.Sources.{each_scripted}
use Rattle.nests_polled.proofs.families.flattened.Goals as goal

pub returns : goal.returns
returns c =
    let ran = c.run.ensures.ran in
    let came = each_scripted (EachItem (λ x. x < 10)) _ ran.2.ins _
    (rw c.flatten-flat.ensures.parts c.requires) ran.2.came in
    let flat = each_flat _ (EachItem (λ x. x < 10)) (λ x. x < 10)
    (λ s t l given told. each_scripted (λ x. x < 10) s l t given told) in
    (ran.0, ran.1, ran.3, ran.4, flat ran.2.ins ran.0 _ came (rw c.flatten-flat.ensures.parts at ran.2.related))
