use Rattle.std.specs.Prelude.{length, vec_capacity}
use Rattle.lite_theorems.specs.Uses.{◌∙◌, ap, done, rules, sym}
use Rattle.lite_theorems.proofs.Waited.{LacksBy, ToldByUntil, told_at, until_waited}
use Rattle.lite_theorems.proofs.waits.read_until_by.Goals as goal

pub returns-clause-told : goal.returns-clause-told
returns-clause-told g c =
    let made = c.read_until.ensures in
    let begun = ap (λ z. z.start) made ∙ sym (ap (λ z. length z.buf.now.items) made) in
    let buffer_of = g.T.AsyncBufRead.buffer_of in
    let h = rw c.read_until.ensures at (until_waited g.T.ReadSpec.read_laws buffer_of _ _ (done c.wait.result)
    begun (c.wait.ensures, tt)) in
    let same = h.1 in
    let lacks = LacksBy c.args.byte (vec_capacity c.args.buf.now) buffer_of in
    let told = told_at (ToldByUntil g.T.ReadSpec.reads c.args.byte lacks _ _ (done c.wait.result)) (search rules)
    (search rules) h.0 in
    (told.0, told.1, told.2, told.3, told.4)
