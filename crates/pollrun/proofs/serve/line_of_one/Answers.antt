use Rattle.std.proofs.Common.{rules}
use Rattle.pollrun.proofs.Piped.{Leaves-plainly, Replaces-doubled, printed}
use Rattle.pollrun.proofs.serve.line_of_one.Goals as goal

pub returns-in-Double : goal.returns-in-Double
returns-in-Double c =
    printed _ _ _ c.args.pipe c.polled-in-Double.result c.polled-in-Double.ensures (λ out t h.
    let doubles = Replaces-doubled _ (λ p q x y called. search rules) _ _ h.ins out h.related in
    (h.ins, t.stream, rw (c.map.ensures, c.script-source.ensures) at h.came, rw c.in-Double.is doubles))

pub returns-in-Evens : goal.returns-in-Evens
returns-in-Evens c =
    printed _ _ _ c.args.pipe c.polled-in-Evens.result c.polled-in-Evens.ensures (λ out t h.
    let evens = Leaves-plainly _ (λ p q x called. search rules)
    (λ p q x y called. (called.0, search rules)) _ _ h.ins out h.related in
    (h.ins, t.stream, rw (c.filter.ensures, c.script-source.ensures) at h.came, rw c.in-Evens.is evens))

pub returns-in-Take2 : goal.returns-in-Take2
returns-in-Take2 c =
    printed _ _ _ c.args.pipe c.polled-in-Take2.result c.polled-in-Take2.ensures (λ out t h.
    let came = rw (c.take.ensures, c.script-source.ensures) at h.came in
    (h.ins, t.stream, came, rw c.in-Take2.is (t.n, rw c.take.ensures at h.related)))
