use Rattle.std.specs.Prelude.{◌≡◌, ◌++◌, ◌∷◌, [], Err, false, refl, true}
use Rattle.std.proofs.Common.{rules}
use Rattle.framed.proofs.Serving.{folds_push}
use Rattle.framed.proofs.server.serve.Goals as goal

pub loop-init : goal.loop-init
loop-init g c = (c.requires, [], refl)

pub returns-in_err-serve_next-clause-served : goal.returns-in_err-serve_next-clause-served
returns-in_err-serve_next-clause-served g c =
    let (counts, done, so_far) = c.loop.invariant in
    let is : c.from_residual.result ≡ Err c.in_err-serve_next.field-0.0 = search rules in
    rw is (done, _, so_far, c.in_err-serve_next.ensures.served)

pub returns-then-not-branch-clause-served : goal.returns-then-not-branch-clause-served
returns-then-not-branch-clause-served g c =
    let (counts, done, so_far) = c.loop.invariant in
    let over : c.in_ok-serve_next.field-0 ≡ false = search rules in
    (done, _, so_far, rw over at c.in_ok-serve_next.ensures.served)

pub loop-preserved : goal.loop-preserved
loop-preserved g c =
    let (counts, done, so_far) = c.loop.invariant in
    let more : c.in_ok-serve_next.field-0 ≡ true = search rules in
    let e = c.in_ok-serve_next.ensures in
    let one = rw more at e.served in
    (e.again, done ++ one.0 ∷ [], folds_push _ _ _ _ done one.0 so_far one.1)
