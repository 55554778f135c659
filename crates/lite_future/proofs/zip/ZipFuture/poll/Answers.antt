use Rattle.std.specs.Prelude.{refl}
use Rattle.lite_future.specs.Laws.Together.{joined_pair, together_row}
use Rattle.lite_future.proofs.zip.ZipFuture.poll.Goals as goal

pub returns-clause-ran : goal.returns-clause-ran
returns-clause-ran g c =
    let first = c.ask.ensures.row in
    let second = c.ask-2.ensures.row in
    rw (joined_pair c.take_both.result)
    at (together_row {C = _ × _} (λ v. v) (λ w. w) (λ v w. (v, w)) g.F1.Future.run g.F2.Future.run (λ v w. (v, w))
    (λ v w. refl) _ _ _ _ _ _ first.0 second.0 c.take_both.result first.1 second.1 c.take_both.ensures)
