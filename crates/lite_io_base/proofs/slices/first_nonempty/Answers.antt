use Rattle.std.specs.Prelude.{◌++◌}
use Rattle.lite_io_base.specs.Uses.{ap, sym, ◌∙◌}
use Rattle.lite_io_base.specs.Laws.Runs.{slices_at}
use Rattle.lite_io_base.proofs.slices.first_nonempty.Goals as goal

pub returns-then-not-is_empty-clause-front : goal.returns-then-not-is_empty-clause-front
returns-then-not-is_empty-clause-front c =
    let cut = slices_at c.args.bufs.now c.loop-buf.buf-index _ c.loop-buf-test.true c.loop-buf.invariant in
    (cut.0, cut.1 ∙ ap (λ l. l ++ cut.0) (sym c.deref-then-not-is_empty.ensures))
