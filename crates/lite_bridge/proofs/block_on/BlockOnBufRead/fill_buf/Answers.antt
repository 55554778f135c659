use Rattle.std.specs.Prelude.{List, ℕ}
use Rattle.lite_bridge.specs.Uses.{refl, sym}
use Rattle.std.specs.Borrow.{Bor}
use Rattle.lite_bridge.proofs.Blocks.{fill_fails, fill_lends, filling_stays}
use Rattle.lite_bridge.proofs.block_on.BlockOnBufRead.fill_buf.Goals as goal

pub shape_of-self : goal.shape_of-self
shape_of-self g c = sym (filling_stays _ _ _ c.wait_for.ensures.gave)

pub returns-in-Err : goal.returns-in-Err
returns-in-Err g c =
    let left = c.wait_for.new.future.io.now in
    let failed = fill_fails (Bor (List ℕ)) g.T.ReadSpec.read_laws _ _ _ c.in-Err.e c.in-Err.is c.wait_for.ensures.gave in (
      (refl, (λ _. tt), ((tt, tt), failed, tt, rw c.in-Err.is at c.wait_for.ensures.used)),
      record {
        front = tt;
        end = tt;
        after_borrow = tt;
        shown = (left, failed, tt);
      },
    )

pub returns-in-Ok : goal.returns-in-Ok
returns-in-Ok g c =
    let left = c.wait_for.new.future.io.now in
    let lends = fill_lends g.T.ReadSpec.read_laws _ _ _ c.buffer.result c.in-Ok.is c.wait_for.ensures.gave in (
      (refl, (λ _. tt), ((tt, tt), lends, c.buffer.ensures, rw c.in-Ok.is at c.wait_for.ensures.used)),
      record {
        front = tt;
        end = tt;
        after_borrow = tt;
        shown = (left, lends, c.buffer.ensures);
      },
    )
