use Rattle.std.specs.Prelude.{[], ◌∷◌}
use Rattle.lite_merge.specs.Uses.{refl}
use Rattle.lite_base.specs.Laws.Segments.{drawn_first, drawn_second}
use Rattle.lite_merge.specs.Merge.{MergeRow}
use Rattle.lite_merge.proofs.race.RaceStream.poll_next.Goals as goal

pub returns-then-next_u32-eq1-clause-ran : goal.returns-then-next_u32-eq1-clause-ran
returns-then-next_u32-eq1-clause-ran g c =
    rw (← c.self.view_is)
    let r = c.poll_in_order.ensures.row in
    let rows = drawn_first MergeRow _ c.if-next_u32-eq1.true r.4 in
    record {
      words = c.next_u32.result ∷ [];
      drawn = (_, c.next_u32.ensures, refl);
      merges = record { firsts = r.0; seconds = r.1; came = r.2; then_came = r.3; rows = rows };
    }

pub returns-else-next_u32-eq1-clause-ran : goal.returns-else-next_u32-eq1-clause-ran
returns-else-next_u32-eq1-clause-ran g c =
    rw (← c.self.view_is)
    let r = c.poll_in_order-else-next_u32-eq1.ensures.row in
    let rows = drawn_second MergeRow _ c.if-next_u32-eq1.false r.4 in
    record {
      words = c.next_u32.result ∷ [];
      drawn = (_, c.next_u32.ensures, refl);
      merges = record { firsts = r.1; seconds = r.0; came = r.3; then_came = r.2; rows = rows };
    }
