use Rattle.std.specs.Prelude.{[], ◌∷◌, refl}
use Rattle.lite_future.specs.Picks.{PickRow}
use Rattle.lite_future.specs.Uses.{up_to_one}
use Rattle.lite_base.specs.Laws.Segments.{drawn_first, drawn_second}
use Rattle.lite_future.proofs.race.RaceFuture.poll.Goals as goal

pub returns-then-next_u32-eq1-clause-ran : goal.returns-then-next_u32-eq1-clause-ran
returns-then-next_u32-eq1-clause-ran g c =
    let r = c.poll_in_order.ensures.row in
    let rows = drawn_first PickRow _ c.if-next_u32-eq1.true r.4 in
    record {
      words = c.next_u32.result ∷ [];
      drawn = (_, c.next_u32.ensures, refl);
      picks = record { i = r.0; j = r.1; first = r.2; second = r.3; rows = rows; ends = up_to_one _ };
    }

pub returns-else-next_u32-eq1-clause-ran : goal.returns-else-next_u32-eq1-clause-ran
returns-else-next_u32-eq1-clause-ran g c =
    let r = c.poll_in_order-else-next_u32-eq1.ensures.row in
    let rows = drawn_second PickRow _ c.if-next_u32-eq1.false r.4 in
    record {
      words = c.next_u32.result ∷ [];
      drawn = (_, c.next_u32.ensures, refl);
      picks = record { i = r.1; j = r.0; first = r.3; second = r.2; rows = rows; ends = up_to_one _ };
    }
