use Rattle.std.specs.Prelude.{◌≡◌, [], ◌∷◌}
use Rattle.lite_merge.specs.Uses.{refl, Pending, end}
use Rattle.lite_merge.specs.Laws.StopAfterFuture.{beside_one}
use Rattle.lite_merge.proofs.stop_after_future.StopAfterFutureStream.poll_next.Goals as goal

pub returns-in-Pending-clause-ran : goal.returns-in-Pending-clause-ran
returns-in-Pending-clause-ran g c =
    let is : c.poll_next.result ≡ Pending = cc in
    record {
      ins = Pending ∷ [];
      came = rw is at c.poll_next.ensures.ran;
      related = rw c.in-Holding.is (beside_one g.Fut.Future.run _ _ _ c.in-Pending.ensures.ran, refl, refl);
    }

pub returns-in-None-clause-ran : goal.returns-in-None-clause-ran
returns-in-None-clause-ran g c =
    let is : c.poll_next.result ≡ end = cc in
    let beside = beside_one g.Fut.Future.run _ _ end c.in-Pending.ensures.ran in
    rw (c.stop-in-None.ensures, c.in-Holding.is) record {
      ins = end ∷ [];
      came = rw is at c.poll_next.ensures.ran;
      related = record {
        last = _;
        beside = beside;
        own = [];
        endless = refl;
        through_end = refl;
        goes_out = ([], tt, refl);
      };
    }
