-- A fill says more than the trait's: which reader it leaves.
use base.Logic.{fst∗, mono_r, via}
use contract.Monad.{fact}
use Rattle.lite_io_base.proofs.Afterwards.{afterwards_weaker, clauses_give}
use Rattle.lite_io_base.specs.Runs.{Afterwards}
use denote.Param.{param}
use types.Logic.{sem}
use Rattle.lite_bridge.specs.contracts.block_on.BlockOn.{the_row}
use Rattle.lite_bridge.proofs.block_on.BlockOnBufRead.TheImpl.Goals as goal

pub fill_buf-meets : goal.fill_buf-meets
fill_buf-meets g c =
    let row = the_row (param 0 g.row.K) (param 1 g.row.T) in
    clauses_give g.world.𝓤 _ _ _ _ (λ r e.
    mono_r g.world.𝓤 (fact g.world.𝓤 _) (mono_r g.world.𝓤 (fact g.world.𝓤 _)
    (via g.world.𝓤 (sem g.world.𝓛 (Afterwards row c.args.self _)) (fst∗ g.world.𝓤 _ (fact g.world.𝓤 _))
    (afterwards_weaker g.world.𝓤 g.world.𝓛 row c.args.self _ _ (λ new h. h.0)))))
