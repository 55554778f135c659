use Rattle.std.proofs.Common.{Bor, List, ℕ}
use Rattle.std.proofs.lemmas.Result.{IfOk-weaker}
use Rattle.lite_write.specs.Laws.Copy.{ok_no_failure}
use Rattle.lite_buffered.specs.Laws.Chain.{chain_steady}
use Rattle.lite_io_base.specs.Laws.Steady.{slice_steady}
use Rattle.nests_agree.proofs.writes.chained_agree.Goals as goal

pub returns : goal.returns
returns g c =
    let chained = chain_steady g.met.T.SteadyRead.steady (slice_steady (λ (r : Bor (List ℕ)). r.now)) in
    let found = chained.found (c.requires.found, tt) in
    IfOk-weaker c.block_on_both.result _ _
    (λ values both m n. both.found (ok_no_failure found _ both.ins values.0 m both.first)
    (ok_no_failure found _ both.others values.1 n both.second))
    c.block_on_both.ensures
