-- A fill says more than the trait's: when the inner reader is asked.
use base.Logic.{mono_l}
use contract.Monad.{fact}
use Rattle.lite_buffered.specs.Uses.{Keeps}
use Rattle.lite_io_base.proofs.Afterwards.{afterwards_weaker, clauses_give}
use denote.Param.{param}
use Rattle.lite_buffered.specs.contracts.buf_reader.BufReader.{the_row}
use Rattle.lite_buffered.proofs.buf_reader.BufReaderAsyncBufRead.TheImpl.Goals as goal

pub poll_fill_buf-meets : goal.poll_fill_buf-meets
poll_fill_buf-meets g c =
    clauses_give g.world.𝓤 _ _ _ _ (λ r e.
    mono_l g.world.𝓤 (fact g.world.𝓤 (Keeps c.args.cx.now e.1.0.now))
    (afterwards_weaker g.world.𝓤 g.world.𝓛 (the_row (param 0 g.row.R)) c.args.self _ _ (λ new h. (h.0, h.1))))
