use Rattle.std.specs.Prelude.{◌+◌, ◌-◌}
use Rattle.std.proofs.Common.{◌*◌}
use Rattle.lite_buffered.specs.Uses.{Keeps}
use Rattle.lite_buffered.proofs.Draining.{Draining}
use Rattle.lite_buffered.proofs.buf_writer.BufWriter.flush_buf.Given as goal

abbrev pub invariant-writes : goal.invariant-writes
invariant-writes g l = Draining g.W.WriteSpec.writes l.fn.self l.self l.interruptions × Keeps l.fn.cx l.cx

-- each byte that is held may be taken alone, after 16 interruptions
abbrev pub decreases-writes : goal.decreases-writes
decreases-writes g l = (l.self.len - l.self.written) * 17 + (16 - l.interruptions)
