use Rattle.std.proofs.Common.{◌≡◌, ◌<◌, false, length, rules, true}
use Rattle.example_pipeline.proofs.Added.{added, added_last, ended, start, stop_adding, stop_reading}
use Rattle.example_pipeline.proofs.pipeline.add_lines.Goals as goal

pub loop-init : goal.loop-init
loop-init g c = (
  tt,
  tt,
  c.requires.counts,
  start g.T.ReadSpec.reads g.O.WriteSpec.writes g.T.ReadSpec.read_laws g.O.WriteSpec.write_laws c.args.reader.now c.args.output.now
      c.args.sums.now c.requires.fresh,
)

pub read_line-requires : goal.read_line-requires
read_line-requires g c = record { counts = c.loop.invariant.2 }

pub returns-in-Err-clause-stopped : goal.returns-in-Err-clause-stopped
returns-in-Err-clause-stopped g c =
    rw c.saturating_add-next.ensures
    (stop_reading g.T.ReadSpec.reads g.O.WriteSpec.writes g.T.ReadSpec.read_laws g.O.WriteSpec.write_laws c.args.reader.now c.loop.reader
    c.read_line.new.reader c.args.output.now c.loop.output c.loop.sums c.loop.line c.in-Err.e c.reading.result c.loop.invariant.3
    c.in-Err.ensures.failed c.reading.ensures)

pub returns-then-is_empty-clause-whole : goal.returns-then-is_empty-clause-whole
returns-then-is_empty-clause-whole g c =
    let none : length c.read_line.new.line.items ≡ 0 = search rules in
    ended g.T.ReadSpec.reads g.O.WriteSpec.writes g.T.ReadSpec.read_laws g.O.WriteSpec.write_laws c.args.reader.now c.loop.reader
    c.read_line.new.reader c.args.output.now c.loop.output c.loop.sums c.loop.line c.read_line.new.line.items c.in-Ok.whole none
    c.loop.invariant.3 c.in-Ok.ensures.read

pub returns-in-Err-add_line-clause-stopped : goal.returns-in-Err-add_line-clause-stopped
returns-in-Err-add_line-clause-stopped g c =
    let long : 0 < length c.read_line.new.line.items = search rules in
    rw c.saturating_add-next.ensures
    (stop_adding g.T.ReadSpec.reads g.O.WriteSpec.writes g.T.ReadSpec.read_laws g.O.WriteSpec.write_laws c.args.reader.now c.loop.reader
    c.read_line.new.reader c.args.output.now c.loop.output c.add_line.new.output c.loop.sums c.add_line.new.sums c.loop.line
    c.read_line.new.line.items c.in-Ok.whole long c.loop.invariant.3 c.in-Ok.ensures.read c.in-Err-add_line.cause
    (rw c.deref.ensures.value at c.in-Err-add_line.ensures.failed))

pub returns-then-not-whole-clause-whole : goal.returns-then-not-whole-clause-whole
returns-then-not-whole-clause-whole g c =
    let long : 0 < length c.read_line.new.line.items = search rules in
    let last : c.in-Ok.whole ≡ false = search rules in
    added_last g.T.ReadSpec.reads g.O.WriteSpec.writes g.T.ReadSpec.read_laws g.O.WriteSpec.write_laws c.args.reader.now c.loop.reader
    c.read_line.new.reader c.args.output.now c.loop.output c.add_line.new.output c.loop.sums c.add_line.new.sums c.loop.line
    c.read_line.new.line.items c.in-Ok.whole long c.loop.invariant.3 c.in-Ok.ensures.read last
    (rw c.deref.ensures.value at c.in_default.ensures.added)

pub loop-preserved : goal.loop-preserved
loop-preserved g c =
    let long : 0 < length c.read_line.new.line.items = search rules in
    let next : c.in-Ok.whole ≡ true = search rules in (
      tt,
      tt,
      c.read_line.ensures.again,
      rw c.saturating_add-next.ensures
          (added g.T.ReadSpec.reads g.O.WriteSpec.writes g.T.ReadSpec.read_laws g.O.WriteSpec.write_laws c.args.reader.now c.loop.reader
          c.read_line.new.reader c.args.output.now c.loop.output c.add_line.new.output c.loop.sums c.add_line.new.sums c.loop.line
          c.read_line.new.line.items c.in-Ok.whole long c.loop.invariant.3 c.in-Ok.ensures.read next
          (rw c.deref.ensures.value at c.in_default.ensures.added)),
    )
