use Rattle.std.proofs.Common.{◌≡◌, ◌++◌, ◌∙◌, Err, ap, length, rules, sym}
use Rattle.example_words.specs.Records.{pending, record_lines}
use Rattle.example_words.proofs.Runs.{last_unwritten, line_unwritten, on_error, on_ok, sums_end, sums_line, sums_start, sums_stop, sums_unmade, sums_unread}
use Rattle.example_words.specs.declared.fault.WordsError.TheVariants.{Memory}
use Rattle.example_words.proofs.reduce.reduce.Goals as goal

pub loop-init : goal.loop-init
loop-init g c = (
  tt,
  tt,
  c.requires.counts,
  sums_start g.T.ReadSpec.reads g.O.WriteSpec.writes g.T.ReadSpec.read_laws g.O.WriteSpec.write_laws c.args.reader.now c.args.output.now
      c.new-sum.result c.new-sum.ensures,
)

pub read_line-requires : goal.read_line-requires
read_line-requires g c = record { counts = c.loop.invariant.2 }

pub returns-then-is_empty-clause-written : goal.returns-then-is_empty-clause-written
returns-then-is_empty-clause-written g c =
    let none : length c.read_line.new.line.items ≡ 0 = search rules in
    let text = c.deref.ensures.value ∙ c.in_ok-finish.ensures ∙ ap (λ k. k ++ record_lines (pending c.loop.sum)) c.clear.ensures.items in
    on_ok c.write_last.result
    (λ h. sums_end g.T.ReadSpec.reads g.O.WriteSpec.writes g.T.ReadSpec.read_laws g.O.WriteSpec.write_laws c.args.reader.now c.loop.reader
    c.read_line.new.reader c.args.output.now c.loop.output c.write_last.new.output c.loop.sum c.loop.number c.read_line.new.line.items
    c.deref.result.now c.in_ok-read_line.field-0 none text c.loop.invariant.3 c.in_ok-read_line.ensures.read h)
    c.write_last.ensures.written

pub loop-preserved : goal.loop-preserved
loop-preserved g c =
    let added = c.in_default.ensures.added in
    let line = sym c.deref-in-loop.ensures.value ∙ added.1 in
    let text = c.deref-in-loop-2.ensures.value ∙ added.3 ∙ ap (λ k. k ++ record_lines added.2) c.clear.ensures.items in (
      tt,
      tt,
      c.read_line.ensures.again,
      rw c.saturating_add-number.ensures
          (sums_line g.T.ReadSpec.reads g.O.WriteSpec.writes g.T.ReadSpec.read_laws g.O.WriteSpec.write_laws c.args.reader.now c.loop.reader
          c.read_line.new.reader c.args.output.now c.loop.output c.write.new.output c.loop.sum c.add_line.new.sum c.loop.number c.read_line.new.line.items
          c.deref-in-loop-2.result.now c.in_ok-read_line.field-0 added.0 added.2 line text added.4 c.loop.invariant.3
          c.in_ok-read_line.ensures.read c.in_ok-write.ensures.written),
    )

pub returns-in-Err-clause-stopped : goal.returns-in-Err-clause-stopped
returns-in-Err-clause-stopped g c =
    let line = c.deref-in-loop.ensures.value in
    rw c.saturating_add-number.ensures
    (sums_stop g.T.ReadSpec.reads g.O.WriteSpec.writes g.T.ReadSpec.read_laws g.O.WriteSpec.write_laws c.args.reader.now c.loop.reader
    c.read_line.new.reader c.args.output.now c.loop.output c.loop.sum c.loop.number c.read_line.new.line.items c.in_ok-read_line.field-0
    c.in-Err.e c.loop.invariant.3 c.in_ok-read_line.ensures.read (rw line at c.in-Err.ensures.refused))

pub returns-in_err-read_line-clause-stopped : goal.returns-in_err-read_line-clause-stopped
returns-in_err-read_line-clause-stopped g c =
    let is : c.from_residual.result ≡ Err c.in_err-read_line.field-0.0 = search rules in
    rw is
    (sums_unread g.T.ReadSpec.reads g.O.WriteSpec.writes g.T.ReadSpec.read_laws g.O.WriteSpec.write_laws c.args.reader.now c.loop.reader
    c.read_line.new.reader c.args.output.now c.loop.output c.loop.sum c.loop.number c.in_err-read_line.field-0.0 c.loop.invariant.3
    c.in_err-read_line.ensures.failed)

pub returns-in_err-finish-clause-stopped : goal.returns-in_err-finish-clause-stopped
returns-in_err-finish-clause-stopped g c =
    let none : length c.read_line.new.line.items ≡ 0 = search rules in
    let is : c.from_residual-in_err-finish.result ≡ Err Memory = search rules in
    rw is
    (sums_unmade g.T.ReadSpec.reads g.O.WriteSpec.writes g.T.ReadSpec.read_laws g.O.WriteSpec.write_laws c.args.reader.now c.loop.reader
    c.read_line.new.reader c.args.output.now c.loop.output c.loop.sum c.loop.number c.read_line.new.line.items c.in_ok-read_line.field-0
    none c.loop.invariant.3 c.in_ok-read_line.ensures.read)

pub returns-then-is_empty-clause-stopped : goal.returns-then-is_empty-clause-stopped
returns-then-is_empty-clause-stopped g c =
    let none : length c.read_line.new.line.items ≡ 0 = search rules in
    let text = c.deref.ensures.value ∙ c.in_ok-finish.ensures ∙ ap (λ k. k ++ record_lines (pending c.loop.sum)) c.clear.ensures.items in
    on_error c.write_last.result
    (λ e h. last_unwritten g.T.ReadSpec.reads g.O.WriteSpec.writes g.T.ReadSpec.read_laws g.O.WriteSpec.write_laws c.args.reader.now
    c.loop.reader c.read_line.new.reader c.args.output.now c.loop.output c.write_last.new.output c.loop.sum c.loop.number
    c.read_line.new.line.items c.deref.result.now c.in_ok-read_line.field-0 e none text c.loop.invariant.3 c.in_ok-read_line.ensures.read h)
    c.write_last.ensures.failed

pub returns-in_err-write-clause-stopped : goal.returns-in_err-write-clause-stopped
returns-in_err-write-clause-stopped g c =
    let added = c.in_default.ensures.added in
    let line = sym c.deref-in-loop.ensures.value ∙ added.1 in
    let text = c.deref-in-loop-2.ensures.value ∙ added.3 ∙ ap (λ k. k ++ record_lines added.2) c.clear.ensures.items in
    let is : c.from_residual-in_err-write.result ≡ Err c.in_err-write.field-0.0 = search rules in
    rw is
    (line_unwritten g.T.ReadSpec.reads g.O.WriteSpec.writes g.T.ReadSpec.read_laws g.O.WriteSpec.write_laws c.args.reader.now
    c.loop.reader c.read_line.new.reader c.args.output.now c.loop.output c.write.new.output c.loop.sum c.add_line.new.sum c.loop.number
    c.read_line.new.line.items c.deref-in-loop-2.result.now c.in_ok-read_line.field-0 added.0 added.2 c.in_err-write.field-0.0 line text
    added.4 c.loop.invariant.3 c.in_ok-read_line.ensures.read c.in_err-write.ensures.failed)
