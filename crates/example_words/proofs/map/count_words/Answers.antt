use Rattle.std.proofs.Common.{◌≡◌, Err, false, rules, true}
use Rattle.example_words.proofs.Runs.{counts_last, counts_line, counts_start, counts_stop, counts_unread}
use Rattle.example_words.proofs.map.count_words.Goals as goal

pub loop-init : goal.loop-init
loop-init g c = (
  tt,
  tt,
  c.requires.counts,
  counts_start g.T.ReadSpec.reads g.T.ReadSpec.read_laws c.args.reader.now c.new-counts.result c.new-counts.ensures,
)

pub read_line-requires : goal.read_line-requires
read_line-requires g c = record { counts = c.loop.invariant.2 }

pub returns-then-not-more-clause-counted : goal.returns-then-not-more-clause-counted
returns-then-not-more-clause-counted g c =
    let last : c.in_ok-more.more ≡ false = search rules in
    counts_last g.T.ReadSpec.reads g.T.ReadSpec.read_laws c.args.reader.now c.loop.reader c.read_line.new.reader c.loop.counts c.add_line.new.self c.loop.number
    c.read_line.new.line.items (rw c.deref.ensures.value at c.in_default.ensures.counts) c.in_default.ensures.positive c.loop.invariant.3
    (rw last at c.in_ok-more.ensures.read)

pub loop-preserved : goal.loop-preserved
loop-preserved g c =
    let next : c.in_ok-more.more ≡ true = search rules in (
      tt,
      tt,
      c.read_line.ensures.again,
      rw c.saturating_add-number.ensures
          (counts_line g.T.ReadSpec.reads g.T.ReadSpec.read_laws c.args.reader.now c.loop.reader c.read_line.new.reader c.loop.counts
          c.add_line.new.self c.loop.number c.read_line.new.line.items
          (rw c.deref.ensures.value at c.in_default.ensures.counts) c.in_default.ensures.positive c.loop.invariant.3
          (rw next at c.in_ok-more.ensures.read)),
    )

pub returns-in-Err-clause-stopped : goal.returns-in-Err-clause-stopped
returns-in-Err-clause-stopped g c =
    rw c.saturating_add-number.ensures
    (counts_stop g.T.ReadSpec.reads g.T.ReadSpec.read_laws c.args.reader.now c.loop.reader c.read_line.new.reader c.loop.counts c.loop.number
    c.read_line.new.line.items c.in_ok-more.more c.in-Err.e c.loop.invariant.3 c.in_ok-more.ensures.read
    (rw c.deref.ensures.value at c.in-Err.ensures.refused))

pub returns-in_err-more-clause-stopped : goal.returns-in_err-more-clause-stopped
returns-in_err-more-clause-stopped g c =
    let is : c.from_residual.result ≡ Err c.in_err-more.field-0.0 = search rules in
    rw is
    (counts_unread g.T.ReadSpec.reads g.T.ReadSpec.read_laws c.args.reader.now c.loop.reader c.read_line.new.reader c.loop.counts c.loop.number
    c.in_err-more.field-0.0 c.loop.invariant.3 c.in_err-more.ensures.failed)
