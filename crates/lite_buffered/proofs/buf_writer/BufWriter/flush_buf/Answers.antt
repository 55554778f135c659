use Rattle.std.specs.Prelude.{◌≡◌, ◌+◌, length, Err}
use Rattle.lite_buffered.specs.Uses.{◌∙◌, inl, inr, refl, ap, rules, arith, boxed_slice_items, error_kind, Interrupted, Ready}
use Rattle.lite_buffered.proofs.Draining.{drain_fails, drain_interrupted, drain_none, drain_some, drain_waits, drain_zero}
use Rattle.lite_buffered.proofs.Draining.{held_same}
use Rattle.lite_buffered.proofs.buf_writer.BufWriter.flush_buf.Goals.{then-eq+else-interruptions-lt-MOST_INTERRUPTIONS}
use Rattle.lite_buffered.proofs.buf_writer.BufWriter.flush_buf.Goals.{else-eq}
use Rattle.lite_buffered.proofs.buf_writer.BufWriter.flush_buf.Goals as goal

pub writes-init : goal.writes-init
writes-init g c = (drain_none g.W.WriteSpec.writes g.W.WriteSpec.write_laws c.args.self.now, λ fact holds. holds)

pub returns-in-Ready-Ok-eq0-clause-ran : goal.returns-in-Ready-Ok-eq0-clause-ran
returns-in-Ready-Ok-eq0-clause-ran g c =
    let y = c.writes.self in
    let e = c.offer.ensures in
    let s = c.shift.ensures in
    let ran = rw c.in-Ready-Ok-eq0.field-0-is at (rw c.in-Ready-Ok-eq0.is at e.ran) in
    let same = held_same y c.offer.new.self e.buf e.written e.len in
    drain_zero g.W.WriteSpec.writes g.W.WriteSpec.write_laws c.args.self.now
    y c.shift.new.self c.writes.interruptions c.in-Ready-Ok-eq0.field-0-0 (error_kind c.new.result)
    c.offer.new.self.inner c.writes.invariant.0 c.in-Ready-Ok-eq0.field-0-0-test ran s.inner c.writes-test.true
    c.new.ensures.kind
    (s.capacity ∙ ap (λ b. length (boxed_slice_items b)) e.buf) (s.held ∙ same)

pub writes-preserved-in-Ready-Ok : goal.writes-preserved-in-Ready-Ok
writes-preserved-in-Ready-Ok g c =
    let y = c.writes.self in
    let e = c.offer.ensures in
    let n = c.in-Ready-Ok.n in
    let most = rw c.in-Ready-Ok.field-0-is at (rw c.in-Ready-Ok.is at e.bound) in
    let ran = rw c.in-Ready-Ok.field-0-is at (rw c.in-Ready-Ok.is at e.ran) in (
      drain_some g.W.WriteSpec.writes g.W.WriteSpec.write_laws c.args.self.now
          y _ c.writes.interruptions n c.writes.invariant.0 ran (omega (arith, c.in-Ready-Ok.n-test)) most
          e.buf (ap (λ k. k + n) e.written) e.len,
      λ fact holds. e.context fact (c.writes.invariant.1 fact holds),
    )

pub writes-preserved : goal.writes-preserved
writes-preserved g c =
    let y = c.writes.self in
    let e = c.offer.ensures in
    let is : error_kind c.in-Ready-Err.e ≡ Interrupted = search rules in
    let ran = rw is at (rw c.in-Ready-Err.field-0-is at (rw c.in-Ready-Err.is at e.ran)) in (
      drain_interrupted g.W.WriteSpec.writes g.W.WriteSpec.write_laws c.args.self.now
          y c.offer.new.self c.writes.interruptions c.writes.invariant.0 ran c.writes-test.true
          c.if-interruptions-lt-MOST_INTERRUPTIONS.true e.buf e.written e.len,
      λ fact holds. e.context fact (c.writes.invariant.1 fact holds),
    )

pub returns-in-Ready-Err-2-clause-ran : goal.returns-in-Ready-Err-2-clause-ran
returns-in-Ready-Err-2-clause-ran g c =
    let y = c.writes.self in
    let e = c.offer.ensures in
    let s = c.shift-in-Ready-Err-2.ensures in
    let error = c.in-Ready-Err.e in
    let got : c.offer.result ≡ Ready (Err error) = search rules in
    let ran = rw got at e.ran in
    let same = held_same y c.offer.new.self e.buf e.written e.len in
    drain_fails g.W.WriteSpec.writes g.W.WriteSpec.write_laws c.args.self.now
    y c.shift-in-Ready-Err-2.new.self c.writes.interruptions _ (error_kind error) c.offer.new.self.inner
    c.writes.invariant.0 ran s.inner c.writes-test.true
    (inl (
      refl,
      λ is. elim c.if-eq.branch [
        | then-eq+else-interruptions-lt-MOST_INTERRUPTIONS w ↦ inr
            (omega (arith, c.writes.invariant.0.few, w.if-interruptions-lt-MOST_INTERRUPTIONS.false))
        | else-eq w ↦ absurd (search rules)
      ],
    ))
    (s.capacity ∙ ap (λ b. length (boxed_slice_items b)) e.buf) (s.held ∙ same)

pub returns-in-Pending-clause-ran : goal.returns-in-Pending-clause-ran
returns-in-Pending-clause-ran g c =
    let y = c.writes.self in
    let e = c.offer.ensures in
    let ran = rw c.in-Pending.is at e.ran in
    drain_waits g.W.WriteSpec.writes g.W.WriteSpec.write_laws c.args.self.now
    y c.offer.new.self c.writes.interruptions c.writes.invariant.0 ran c.writes-test.true
    (ap (λ b. length (boxed_slice_items b)) e.buf) (held_same y c.offer.new.self e.buf e.written e.len)
