use Rattle.std.specs.Prelude.{◌≡◌, ◌<◌, [], ◌∷◌, Ok, Err, length}
use Rattle.lite_read.specs.Uses.{refl, rules, arith, Ready, Pending, ReadMark}
use Rattle.lite_read.proofs.Filling.{ends_behind, exact_full, read_more, read_none, some_left}
use Rattle.lite_read.proofs.read_exact.ReadExactFuturePollSteps.poll_step.Goals as goal

pub returns-in-Ready-Ok-clause-stepped : goal.returns-in-Ready-Ok-clause-stepped
returns-in-Ready-Ok-clause-stepped g c =
    let x = c.args.self.now in
    let e = c.poll_read.ensures in
    let is : c.poll_read.result ≡ Ready (Ok c.in-Ready-Ok.n) = search rules in
    read_more g.R.ReadSpec.reads x c.poll_read.new.self c.poll_read.new.buf c.in-Ready-Ok.n c.requires
    c.poll_read.auto.buf (rw is at e.bound) (omega (arith, c.in-Ready-Ok.n-test)) (rw is at e.ran)

pub returns-then-self-clause-stepped : goal.returns-then-self-clause-stepped
returns-then-self-clause-stepped g c =
    let x = c.args.self.now in exact_full g.R.ReadSpec.reads x (g.R.ReadSpec.read_laws.rests x.reader.now) c.if-self.true

pub returns-in-Ready-Ok-eq0-clause-stepped : goal.returns-in-Ready-Ok-eq0-clause-stepped
returns-in-Ready-Ok-eq0-clause-stepped g c =
    let x = c.args.self.now in
    let is : c.poll_read.result ≡ Ready (Ok 0) = search rules in
    let room = some_left x.filled x.buf.now c.requires c.if-self.false in
    let less : x.filled < length x.buf.now = omega (arith, c.requires, c.if-self.false) in
    let end = ends_behind x.filled x.buf.now c.poll_read.new.buf refl c.poll_read.auto.buf less in
    read_none g.R.ReadSpec.reads x c.poll_read.new.self c.poll_read.new.buf (ReadMark.end ∷ []) (Ready (Err c.into.result))
    c.requires c.poll_read.auto.buf ((room, c.into.ensures), refl)
    (rw (is, end) at c.poll_read.ensures.ran)

pub returns-in-Ready-Err-clause-stepped : goal.returns-in-Ready-Err-clause-stepped
returns-in-Ready-Err-clause-stepped g c =
    let x = c.args.self.now in
    let is : c.poll_read.result ≡ Ready (Err c.in-Ready-Err.e) = search rules in
    let room = some_left x.filled x.buf.now c.requires c.if-self.false in
    read_none g.R.ReadSpec.reads x c.poll_read.new.self c.poll_read.new.buf _ (Ready (Err c.in-Ready-Err.e)) c.requires
    c.poll_read.auto.buf ((room, refl), refl) (rw is at c.poll_read.ensures.ran)

pub returns-in-Pending-clause-stepped : goal.returns-in-Pending-clause-stepped
returns-in-Pending-clause-stepped g c =
    let x = c.args.self.now in
    let room = some_left x.filled x.buf.now c.requires c.if-self.false in
    read_none g.R.ReadSpec.reads x c.poll_read.new.self c.poll_read.new.buf (ReadMark.pending ∷ []) Pending c.requires
    c.poll_read.auto.buf (refl, room, refl) (rw c.in-Pending.is at c.poll_read.ensures.ran)
