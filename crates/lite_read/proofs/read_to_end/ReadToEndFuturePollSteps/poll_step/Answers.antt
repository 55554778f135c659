use Rattle.std.specs.Prelude.{◌≡◌, ◌<◌, ◌+◌, ◌-◌, max, vec_capacity, [], ◌∷◌, Ok, Err, length}
use Rattle.lite_read.specs.Uses.{ap, refl, rules, arith, length-take-le, common_steps, Ready, Pending, ReadMark}
use Rattle.lite_read.proofs.Appending.{gives_pending, gives_value, read_none, read_some, refused, room_made}
use Rattle.lite_read.proofs.Filling.{ends_behind}
use Rattle.lite_read.specs.ReadToEnd.{read_front}
use Rattle.lite_read.proofs.read_to_end.ReadToEndFuturePollSteps.poll_step.Goals as goal

pub returns-then-is_err-clause-stepped : goal.returns-then-is_err-clause-stepped
returns-then-is_err-clause-stepped g c =
    let m = c.make_room.ensures in
    let x = c.args.self.now in
    let w = c.make_room.new.self in
    let filled : w.filled ≡ x.filled = λ i. (m.same i).filled in
    let full : vec_capacity x.buf.now < x.filled + max 32 x.room = search (rules, common_steps) in
    gives_value x w m.within
    (refused _ g.R.ReadSpec.read_laws x w c.into.result (0, omega (arith, filled), omega (arith, filled, full)) m.same
    m.front c.into.ensures)

pub returns-in-Ready-Ok-clause-stepped : goal.returns-in-Ready-Ok-clause-stepped
returns-in-Ready-Ok-clause-stepped g c =
    let m = c.make_room.ensures in
    let e = c.poll_read.ensures in
    let is : c.poll_read.result ≡ Ready (Ok c.in-Ready-Ok.n) = search rules in
    read_some _ g.R.ReadSpec.reads c.args.self.now c.make_room.new.self c.poll_read.new.self c.deref_mut.result.now
    c.poll_read.new.buf c.in-Ready-Ok.n _ m.same m.front m.within c.deref_mut.ensures.value c.poll_read.auto.buf
    (rw is at e.bound) (omega (arith, c.in-Ready-Ok.n-test)) (rw is at e.ran) m.grows
    (omega arith)

pub returns-in-Ready-Ok-eq0-clause-stepped : goal.returns-in-Ready-Ok-eq0-clause-stepped
returns-in-Ready-Ok-eq0-clause-stepped g c =
    let x = c.args.self.now in
    let w = c.make_room.new.self in
    let m = c.make_room.ensures in
    let old = c.deref_mut.result.now in
    let new = c.poll_read.new in
    let is : c.poll_read.result ≡ Ready (Ok 0) = search rules in
    let end = ends_behind w.filled old new.buf c.deref_mut.ensures.value c.poll_read.auto.buf (search rules) in
    let front = length-take-le w.filled w.buf.now.items m.within in
    let held = length-take-le x.filled x.buf.now.items c.requires.within in
    let start : w.start ≡ x.start = λ i. (m.same i).start in
    let count : length (read_front x) ≡ x.start + (w.filled - w.start) =
    omega (arith, front, ap length m.front, start, c.requires.started, held) in
    let made = room_made x w new.self old new.buf m.same m.within c.deref_mut.ensures.value c.poll_read.auto.buf m.grows in
    gives_value x _ made.within
    (read_none _ g.R.ReadSpec.reads x w new.self old new.buf (ReadMark.end ∷ [])
    (Ready (Ok (w.filled - w.start))) m.same m.front m.within c.deref_mut.ensures.value c.poll_read.auto.buf
    (count, refl) (rw (is, end) at c.poll_read.ensures.ran))

pub returns-in-Ready-Err-clause-stepped : goal.returns-in-Ready-Err-clause-stepped
returns-in-Ready-Err-clause-stepped g c =
    let m = c.make_room.ensures in
    let is : c.poll_read.result ≡ Ready (Err c.in-Ready-Err.e) = search rules in
    let made = room_made c.args.self.now c.make_room.new.self c.poll_read.new.self c.deref_mut.result.now c.poll_read.new.buf
    m.same m.within c.deref_mut.ensures.value c.poll_read.auto.buf m.grows in
    gives_value c.args.self.now _ made.within
    (read_none _ g.R.ReadSpec.reads c.args.self.now c.make_room.new.self c.poll_read.new.self c.deref_mut.result.now
    c.poll_read.new.buf _ (Ready (Err c.in-Ready-Err.e)) m.same m.front m.within c.deref_mut.ensures.value
    c.poll_read.auto.buf (refl, refl) (rw is at c.poll_read.ensures.ran))

pub returns-in-Pending-clause-stepped : goal.returns-in-Pending-clause-stepped
returns-in-Pending-clause-stepped g c =
    let m = c.make_room.ensures in
    gives_pending c.args.self.now _
    (room_made c.args.self.now c.make_room.new.self c.poll_read.new.self c.deref_mut.result.now c.poll_read.new.buf
    m.same m.within c.deref_mut.ensures.value c.poll_read.auto.buf m.grows)
    (read_none _ g.R.ReadSpec.reads c.args.self.now c.make_room.new.self c.poll_read.new.self c.deref_mut.result.now
    c.poll_read.new.buf (ReadMark.pending ∷ []) Pending m.same m.front m.within c.deref_mut.ensures.value
    c.poll_read.auto.buf (refl, tt, refl) (rw c.in-Pending.is at c.poll_read.ensures.ran))
