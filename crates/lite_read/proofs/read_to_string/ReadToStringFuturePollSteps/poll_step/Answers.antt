use Rattle.std.specs.Prelude.{◌≡◌, ◌<◌, ◌+◌, max, Ok, Err}
use Rattle.lite_read.specs.Uses.{rules, arith, length-take-le, common_steps, Ready}
use Rattle.lite_read.specs.Holding.{room_for}
use Rattle.lite_read.proofs.Strings.{answered, ended, failed, finished, read_some, refused, waited, wrote_long}
use Rattle.lite_read.proofs.TextSteps.{text_pending, text_value}
use Rattle.lite_read.proofs.Filling.{ends_behind}
use Rattle.lite_read.specs.ReadToString.{StringLacksMemory, all_over, read_to_string_fold, text_front}
use Rattle.lite_read.proofs.read_to_string.ReadToStringFuturePollSteps.poll_step.Goals as goal

pub returns-then-is_err-clause-stepped : goal.returns-then-is_err-clause-stepped
returns-then-is_err-clause-stepped g c =
    let x = c.args.self.now in
    let w = c.make_room.new.self in
    let m = c.make_room.ensures in
    let full : room_for x.text.now x.bytes < x.filled + max 32 x.room = search (rules, common_steps) in
    let long = length-take-le w.filled w.bytes.items m.held.within in
    text_value all_over read_to_string_fold (λ x y. StringLacksMemory x) _ _ _
    (finished _ g.R.ReadSpec.reads x w _ m.stays m.text m.front c.finish.ensures
    (refused (text_front w) c.into.result c.into.ensures
    (0, omega (arith, long, m.filled), omega (arith, long, m.filled, full)))
    (rw m.reader (g.R.ReadSpec.read_laws.rests x.reader.now)))

pub returns-in-Ready-Ok-eq0-clause-stepped : goal.returns-in-Ready-Ok-eq0-clause-stepped
returns-in-Ready-Ok-eq0-clause-stepped g c =
    let x = c.args.self.now in
    let w = c.make_room.new.self in
    let m = c.make_room.ensures in
    let old = c.deref_mut.result.now in
    let new = c.poll_read.new in
    let is : c.poll_read.result ≡ Ready (Ok 0) = search rules in
    let end = ends_behind w.filled old new.buf c.deref_mut.ensures.value c.poll_read.auto.buf (search rules) in
    text_value all_over read_to_string_fold (λ x y. StringLacksMemory x) _ _ _
    (answered _ g.R.ReadSpec.reads x w new.self old new.buf m.reader m.stays m.front m.held c.deref_mut.ensures.value
    c.poll_read.auto.buf m.text c.finish-in-Ready-Ok-eq0.ensures
    (ended _ _ (wrote_long (StringLacksMemory x) g.R.ReadSpec.reads x w new.self old new.buf m.reader m.stays m.front
    m.held c.deref_mut.ensures.value c.poll_read.auto.buf))
    (rw (is, end) at c.poll_read.ensures.ran))

pub returns-in-Ready-Ok-clause-stepped : goal.returns-in-Ready-Ok-clause-stepped
returns-in-Ready-Ok-clause-stepped g c =
    let m = c.make_room.ensures in
    let new = c.poll_read.new in
    let e = c.poll_read.ensures in
    let is : c.poll_read.result ≡ Ready (Ok c.in-Ready-Ok.n) = search rules in
    read_some _ g.R.ReadSpec.reads c.args.self.now c.make_room.new.self new.self c.deref_mut.result.now new.buf
    c.in-Ready-Ok.n _ m.reader m.filled m.grows (omega (arith, m.asked)) m.stays m.text m.front
    m.held c.deref_mut.ensures.value c.poll_read.auto.buf
    (rw is at e.bound) (omega (arith, c.in-Ready-Ok.n-test)) (rw is at e.ran)

pub returns-in-Ready-Err-clause-stepped : goal.returns-in-Ready-Err-clause-stepped
returns-in-Ready-Err-clause-stepped g c =
    let m = c.make_room.ensures in
    let new = c.poll_read.new in
    let is : c.poll_read.result ≡ Ready (Err c.in-Ready-Err.e) = search rules in
    text_value all_over read_to_string_fold (λ x y. StringLacksMemory x) _ _ _
    (answered _ g.R.ReadSpec.reads c.args.self.now c.make_room.new.self new.self c.deref_mut.result.now new.buf m.reader
    m.stays m.front m.held c.deref_mut.ensures.value c.poll_read.auto.buf m.text
    c.finish-in-Ready-Err.ensures (failed _ c.in-Ready-Err.e) (rw is at c.poll_read.ensures.ran))

pub returns-in-Pending-clause-stepped : goal.returns-in-Pending-clause-stepped
returns-in-Pending-clause-stepped g c =
    let m = c.make_room.ensures in
    let new = c.poll_read.new in
    text_pending all_over read_to_string_fold (λ x y. StringLacksMemory x) _ _
    (record { filled = omega (arith, m.filled); memory = m.grows; room = omega (arith, m.asked) })
    (waited _ g.R.ReadSpec.reads c.args.self.now c.make_room.new.self new.self c.deref_mut.result.now new.buf m.reader
    m.stays m.front m.held c.deref_mut.ensures.value c.poll_read.auto.buf m.text
    (rw c.in-Pending.is at c.poll_read.ensures.ran))
