use Rattle.std.specs.Prelude.{◌<◌, length}
use Rattle.lite_buffered.specs.Uses.{rules, sym, subst, arith, CountsWithin}
use Rattle.lite_buffered.proofs.Crossing.{reads_wide}
use Rattle.lite_buffered.proofs.chain.read_within.Goals as goal

pub returns-then-total_room-room-clause-ran : goal.returns-then-total_room-room-clause-ran
returns-then-total_room-room-clause-ran g c =
    let p = c.poll_read_vectored in
    let h = p.ensures.ran in
    let fits : CountsWithin p.result c.args.room = search rules in
    let within = subst (CountsWithin p.result) (sym h.1) p.ensures.bound in
    let some : 0 < length h.0 = omega (arith, h.1, c.total_room.ensures, c.if-total_room-room.true, c.requires) in
    reads_wide g.R.ReadSpec.reads _ _ p.result h.0 c.args.room some c.requires within fits h.2

pub returns-clause-ran : goal.returns-clause-ran
returns-clause-ran g c =
    let p = c.read_byte in
    let h = p.ensures.ran in
    let fits : CountsWithin p.result c.args.room = search rules in
    let within = subst (CountsWithin p.result) (sym h.1) p.ensures.bound in
    let some : 0 < length h.0 = omega (arith, h.1) in
    reads_wide g.R.ReadSpec.reads _ _ p.result h.0 c.args.room some c.requires within fits h.2
