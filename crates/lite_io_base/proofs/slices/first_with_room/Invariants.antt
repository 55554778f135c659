-- No buffer so far has room.
use Rattle.std.specs.Prelude.{◌≡◌, take}
use Rattle.lite_io_base.specs.Runs.{room_in}
use Rattle.lite_io_base.proofs.slices.first_with_room.Given as goal

abbrev pub invariant-loop-i : goal.invariant-loop-i
invariant-loop-i l = room_in (take l.i l.bufs) ≡ 0
