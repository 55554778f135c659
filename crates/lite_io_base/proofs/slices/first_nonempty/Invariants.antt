-- No buffer so far has a byte.
use Rattle.std.specs.Prelude.{◌≡◌, [], take}
use Rattle.lite_io_base.specs.Uses.{io_slices_bytes}
use Rattle.lite_io_base.proofs.slices.first_nonempty.Given as goal

abbrev pub invariant-loop-buf : goal.invariant-loop-buf
invariant-loop-buf l = io_slices_bytes (take l.buf-index l.bufs) ≡ []
