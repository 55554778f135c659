-- A buffer and those before it are no longer than all.
use Rattle.std.specs.Prelude.{◌≡◌, ℕ, ◌≤◌, ◌<◌, ◌+◌, ◌++◌, List, length, take, get_or}
use Rattle.lite_io_base.specs.Uses.{ap, arith, length-append, io_slice_bytes, io_slices_bytes, IoSlice}
use Rattle.lite_io_base.specs.Laws.Runs.{slices_cut}
use Rattle.lite_io_base.proofs.vec.extend_from_slices.Goals as goal

within_all : (bufs : List IoSlice) (i : ℕ) (d : IoSlice) (here : List ℕ) → i < length bufs
    → here ≡ io_slice_bytes (get_or bufs i d)
    → length (io_slices_bytes (take i bufs)) + length here ≤ length (io_slices_bytes bufs)
within_all bufs i d here inside is =
    let cut = slices_cut bufs i d inside in
    let front = io_slices_bytes (take i bufs) in
    let item = io_slice_bytes (get_or bufs i d) in
    omega (arith, ap length cut.1, length-append front (item ++ cut.0), length-append item cut.0, ap length is)

pub returns-in-Err-clause-full : goal.returns-in-Err-clause-full
returns-in-Err-clause-full c =
    let bufs = c.args.bufs.now in
    let front = io_slices_bytes (take c.loop-buf-2.buf-index bufs) in
    let within = within_all bufs c.loop-buf-2.buf-index _ _ (omega arith) c.deref.ensures in
    let held = ap length c.loop-buf-2.invariant.appended in
    omega (arith, within, held, length-append c.args.bytes.now.items front, c.in-Err.ensures.full)
