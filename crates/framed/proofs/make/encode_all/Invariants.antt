use Rattle.std.specs.Prelude.{◌≡◌, ◌≤◌, ◌+◌, ◌++◌, [], length}
use Rattle.std.specs.Vec.Iter.{into_iter_items}
use Rattle.tokio_util.specs.Codec.Whole.{EncodesAll}
use Rattle.framed.proofs.make.encode_all.Given as goal

abbrev pub invariant-loop-item : goal.invariant-loop-item
invariant-loop-item g l =
    EncodesAll g.E.Encoder.encodes l.initial.encoder l.yielded l.out.items l.encoder
    × (l.fn.items.items ≡ l.yielded ++ into_iter_items l.item-iterator)
    × (l.yielded ≡ [] → length l.fn.out.items + l.fn.out.spare ≤ l.out.spare)
