-- Laws of the test writer `Takes`: what it has taken does not depend on when it was pending.
use Rattle.std.proofs.Common.{List, [], ◌∷◌}
use Rattle.std.specs.Prelude.{⊤}
use Rattle.lite_io_base.specs.Steady.{NoPendingWrite}
use Rattle.lite_io_base.specs.WriteMarks.{WriteMark}
use Rattle.lite_mock.specs.Takes.{Orders}
use Rattle.lite_mock.specs.declared.takes.Order.{Order}
use Rattle.lite_mock.specs.declared.takes.Order.TheVariants.{Wait}
use Rattle.lite_base.specs.Runs.{Runs}

-- No order tells the writer to be pending.
abbrev pub NoPendingOrder : List Order → Type 0
NoPendingOrder [] = ⊤
NoPendingOrder (Wait ∷ l) = ⊥
NoPendingOrder (a ∷ l) = NoPendingOrder l

-- No write was pending, and no order that is left tells the writer to be.
abbrev pub BothOrders : Runs WriteMark Orders
BothOrders x l y = NoPendingWrite l × NoPendingOrder y.orders
