-- The parts of a `BlockOn` of a reader or a writer.
use Rattle.lite_bridge.specs.declared.block_on.BlockOn.{BlockOn}

-- The reader or writer inside.
abbrev pub io_of : {K T : Type 0} → BlockOn K T → T
io_of x = x.io

-- What its calls wait by.
abbrev pub by_of : {K T : Type 0} → BlockOn K T → K
by_of x = x.by
