-- What writes to a `Tally` do.
use Rattle.std.specs.Prelude.{◌≡◌, ◌+◌, ◌-◌, ◌^◌, length, min}
use Rattle.futures_lite.specs.Marks.{WriteMark}
use Rattle.example_own.specs.declared.tally.Tally.{Tally}

-- The bytes that are taken are counted, up to `u64::MAX`.
abbrev pub TallyStep : Tally → WriteMark → Tally → Type 0
TallyStep x (WriteMark.wrote xs) y = y ≡ record x { bytes = min (x.bytes + length xs) (2 ^ 64 - 1) }
TallyStep x WriteMark.nothing y = y ≡ x
TallyStep x WriteMark.flushed y = y ≡ x
TallyStep x WriteMark.closed y = y ≡ x
TallyStep x WriteMark.pending y = ⊥
TallyStep x (WriteMark.fault kind) y = ⊥
