use Rattle.std.specs.Prelude.{◌≡◌, ◌≤◌, [], take}
use Rattle.lite_halves.specs.Counts.{counted_in, numbers_of}
use Rattle.lite_halves.specs.Entry.{notes_in}
use Rattle.lite_halves.proofs.journalled.tally.SideBooks.fill.Given as goal

abbrev pub invariant-loop-entry : goal.invariant-loop-entry
invariant-loop-entry g l =
    (numbers_of l.tally ≡ counted_in l.side (notes_in (take l.entry-index l.entries))) × (l.tally.made ≡ [])
    × (l.tally.calls ≤ l.entry-index)
