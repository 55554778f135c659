use Rattle.std.proofs.Common.{◌≡◌, take}
use Rattle.std.specs.List.{AllZip}
use Rattle.std.specs.Fmt.{signed_decimal}
use Rattle.pollrun.specs.Request.{IsWritten}
use Rattle.pollrun.specs.Spelling.{spelled}
use Rattle.pollrun.proofs.request.script_of.Given as goal

abbrev pub invariant-loop-piece : goal.invariant-loop-piece
invariant-loop-piece l =
    AllZip (λ piece a. IsWritten a × (piece.now ≡ spelled signed_decimal a))
    (take l.piece-index l.pieces) l.script.items
