use Rattle.std.specs.Prelude.{◌≡◌, ◌<◌, None, Ok, length, refl}
use Rattle.std.proofs.Common.{arith, inr, rules}
use Rattle.example_frames.proofs.netstring.NetstringDecoder.decode_eof.Goals as goal

pub returns-in-None-2 : goal.returns-in-None-2
returns-in-None-2 c =
    let is : c.decode.result ≡ Ok None = search rules in
    let kept = rw is at c.decode.ensures.kept in
    let next = rw is at c.decode.ensures.next in
    let some : 0 < length c.decode.new.src.items = grind (arith, c.if-is_empty.ensures) in
    inr (kept.1, kept.0, (rw kept.0 at some), refl, (rw (kept.1, kept.0) at next.0))
