use Rattle.std.specs.Prelude.{refl}
use Rattle.std.proofs.Common.{inl, inr, rules}
use Rattle.framed.specs.Heads.{FindsDelimiter, body_taken, head_denied}
use Rattle.framed.specs.declared.Delimiter.TheVariants.{At}
use Rattle.framed.specs.declared.FrameError.TheVariants.{Malformed, TooLong}
use Rattle.example_frames.specs.Netstring.{netstring}
use Rattle.example_frames.proofs.netstring.NetstringDecoder.decode.Goals as goal

pub returns-in_default-clause-next : goal.returns-in_default-clause-next
returns-in_default-clause-next c =
    let xs = c.args.src.now.items in
    let found : FindsDelimiter 58 20 xs (At c.in-At.at) = search rules in
    head_denied netstring c.args.self.now xs c.in-At.at found Malformed (inl (refl, search rules))

pub returns-then-length-self-clause-next : goal.returns-then-length-self-clause-next
returns-then-length-self-clause-next c =
    let xs = c.args.src.now.items in
    let found : FindsDelimiter 58 20 xs (At c.in-At.at) = search rules in
    head_denied netstring c.args.self.now xs c.in-At.at found (TooLong c.in-Some.length)
    (inr (c.in-Some.length, refl, search rules, search rules, search rules))

pub returns-clause-next : goal.returns-clause-next
returns-clause-next c =
    let xs = c.args.src.now.items in
    let found : FindsDelimiter 58 20 xs (At c.in-At.at) = search rules in
    body_taken netstring c.args.self.now xs c.in-At.at found c.in-Some.length (search rules, search rules, search rules)
    c.take_body.result _ (search rules)
