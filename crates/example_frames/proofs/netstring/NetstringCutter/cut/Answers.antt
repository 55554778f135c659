use Rattle.std.specs.Prelude.{refl}
use Rattle.std.proofs.Common.{inl, inr, rules}
use Rattle.framed.specs.HeadCuts.{body_cut, head_cut_denied, head_cut_missing}
use Rattle.framed.specs.Heads.{FindsDelimiter}
use Rattle.framed.specs.declared.CutError.TheVariants.{Malformed, TooLong}
use Rattle.framed.specs.declared.Delimiter.TheVariants.{At}
use Rattle.example_frames.specs.Netstring.{netstring}
use Rattle.example_frames.proofs.netstring.NetstringCutter.cut.Goals as goal

pub returns-in-Missing : goal.returns-in-Missing
returns-in-Missing c = head_cut_missing netstring c.args.self.now c.args.bytes.now (search rules)

pub returns-in_default : goal.returns-in_default
returns-in_default c =
    let found : FindsDelimiter 58 20 c.args.bytes.now (At c.in-At.at) = search rules in
    head_cut_denied netstring c.args.self.now c.args.bytes.now c.in-At.at found Malformed (inl (refl, search rules))

pub returns-then-self-length : goal.returns-then-self-length
returns-then-self-length c =
    let found : FindsDelimiter 58 20 c.args.bytes.now (At c.in-At.at) = search rules in
    head_cut_denied netstring c.args.self.now c.args.bytes.now c.in-At.at found (TooLong c.in-Some.length)
    (inr (c.in-Some.length, refl, search rules, search rules, search rules))

pub returns : goal.returns
returns c =
    let found : FindsDelimiter 58 20 c.args.bytes.now (At c.in-At.at) = search rules in
    body_cut netstring c.args.self.now c.args.bytes.now c.in-At.at found c.in-Some.length (search rules, search rules, search rules)
    c.cut_body.result c.cut_body.ensures
