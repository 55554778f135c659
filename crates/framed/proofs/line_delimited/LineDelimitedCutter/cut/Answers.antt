use Rattle.std.proofs.Common.{arith}
use Rattle.framed.specs.Heads.{FindsDelimiter}
use Rattle.framed.specs.declared.delimiter.Delimiter.TheVariants.{At, Missing}
use Rattle.framed.proofs.Lines.{line_cut, line_open, seen_has_none}
use Rattle.framed.proofs.line_delimited.LineDelimitedCutter.cut.Goals as goal

pub find_delimiter_behind-requires-clause-none : goal.find_delimiter_behind-requires-clause-none
find_delimiter_behind-requires-clause-none c = seen_has_none c.args.self.now c.args.bytes.now c.args.seen c.requires.undecided

pub returns-in-At : goal.returns-in-At
returns-in-At c =
    let found : FindsDelimiter 10 c.args.self.now.max c.args.bytes.now (At c.in-At.at) = rw c.in-At.is at c.find_delimiter_behind.ensures in
    line_cut c.args.self.now c.args.bytes.now c.in-At.at c.line_length.result found c.line_length.ensures.within c.line_length.ensures.line

pub returns-in-Missing : goal.returns-in-Missing
returns-in-Missing c =
    let h : FindsDelimiter 10 c.args.self.now.max c.args.bytes.now Missing = rw c.in-Missing.is at c.find_delimiter_behind.ensures in
    (omega arith, λ more less. line_open c.args.self.now c.args.bytes.now h.0 h.1 more less)
