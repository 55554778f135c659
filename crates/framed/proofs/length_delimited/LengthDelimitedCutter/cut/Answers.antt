use Rattle.std.specs.Prelude.{drop, refl}
use Rattle.std.proofs.Common.{rules}
use Rattle.framed.proofs.Delimited.{header_first}
use Rattle.framed.proofs.length_delimited.LengthDelimitedCutter.cut.Goals as goal

pub returns-then-payload-self : goal.returns-then-payload-self
returns-then-payload-self c =
    (_, drop 4 c.args.bytes.now, header_first _ _ (search rules), (c.length_of-payload.result, search rules, search rules, refl, refl))
