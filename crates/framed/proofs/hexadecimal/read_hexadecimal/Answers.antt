use Rattle.std.specs.Prelude.{◌≡◌, None}
use Rattle.std.proofs.Common.{rules}
use Rattle.framed.specs.Hexadecimal.{no_hexadecimal_text}
use Rattle.framed.proofs.hexadecimal.read_hexadecimal.Goals as goal

pub returns-in_err-ok-in_default : goal.returns-in_err-ok-in_default
returns-in_err-ok-in_default c =
    let is : c.from_residual.result ≡ None = search rules in
    rw is (no_hexadecimal_text c.args.text.now (search rules))
