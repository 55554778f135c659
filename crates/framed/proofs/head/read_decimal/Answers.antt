use Rattle.std.specs.Prelude.{◌≡◌, ◌≢◌, None, length, slice_index}
use Rattle.std.proofs.Common.{rules}
use Rattle.framed.proofs.Heads.{no_plus, no_text, no_zero_before, parsed}
use Rattle.framed.proofs.head.read_decimal.Goals.{in_default-via-in-Some+in_default, in_default-via-in-Some-eq48+else-text-gt1, in_default-via-in_default}
use Rattle.framed.proofs.head.read_decimal.Goals as goal

pub returns-in-Some-eq43 : goal.returns-in-Some-eq43
returns-in-Some-eq43 c = no_plus c.args.text.now (search rules)

pub returns-in-Some-eq48 : goal.returns-in-Some-eq48
returns-in-Some-eq48 c = no_zero_before c.args.text.now (search rules) (search rules)

pub returns-in_err-ok-in_default : goal.returns-in_err-ok-in_default
returns-in_err-ok-in_default c =
    let is : c.from_residual.result ≡ None = search rules in
    rw is (no_text c.args.text.now (search rules))

pub returns-in_ok-ok-in_default : goal.returns-in_ok-ok-in_default
returns-in_ok-ok-in_default c =
    let text = c.args.text.now in
    let first : (slice_index text 0 ≢ 43) × (slice_index text 0 ≡ 48 → length text ≡ 1) =
    elim c.in_default.branch [
      | in_default-via-in-Some-eq48+else-text-gt1 w ↦ search rules
      | in_default-via-in-Some+in_default w ↦ search rules
      | in_default-via-in_default w ↦ search rules
    ] in
    rw c.ok-in_default.ensures.value (parsed text c.parse.result first.0 first.1 (search rules))
