use Rattle.std.proofs.Common.{◌≡◌, ◌<◌, ◌↔◌, length, rules, true}
use Rattle.std.specs.Char.{is_ascii_digit}
use Rattle.std.specs.List.{All}
use Rattle.example_words.proofs.Refusals.{numeral_test}
use Rattle.example_words.proofs.record.is_number.Goals as goal

pub returns-then-not-is_empty : goal.returns-then-not-is_empty
returns-then-not-is_empty c =
    let some : 0 < length c.args.bytes.now = search rules in
    let all : (c.all.result ≡ true) ↔ All (λ b. is_ascii_digit b ≡ true) c.args.bytes.now = search rules in
    numeral_test c.args.bytes.now c.all.result some all
