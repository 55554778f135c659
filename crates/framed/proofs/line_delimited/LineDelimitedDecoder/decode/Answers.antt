use Rattle.std.specs.Prelude.{◌≡◌, ◌+◌, drop, refl, take}
use Rattle.std.proofs.Common.{◌∙◌, ap, arith, rules, sym, take-append-drop}
use Rattle.std.proofs.lemmas.List.{take-take}
use Rattle.framed.specs.Uses.{without_return}
use Rattle.framed.proofs.Lines.{line_found, line_lacks_memory}
use Rattle.framed.specs.Heads.{FindsDelimiter}
use Rattle.framed.specs.declared.delimiter.Delimiter.TheVariants.{At}
use Rattle.framed.proofs.line_delimited.LineDelimitedDecoder.decode.Goals as goal

pub returns-in_err-line-clause-next : goal.returns-in_err-line-clause-next
returns-in_err-line-clause-next c =
    let xs = c.args.src.now.items in
    let at = c.in-At.end in
    let found : FindsDelimiter 10 c.args.self.now.max xs (At at) = rw (c.in-At.is, c.as_slice.ensures) at c.find_delimiter.ensures in
    line_lacks_memory c.args.self.now xs at found c.from_residual.result c.from_residual.ensures.0 c.from_residual.ensures.1 _ (search rules)

pub returns-clause-next : goal.returns-clause-next
returns-clause-next c =
    let xs = c.args.src.now.items in
    let at = c.in-At.end in
    let found : FindsDelimiter 10 c.args.self.now.max xs (At at) = rw (c.in-At.is, c.as_slice.ensures) at c.find_delimiter.ensures in
    let text : c.truncate.new.self.items ≡ take at xs =
    c.truncate.ensures.items ∙ ap (take at) c.in_ok-line.ensures.front ∙ take-take at (at + 1) xs (omega arith) in
    let line : c.truncate-2.new.self.items ≡ without_return (take at xs) =
    c.truncate-2.ensures.items ∙ (rw c.as_slice-2.ensures at c.line_length.ensures.line) ∙ ap without_return text in
    let rest : c.split_to.new.self.items ≡ drop (at + 1) xs = search rules in
    (refl, take (at + 1) xs, rw line (line_found c.args.self.now xs at found), rw rest (sym (take-append-drop (at + 1) xs)))
