use Rattle.std.proofs.Common.{◌∙◌, ◌++◌, ap, refl, take}
use Rattle.std.specs.Prelude.{codes}
use Rattle.example_redis.specs.Commands.{Said, one_line, said}
use Rattle.example_redis.specs.Laws.Commands.{first_bytes}
use Rattle.example_redis.proofs.commands.unknown.Goals as goal

pub returns : goal.returns
returns c h =
    let name = c.args.name.now in
    let begun = codes "ERR unknown command '" in
    let behind = codes "', with args beginning with: " in
    let words = c.as_slice.ensures.value ∙ c.in_ok-shown_words.ensures in
    let text =
    c.in_ok-extend_from_slice-3.ensures.items ∙ ap (λ l. l ++ c.as_slice.result.now) (
    c.in_ok-extend_from_slice-2.ensures.items ∙ ap (λ l. l ++ behind) (
    c.in_ok-extend_from_slice.ensures.items ∙ ap (λ l. l ++ take c.min.result name) c.in_ok-text.ensures.items
    ∙ ap (λ l. begun ++ l) (first_bytes name c.min.result 128 c.min.ensures)
    )) ∙ ap (λ l. begun ++ take 128 name ++ behind ++ l) words in
    let line = c.in_ok-one_line.ensures ∙ ap one_line (c.as_slice-2.ensures.value ∙ text) in
    (ap said c.reply.ensures.reply ∙ ap Said.wrong line, c.reply.ensures.goes_on, refl)
