use Rattle.std.proofs.Common.{◌≡◌, ◌<◌, length, rules}
use Rattle.example_words.specs.Laws.{next_words, no_word}
use Rattle.example_words.proofs.words.next_word.Goals as goal

pub returns-then-is_empty : goal.returns-then-is_empty
returns-then-is_empty c =
    let none : length c.trim_ascii_start-text.result.now ≡ 0 = search rules in
    no_word c.args.text.now c.trim_ascii_start-text.result.now c.trim_ascii_start-text.ensures.value none

pub returns : goal.returns
returns c =
    let some_left : 0 < length c.trim_ascii_start-text.result.now = search rules in
    next_words c.args.text.now c.trim_ascii_start-text.result.now _ c.trim_ascii_start-text.ensures.value some_left (search rules)
