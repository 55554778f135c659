use Rattle.std.proofs.Common.{◌≡◌, [], drop}
use Rattle.example_redis.specs.Commands.{shown_words, texts}
use Rattle.example_redis.proofs.commands.shown_words.Given as goal

-- What is left to show goes behind what is shown.
abbrev pub invariant-loop-word : goal.invariant-loop-word
invariant-loop-word l = shown_words [] (texts l.words) ≡ shown_words l.shown.items (texts (drop l.word-index l.words))
