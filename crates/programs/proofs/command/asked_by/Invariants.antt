use Rattle.programs.proofs.Words.{SoFar}
use Rattle.programs.proofs.command.asked_by.Given as goal

abbrev pub invariant-loop-word : goal.invariant-loop-word
invariant-loop-word l = SoFar l.fn.words.rest.items l.command l.word-iterator.rest.items
