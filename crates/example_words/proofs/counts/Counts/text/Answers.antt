use Rattle.example_words.proofs.Tables.{words_sorted}
use Rattle.example_words.proofs.counts.Counts.text.Goals as goal

pub returns-clause-sorted : goal.returns-clause-sorted
returns-clause-sorted c = words_sorted c.args.self.now.counts.entries c.iter-word-items.ensures.ordered
