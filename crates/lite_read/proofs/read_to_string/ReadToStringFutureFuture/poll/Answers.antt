use Rattle.lite_read.specs.ReadToString.{StringLacksMemory, all_over, read_to_string_fold}
use Rattle.lite_read.specs.Laws.Texts.{string_room}
use Rattle.lite_read.proofs.TextSteps.{text_on, text_ran}
use Rattle.lite_read.proofs.read_to_string.ReadToStringFutureFuture.poll.Goals as goal

pub returns-clause-ran : goal.returns-clause-ran
returns-clause-ran g c =
    (text_ran all_over read_to_string_fold (λ x y. StringLacksMemory x) string_room g.R.ReadSpec.read_laws
    c.drive.ensures.stepped).0

pub returns-clause-again : goal.returns-clause-again
returns-clause-again g c =
    text_on all_over read_to_string_fold (λ x y. StringLacksMemory x) g.met.R.CountedRead.counting c.args.self.now c.drive.new.t
    c.drive.result c.requires.0
    (text_ran all_over read_to_string_fold (λ x y. StringLacksMemory x) string_room g.R.ReadSpec.read_laws
    c.drive.ensures.stepped)
