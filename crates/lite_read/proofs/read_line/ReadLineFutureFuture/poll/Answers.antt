use Rattle.lite_read.specs.ReadLine.{LineLacksMemory, line_over, read_line_fold}
use Rattle.lite_read.specs.Laws.Texts.{line_room}
use Rattle.lite_read.proofs.TextSteps.{text_on, text_ran}
use Rattle.lite_read.proofs.read_line.ReadLineFutureFuture.poll.Goals as goal

pub returns-clause-ran : goal.returns-clause-ran
returns-clause-ran g c =
    let buffer_of = g.R.AsyncBufRead.buffer_of in
    (text_ran line_over read_line_fold (LineLacksMemory buffer_of) (line_room buffer_of) g.R.ReadSpec.read_laws
    c.drive.ensures.stepped).0

pub returns-clause-again : goal.returns-clause-again
returns-clause-again g c =
    let buffer_of = g.R.AsyncBufRead.buffer_of in
    text_on line_over read_line_fold (LineLacksMemory buffer_of) g.met.R.CountedRead.counting c.args.self.now c.drive.new.t
    c.drive.result c.requires.0
    (text_ran line_over read_line_fold (LineLacksMemory buffer_of) (line_room buffer_of) g.R.ReadSpec.read_laws
    c.drive.ensures.stepped)
