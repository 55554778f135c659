use Rattle.std.specs.Prelude.{⊤}
use Rattle.futures_lite.specs.Uses.{ReadsLine, ReadsLineByRoom, text_any, line_over, when_less, text_left}
use Rattle.lite_read.specs.Laws.Texts.{line_room}
use Rattle.lite_views.proofs.Until.{read_text_line}
use Rattle.futures_lite.proofs.io.AsyncBufReadExt.read_line.Goals as goal

pub returns-clause-line : goal.returns-clause-line
returns-clause-line g c knows =
    let e = c.read_line.ensures in
    rw (← e.text, ← e.reader)
    (when_less (ReadsLineByRoom g.Self.AsyncBufRead.buffer_of g.Self.ReadSpec.reads)
    (ReadsLine (λ read. ⊤) g.Self.ReadSpec.reads) _ (λ y l. text_any (line_room g.Self.AsyncBufRead.buffer_of) _ y l)
    (text_left line_over _ g.Self.ReadSpec.reads g.Self.ReadSpec.known _ _ (rw e.reader knows)
    (λ y v t. read_text_line v _ _ _ _ t e.empty)))
