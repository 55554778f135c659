use Rattle.std.specs.Prelude.{⊤}
use Rattle.futures_lite.specs.Uses.{ReadsStringByRoom, ReadsToString, text_any, all_over, when_less, text_left}
use Rattle.lite_read.specs.Laws.Texts.{string_room}
use Rattle.lite_views.proofs.Texts.{all_read_text}
use Rattle.futures_lite.proofs.io.AsyncReadExt.read_to_string.Goals as goal

pub returns-clause-all : goal.returns-clause-all
returns-clause-all g c knows =
    let e = c.read_to_string.ensures in
    rw (← e.text, ← e.reader)
    (when_less (ReadsStringByRoom g.Self.ReadSpec.reads)
    (ReadsToString (λ read. ⊤) g.Self.ReadSpec.reads) _ (λ y l. text_any string_room _ y l)
    (text_left all_over _ g.Self.ReadSpec.reads g.Self.ReadSpec.known _ _ (rw e.reader knows)
    (λ y v t. all_read_text v _ _ _ _ t e.empty)))
