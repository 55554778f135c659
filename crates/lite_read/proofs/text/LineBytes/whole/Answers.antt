use Rattle.std.specs.Prelude.{IsUtf8}
use Rattle.lite_read.specs.Uses.{sym, subst}
use Rattle.lite_read.proofs.Texts.{line_utf8}
use Rattle.lite_read.proofs.text.LineBytes.whole.Goals as goal

pub text_of-requires : goal.text_of-requires
text_of-requires c = λ t. let held = c.replace-bytes.result in
    subst IsUtf8 (sym c.drop_return.ensures) (line_utf8 held.bytes.items held.ascii held.known t)
