use Rattle.lite_read.proofs.Texts.{all_utf8}
use Rattle.lite_read.proofs.text.LineBytes.last.Goals as goal

pub text_of-requires : goal.text_of-requires
text_of-requires c = λ t. let held = c.replace-bytes.result in all_utf8 held.bytes.items held.ascii held.known t
