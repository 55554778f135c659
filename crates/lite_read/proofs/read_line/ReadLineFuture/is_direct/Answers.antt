use Rattle.lite_read.proofs.Texts.{all_utf8}
use Rattle.lite_read.proofs.read_line.ReadLineFuture.is_direct.Goals as goal

pub lends_text-requires-clause-known : goal.lends_text-requires-clause-known
lends_text-requires-clause-known g c = λ t. all_utf8 _ c.args.ascii c.requires.ascii t
