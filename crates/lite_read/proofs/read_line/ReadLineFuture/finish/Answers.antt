use Rattle.lite_read.proofs.Texts.{all_utf8}
use Rattle.lite_read.proofs.read_line.ReadLineFuture.finish.Goals as goal

pub finish-value-requires-clause-known : goal.finish-value-requires-clause-known
finish-value-requires-clause-known g c =
    λ t. let x = c.args.self.now in all_utf8 x.bytes.items x.ascii c.requires.known t
