use Rattle.std.specs.Prelude.{refl}
use Rattle.lite_gather.specs.Uses.{◌∙◌, ap, sym}
use Rattle.lite_gather.proofs.partition.PartitionFolder.finish.Goals as goal

pub returns : goal.returns
returns g c = (
  c.unwrap.result,
  sym c.take.ensures.value ∙ c.unwrap.ensures,
  refl,
  ap (λ left. (c.args.self.now.predicate, left)) c.take.ensures.after,
)
