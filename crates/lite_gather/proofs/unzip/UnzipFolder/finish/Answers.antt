use Rattle.std.specs.Prelude.{refl}
use Rattle.lite_gather.specs.Uses.{◌∙◌, sym}
use Rattle.lite_gather.proofs.unzip.UnzipFolder.finish.Goals as goal

pub returns : goal.returns
returns g c = (c.unwrap.result, sym c.take.ensures.value ∙ c.unwrap.ensures, refl, c.take.ensures.after)
