use Rattle.std.specs.Prelude.{refl}
use Rattle.example_http.proofs.Waits.{up_one}
use Rattle.example_http.proofs.filling.FillingFuture.poll.Goals as goal

pub returns-clause-ran : goal.returns-clause-ran
returns-clause-ran g c = (up_one c.fill.result, (_, (c.fill.ensures.ran, refl), refl))
