use Rattle.std.specs.Prelude.{◌≡◌, [], ◌∷◌}
use Rattle.lite_source.specs.Uses.{refl, subst, Pending}
use Rattle.lite_source.proofs.once_future.OnceFutureStream.poll_next.Goals as goal

pub returns-clause-ran : goal.returns-clause-ran
returns-clause-ran g c =
    let is : c.poll.result ≡ Pending = cc in
    rw c.in-Some.is (
      Pending ∷ [],
      tt,
      subst (λ a. g.F.Future.run c.in-Some.future (a ∷ []) c.poll.new.self) is c.poll.ensures.ran,
      refl,
    )
