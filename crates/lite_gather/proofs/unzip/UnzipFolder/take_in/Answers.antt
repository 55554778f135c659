use Rattle.std.specs.Prelude.{◌≡◌, refl}
use Rattle.lite_gather.proofs.unzip.UnzipFolder.take_in.Goals as goal

pub returns-in-Ok : goal.returns-in-Ok
returns-in-Ok g c =
    let took = c.in-Ok.ensures.took in (
      (c.in-Some.left, c.in-Some.right),
      (c.take_both-taken.new.left, c.take_both-taken.new.right),
      c.in-Some.is,
      took.0,
      took.1,
      refl,
    )

pub returns : goal.returns
returns g c =
    let out = c.unwrap-collected in
    let collected : out.result ≡ (c.take_both-taken.new.left, c.take_both-taken.new.right) =
    cc (c.take.ensures.value, out.ensures) in (
      (c.in-Some.left, c.in-Some.right),
      c.with.result,
      c.in-Some.is,
      rw (c.with.ensures, collected) c.in-Err.ensures.refused,
      refl,
      c.take.ensures.after,
    )
