use Rattle.std.specs.Prelude.{◌≡◌, Err, refl}
use Rattle.lite_gather.specs.Uses.{ap}
use Rattle.lite_gather.proofs.partition.PartitionFolder.take_in.Goals as goal

pub returns-in-Ok : goal.returns-in-Ok
returns-in-Ok g c = (
  c.predicate-is_accepted.result,
  (c.in-Some.accepted, c.in-Some.rejected),
  (c.take_one-taken.new.accepted, c.take_one-taken.new.rejected),
  record { shown = _; shows = refl; called = c.predicate-is_accepted.ensures },
  c.in-Some.is,
  c.in-Ok.ensures.took,
  refl,
)

pub returns : goal.returns
returns g c =
    let out = c.unwrap-collected in
    let collected : out.result ≡ (c.take_one-taken.new.accepted, c.take_one-taken.new.rejected) =
    cc (c.take.ensures.value, out.ensures) in (
      c.predicate-is_accepted.result,
      (c.in-Some.accepted, c.in-Some.rejected),
      out.result,
      record { shown = _; shows = refl; called = c.predicate-is_accepted.ensures },
      c.in-Some.is,
      rw collected c.in-Err.ensures.unchanged.1,
      ap (λ x. Err (record { collected = out.result; item = x })) c.in-Err.ensures.unchanged.0,
      c.take.ensures.after,
    )
