use Rattle.std.specs.Prelude.{◌≡◌, [], ◌∷◌, None, Some}
use Rattle.lite_merge.specs.Uses.{refl, Pending, end, item}
use Rattle.lite_merge.specs.Laws.Cycle.{lap_one, renewed}
use Rattle.lite_merge.proofs.cycle.CycleStream.poll_next.Goals as goal

pub returns-in-Some-clause-ran : goal.returns-in-Some-clause-ran
returns-in-Some-clause-ran g c =
    let is : c.poll_next.result ≡ Pending = cc in (
      [],
      rw c.in-Some.is
          (lap_one g.S.Clone.is_clone g.S.Clone.is_infallible g.met.S.Stream.laws c.args.self.now.original _ _ Pending
          (rw is at c.poll_next.ensures.ran) refl),
      refl,
    )

pub returns-in-Some-ready-clause-ran : goal.returns-in-Some-ready-clause-ran
returns-in-Some-ready-clause-ran g c =
    let is : c.poll_next.result ≡ item c.in-Some-ready.item = cc in (
      [],
      rw c.in-Some.is
          (lap_one g.S.Clone.is_clone g.S.Clone.is_infallible g.met.S.Stream.laws c.args.self.now.original _ _
          (item c.in-Some-ready.item) (rw is at c.poll_next.ensures.ran) refl),
      refl,
    )

pub returns-in-None-ready-clause-ran : goal.returns-in-None-ready-clause-ran
returns-in-None-ready-clause-ran g c =
    let is : c.poll_next.result ≡ end = cc in
    let renews = c.renew.ensures.ran in (
      renews.0 ∷ [],
      rw c.in-Some.is
          (renewed g.S.Clone.is_clone g.S.Clone.is_infallible g.met.S.Stream.laws c.args.self.now.original
          (Some c.in-Some.stream) renews.0 _ _ (_, (rw is at c.poll_next.ensures.ran), refl) renews.1),
      c.renew.ensures.original,
    )

pub returns-in-None-clause-ran : goal.returns-in-None-clause-ran
returns-in-None-clause-ran g c =
    let renews = c.renew-in-None.ensures.ran in (
      renews.0 ∷ [],
      rw c.in-None.is
          (renewed g.S.Clone.is_clone g.S.Clone.is_infallible g.met.S.Stream.laws c.args.self.now.original None renews.0
          _ _ refl renews.1),
      c.renew-in-None.ensures.original,
    )
