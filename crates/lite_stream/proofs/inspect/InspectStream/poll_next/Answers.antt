use Rattle.std.specs.Prelude.{Some}
use Rattle.lite_stream.specs.Uses.{refl, rules, called_at, CalledAt, Always, each_again, each_here}
use Rattle.lite_stream.specs.Inspect.{ShowsItem}
use Rattle.lite_stream.specs.Laws.Pointwise.{exchanged}
use Rattle.lite_stream.proofs.inspect.InspectStream.poll_next.Goals as goal

pub f-requires : goal.f-requires
f-requires g c = each_here c.requires.1 c.poll_next.ensures.ran (search rules) _ refl

pub returns-in-Some-clause-again : goal.returns-in-Some-clause-again
returns-in-Some-clause-again g c =
    each_again g.met.S.Stream.laws c.requires.1 c.poll_next.ensures.ran (search rules)
    (called_at g.F.FnMut c.f.ensures refl) c.poll_next.ensures.again

pub returns-in-Some-clause-ran : goal.returns-in-Some-clause-ran
returns-in-Some-clause-ran g c =
    exchanged (Always (ShowsItem (CalledAt g.F.FnMut))) g.S.Stream.run _ _ _ _ c.poll_next.result c.in-Some.item
    (Some c.in-Some.item) c.poll_next.ensures.ran (cc) (refl, called_at g.F.FnMut c.f.ensures refl)
