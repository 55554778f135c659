use Rattle.futures_lite.specs.Uses.{Calls, map_parts, listed_through, seen, Fronts}
use Rattle.lite_views.proofs.Asking.{may_ask}
use Rattle.lite_views.proofs.Map.{mapped_fits}
use Rattle.futures_lite.proofs.stream.StreamExt.map.Goals as goal

pub returns-clause-lists : goal.returns-clause-lists
returns-clause-lists g c h xs lists acts =
    rw c.map.ensures (listed_through map_parts _ _ _ xs _ lists (mapped_fits _ _ h acts xs))

pub returns-clause-may : goal.returns-clause-may
unfolding Fronts
returns-clause-may g c xs fronts all keeps =
    let may =
    may_ask (Calls g.F.FnMut) c.args.f (λ x o q k. keeps (x, tt) o q k) g.Self.Stream.run c.args.self xs
    (λ p x. g.F.FnMut.pre p (x, tt)) fronts all in
    (seen _ _, rw c.map.ensures may)
