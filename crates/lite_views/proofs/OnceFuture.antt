-- The item of `once_future`, by the value of its future.
use Rattle.std.specs.Prelude.{◌≡◌, List, [], ◌∷◌, map, Option, Some, None}
use Rattle.lite_views.specs.Uses.{AllByRecursion, Answer, end, Poll, Runs, handed}
use Rattle.lite_base.specs.Spent.{Spends}
use Rattle.lite_source.specs.OnceFuture.{GivesFuture}
use Rattle.lite_source.specs.declared.once_future.OnceFuture.{OnceFuture}
use Rattle.lite_views.specs.Views.{Fits, HasValue, ListsAs}
use Rattle.lite_views.proofs.Holding.{given_fits, gives_handed, waiting_fits, waiting_handed}
use Rattle.lite_views.proofs.Views.{listed}
use Rattle.lite_views.proofs.Empty.{ended_fits}

module _ {F A : Type 0} (run : Runs (Poll A) F) (f : F) (v : A) (value : HasValue run f v) where
  once_handed : (left : Option F) (l : List (Answer A))
      → Spends run (handed Some) (AllByRecursion (λ a. a ≡ end)) (Some f) l left → Fits l (v ∷ [])
  unfolding HasValue
  once_handed (Some g) l (ins, waiting, ran, out) =
      rw out (waiting_fits (map (handed Some) ins) (v ∷ []) (waiting_handed ins waiting))
  once_handed None l s =
      rw s.joined
      (given_fits (map (handed Some) s.ins) s.after v []
      (gives_handed s.ins v (rw (value s.ins s.value s.finishes) at s.finishes.gives)) (ended_fits s.after s.later))

  pub once_future_lists : (x : OnceFuture F) → x.future ≡ Some f → ListsAs (GivesFuture run) x (v ∷ [])
  once_future_lists x is = listed (GivesFuture run) x (v ∷ []) (λ l y h. once_handed y.future l (rw is at h))
