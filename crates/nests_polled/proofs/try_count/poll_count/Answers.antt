use Rattle.std.proofs.Common.{◌∙◌, ℕ, [], ◌∷◌, Some, None, Result, Ok, ap, sym, subst}
use Rattle.futures.specs.declared.task.Poll.{Poll}
use Rattle.lite_base.specs.Answers.{Answer, item, items}
use Rattle.lite_base.specs.Chain.{NextStep, Reaches}
use Rattle.lite_base.specs.Laws.Chain.{Reaches-back}
use Rattle.lite_base.specs.Ranks.{all_ok}
use Rattle.lite_base.specs.StreamLaws.{StreamLaws}
use Rattle.lite_base.specs.Runs.{Hints, Runs}
use Rattle.nests_polled.specs.TryCount.{CountsUntil, DecidesCount, TrySteps, counted}
use Rattle.nests_polled.specs.declared.try_count.TryCount.{TryCount}
use Rattle.nests_polled.proofs.try_count.poll_count.Goals as goal

module _ {S T E : Type 0} (run : Runs (Answer (Result T E)) S) (hints : Hints S) {can_poll : S → Type 0}
    (laws : StreamLaws can_poll run hints)
    (Can : S → Type 0) where
  decided_last : (x y : TryCount S) (b : Poll (Result ℕ E)) → TrySteps run Can x (Some b) y → CountsUntil run x b y
  decided_last x y b h =
      record {
        oks = [];
        between = x.stream;
        came = laws.rests x.stream;
        number = h.1.1;
        decided = subst (λ n. DecidesCount run x.stream n b y.stream) (sym h.1.1) h.1.0;
      }

  counted_before : (x y z : TryCount S) (b : Poll (Result ℕ E)) → TrySteps run Can x None y → CountsUntil run y b z
      → CountsUntil run x b z
  counted_before x y z b h m =
      record {
        oks = h.1.0 ∷ m.oks;
        between = m.between;
        came = laws.follows x.stream y.stream m.between (item (Ok h.1.0) ∷ []) (all_ok (items m.oks)) h.1.1 m.came;
        number = m.number ∙ ap (λ n. counted n m.oks) h.1.2;
        decided = m.decided;
      }

  counts : (x y z : TryCount S) (b : Poll (Result ℕ E)) → Reaches (NextStep (TrySteps run Can)) x y
      → TrySteps run Can y (Some b) z → CountsUntil run x b z
  counts x y z b goes last =
      Reaches-back (λ m. CountsUntil run m b z) (λ v w t. counted_before v w z b t) x y goes (decided_last y z b last)

pub returns-clause-counted : goal.returns-clause-counted
returns-clause-counted g c = let steps = c.drive.ensures.stepped in
    counts g.S.Stream.run g.S.Stream.hints g.met.S.Stream.laws _ _ steps.0 _ _ steps.1 steps.2
