use Rattle.std.specs.Prelude.{◌≡◌, ◌<◌, [], None, false, vec_capacity, vec_len}
use Rattle.std.proofs.Common.{ap, subst, sym, ◌∙◌}
use Rattle.lite_base.specs.Answers.{Gives}
use Rattle.lite_gather.specs.Gathering.{LacksRoom}
use Rattle.lite_theorems.specs.Laws.Collected.{has}
use Rattle.compat.specs.Laws.Collected.{kit_collected}
use Rattle.compat.proofs.wait.collect_from_kit.Goals as goal

pub returns-in-Ok : goal.returns-in-Ok
returns-in-Ok g c =
    let made = c.collect-all.ensures in
    let f = c.in_ok-all.ensures.gave in
    let wrapped : c.collect-all.result.stream.stream ≡ c.new.result = ap (λ b. b.stream) (made.stream ∙ c.with_budget-paced.ensures) in
    let running : c.collect-all.result.stream.stream.ended ≡ false = ap (λ k. k.ended) wrapped ∙ c.new.ensures.running in
    let k =
    kit_collected g.S.Stream.can_poll g.S.Stream.yields (LacksRoom (λ v x. vec_len v < vec_capacity v))
    (λ v l. v.items ≡ l) c.collect-all.result running (has (λ v l. v.items ≡ l) _ [] made.«open» made.empty) f.0 f.1.last
    c.in-Ok.all f.1.came (subst (Gives f.0) c.in-Ok.is f.1.gives) in
    subst (λ l. g.S.Stream.yields c.args.stream l None) (sym k.1)
    (subst (λ s. g.S.Stream.yields s k.0 None) (ap (λ k. k.inner) wrapped ∙ c.new.ensures.inner) k.2)
