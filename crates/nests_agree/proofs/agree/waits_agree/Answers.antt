use Rattle.std.proofs.Common.{rules, ◌≡◌, refl, Some, ℕ, false}
use Rattle.lite_base.specs.Laws.Calling.{answers_agree}
use Rattle.lite_future.specs.declared.side.Side.TheVariants.{Asked}
use Rattle.lite_future.specs.declared.ready.Ready.{Ready}
use Rattle.lite_future.specs.declared.yield_now.YieldNow.{YieldNow}
use Rattle.lite_future.specs.declared.zip.Zip.{Zip}
use Rattle.nests_agree.proofs.Appended.{appended_as}
use Rattle.nests_agree.proofs.agree.waits_agree.Goals as goal

abbrev Waits : ℕ → Zip YieldNow (Ready ℕ) (Unit {0}) ℕ → Type 0
Waits x v = (v.first ≡ Asked (record { yielded = false })) × (v.second ≡ Asked (record { value = Some x }))

pub both_appended-requires-clause-alike : goal.both_appended-requires-clause-alike
both_appended-requires-clause-alike c = (
  search rules,
  (
    answers_agree _ _ Waits (λ f g x y d. search rules) (λ x y z p q. rw (p.0, p.1, q.0, q.1) (tt, refl)) _ _,
    search rules,
  ),
)

pub returns : goal.returns
returns c = appended_as (λ l m h. h.0.always (tt, (tt, tt))) c.both_appended.ensures
