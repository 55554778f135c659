use Rattle.std.proofs.Common.{rules, of_calls, ◌≡◌, refl, Some, ℕ, bit_xor}
use Rattle.lite_base.specs.Laws.Calling.{answers_agree}
use Rattle.lite_reshape.specs.declared.chain.Chain.{Chain}
use Rattle.lite_reshape.specs.Ended.Turn.{First}
use Rattle.lite_source.specs.declared.once.Once.{Once}
use Rattle.nests_agree.proofs.Appended.{appended_as}
use Rattle.nests_agree.proofs.agree.lists_agree.Goals as goal

abbrev IsBoth : ℕ → Chain (Once ℕ) (Once ℕ) → Type 0
IsBoth x v = v ≡ record {
  first = record { value = Some x };
  second = record { value = Some (bit_xor x 1) };
  part = First;
}

pub both_appended-requires-clause-first : goal.both_appended-requires-clause-first
both_appended-requires-clause-first c =
    ((tt, search of_calls), search rules, (search rules, record { at = λ xs p q x v folds d. (tt, tt) }))

pub both_appended-requires-clause-second : goal.both_appended-requires-clause-second
both_appended-requires-clause-second c =
    ((tt, search of_calls), search rules, (search rules, record { at = λ xs p q x v folds d. (tt, tt) }))

pub both_appended-requires-clause-alike : goal.both_appended-requires-clause-alike
both_appended-requires-clause-alike c = (
  search rules,
  answers_agree _ _ IsBoth (λ f g x y d. search rules) (λ x y z p q. rw (p, q) (refl, refl, refl)) _ _,
  search rules,
)

pub returns : goal.returns
returns c = appended_as (λ l m h. h.0.always (tt, (tt, tt))) c.both_appended.ensures
