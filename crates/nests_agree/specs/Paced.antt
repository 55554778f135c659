-- A stream of the test's own, which is specified by a step.
use Rattle.std.specs.Prelude.{◌≡◌, ℕ, true, false, Some, None}
use Rattle.std.proofs.Common.{◌∙◌, Option, sym, ap}
use Rattle.std.specs.List.{FoldsTo}
use Rattle.futures.specs.declared.task.Poll.TheVariants.{Ready, Pending}
use Rattle.lite_base.specs.Answers.{Answer}
use Rattle.lite_base.specs.Steady.{Steadiness}
use Rattle.lite_source.specs.Laws.Folds.{folds_alike}
use Rattle.nests_agree.specs.declared.paced.Paced.{Paced}

-- If the stream waits, a poll returns `Pending`, and it waits no more. Otherwise a poll yields the item, and it waits
-- again.
abbrev pub PacedStep : Paced → Answer ℕ → Paced → Type 0
PacedStep p Pending q = (p.waits ≡ true) × (q ≡ record p { waits = false })
PacedStep p (Ready None) q = ⊥
PacedStep p (Ready (Some n)) q = (p.waits ≡ false) × (n ≡ p.item) × (q ≡ record p { waits = true })

same_step : (p q r s : Paced) (a b : Option ℕ) → q.item ≡ p.item → PacedStep p (Ready a) r → PacedStep q (Ready b) s
    → (a ≡ b) × (s.item ≡ r.item)
same_step p q r s None b e h k = absurd h
same_step p q r s (Some n) None e h k = absurd k
same_step p q r s (Some n) (Some m) e h k = (ap (λ v. Some v) (h.1 ∙ (sym e ∙ sym k.1)), rw (h.2, k.2) e)

-- Two streams of one item are alike, whether they wait or not.
pub paced_alike : Steadiness (FoldsTo PacedStep) (λ x y. y.item ≡ x.item)
paced_alike x y e =
    folds_alike PacedStep (λ p q. q.item ≡ p.item) (λ p q r a h. rw h.1 a) (λ p q r a h. rw h.1 a) same_step x y e
