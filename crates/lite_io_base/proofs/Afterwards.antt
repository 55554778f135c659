-- A call that lends may say more than its trait does of what is there once the borrow ends.
use Rattle.std.specs.Prelude.{⊤}
use Rattle.lite_io_base.specs.Uses.{RattleType}
use denote.Follow.{follows_if, such_by}
use Rattle.std.specs.Borrow.{MutBor}
use base.Logic.{SProp, all, all_i, emp, emp∗, ent, ex_e, ex_i, sep, snd∗, via, wand, wand_i}
use borrow.Fn.Refines.{Gives, Turns}
use mathlib.Core.Option.{none}
use seplogic.Ra.Ura.{Ura}
use types.Logic.{Logic, sem}
use Rattle.lite_io_base.specs.Runs.{Afterwards}

module _ {M : Type 1} (𝓤 : Ura M) where
  -- what holds then says what is weaker
  pub afterwards_weaker : (𝓛 : Logic 𝓤) (R : RattleType) (s : MutBor R.Denot) (P Q : R.Denot → Type 0)
      → ((x : R.Denot) → P x → Q x)
      → ent 𝓤 (sem 𝓛 (Afterwards R s P)) (sem 𝓛 (Afterwards R s Q))
  unfolding such_by
  afterwards_weaker 𝓛 R s P Q weaker =
      let Ends : (R.Denot → Type 0) → Type 0 = λ O. (p : (R.Denot → R.Denot) × R.Denot) × ((w : R.Denot) → ⊤) × O p.1 in
      ex_e 𝓤 _ (λ y. ex_i 𝓤 (λ (z : Ends Q). sem 𝓛 (follows_if R R s.ghost_name none z.0.0 z.0.1))
      (y.0, y.1, weaker y.0.1 y.2))

  -- the clauses of a call give its trait's, where neither asks anything
  pub clauses_give : (R X : Type 0) (own trait : R → X → SProp 𝓤) → ((r : R) (x : X) → ent 𝓤 (own r x) (trait r x))
      → Gives 𝓤 (emp 𝓤) (Unit {0}) (λ g. emp 𝓤) (λ g. Turns 𝓤 R X own trait)
  clauses_give R X own trait h =
      let kept = Turns 𝓤 R X own trait in
      let always : ent 𝓤 (emp 𝓤) kept = all_i 𝓤 (λ (r : R). all 𝓤 (λ (x : X). wand 𝓤 (own r x) (trait r x))) (λ r.
      all_i 𝓤 (λ (x : X). wand 𝓤 (own r x) (trait r x))
      (λ x. wand_i 𝓤 (emp 𝓤) (own r x) (trait r x) (via 𝓤 (own r x) (snd∗ 𝓤 (emp 𝓤) (own r x)) (h r x)))) in
      via 𝓤 (sep 𝓤 (emp 𝓤) kept) (via 𝓤 kept always (emp∗ 𝓤 kept)) (ex_i 𝓤 (λ (g : Unit {0}). sep 𝓤 (emp 𝓤) kept) tt)
