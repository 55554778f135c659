-- Which of the two causes a `Pending` of a nest over a stream with a budget has.
use Rattle.std.specs.Prelude.{◌≡◌, ◌==◌, ◌<◌, ℕ, Bool, true, false, List, [], ◌∷◌, Some, None}
use Rattle.std.proofs.Common.{arith, inl, inr, refl, sym, subst, ap, ◌∙◌}
use Rattle.std.proofs.lemmas.Bool.{ne_eqb}
use Rattle.futures.specs.Task.{Lasting}
use Rattle.futures.specs.declared.task.Poll.{Poll}
use Rattle.futures.specs.declared.task.Poll.TheVariants.{Pending, Ready}
use Rattle.futures.specs.declared.task.context.Context.{Context}
use Rattle.lite_base.specs.Answers.{Answer}
use Rattle.lite_base.specs.Registered.{HoldsWoken, Registered}
use Rattle.lite_base.specs.Runs.{Question, Runs}
use Rattle.lite_merge.specs.Budgeted.{Budgets, PacesNoting, RegistersPaused, paused_by}
use Rattle.lite_merge.specs.declared.budgeted.Budgeted.{Budgeted}
use Rattle.lite_stream.specs.Map.{Maps}
use Rattle.lite_stream.specs.Pointwise.{Replaces}
use Rattle.lite_stream.specs.declared.map.Map.{Map}

-- One result of a `map` is made of one result of its source, and one is `Pending` if the other is.
record MadeOf {A B : Type 0} (ins : List (Answer A)) (b : Answer B) : Type 0 where
  pub answer : Answer A
  pub alone : ins ≡ answer ∷ []
  pub forth : answer ≡ Pending → b ≡ Pending
  pub back : b ≡ Pending → answer ≡ Pending

module _ {F A B : Type 0} (call : Question F A B) where
  made_of : (f g : F) (ins : List (Answer A)) (b : Answer B) → Replaces call f ins (b ∷ []) g → MadeOf ins b
  made_of f g [] b h = absurd h
  made_of f g (Pending ∷ []) b h = record { answer = Pending; alone = refl; forth = λ e. h.0; back = λ e. refl }
  made_of f g (Ready None ∷ []) b h =
      record { answer = Ready None; alone = refl; forth = λ e. absurd (cc e); back = λ e. absurd (cc (sym e ∙ h.0)) }
  made_of f g (Ready (Some v) ∷ []) b h =
      record { answer = Ready (Some v); alone = refl; forth = λ e. absurd (cc e); back = λ e. absurd (cc (sym e ∙ h.2)) }
  made_of f g (Pending ∷ a ∷ ins) b h = absurd h.1
  made_of f g (Ready None ∷ a ∷ ins) b h = absurd h.1
  made_of f g (Ready (Some v) ∷ a ∷ ins) b h = absurd h.4

module _ {A : Type 0} (p q : ℕ × ℕ × Bool) where
  -- With nothing left of the budget the result is its own `Pending`.
  own_pause : (ins : List (Answer A)) (a : Answer A) → PacesNoting p ins (a ∷ []) q → p.1 ≡ 0
      → (a ≡ Pending) × (q.2 ≡ true)
  own_pause ins a (inl h, noted) none = (h.1, noted ∙ rw (h.1, none) refl)
  own_pause ins a (inr h, noted) none = absurd (h.0 none)

  -- With some of it left a `Pending` is the source's.
  source_pause : (ins : List (Answer A)) (a : Answer A) → PacesNoting p ins (a ∷ []) q → 0 < p.1 → a ≡ Pending
      → q.2 ≡ false
  source_pause ins a h some is =
      h.1 ∙ ap (λ v. paused_by v (p.1 == 0) p.2) is ∙ ne_eqb p.1 0 (λ e. omega (arith, e, some))

module _ {S F A B : Type 0} {run : Runs (Answer A) S} {call : Question F A B} (x y : Map (Budgeted S) F) (b : Answer B)
    (ran : Maps (Budgets run) call x (b ∷ []) y) where
  made : MadeOf ran.ins b
  made = made_of call x.f y.f ran.ins b ran.related

  came : Budgets run x.stream (made.answer ∷ []) y.stream
  came = subst (λ i. Budgets run x.stream i y.stream) made.alone ran.came

  abbrev state : Budgeted S → ℕ × ℕ × Bool
  state m = (m.budget, m.left, m.paused)

  pub nest_pauses : x.stream.left ≡ 0 → (b ≡ Pending) × (y.stream.paused ≡ true)
  nest_pauses none =
      let own = own_pause (state x.stream) (state y.stream) came.ins made.answer came.related none in (made.forth own.0, own.1)

  pub nest_waits : 0 < x.stream.left → b ≡ Pending → y.stream.paused ≡ false
  nest_waits some is = source_pause (state x.stream) (state y.stream) came.ins made.answer came.related some (made.back is)

-- What is registered, by the cause.
module _ {A : Type 0} (facts : Lasting → Type 0) (cx : Context) (paused : Bool) (b : Poll A) where
  pub registers_own : paused ≡ true → Registered b (RegistersPaused paused facts) cx → Registered b HoldsWoken cx
  registers_own own r = rw own at r

pub registers_source : {A : Type 0} (facts : Lasting → Type 0) (cx : Context) (paused : Bool) (b : Poll A)
    → (b ≡ Pending → paused ≡ false) → Registered b (RegistersPaused paused facts) cx → Registered b facts cx
registers_source facts cx paused Pending waits r = rw (waits refl) at r
registers_source facts cx paused (Ready v) waits r = tt
