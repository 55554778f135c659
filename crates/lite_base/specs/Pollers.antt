-- The closures of `poll_fn`: a poll calls the closure with the context, and returns what it returns.
use Rattle.std.specs.Prelude.{List}
use Rattle.lite_base.specs.Uses.{FoldsTo, Mut, Called, Poll, Pending, Context, Holds, Keeps, Lasting}
use denote.Ref.{MutBor}
use Rattle.lite_base.specs.Answers.{UpToValue}
use Rattle.lite_base.specs.Calm.{NoPending}
use Rattle.lite_base.specs.Runs.{Runs}

-- A closure that is called with a `&mut Context` and returns a `Poll`.
abbrev pub Poller : Type 0 → Type 0 → Type 1
Poller F A = Mut F (MutBor Context × Unit {0}) (Poll A × (MutBor Context × Unit {0}))

module _ {F A : Type 0} (g : Poller F A) where
  -- A call with some context goes from the state `p` to `q` and returns `a`.
  abbrev pub CallAnswers : F → Poll A → F → Type 0
  CallAnswers p a q = (cx left : MutBor Context) × Called g p (cx, tt) (a, (left, tt)) q

  -- The results of the closure's calls in order, one call for each poll, up to the value.
  abbrev pub Polled : Runs (Poll A) F
  Polled p l q = UpToValue l × FoldsTo CallAnswers p l q

  -- In the state `p` the closure may be called with any context, and such a call keeps what the context holds.
  abbrev pub Obeys : F → Type 0
  Obeys p = (cx : MutBor Context) → g.pre p (cx, tt)
      × ((a : Poll A) (left : MutBor Context) (q : F) → Called g p (cx, tt) (a, (left, tt)) q → Keeps cx.now left.now)

  -- What a call that returned `Pending` and left the state `q` has registered in its context: after every such call the
  -- context holds `fact`.
  abbrev pub CallRegisters : F → Lasting → Type 0
  CallRegisters q fact =
      (p : F) (cx left : MutBor Context) → Called g p (cx, tt) (Pending, (left, tt)) q → Holds left.now fact

-- The closure obeys (`Obeys`) in each state that calls from `f` lead to, if their results meet `On`.
pub record AlwaysObeys {F A : Type 0} (g : Poller F A) (On : List (Poll A) → Type 0) (f : F) : Type 0 where
  pub at : (l : List (Poll A)) (p : F) → On l → FoldsTo (CallAnswers g) f l p → Obeys g p

-- No call of the closure returns `Pending`, from the state `f` on.
pub record NeverPends {F A : Type 0} (g : Poller F A) (f : F) : Type 0 where
  pub at : (l : List (Poll A)) (p : F) → FoldsTo (CallAnswers g) f l p → NoPending l
