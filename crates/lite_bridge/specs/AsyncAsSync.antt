-- How polled calls appear under std's blocking traits.
use Rattle.std.specs.Prelude.{◌≡◌, Result, IsErrAnd}
use Rattle.lite_bridge.specs.Uses.{error_kind, Error, Poll, Ready, Pending, Registered}
use Rattle.futures.specs.declared.task.context.Context.{Context}
use Rattle.std.specs.Fn.{Once}
use Rattle.std.specs.declared.io.ErrorKind.TheVariants.{WouldBlock}
use denote.Ref.{MutBor}
use Rattle.futures.specs.Task.{Keeps, Lasting}
use Rattle.lite_bridge.specs.declared.async_as_sync.AsyncAsSync.{AsyncAsSync}

module _ {A : Type 0} where
  -- The result `r` of std's trait for a poll result: a ready one is returned as it is, and `Pending` is a `WouldBlock`
  -- error.
  abbrev pub InTime : Poll (Result A Error) → Result A Error → Type 0
  InTime (Ready answer) r = r ≡ answer
  InTime Pending r = IsErrAnd r (λ e. error_kind e ≡ WouldBlock)

  -- One poll, which `ran` describes, returned `r` under std's trait. If it was pending, the context has registered what
  -- `registers` says.
  pub record Synced (ran : Poll (Result A Error) → Type 0) (registers : Lasting → Type 0) (cx : Context)
      (r : Result A Error) : Type 0 where
    pub answer : Poll (Result A Error)
    pub polled : ran answer
    pub left : Registered answer (registers) cx
    pub in_time : InTime answer r

-- Two mutable references refer to the same context, and that context keeps what it holds.
abbrev pub SameContext : MutBor Context → MutBor Context → Type 0
SameContext old new = (new ≡ record old { now = new.now }) × Keeps old.now new.now

-- The function `f` was called with mutable references to the inner value and to the context, and returned `r` under
-- std's trait. The values that it left behind the references are those that `y` holds, and the reference to the context
-- is the same.
pub record PollsWith {F T A : Type 0}
    (g : Once F (MutBor T × (MutBor Context × Unit {0}))
    (Poll (Result A Error) × (MutBor T × (MutBor Context × Unit {0})))) (f : F) (x y : AsyncAsSync T)
    (r : Result A Error) : Type 0 where
  pub answer : Poll (Result A Error)
  pub handle : MutBor T
  pub context : MutBor Context
  pub shows : (handle.now ≡ x.inner) × (context.now ≡ x.context.now)
  pub handle_left : MutBor T
  pub context_left : MutBor Context
  pub called : g.post f (handle, (context, tt)) (answer, (handle_left, (context_left, tt)))
  pub left_behind : (handle_left.now ≡ y.inner) × (context_left.now ≡ y.context.now)
  pub same : y.context ≡ record x.context { now = y.context.now }
  pub in_time : InTime answer r
