-- The future that consumes a stream: its runs, and when it may be polled.
use Rattle.std.specs.Prelude.{List, [], ◌∷◌, Option, Some, None, ⊤}
use Rattle.lite_consume.specs.Uses.{Poll, Answer, item, Runs, Ready, Pending}
use Rattle.lite_base.specs.Ranks.{Terminates}
use Rattle.lite_base.specs.EachItem.{AtEachItem}
use Rattle.lite_consume.specs.Consuming.{Decides, Fold, TakesIn, Consumed}
use Rattle.lite_consume.specs.declared.consume.Consume.{Consume}

-- The steps of a poll that consumes a stream. In each of them the stream is polled once.

module _ {S M A R : Type 0} (run : Runs (Answer A) S) (fold : Fold M A R) where
  -- One step: the stream yields an item that is consumed, or it returns a result at which the future's poll returns.
  abbrev pub ConsumeStep : S → M → Option (Poll R) → S → M → Type 0
  ConsumeStep s p None t q = (x : A) × run s (item x ∷ []) t × TakesIn fold p x q
  ConsumeStep s p (Some b) t q = (a : Answer A) × run s (a ∷ []) t × Decides fold p a b q

  -- The stream yields an item, and it is consumed.
  abbrev pub TakesItem : S × M → S × M → Type 0
  TakesItem v w = (x : A) × run v.0 (item x ∷ []) w.0 × TakesIn fold v.1 x w.1

  -- Each item that the stream may yield from now on may be consumed, after those before it were.
  abbrev pub MayTakeEach : (M → A → Type 0) → S → M → Type 0
  MayTakeEach can_take = AtEachItem {O = Unit {0}} run (λ p x o q. TakesIn fold p x q) can_take

  -- Why a poll returns: from a stream whose rank counts, items are not consumed forever, and after each of them the
  -- next step may be made.
  pub record Returns (counts : S → Type 0) (is_open : M → Type 0) : Type 0 where
    pub counts_on : (s t : S) (l : List (Answer A)) → counts s → run s l t → counts t
    pub ends : (s : S) (p : M) → counts s → Terminates TakesItem (s, p)
    pub opens : (p q : M) (x : A) → is_open p → TakesIn fold p x q → is_open q

module _ {S M A R : Type 0} (run : Runs (Answer A) S) (fold : Fold M A R) where
  -- The runs of such a future: the stream's results were consumed by the fold.
  abbrev pub Folds : Runs (Poll R) (Consume S M)
  Folds x out y = Consumed fold run x.stream x.folder out y.stream y.folder

  -- The future may be polled: its stream may be polled and has a rank that counts, it has not returned its value, and
  -- each item that comes may be consumed.
  abbrev pub CanFold : (S → Type 0) → (S → Type 0) → (M → Type 0) → (M → A → Type 0) → Consume S M → Type 0
  CanFold can_poll counts is_open can_take x =
      can_poll x.stream × counts x.stream × is_open x.folder × MayTakeEach run fold can_take x.stream x.folder

  -- `C` holds, unless the step returned the value.
  abbrev pub IfOpen : Type 0 → Option (Poll R) → Type 0
  IfOpen C None = C
  IfOpen C (Some Pending) = C
  IfOpen C (Some (Ready r)) = ⊤

  -- One step of a poll of the future. After it another step may be made, unless it returned the value.
  abbrev pub ConsumePollStep : (Consume S M → Type 0) → Consume S M → Option (Poll R) → Consume S M → Type 0
  ConsumePollStep can_step x o y = IfOpen (can_step y) o × ConsumeStep run fold x.stream x.folder o y.stream y.folder
