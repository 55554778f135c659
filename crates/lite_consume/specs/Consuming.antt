-- Futures that consume a stream: items are consumed one after the other, until the end of the stream or until an item
-- decides the value.
use Rattle.std.specs.Prelude.{◌≡◌, List, Option, Some, None}
use Rattle.lite_consume.specs.Uses.{Poll, Ready, Pending, Answer, item, Question, Runs, OneAnswer, Segment}
use Rattle.lite_base.specs.Segments.{SegmentsToValue}

-- What such a future makes of the items: which items it consumes, which item decides the value, and what the value is
-- at the end of the stream.
pub record Fold (M A R : Type 0) : Type 1 where
  -- With an item, `None` says that the item is consumed, and `Some(value)` that it decides the value.
  pub asks : Question M A (Option R)
  -- The value at the end of the stream.
  pub closes : M → R → M → Type 0

-- The fold of one part of a state.
abbrev pub fold_of : {N M A R : Type 0} → (N → M) → Fold M A R → Fold N A R
fold_of part fold =
    record {
      asks = λ p x o q. fold.asks (part p) x o (part q);
      closes = λ p r q. fold.closes (part p) r (part q);
    }

module _ {M A R : Type 0} (fold : Fold M A R) where
  -- The fold consumes the item `x`, and goes from `p` to `q`.
  abbrev pub TakesIn : M → A → M → Type 0
  TakesIn p x q = fold.asks p x None q

  -- What the future returns at the result of the stream that ends its poll: `Pending` for `Pending`, and its value for
  -- the end of the stream or an item that decides.
  abbrev pub Decides : Question M (Answer A) (Poll R)
  Decides p Pending Pending q = q ≡ p
  Decides p Pending (Ready r) q = ⊥
  Decides p (Ready o) Pending q = ⊥
  Decides p (Ready None) (Ready r) q = fold.closes p r q
  Decides p (Ready (Some x)) (Ready r) q = fold.asks p x (Some r) q

  -- The stream's results `ins` are cut into segments, one for each result of the future. In each some items are
  -- consumed, and then `Decides` says what the future returns. Its value is the last result.
  abbrev pub Consumes : M → List (Answer A) → List (Poll R) → M → Type 0
  Consumes p ins out q = SegmentsToValue (Segment item TakesIn (OneAnswer Decides)) p ins out q

  -- The stream has a run with some results, all of them were consumed, and the stream is left after exactly these.
  pub record Consumed {S : Type 0} (run : Runs (Answer A) S) (s : S) (p : M) (out : List (Poll R)) (t : S)
      (q : M) : Type 0 where
    pub ins : List (Answer A)
    pub came : run s ins t
    pub consumed : Consumes p ins out q
