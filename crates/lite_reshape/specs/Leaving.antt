-- Adapters that leave some items of their source out.
use Rattle.std.specs.Prelude.{◌≡◌, [], ◌∷◌, Option, Some, None, Bool}
use Rattle.lite_reshape.specs.Uses.{Ready, Pending, Accepts, Answer, end, item, Question, Runs, Segment, Relates}
use Rattle.lite_base.specs.Segments.{OneAnswer, Segments}

-- `call p x o q`: the call with the item `x` returns `o`, and takes the closure from `p` to `q`. The item is kept if
-- `o` is `Some`, and rejected if it is `None`.
module _ {F A B : Type 0} (call : Question F A (Option B)) where
  -- The item `x` is rejected.
  pub record Rejects (p : F) (x : A) (q : F) : Type 0 where
    pub rejected : call p x None q

  -- The source's result `a` becomes the result `b`: `Pending` and the end of the stream are passed on, and a kept item
  -- is replaced by the content of the `Some`.
  abbrev pub Passes : Question F (Answer A) (Answer B)
  Passes p a Pending q = (a ≡ Pending) × (q ≡ p)
  Passes p a (Ready None) q = (a ≡ end) × (q ≡ p)
  Passes p a (Ready (Some y)) q = (x : A) × (a ≡ item x) × call p x (Some y) q

  -- The source's results are cut into segments, one for each result: some items that are rejected, and then a kept
  -- item, a `Pending` or an end of stream, which is passed on.
  abbrev pub LeavesOut : Relates F A B
  LeavesOut p ins out q = Segments (Segment item Rejects (OneAnswer Passes)) p ins out q

  -- One step of a poll: the source is polled once, and a rejected item is dropped, without a result.
  abbrev pub LeaveStep : {S : Type 0} → Runs (Answer A) S → S → F → Option (Answer B) → S → F → Type 0
  LeaveStep run s p None t q = (x : A) × run s (item x ∷ []) t × call p x None q
  LeaveStep run s p (Some b) t q = (a : Answer A) × run s (a ∷ []) t × Passes p a b q

  -- One step of an adapter that consists of its source and its closure. After it another step may be made.
  abbrev pub Sifts : {T S : Type 0} → Runs (Answer A) S → (T → Type 0) → (T → S) → (T → F) → T → Option (Answer B) → T
      → Type 0
  Sifts run can_step source asked x r y = can_step y × LeaveStep run (source x) (asked x) r (source y) (asked y)

-- The adapter's own state decides: `keeps p x` says whether the item `x` is kept in the state `p`, and `next p x` is the
-- state after it. A kept item is yielded as it is.
abbrev pub Selects : {F A : Type 0} → (F → A → Bool) → (F → A → F) → Question F A (Option A)
Selects keeps next = Accepts (λ p x kept q. (keeps p x ≡ kept) × (q ≡ next p x))
