-- Facts about each item that a source may still yield, such as that a closure may be called with it.
use Rattle.std.specs.Prelude.{List, [], ◌∷◌, ◌++◌, Some, None}
use Rattle.lite_base.specs.Uses.{FoldsTo, Mut, Pending, Ready}
use Rattle.lite_base.specs.Answers.{Answer, item}
use Rattle.lite_base.specs.Calling.{Calls, CallsWith}
use Rattle.lite_base.specs.Runs.{Question, Runs}
use Rattle.std.specs.Fn.{CalledAt, TakesAt, TakesWithState}
use denote.Ref.{Bor, MutBor}

-- The items among the poll results, in order.
abbrev pub items_in : {A : Type 0} → List (Answer A) → List A
items_in [] = []
items_in (Pending ∷ l) = items_in l
items_in (Ready None ∷ l) = items_in l
items_in (Ready (Some x) ∷ l) = x ∷ items_in l

-- `P` holds of each item that a run from `s` may yield, together with the closure's state at that point. That state is
-- `f` after calls, as `call` says, with the items before.
pub record AtEachItem {S F A O : Type 0} (run : Runs (Answer A) S) (call : Question F A O) (P : F → A → Type 0) (s : S)
    (f : F) : Type 0 where
  pub at : (ins : List (Answer A)) (x : A) (t : S) (p : F) → run s (ins ++ item x ∷ []) t
      → FoldsTo (λ q y r. (o : O) × call q y o r) f (items_in ins) p → P p x

-- The function may be called with each item that the source may still yield, after it was called with the items before.
abbrev pub MayCallEach : {S F A B : Type 0} → Runs (Answer A) S → Mut F (A × Unit {0}) B → S → F → Type 0
MayCallEach run g = AtEachItem run (Calls g) (λ p x. g.pre p (x, tt))

-- The function may be called with a reference to each item that the source may still yield, after it was called with
-- the items before.
abbrev pub MayShowEach : {S F A B : Type 0} → Runs (Answer A) S → Mut F (Bor A × Unit {0}) B → S → F → Type 0
MayShowEach run g = AtEachItem run (CalledAt g) (TakesAt g)

-- The function may be called with a state and each item that the source may still yield, after it was called with the
-- items before. The state goes from one call to the next.
abbrev pub MayCallEachWith : {S F V A B : Type 0} → Runs (Answer A) S
    → Mut F (MutBor V × (A × Unit {0})) (B × (MutBor V × Unit {0})) → S → F × V → Type 0
MayCallEachWith run g = AtEachItem run (CallsWith g) (λ p. TakesWithState g p.0 p.1)
