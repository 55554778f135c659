-- `repeat`: every poll returns a clone of its item, or an allocation failure while cloning it.
use Rattle.std.specs.Prelude.{◌≡◌, Some, None, Result, MatchResult}
use Rattle.lite_source.specs.Uses.{Ready, Pending, Answer, Runs}
use Rattle.lite_source.specs.Always.{Unchanging}
use Rattle.lite_source.specs.declared.repeat.Repeat.{Repeat}

-- Every clone of `own` equals every clone of `other`, as `is_clone` says what a clone may be.
abbrev pub SameClones : {A : Type 0} → (A → A → Type 0) → A → A → Type 0
SameClones {A} is_clone own other = (v w : A) → is_clone own v → is_clone other w → v ≡ w

module _ {A E : Type 0} (is_clone : A → A → Type 0) (is_infallible : A → Type 0) where
  -- The result is an item: a clone of `own` as `Ok`, as `is_clone` says, or an allocation failure as `Err`. The failure
  -- occurs only if cloning `own` may fail.
  abbrev pub IsCloned : A → Answer (Result A E) → Type 0
  IsCloned own (Ready (Some r)) = MatchResult r (is_clone own) (λ _. ¬ (is_infallible own))
  IsCloned own (Ready None) = ⊥
  IsCloned own Pending = ⊥

  -- Every result is an item: a clone of the stream's item as `Ok`, or an allocation failure as `Err`. The failure
  -- occurs only if cloning the item may fail.
  abbrev pub Repeats : Runs (Answer (Result A E)) (Repeat A)
  Repeats = Unchanging (λ x. IsCloned x.item)
