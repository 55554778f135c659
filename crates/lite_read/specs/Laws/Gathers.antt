-- Laws of futures over a reader.
use Rattle.std.specs.Prelude.{◌≡◌, List, [], ◌∷◌}
use Rattle.lite_read.specs.Uses.{refl, Poll, ComparableBy, strip, CalmLaws, FutureRunLaws, up_to_once, Runs, ReadMark, MarkLaws, CalmReadLaws}
use Rattle.lite_read.specs.Uses.{SteadyReadLaws, idle_join}
use Rattle.lite_base.specs.Laws.Answers.{waiting_up_to}
use Rattle.lite_read.specs.Deterministic.{IsDeterministic}
use Rattle.lite_read.specs.Laws.Deterministic.{segmented_alike, segmented_calm}
use Rattle.lite_read.specs.Laws.Segments.{segmented_before, segmented_follow, segmented_none}
use Rattle.lite_read.specs.PollSteps.{TakesBytes}
use Rattle.lite_read.specs.ReadFold.{Gathers, ReadFold}

-- What the laws of a `Gathers` need: `Keeps` is reflexive and transitive, and values that it relates have the same
-- fold.
pub record KeepLaws {X M R : Type 0} (fold : X → ReadFold M R) (Keeps : X → X → Type 0) : Type 1 where
  pub none : (x : X) → Keeps x x
  pub join : (x y z : X) → Keeps x y → Keeps y z → Keeps x z
  pub same : (x y : X) → Keeps x y → fold y ≡ fold x

module _ {X S M R : Type 0} {reader : X → S} {held : X → M} {fold : X → ReadFold M R} {Keeps : X → X → Type 0}
    {reads : Runs ReadMark S} where
  module _ (keeps : KeepLaws fold Keeps) (laws : MarkLaws reads) where
    pub gathers_runs : FutureRunLaws (Gathers reader held fold Keeps reads)
    gathers_runs =
        record {
          rests = λ x. record {
            folded = segmented_none _ laws _ _;
            ends = tt;
            stays = keeps.none x;
            idle = λ e. refl;
          };
          stays = λ x y h. h.idle refl;
          follows = λ x y z l m w h k. record {
            folded = segmented_follow _ laws _ _ _ _ _ _ l m h.folded (rw (keeps.same x y h.stays) at k.folded);
            ends = waiting_up_to l m w k.ends;
            stays = keeps.join x y z h.stays k.stays;
            idle = idle_join x y z l m h.idle k.idle;
          };
          once = λ x y l h. up_to_once l h.ends;
        }

  -- A step that does not yet return, followed by a poll result, is one run with that result.
  pub gathers_before : {Steps : X → X → Type 0} → KeepLaws fold Keeps → MarkLaws reads
      → ((x y : X) → Steps x y → Keeps x y)
      → (x y z : X) (a : Poll R) → TakesBytes reader held fold Steps reads x y
      → Gathers reader held fold Keeps reads y (a ∷ []) z → Gathers reader held fold Keeps reads x (a ∷ []) z
  gathers_before keeps laws kept x y z a t h =
      let stays = kept x y t.stays in
      record {
        folded =
            segmented_before _ laws _ _ _ _ _ _ t.taken a t.came t.folds (rw (keeps.same x y stays) at h.folded);
        ends = h.ends;
        stays = keeps.join x y z stays h.stays;
        idle = λ e. cc e;
      }

  -- Two futures with equal bytes held and the same fold, over readers that are alike, have the same value.
  pub gathers_alike : {same : R → R → Type 0} {ample : Runs ReadMark S} {needs_none : Type 0} {alike : S → S → Type 0}
      → ((x : X) → IsDeterministic same (fold x)) → SteadyReadLaws reads ample needs_none alike
      → (x y : X) → alike (reader x) (reader y) → held x ≡ held y → fold y ≡ fold x
      → (l m : List (Poll R)) (x' y' : X) → Gathers reader held fold Keeps ample x l x'
      → Gathers reader held fold Keeps ample y m y' → ComparableBy same (strip l) (strip m)
  gathers_alike one s x y e d f l m x' y' h k =
      segmented_alike _ (one x) s _ _ _ _ _ _ _ l m e h.folded (rw (f, ← d) at k.folded)

  pub gathers_calm : {is_calm : S → Type 0} → CalmReadLaws reads is_calm
      → CalmLaws (Gathers reader held fold Keeps reads) (λ x. is_calm (reader x))
  gathers_calm c =
      record {
        no_pending = λ x y l k h. (segmented_calm _ _ _ _ _ l c k h.folded).0;
        calm_on = λ x y l k h. (segmented_calm _ _ _ _ _ l c k h.folded).1;
      }
