-- Laws of streams over a reader.
use Rattle.std.specs.Prelude.{ℕ, List, [], ◌∷◌, ◌++◌, Option}
use Rattle.lite_read.specs.Uses.{◌∙◌, refl, FoldsTo, Poll, Reaches, RunLaws, StreamLaws, laws_of, NoHint, Runs, Ranks, ReadCounting, ReadMark, bytes, MarkLaws}
use Rattle.lite_read.specs.Uses.{idle_join, steps_answer}
use Rattle.lite_base.specs.Laws.Segments.{segments_join}
use Rattle.lite_base.specs.StreamLaws.{PollsOn}
use Rattle.lite_read.specs.ReadFold.{ReadFold}
use Rattle.lite_read.specs.Laws.ReadFold.{answers_before}
use Rattle.lite_read.specs.Segments.{Flows, Segmented, StreamOver}
use Rattle.lite_read.specs.PollSteps.{TakesPieceIn}

module _ {M R : Type 0} (fold : ReadFold M R) where
  module _ {S : Type 0} {reads : Runs ReadMark S} (laws : MarkLaws reads) where
    pub segmented_none : (s : S) (p : M) → Segmented fold reads s p [] s p
    segmented_none s p = record { marks = []; came = laws.rests s; cut = (refl, refl) }

    module _ (s t u : S) (p : M) where
      pub segmented_follow : (q r : M) (l m : List (Poll R)) → Segmented fold reads s p l t q
          → Segmented fold reads t q m u r → Segmented fold reads s p (l ++ m) u r
      segmented_follow q r l m h k =
          record {
            marks = h.marks ++ k.marks;
            came = laws.follows s t u h.marks k.marks h.came k.came;
            cut = segments_join _ p q r h.marks k.marks l m h.cut k.cut;
          }

      pub segmented_before : (m q : M) (xs : List ℕ) (a : Poll R) → reads s (bytes xs) t → FoldsTo fold.takes p xs m
          → Segmented fold reads t m (a ∷ []) u q → Segmented fold reads s p (a ∷ []) u q
      segmented_before m q xs a came f h =
          record {
            marks = bytes xs ++ h.marks;
            came = laws.follows s t u _ h.marks came h.came;
            cut = answers_before fold p m q xs h.marks a [] f h.cut;
          }

module _ {X S M K R : Type 0} (over : StreamOver X S M K) (fold : K → ReadFold M R) {reads : Runs ReadMark S}
    (laws : MarkLaws reads) where
  module _ (x y z : X) where
    flows_follow : (l m : List (Poll R)) → Flows over fold reads x l y → Flows over fold reads y m z
        → Flows over fold reads x (l ++ m) z
    flows_follow l m h k =
        record {
          segmented =
              segmented_follow _ laws _ _ _ _ _ _ l m h.segmented (rw h.stays at k.segmented);
          stays = k.stays ∙ h.stays;
          idle = idle_join x y z l m h.idle k.idle;
        }

    -- A step that does not yet return, followed by a poll result, is one run with that result.
    pub step_before : (a : Poll R) → TakesPieceIn over fold reads x y → Flows over fold reads y (a ∷ []) z
        → Flows over fold reads x (a ∷ []) z
    step_before a t h =
        record {
          segmented =
              segmented_before _ laws _ _ _ _ _ _ t.taken a t.came t.folds (rw t.stays.0 at h.segmented);
          stays = h.stays ∙ t.stays.0;
          idle = λ e. cc e;
        }

module _ {X S M K A : Type 0} (over : StreamOver X S M K) (fold : K → ReadFold M (Option A)) {reads : Runs ReadMark S}
    (laws : MarkLaws reads) where
  -- The laws of such a stream's runs.
  pub flow_runs : RunLaws (Flows over fold reads)
  flow_runs =
      record {
        rests = λ x. record {
          segmented = segmented_none _ laws _ _;
          stays = refl;
          idle = λ e. refl;
        };
        stays = λ x y h. h.idle refl;
        follows = flows_follow over fold laws;
      }

  -- The laws of such a stream, whose size hint is `(0, None)`.
  pub flow_laws : {can_poll : X → Type 0} → PollsOn can_poll (Flows over fold reads)
      → StreamLaws can_poll (Flows over fold reads) NoHint
  flow_laws = laws_of flow_runs (λ x y hint l allowed h. rw allowed tt)

  -- What each run of the reader keeps true of it is true after a run of the stream.
  pub flow_keeps : (P : S → Type 0) → ((s t : S) (l : List ReadMark) → P s → reads s l t → P t)
      → (x y : X) (l : List (Poll (Option A))) → P (over.reader x)
      → Flows over fold reads x l y → P (over.reader y)
  flow_keeps P keeps x y l p h = keeps _ _ h.segmented.marks p h.segmented.came

  -- The laws of such a stream that may be polled if its reader's rank counts.
  pub flow_counting_laws : {r : Ranks S} → ReadCounting reads r
      → StreamLaws (λ x. r.counts (over.reader x)) (Flows over fold reads) NoHint
  flow_counting_laws {r} c = flow_laws (flow_keeps r.counts c.counts_on)

module _ {X S M K A : Type 0} {over : StreamOver X S M K} {fold : K → ReadFold M (Option A)} {reads : Runs ReadMark S}
    (laws : MarkLaws reads) {x z : X} {a : Poll (Option A)} where
  -- Steps that do not yet return, followed by a poll result, are one run with that result.
  pub flow_ran : (y : X) × Reaches (TakesPieceIn over fold reads) x y × Flows over fold reads y (a ∷ []) z
      → Flows over fold reads x (a ∷ []) z
  flow_ran = steps_answer (step_before over fold laws)

  -- They leave a reader whose rank counts.
  pub flow_on : {r : Ranks S} → ReadCounting reads r → r.counts (over.reader x)
      → (y : X) × Reaches (TakesPieceIn over fold reads) x y × Flows over fold reads y (a ∷ []) z
      → r.counts (over.reader z)
  flow_on {r} c k steps = flow_keeps over fold laws r.counts c.counts_on x z (a ∷ []) k (flow_ran steps)
