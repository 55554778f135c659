-- The steps of a poll that consumes a stream make one segment.
use Rattle.std.specs.Prelude.{List, [], ◌∷◌, Some, None, refl}
use Rattle.std.proofs.Common.{◌++◌}
use Rattle.lite_consume.specs.Uses.{Poll, Answer, item, answers_given, answers_taken, Runs}
use Rattle.lite_base.specs.Chain.{NextStep, Reaches}
use Rattle.lite_base.specs.Laws.Answers.{up_to_one}
use Rattle.lite_base.specs.Laws.Chain.{Reaches-back}
use Rattle.lite_consume.specs.Consume.{ConsumePollStep, Folds, ConsumeStep}
use Rattle.lite_consume.specs.Consuming.{Consumed, Decides, Fold, TakesIn}
use Rattle.lite_consume.specs.declared.consume.Consume.{Consume}

module _ {S M A R : Type 0} (run : Runs (Answer A) S) (fold : Fold M A R) where
  -- the last step of a poll
  step_answers : (s t : S) (p q : M) (b : Poll R) → ConsumeStep run fold s p (Some b) t q
      → Consumed fold run s p (b ∷ []) t q
  step_answers s t p q b h =
      record {
        ins = h.0 ∷ [];
        came = h.1;
        consumed = (answers_given item (TakesIn fold) (Decides fold) p q q h.0 [] b [] h.2 (refl, refl), up_to_one b);
      }

  module _ (follows : (x y z : S) (l m : List (Answer A)) → run x l y → run y m z → run x (l ++ m) z) where
    -- a step before others
    step_takes : (s t u : S) (p q r : M) (b : Poll R) → ConsumeStep run fold s p None t q
        → Consumed fold run t q (b ∷ []) u r → Consumed fold run s p (b ∷ []) u r
    step_takes s t u p q r b h m =
        let more = answers_taken item (TakesIn fold) (Decides fold) p q r h.0 m.ins b [] h.2 m.consumed.0 in
        record {
          ins = item h.0 ∷ m.ins;
          came = follows s t u (item h.0 ∷ []) m.ins h.1 m.came;
          consumed = (more, m.consumed.1);
        }

    pub steps_answer : (can_step : Consume S M → Type 0) (x y z : Consume S M) (b : Poll R)
        → Reaches (NextStep (ConsumePollStep run fold can_step)) x y → ConsumePollStep run fold can_step y (Some b) z
        → Folds run fold x (b ∷ []) z
    steps_answer can_step x y z b goes last =
        Reaches-back (λ m. Folds run fold m (b ∷ []) z)
        (λ v w t. step_takes v.stream w.stream z.stream v.folder w.folder z.folder b t.1)
        x y goes (step_answers y.stream z.stream y.folder z.folder b last.1)
