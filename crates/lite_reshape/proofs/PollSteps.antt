-- The steps of a poll that leaves items out make one segment.
use Rattle.std.specs.Prelude.{List, [], ◌∷◌, ◌++◌, Option, Some, None}
use Rattle.lite_reshape.specs.Uses.{refl, Answer, item, NextStep, Reaches, Reaches-back, answers_given, answers_taken, Counting, Ranks, Hints, Question, Runs}
use Rattle.lite_reshape.specs.Uses.{StreamLaws, AtEachItem, each_asked, Through}
use Rattle.lite_reshape.specs.Leaving.{LeaveStep, LeavesOut, Passes, Rejects, Sifts}

module _ {S F A B : Type 0} (call : Question F A (Option B)) (run : Runs (Answer A) S) where
  -- the last step of a poll
  step_answers : (s t : S) (p q : F) (b : Answer B) → LeaveStep call run s p (Some b) t q
      → Through run (LeavesOut call) s p (b ∷ []) t q
  step_answers s t p q b h =
      record {
        ins = h.0 ∷ [];
        came = h.1;
        related = answers_given item (Rejects call) (Passes call) p q q h.0 [] b [] h.2 (refl, refl);
      }

  -- a step before others
  step_rejects : ((x y z : S) (l m : List (Answer A)) → run x l y → run y m z → run x (l ++ m) z)
      → (s t u : S) (p q r : F) (b : Answer B) → LeaveStep call run s p None t q
      → Through run (LeavesOut call) t q (b ∷ []) u r → Through run (LeavesOut call) s p (b ∷ []) u r
  step_rejects follows s t u p q r b h m =
      record {
        ins = item h.0 ∷ m.ins;
        came = follows s t u (item h.0 ∷ []) m.ins h.1 m.came;
        related = answers_taken item (Rejects call) (Passes call) p q r h.0 m.ins b []
            (record { rejected = h.2 }) m.related;
      }

  -- the steps of a poll of an adapter
  pub sifts_answer : {T : Type 0} (can_step : T → Type 0) (source : T → S) (asked : T → F)
      → ((x y z : S) (l m : List (Answer A)) → run x l y → run y m z → run x (l ++ m) z)
      → (x y z : T) (b : Answer B) → Reaches (NextStep (Sifts call run can_step source asked)) x y
      → Sifts call run can_step source asked y (Some b) z
      → Through run (LeavesOut call) (source x) (asked x) (b ∷ []) (source z) (asked z)
  sifts_answer can_step source asked follows x y z b goes last =
      Reaches-back (λ m. Through run (LeavesOut call) (source m) (asked m) (b ∷ []) (source z) (asked z))
      (λ v w t. step_rejects follows (source v) (source w) (source z) (asked v) (asked w) (asked z) b t.1)
      x y goes (step_answers (source y) (source z) (asked y) (asked z) b last.1)

-- after a step that asked about an item another may be made
pub steps_on : {S F A O : Type 0} {run : Runs (Answer A) S} {call : Question F A O} {P : F → A → Type 0}
    {can_poll : S → Type 0} {hints : Hints S} {r : Ranks S} {s t : S} {f g : F} {x : A} {o : O} → StreamLaws can_poll run hints → Counting run r
    → {Q R : Type 0}
    → Q × r.counts s × AtEachItem run call P s f → run s (item x ∷ []) t → call f x o g → R
    → R × r.counts t × AtEachItem run call P t g
steps_on laws c can ran called again = (again, c.counts_on _ _ _ can.1 ran, each_asked laws can.2 ran refl called)
