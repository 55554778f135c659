-- What a responder of plain functions said in a run of turns.
use Rattle.std.specs.Prelude.{◌≡◌, ℕ, List, [], ◌∷◌, ◌++◌, Option, Some, None}
use Rattle.framed.specs.Services.{AnswerOf, RefusesBy, ServesBy}
use Rattle.serving.specs.Uses.{◌∙◌, FoldsTo, FramesError, ReadMark, Runs, ap, refl, sym}
use Rattle.serving.specs.declared.stop.Stop.{Stop}
use Rattle.serving.specs.Replies.{held_by, said_to}
use Rattle.serving.specs.Turns.{Responds, Side, ServingTurn, TakesTurn, answered, ended, looked, pended, refused, said_by, unanswered, unrefused}

module _ {T C S H E : Type 0} (piece : C → List ℕ → List ℕ → Type 0) (refuses : C → List ℕ → E → Type 0) (cut_off : C → List ℕ → E → Type 0)
    (reads : Runs ReadMark T) (buffer_of : T → List ℕ) (holds : S → H) (step : H → List ℕ → AnswerOf ℕ × H) (words : FramesError E → List ℕ) where
  -- What was said and is held in `turns`, from what `s` holds, by a responder that is `t` then.
  abbrev SaidAs : S → List (ServingTurn E) → S → Type 0
  SaidAs s turns t = (said_by turns ≡ said_to step words (holds s) turns) × (holds t ≡ held_by step words (holds s) turns)

  -- What is held did not change.
  same_held : (s m t : S) (turns : List (ServingTurn E)) → holds m ≡ holds s → SaidAs m turns t → SaidAs s turns t
  same_held s m t turns is rest = (
    rest.0 ∙ ap (λ h. said_to step words h turns) is,
    rest.1 ∙ ap (λ h. held_by step words h turns) is,
  )

  -- A turn before others, by a responder that is `m` between.
  turn_before : (s m t : S) (turn : ServingTurn E) (stop after : Option (Stop E)) (turns : List (ServingTurn E))
      → Responds (ServesBy holds step) (RefusesBy holds words) s turn stop m after → SaidAs m turns t → SaidAs s (turn ∷ turns) t
  turn_before s m t looked stop after turns r rest = same_held s m t turns (ap holds r.0) rest
  turn_before s m t pended stop after turns r rest = same_held s m t turns (ap holds r.0) rest
  turn_before s m t (answered request said on) None after turns r rest =
      let out : (said, on) ≡ (step (holds s) request).0 = ap (λ p. p.0) r.0 in
      let held : holds m ≡ (step (holds s) request).1 = ap (λ p. p.1) r.0 in (
        ap (λ l. l ++ said_by turns) (ap (λ p. p.0) out)
            ∙ ap (λ l. (step (holds s) request).0.0 ++ l) (rest.0 ∙ ap (λ h. said_to step words h turns) held),
        rest.1 ∙ ap (λ h. held_by step words h turns) held,
      )
  turn_before s m t (unanswered request) None after turns r rest = same_held s m t turns r.0 rest
  turn_before s m t (refused e said) None after turns r rest =
      let k = same_held s m t turns r.0.1 rest in (ap (λ l. l ++ said_by turns) r.0.0 ∙ ap (λ l. words e ++ l) k.0, k.1)
  turn_before s m t (unrefused e) None after turns r rest = same_held s m t turns r.0 rest
  turn_before s m t ended None after turns r rest = same_held s m t turns (ap holds r.0) rest
  turn_before s m t (answered request said on) (Some stop) after turns r rest = absurd r
  turn_before s m t (unanswered request) (Some stop) after turns r rest = absurd r
  turn_before s m t (refused e said) (Some stop) after turns r rest = absurd r
  turn_before s m t (unrefused e) (Some stop) after turns r rest = absurd r
  turn_before s m t ended (Some stop) after turns r rest = absurd r

  -- The bytes that were said are those of the functions, and so is what the responder holds then.
  pub said_as : (x y : Side T C S E) (turns : List (ServingTurn E))
      → FoldsTo (TakesTurn piece refuses cut_off reads buffer_of (ServesBy holds step) (RefusesBy holds words)) x turns y
      → (said_by turns ≡ said_to step words (holds x.responder) turns) × (holds y.responder ≡ held_by step words (holds x.responder) turns)
  said_as x y [] h = (refl, sym (ap (λ (s : Side T C S E). holds s.responder) h))
  said_as x y (turn ∷ turns) (m, (found, responds), more) =
      turn_before x.responder m.responder y.responder turn x.stop m.stop turns responds (said_as m y turns more)
