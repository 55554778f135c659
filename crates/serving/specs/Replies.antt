-- What a responder of plain functions says in some turns.
use Rattle.std.specs.Prelude.{ℕ, List, [], ◌∷◌, ◌++◌}
use Rattle.framed.specs.Services.{AnswerOf}
use Rattle.serving.specs.Uses.{FramesError}
use Rattle.serving.specs.Turns.{ServingTurn, answered, refused}

module _ {H E : Type 0} (step : H → List ℕ → AnswerOf ℕ × H) (words : FramesError E → List ℕ) where
  -- The replies to the requests, one behind another, from what is held at first; and the last words.
  abbrev pub said_to : H → List (ServingTurn E) → List ℕ
  said_to h [] = []
  said_to h (answered request said on ∷ turns) = let one = step h request in one.0.0 ++ said_to one.1 turns
  said_to h (refused e said ∷ turns) = words e ++ said_to h turns
  said_to h (turn ∷ turns) = said_to h turns

  -- What is held then.
  abbrev pub held_by : H → List (ServingTurn E) → H
  held_by h [] = h
  held_by h (answered request said on ∷ turns) = held_by (step h request).1 turns
  held_by h (turn ∷ turns) = held_by h turns
