-- What a responder pushes behind the bytes of a buffer.
use Rattle.std.specs.Prelude.{◌≡◌, ℕ, Bool, List, ◌++◌, Option, Some, None, Result, Ok, Err}
use Rattle.framed.specs.Services.{AnswerOf}

module _ {S M : Type 0} where
  -- The replies were pushed behind the bytes that were there, and `answers` allows them. If memory was refused, some bytes
  -- may have been pushed.
  abbrev pub Pushes : (Option (AnswerOf ℕ) → S → Type 0) → List ℕ → Result Bool M → List ℕ → S → Type 0
  Pushes answers before (Ok on) after t = (said : List ℕ) × (after ≡ before ++ said) × answers (Some (said, on)) t
  Pushes answers before (Err e) after t = (rest : List ℕ) × (after ≡ before ++ rest) × answers None t

  -- The same of last words, which end a session.
  abbrev pub PushesWords : (Option (List ℕ) → S → Type 0) → List ℕ → Result (Unit {0}) M → List ℕ → S → Type 0
  PushesWords words before (Ok u) after t = (said : List ℕ) × (after ≡ before ++ said) × words (Some said) t
  PushesWords words before (Err e) after t = (rest : List ℕ) × (after ≡ before ++ rest) × words None t
