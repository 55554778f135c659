-- The turns of a server of lent frames: what was found in its input, and what was replied to it.
use Rattle.std.specs.Prelude.{◌≡◌, ℕ, Bool, true, false, List, flat_map, [], Option, Some, None, Ok, Err}
use Rattle.std.specs.declared.io.Error.{Error}
use Rattle.serving.specs.Uses.{Advances, AdvancesInHand, FramesError, LastWords, Lending, Pending, ReadMark, Ready, Runs, ServiceStep, lent_body}
use Rattle.serving.specs.declared.stop.Stop.{Stop}
use Rattle.serving.specs.declared.stop.Stop.TheVariants.{Answered, Ended, Lacked, Refused}

-- One look for a request, and what came of it.
pub data ServingTurn (E : Type 0) : Type 0 where
  -- No whole request was in the bytes that had been read.
  looked : ServingTurn E
  -- The reader returned `Pending`, and no request was whole.
  pended : ServingTurn E
  -- A request, the replies to it, and whether the responder goes on.
  answered : List ℕ → List ℕ → Bool → ServingTurn E
  -- A request for whose replies memory was refused.
  unanswered : List ℕ → ServingTurn E
  -- An error of the input, and the last words to it.
  refused : FramesError E → List ℕ → ServingTurn E
  -- An error of the input, for whose last words memory was refused.
  unrefused : FramesError E → ServingTurn E
  -- The end of the input.
  ended : ServingTurn E

-- The bytes that the responder pushed in a turn.
abbrev pub said_in : {E : Type 0} → ServingTurn E → List ℕ
said_in (answered request said on) = said
said_in (refused e said) = said
said_in turn = []

-- All bytes that it pushed, in order.
abbrev pub said_by : {E : Type 0} → List (ServingTurn E) → List ℕ
said_by = flat_map said_in

-- Why no more turns are taken behind a request, if the responder ends the session.
abbrev pub stop_behind : {E : Type 0} → Bool → Option (Stop E)
stop_behind true = None
stop_behind false = Some Answered

module _ {S E : Type 0} (answers : ServiceStep S (List ℕ) ℕ) (words : LastWords S (FramesError E) ℕ) where
  -- What the responder did in a turn, and whether more turns are taken behind it. None is taken behind a stop.
  abbrev pub Responds : S → ServingTurn E → Option (Stop E) → S → Option (Stop E) → Type 0
  Responds s looked stop t after = (t ≡ s) × (after ≡ stop)
  Responds s pended stop t after = (t ≡ s) × (after ≡ stop)
  Responds s (answered request said on) None t after = answers s request (Some (said, on)) t × (after ≡ stop_behind on)
  Responds s (unanswered request) None t after = answers s request None t × (after ≡ Some Lacked)
  Responds s (refused e said) None t after = words s e (Some said) t × (after ≡ Some (Refused e))
  Responds s (unrefused e) None t after = words s e None t × (after ≡ Some Lacked)
  Responds s ended None t after = (t ≡ s) × (after ≡ Some Ended)
  Responds s turn (Some stop) t after = ⊥

module _ {T C E : Type 0} (piece : C → List ℕ → List ℕ → Type 0) (refuses : C → List ℕ → E → Type 0) (cut_off : C → List ℕ → E → Type 0)
    (reads : Runs ReadMark T) (buffer_of : T → List ℕ) where
  -- What was found in a turn.
  abbrev pub FindsIn : Lending T C → ServingTurn E → Lending T C → Type 0
  FindsIn x looked y = AdvancesInHand piece refuses cut_off reads buffer_of x Pending y
  FindsIn x pended y = Advances piece refuses cut_off reads buffer_of x Pending y
  FindsIn x (answered request said on) y =
      Advances piece refuses cut_off reads buffer_of x (Ready (Some (Ok tt))) y × (request ≡ lent_body buffer_of y)
  FindsIn x (unanswered request) y =
      Advances piece refuses cut_off reads buffer_of x (Ready (Some (Ok tt))) y × (request ≡ lent_body buffer_of y)
  FindsIn x (refused e said) y = Advances piece refuses cut_off reads buffer_of x (Ready (Some (Err e))) y
  FindsIn x (unrefused e) y = Advances piece refuses cut_off reads buffer_of x (Ready (Some (Err e))) y
  FindsIn x ended y = Advances piece refuses cut_off reads buffer_of x (Ready None) y

-- A server: the frames of its input, the writer of its replies, its responder; why no more turns are taken, if so; the replies
-- that the writer has not taken; whether it was flushed behind the last write; how many bytes may wait before another turn; and
-- the writer's error.
pub record Server (T C O S E : Type 0) : Type 0 where
  pub requests : Lending T C
  pub replies : O
  pub responder : S
  pub stop : Option (Stop E)
  pub waiting : List ℕ
  pub is_flushed : Bool
  pub limit : ℕ
  pub error : Option Error

-- What turns are taken with: the frames of the input, the responder, and why no more turns are taken, if so.
pub record Side (T C S E : Type 0) : Type 0 where
  pub requests : Lending T C
  pub responder : S
  pub stop : Option (Stop E)

module _ {T C S E : Type 0} (piece : C → List ℕ → List ℕ → Type 0) (refuses : C → List ℕ → E → Type 0) (cut_off : C → List ℕ → E → Type 0)
    (reads : Runs ReadMark T) (buffer_of : T → List ℕ) (answers : ServiceStep S (List ℕ) ℕ) (words : LastWords S (FramesError E) ℕ) where
  -- One turn.
  abbrev pub TakesTurn : Side T C S E → ServingTurn E → Side T C S E → Type 0
  TakesTurn x turn y = FindsIn piece refuses cut_off reads buffer_of x.requests turn y.requests
      × Responds answers words x.responder turn x.stop y.responder y.stop
