-- The steps of a poll of a server of lent frames.
use Rattle.std.specs.Prelude.{◌≡◌, ◌⊎◌, ◌<◌, ℕ, zero, suc, Bool, true, false, List, [], ◌∷◌, ◌++◌, length, Option, Some, None, Result, Ok, Err}
use Rattle.serving.specs.Uses.{Advances, AtMost, Below, ErrorKind, FramesError, LastWords, Lending, Pending, Poll}
use Rattle.serving.specs.Uses.{Ranks, ReadMark, Ready, Runs, ServiceStep, WriteMark, lent_body}
use Rattle.serving.specs.Turns.{Responds, ServingTurn, answered, ended, refused, said_in, unanswered, unrefused, Server}
use Rattle.serving.specs.Serving.{OutputFails, Goes, AllSent, IsUnsent}

-- The rank of a server, which falls with each step of a poll.

-- 1 if there is nothing.
abbrev pub one_if_none : {A : Type 0} → Option A → ℕ
one_if_none None = 1
one_if_none (Some a) = 0

-- 1 for 0, and else 0.
abbrev pub one_if_zero : ℕ → ℕ
one_if_zero zero = 1
one_if_zero (suc n) = 0

-- 1 for `false`.
abbrev pub one_if_false : Bool → ℕ
one_if_false true = 0
one_if_false false = 1

-- The reader's rank, how many bytes are held, and whether no frame is lent.
abbrev pub lending_rank : {T C : Type 0} → Ranks T → Lending T C → List ℕ
lending_rank r x = r.rank x.reader ++ (length x.held ∷ one_if_zero x.span.size ∷ [])

-- Whether turns are taken, the rank of the frames, how many bytes wait, and whether a flush is due.
abbrev pub serving_rank : {T C O S E : Type 0} → Ranks T → Server T C O S E → List ℕ
serving_rank r x =
    one_if_none x.stop ∷ (lending_rank r x.requests ++ (length x.waiting ∷ one_if_false x.is_flushed ∷ []))

-- A turn that may come of what was found, if `body` is the body of the frame that is lent.
abbrev pub IsTurnOf : {E : Type 0} → Option (Result (Unit {0}) (FramesError E)) → List ℕ → ServingTurn E → Type 0
IsTurnOf None body turn = turn ≡ ended
IsTurnOf (Some (Ok u)) body turn = ((said : List ℕ) × (on : Bool) × (turn ≡ answered body said on)) ⊎ (turn ≡ unanswered body)
IsTurnOf (Some (Err e)) body turn = ((said : List ℕ) × (turn ≡ refused e said)) ⊎ (turn ≡ unrefused e)

module _ {T C O S E : Type 0} (buffer_of : T → List ℕ) (answers : ServiceStep S (List ℕ) ℕ) (words : LastWords S (FramesError E) ℕ) where
  -- The responder did its part of a turn. The frames and the writer stay.
  pub record PerformsTurn (x : Server T C O S E) (turn : ServingTurn E) (y : Server T C O S E) : Type 0 where
    pub responds : Responds answers words x.responder turn None y.responder y.stop
    pub waits : y.waiting ≡ x.waiting ++ said_in turn
    pub requests : y.requests ≡ x.requests
    pub replies : y.replies ≡ x.replies
    pub flushed : y.is_flushed ≡ x.is_flushed
    pub limit : y.limit ≡ x.limit
    pub error : y.error ≡ x.error

  -- The same, of what was found.
  abbrev pub PerformsFound : Server T C O S E → Option (Result (Unit {0}) (FramesError E)) → Server T C O S E → Type 0
  PerformsFound x found y = (turn : ServingTurn E) × IsTurnOf found (lent_body buffer_of x.requests) turn × PerformsTurn x turn y

module _ {T C O S E : Type 0} where
  -- What turns are taken with stays, and so do the limit and the error.
  pub record KeepsSide (x y : Server T C O S E) : Type 0 where
    pub requests : y.requests ≡ x.requests
    pub responder : y.responder ≡ x.responder
    pub stop : y.stop ≡ x.stop
    pub limit : y.limit ≡ x.limit
    pub error : y.error ≡ x.error

  module _ (writes : Runs WriteMark O) where
    -- The writer took some of the bytes that wait.
    pub record WritesWaiting (x y : Server T C O S E) : Type 0 where
      pub taken : List ℕ
      pub some : 0 < length taken
      pub went : writes x.replies (WriteMark.wrote taken ∷ []) y.replies
      pub front : x.waiting ≡ taken ++ y.waiting
      pub due : y.is_flushed ≡ false
      pub stays : KeepsSide x y

    -- The writer was flushed.
    pub record FlushesOut (x y : Server T C O S E) : Type 0 where
      pub none : x.waiting ≡ []
      pub due : x.is_flushed ≡ false
      pub went : writes x.replies (WriteMark.flushed ∷ []) y.replies
      pub rest : y ≡ record x { replies = y.replies; is_flushed = true }

    -- The writer returned `Pending`.
    pub record WriterPends (x y : Server T C O S E) : Type 0 where
      pub due : IsUnsent x
      pub went : writes x.replies (WriteMark.pending ∷ []) y.replies
      pub rest : y ≡ record x { replies = y.replies }

    -- One call of the writer, or none if all is sent.
    abbrev pub PutsOut : Server T C O S E → Poll (Result Bool ErrorKind) → Server T C O S E → Type 0
    PutsOut x (Ready (Ok true)) y = WritesWaiting x y ⊎ FlushesOut x y
    PutsOut x (Ready (Ok false)) y = AllSent x × (y ≡ x)
    PutsOut x (Ready (Err kind)) y = OutputFails writes x kind y
    PutsOut x Pending y = WriterPends x y

module _ {T C O S E : Type 0} (piece : C → List ℕ → List ℕ → Type 0) (refuses : C → List ℕ → E → Type 0) (cut_off : C → List ℕ → E → Type 0)
    (reads : Runs ReadMark T) (buffer_of : T → List ℕ) (writes : Runs WriteMark O) (answers : ServiceStep S (List ℕ) ℕ)
    (words : LastWords S (FramesError E) ℕ) (r : Ranks T) where
  -- A step behind which the poll goes on.
  pub record GoesAhead (x y : Server T C O S E) : Type 0 where
    pub went : Goes piece refuses cut_off reads buffer_of writes answers words x y
    pub lower : Below (serving_rank r y) (serving_rank r x)
    pub counts : r.counts y.requests.reader

  -- A look at what is in hand: a turn, or no request was whole.
  abbrev pub TakesInHand : Server T C O S E → Bool → Server T C O S E → Type 0
  TakesInHand x true y = GoesAhead x y
  TakesInHand x false y = Goes piece refuses cut_off reads buffer_of writes answers words x y × AtMost (serving_rank r y) (serving_rank r x)
      × r.counts y.requests.reader × (y ≡ record x { requests = y.requests })

  -- A look by reading: a turn, or the reader was pending.
  abbrev pub TakesByRead : {A : Type 0} → Server T C O S E → Option (Poll A) → Server T C O S E → Type 0
  TakesByRead x None y = GoesAhead x y
  TakesByRead x (Some Pending) y = Advances piece refuses cut_off reads buffer_of x.requests Pending y.requests × (y ≡ record x { requests = y.requests })
      × r.counts y.requests.reader
  TakesByRead x (Some (Ready a)) y = ⊥
