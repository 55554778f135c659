-- Serving lent frames: turns, and what the writer took meanwhile.
use Rattle.std.specs.Prelude.{◌≡◌, ◌⊎◌, ◌≤◌, ◌<◌, ◌+◌, ℕ, Bool, true, false, List, [], ◌∷◌, ◌++◌, length}
use Rattle.std.specs.Prelude.{Some, None, Result, Ok, Err, IfSome, IsSome}
use Rattle.std.specs.IoError.{error_kind}
use Rattle.std.specs.declared.io.ErrorKind.TheVariants.{WriteZero}
use Rattle.futures.specs.Task.{Lasting}
use Rattle.serving.specs.Uses.{ErrorKind, FoldsTo, FramesError, LastWords, Pending, Poll, ReadMark, Ready, Runs}
use Rattle.serving.specs.Uses.{ServiceStep, WriteMark, WritesAndFlushes, bytes_taken}
use Rattle.serving.specs.Turns.{Server, ServingTurn, Side, TakesTurn, pended, said_by, said_in}
use Rattle.serving.specs.declared.serving_error.ServingError.{ServingError}
use Rattle.serving.specs.declared.serving_error.ServingError.TheVariants.{Input, OutOfMemory, Output}
use Rattle.serving.specs.declared.stop.Stop.{Stop}
use Rattle.serving.specs.declared.stop.Stop.TheVariants.{Answered, Ended, Lacked, Refused}

module _ {T C O S E : Type 0} where
  -- What turns are taken with.
  abbrev pub side_of : Server T C O S E → Side T C S E
  side_of x = record { requests = x.requests; responder = x.responder; stop = x.stop }

  -- Another turn may be taken: no stop was met, and no more than `limit` bytes wait.
  abbrev pub MayTake : Server T C O S E → Type 0
  MayTake x = (x.stop ≡ None) × (length x.waiting ≤ x.limit)

  -- Some replies wait, or what was written was not flushed.
  abbrev pub IsUnsent : Server T C O S E → Type 0
  IsUnsent x = (0 < length x.waiting) ⊎ (x.is_flushed ≡ false)

  -- All replies were written and flushed.
  abbrev pub AllSent : Server T C O S E → Type 0
  AllSent x = (x.waiting ≡ []) × (x.is_flushed ≡ true)

-- The value of a server that stopped.
abbrev pub value_of : {E : Type 0} → Stop E → Result (Unit {0}) (ServingError E)
value_of Ended = Ok tt
value_of Answered = Ok tt
value_of (Refused e) = Err (Input e)
value_of Lacked = Err OutOfMemory

-- No byte was taken behind the last flush. `before` says whether that was so before.
abbrev pub LeavesFlushed : Bool → List WriteMark → Type 0
LeavesFlushed before took = ((before ≡ true) × (bytes_taken took ≡ []))
    ⊎ ((front behind : List WriteMark) × (took ≡ front ++ WriteMark.flushed ∷ behind) × (bytes_taken behind ≡ []))

-- The bytes that wait are no more than before, or than the limit and the replies of one turn.
abbrev pub WaitsWithin : {E : Type 0} → ℕ → List ℕ → List (ServingTurn E) → List ℕ → Type 0
WaitsWithin {E} limit was turns waiting = (length waiting ≤ length was)
    ⊎ ((before behind : List (ServingTurn E)) × (turn : ServingTurn E) × (turns ≡ before ++ turn ∷ behind)
    × (length waiting ≤ limit + length (said_in turn)))

-- The last element is this one.
abbrev pub LastIs : {A : Type 0} → A → List A → Type 0
LastIs {A} last l = (before : List A) × (l ≡ before ++ last ∷ [])

module _ {T C O S E : Type 0} (writes : Runs WriteMark O) where
  -- A write or a flush failed, and nothing else was done then.
  pub record OutputFails (x : Server T C O S E) (kind : ErrorKind) (y : Server T C O S E) : Type 0 where
    pub went : writes x.replies (WriteMark.fault kind ∷ []) y.replies
        ⊎ (writes x.replies (WriteMark.wrote [] ∷ []) y.replies × (kind ≡ WriteZero))
    pub error : IsSome y.error × IfSome y.error (λ e. error_kind e ≡ kind)
    pub rest : y ≡ record x { replies = y.replies; error = y.error }

module _ {T C O S E : Type 0} (piece : C → List ℕ → List ℕ → Type 0) (refuses : C → List ℕ → E → Type 0) (cut_off : C → List ℕ → E → Type 0)
    (reads : Runs ReadMark T) (buffer_of : T → List ℕ) (writes : Runs WriteMark O) (answers : ServiceStep S (List ℕ) ℕ)
    (words : LastWords S (FramesError E) ℕ) where
  -- Turns were taken one behind another. The writer took bytes and flushes. What it took and what waits then is what waited
  -- before and then all replies.
  pub record ServesTurns (x : Server T C O S E) (turns : List (ServingTurn E)) (took : List WriteMark) (y : Server T C O S E) : Type 0 where
    pub taken : FoldsTo (TakesTurn piece refuses cut_off reads buffer_of answers words) (side_of x) turns (side_of y)
    pub went : writes x.replies took y.replies
    pub fine : WritesAndFlushes took
    pub balanced : x.waiting ++ said_by turns ≡ bytes_taken took ++ y.waiting
    pub flushed : y.is_flushed ≡ true → LeavesFlushed x.is_flushed took
    pub within : WaitsWithin x.limit x.waiting turns y.waiting
    pub limit : y.limit ≡ x.limit
    pub error : y.error ≡ x.error

  -- The same, for some turns and marks.
  abbrev pub Goes : Server T C O S E → Server T C O S E → Type 0
  Goes x y = (turns : List (ServingTurn E)) × (took : List WriteMark) × ServesTurns x turns took y

  -- A poll that is `Pending`. If another turn may be taken, the reader was pending last. If something is unsent, the writer
  -- was pending last. At least one of the two was.
  pub record Pends (x y : Server T C O S E) : Type 0 where
    pub turns : List (ServingTurn E)
    pub took : List WriteMark
    pub served : ServesTurns x turns took y
    pub reader : MayTake y → LastIs pended turns
    pub writer : IsUnsent y → LastIs WriteMark.pending took
    pub some : MayTake y ⊎ IsUnsent y

  -- No more turns are taken, all replies are written and flushed, and the value is that of the stop.
  abbrev pub EndsByStop : Server T C O S E → Result (Unit {0}) (ServingError E) → Server T C O S E → Type 0
  EndsByStop x r y = (m : Server T C O S E) × (stop : Stop E) × Goes x m × AllSent m × (m.stop ≡ Some stop) × (r ≡ value_of stop)
      × (y ≡ record m { stop = Some Ended })

  -- The value. Behind a failed write or flush nothing was done.
  abbrev pub ServingEnds : Server T C O S E → Result (Unit {0}) (ServingError E) → Server T C O S E → Type 0
  ServingEnds x (Ok u) y = EndsByStop x (Ok tt) y
  ServingEnds x (Err (Input e)) y = EndsByStop x (Err (Input e)) y
  ServingEnds x (Err OutOfMemory) y = EndsByStop x (Err OutOfMemory) y
  ServingEnds x (Err (Output kind)) y = (m : Server T C O S E) × Goes x m × OutputFails writes m kind y

  -- One poll.
  abbrev pub ServesPoll : Server T C O S E → Poll (Result (Unit {0}) (ServingError E)) → Server T C O S E → Type 0
  ServesPoll x Pending y = Pends x y
  ServesPoll x (Ready r) y = ServingEnds x r y

-- What is registered at a `Pending`: what the reader registers if another turn may be taken, and what the writer registers
-- if something is unsent.
abbrev pub ServingRegisters : {T C O S E : Type 0} → (T → Lasting → Type 0) → (O → Lasting → Type 0) → Server T C O S E → Lasting
    → Type 0
ServingRegisters by_reader by_writer x fact =
    (MayTake x → by_reader x.requests.reader fact) × (IsUnsent x → by_writer x.replies fact)
