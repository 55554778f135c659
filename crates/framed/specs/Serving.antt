-- Serving the frames of a reader: a run of whole steps, one for each request, and how it ends.
use Rattle.std.specs.Prelude.{◌≡◌, ◌⊎◌, ℕ, Bool, true, false, List, [], Option, Some, None, Result, Ok, Err}
use Rattle.std.specs.List.{FoldsTo}
use Rattle.std.specs.declared.io.Error.{Error}
use Rattle.framed.specs.Uses.{Pending, ReadMark, Ready, Runs, ToldStripped, WriteMark}
use Rattle.tokio_util.specs.Codec.Next.{Gives}
use Rattle.tokio_util.specs.Codec.Whole.{EncodesAll}
use Rattle.framed.specs.Frames.{FrameStep, Framed, InHand}
use Rattle.framed.specs.Sending.{EncodesUpTo, FlushesOnce, HandsBytes}
use Rattle.framed.specs.Services.{LastWords, ServiceStep}
use Rattle.framed.specs.declared.serve_error.ServeError.{ServeError}
use Rattle.framed.specs.declared.serve_error.ServeError.TheVariants.{Encode, Input, Memory, Output}

-- What a server works on: the stream of requests, the writer of the replies, the encoder and the service.
pub record Session (T D O C S : Type 0) : Type 0 where
  pub requests : Framed T D
  pub replies : O
  pub encoder : C
  pub service : S

module _ {S A E B : Type 0} (answers : ServiceStep S A B) (refuses : LastWords S E B) where
  -- The service was given an item of the stream, and made these replies. `on` says whether serving goes on: not behind
  -- an error, and not at the end, at which the service is not called.
  abbrev pub Performs : S → Option (Result A E) → List B → Bool → S → Type 0
  Performs s None replies on t = (replies ≡ []) × (on ≡ false) × (t ≡ s)
  Performs s (Some (Ok request)) replies on t = answers s request (Some (replies, on)) t
  Performs s (Some (Err e)) replies on t = refuses s e (Some replies) t × (on ≡ false)

  -- The service was given a request or an error, and memory was refused to it.
  abbrev pub RefusedMemory : S → Result A E → S → Type 0
  RefusedMemory s (Ok request) t = answers s request None t
  RefusedMemory s (Err e) t = refuses s e None t

module _ {T D O A E : Type 0} (gives : Gives D A E) (from_gives : Error → E → Type 0) (reads : Runs ReadMark T)
    (buffer_of : T → List ℕ) (writes : Runs WriteMark O) where
  -- The next item of the stream was in hand, and the writer is as it was. Or it was not, and then the writer was flushed
  -- before the item was read.
  abbrev pub TakesNextItem : Framed T D → O → Option (Result A E) → Framed T D → O → Type 0
  TakesNextItem x w item y v =
      (InHand gives from_gives reads buffer_of x (Ready item) y × (v ≡ w))
      ⊎ ((m : Framed T D) × InHand gives from_gives reads buffer_of x Pending m × FlushesOnce writes w (Ok tt) v
      × FrameStep gives from_gives (ToldStripped reads) m (Ready item) y)

  -- The same. If the flush failed, no item was read.
  abbrev pub TakesOrFails : Framed T D → O → Result (Option (Result A E)) Error → Framed T D → O → Type 0
  TakesOrFails x w (Ok item) y v = TakesNextItem x w item y v
  TakesOrFails x w (Err e) y v = InHand gives from_gives reads buffer_of x Pending y × FlushesOnce writes w (Err e) v

module _ {O C B : Type 0} (writes : Runs WriteMark O) (encodes : C → B → List ℕ → C → Type 0) where
  -- The writer was given the frames of these replies, one behind another.
  abbrev pub SendsAll : O → C → List B → Result (Unit {0}) Error → O → C → Type 0
  SendsAll w c replies r v d = (frames : List ℕ) × EncodesAll encodes c replies frames d × HandsBytes writes w frames r v

  -- The same. If a reply was not encoded, nothing was written.
  abbrev pub Sent : {F : Type 0} → (C → B → ℕ → F → Type 0) → O → C → List B → Result (Result (Unit {0}) Error) F → O → C
      → Type 0
  Sent rejects w c replies (Ok r) v d = SendsAll w c replies r v d
  Sent rejects w c replies (Err e) v d = EncodesUpTo encodes rejects c replies e d × (v ≡ w)

module _ {T D O C S A E B F : Type 0} (gives : Gives D A E) (from_gives : Error → E → Type 0) (reads : Runs ReadMark T)
    (buffer_of : T → List ℕ) (writes : Runs WriteMark O) (encodes : C → B → List ℕ → C → Type 0)
    (rejects : C → B → ℕ → F → Type 0) (answers : ServiceStep S A B) (refuses : LastWords S E B) where
  -- An item was taken, and the service made these replies to it. The writer is `w` then.
  abbrev pub Turns : Session T D O C S → Option (Result A E) → O → List B → Bool → Session T D O C S → Type 0
  Turns x item w replies on y = TakesNextItem gives from_gives reads buffer_of writes x.requests x.replies item y.requests w
      × Performs answers refuses x.service item replies on y.service

  -- A whole step: an item was taken, the service made its replies, and the writer took the frames of all of them.
  pub record Step (item : Option (Result A E)) (on : Bool) (x y : Session T D O C S) : Type 0 where
    pub taken_at : O
    pub replies : List B
    pub turned : Turns x item taken_at replies on y
    pub sent : SendsAll writes encodes taken_at x.encoder replies (Ok tt) y.replies y.encoder

  -- The flush before a read failed. No item was taken.
  abbrev pub FailsToRead : Error → Session T D O C S → Session T D O C S → Type 0
  FailsToRead e x y = InHand gives from_gives reads buffer_of x.requests Pending y.requests
      × FlushesOnce writes x.replies (Err e) y.replies × (y.encoder ≡ x.encoder) × (y.service ≡ x.service)

  -- A write of the replies to an item failed. The writer took a front of their frames.
  abbrev pub FailsToWrite : Error → Session T D O C S → Session T D O C S → Type 0
  FailsToWrite e x y = (item : Result A E) × (w : O) × (replies : List B) × (on : Bool)
      × Turns x (Some item) w replies on y × SendsAll writes encodes w x.encoder replies (Err e) y.replies y.encoder

  -- A reply to an item was not encoded. Nothing of the replies to it was written.
  abbrev pub FailsToEncode : F → Session T D O C S → Session T D O C S → Type 0
  FailsToEncode e x y = (item : Result A E) × (replies : List B) × (on : Bool)
      × Turns x (Some item) y.replies replies on y × EncodesUpTo encodes rejects x.encoder replies e y.encoder

  -- An item was taken, and memory was refused to the service. Nothing was written.
  abbrev pub FailsToAnswer : Session T D O C S → Session T D O C S → Type 0
  FailsToAnswer x y = (item : Result A E)
      × TakesNextItem gives from_gives reads buffer_of writes x.requests x.replies (Some item) y.requests y.replies
      × RefusedMemory answers refuses x.service item y.service × (y.encoder ≡ x.encoder)

  -- Serving stops, though the output did not fail: at the end of the input, or because the service ends; at an error of
  -- the input, behind the last words to it; at a reply that was not encoded; or because the service had no memory.
  abbrev pub ServeStops : Session T D O C S → Result (Unit {0}) (ServeError E F) → Session T D O C S → Type 0
  ServeStops x (Ok u) y = Step None false x y ⊎ ((request : A) × Step (Some (Ok request)) false x y)
  ServeStops x (Err (Input e)) y = Step (Some (Err e)) false x y
  ServeStops x (Err (Output e)) y = ⊥
  ServeStops x (Err (Encode e)) y = FailsToEncode e x y
  ServeStops x (Err Memory) y = FailsToAnswer x y

  -- The same, and then a last flush, which failed or not. It changes the writer alone.
  abbrev pub StopsThenFlushes : Session T D O C S → Result (Unit {0}) (ServeError E F) → Result (Unit {0}) Error
      → Session T D O C S → Type 0
  StopsThenFlushes x stop r y = (m : Session T D O C S) × ServeStops x stop m × FlushesOnce writes m.replies r y.replies
      × (y.requests ≡ m.requests) × (y.encoder ≡ m.encoder) × (y.service ≡ m.service)

  -- How serving ends: it stops, and all that was written is flushed. Or the output failed: at the flush before a read, at
  -- a write, or at the last flush, whatever serving had stopped at.
  abbrev pub LastEnds : Session T D O C S → Result (Unit {0}) (ServeError E F) → Session T D O C S → Type 0
  LastEnds x (Ok u) y = StopsThenFlushes x (Ok u) (Ok tt) y
  LastEnds x (Err (Input e)) y = StopsThenFlushes x (Err (Input e)) (Ok tt) y
  LastEnds x (Err (Output e)) y = FailsToRead e x y
      ⊎ (FailsToWrite e x y ⊎ ((stop : Result (Unit {0}) (ServeError E F)) × StopsThenFlushes x stop (Err e) y))
  LastEnds x (Err (Encode e)) y = StopsThenFlushes x (Err (Encode e)) (Ok tt) y
  LastEnds x (Err Memory) y = StopsThenFlushes x (Err Memory) (Ok tt) y

  -- Serving the next item, before the last flush. `Ok(Ok(true))`: it was a request, and the service goes on. `Err`: the
  -- output failed.
  abbrev pub StepEnds : Session T D O C S → Result (Result Bool (ServeError E F)) Error → Session T D O C S → Type 0
  StepEnds x (Ok (Ok true)) y = (request : A) × Step (Some (Ok request)) true x y
  StepEnds x (Ok (Ok false)) y = ServeStops x (Ok tt) y
  StepEnds x (Ok (Err e)) y = ServeStops x (Err e) y
  StepEnds x (Err e) y = FailsToRead e x y ⊎ FailsToWrite e x y

  -- The same, with the last flush.
  abbrev pub NextEnds : Session T D O C S → Result Bool (ServeError E F) → Session T D O C S → Type 0
  NextEnds x (Ok true) y = (request : A) × Step (Some (Ok request)) true x y
  NextEnds x (Ok false) y = LastEnds x (Ok tt) y
  NextEnds x (Err e) y = LastEnds x (Err e) y

  -- Whole steps, one for each of these requests, behind each of which the service goes on.
  abbrev pub ServesEach : Session T D O C S → List A → Session T D O C S → Type 0
  ServesEach = FoldsTo (λ s request t. Step (Some (Ok request)) true s t)

  -- Serving all requests: whole steps, and then how it ends.
  abbrev pub ServeEnds : Session T D O C S → Result (Unit {0}) (ServeError E F) → Session T D O C S → Type 0
  ServeEnds x r y = (requests : List A) × (m : Session T D O C S) × ServesEach x requests m × LastEnds m r y
