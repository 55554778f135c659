-- Frames that are lent from the bytes of a reader.
use Rattle.std.specs.Prelude.{◌≡◌, ◌⊎◌, ◌≤◌, ◌<◌, ◌-◌, Bool, true, false, ℕ, List, [], ◌∷◌, ◌++◌, drop, length, take}
use Rattle.std.specs.Prelude.{Option, Some, None, Result, Ok, Err, IfSome, IsSome}
use Rattle.std.specs.IoError.{error_kind}
use Rattle.std.specs.declared.io.Error.{Error}
use Rattle.lent_frames.specs.Uses.{Answer, Pending, ReadMark, Ready, Runs, bytes}
use Rattle.lent_frames.specs.Cutting.{BeginsNone, IsWithin, OpenUntil, body_at, frame_at}
use Rattle.lent_frames.specs.Cutting.{Undecided}
use Rattle.lent_frames.specs.declared.cut.Span.{Span}
use Rattle.lent_frames.specs.declared.frames_error.FramesError.{FramesError}
use Rattle.lent_frames.specs.declared.frames_error.FramesError.TheVariants.{NoFrame, OutOfMemory, Reader}

-- A reader of lent frames: its reader and its cutter; the bytes that it holds, which were taken from the reader, and how
-- many it has room for; where the lent frame stands; whether nothing more is lent; and the reader's error.
pub record Lending (T C : Type 0) : Type 0 where
  pub reader : T
  pub cutter : C
  pub held : List ℕ
  pub room : ℕ
  pub span : Span
  pub is_over : Bool
  pub error : Option Error

-- No frame is lent.
abbrev pub nowhere : Span
nowhere = record { from = 0; to = 0; size = 0 }

-- A lent frame stands among the bytes shown if none are held, and else among those held.
abbrev pub StandsIn : Span → List ℕ → List ℕ → Type 0
StandsIn s held shown = IsWithin s (length (held ++ shown)) × ((held ≡ []) ⊎ (s.size ≤ length held))

-- What is true of the fields. Nothing is decided before `least` bytes are held.
pub record InOrder {C E : Type 0} (piece : C → List ℕ → List ℕ → Type 0) (refuses : C → List ℕ → E → Type 0) (c : C)
    (held shown : List ℕ) (s : Span) (least : ℕ) (done : Bool) : Type 0 where
  pub stands : StandsIn s held shown
  pub still : OpenUntil piece refuses c least held
  pub over : done ≡ true → s ≡ nowhere

module _ {T C : Type 0} (buffer_of : T → List ℕ) where
  -- The bytes that come next: those held, and then those that the reader shows.
  abbrev pub ahead : Lending T C → List ℕ
  ahead x = x.held ++ buffer_of x.reader

  -- The body of the frame that is lent.
  abbrev pub lent_body : Lending T C → List ℕ
  lent_body x = body_at x.span (ahead x)

  -- The bytes of the lent frame that the reader still shows. They are taken when it is let go.
  abbrev pub untaken : Lending T C → List ℕ
  untaken x = take (x.span.size - length x.held) (buffer_of x.reader)

-- No frame is lent, and the input may go on.
abbrev pub IsResting : {T C : Type 0} → Lending T C → Type 0
IsResting x = (x.is_over ≡ false) × (x.span ≡ nowhere)

-- The bytes held behind the lent frame.
abbrev pub kept : {T C : Type 0} → Lending T C → List ℕ
kept x = drop x.span.size x.held

module _ {T C E : Type 0} (piece : C → List ℕ → List ℕ → Type 0) (refuses : C → List ℕ → E → Type 0) (cut_off : C → List ℕ → E → Type 0)
    (reads : Runs ReadMark T) (buffer_of : T → List ℕ) where
  -- The lent frame was let go. Then the bytes `xs` were taken from the reader, which then left the marks `last`.
  pub record TookFrom (x : Lending T C) (xs : List ℕ) (last : List ReadMark) (y : Lending T C) : Type 0 where
    pub ran : reads x.reader (bytes (untaken buffer_of x ++ xs) ++ last) y.reader
    pub cutter : y.cutter ≡ x.cutter
    pub held : y.held ≡ kept x ++ xs
    pub room : x.room ≤ y.room

  -- No frame is lent, and none is whole in the bytes held.
  abbrev pub IsUnfinished : Lending T C → Type 0
  IsUnfinished y = (y.is_over ≡ false) × (y.span ≡ nowhere) × Undecided piece refuses y.cutter y.held

  -- A frame is lent: it is the first of the bytes that come next.
  abbrev pub Lends : Lending T C → Type 0
  Lends y = (y.is_over ≡ false) × StandsIn y.span y.held (buffer_of y.reader)
      × piece y.cutter (lent_body buffer_of y) (frame_at y.span (ahead buffer_of y))

  -- Nothing more is lent.
  abbrev pub IsOver : Lending T C → Type 0
  IsOver y = (y.is_over ≡ true) × (y.span ≡ nowhere)

  -- Why no frame is lent, if the reader left the marks `last`: the bytes begin none, or the input ended within one; memory
  -- was refused, and there was no room; or the reader failed.
  abbrev pub StopsLending : Lending T C → List ReadMark → FramesError E → Lending T C → Type 0
  StopsLending x last (NoFrame e) y = ((last ≡ []) × BeginsNone piece refuses y.cutter (ahead buffer_of y) e)
      ⊎ ((last ≡ ReadMark.end ∷ []) × (0 < length y.held) × Undecided piece refuses y.cutter y.held × cut_off y.cutter y.held e)
  StopsLending x last OutOfMemory y = (last ≡ []) × (x.room < length (ahead buffer_of y))
  StopsLending x last (Reader kind) y = (last ≡ ReadMark.fault kind ∷ []) × Undecided piece refuses y.cutter y.held
      × IsSome y.error × IfSome y.error (λ e. error_kind e ≡ kind)

  -- What is returned then.
  abbrev pub Finds : Lending T C → List ReadMark → Answer (Result (Unit {0}) (FramesError E)) → Lending T C → Type 0
  Finds x last Pending y = (last ≡ ReadMark.pending ∷ []) × IsUnfinished y × (buffer_of y.reader ≡ [])
  Finds x last (Ready (Some (Ok u))) y = (last ≡ []) × Lends y
  Finds x last (Ready (Some (Err e))) y = IsOver y × StopsLending x last e y
  Finds x last (Ready None) y = (last ≡ ReadMark.end ∷ []) × IsOver y × (y.held ≡ []) × Undecided piece refuses y.cutter []

  -- After the end and after an error there is no frame.
  abbrev pub StaysOver : Lending T C → Answer (Result (Unit {0}) (FramesError E)) → Lending T C → Type 0
  StaysOver x a y = (x.is_over ≡ true) × (a ≡ Ready None) × (y ≡ x)

  -- One poll for the next frame.
  abbrev pub Advances : Lending T C → Answer (Result (Unit {0}) (FramesError E)) → Lending T C → Type 0
  Advances x a y = StaysOver x a y
      ⊎ ((x.is_over ≡ false) × (xs : List ℕ) × (last : List ReadMark) × TookFrom x xs last y × Finds x last a y)

  -- The bytes that were taken are the first of those shown.
  abbrev pub TookShown : Lending T C → List ℕ → Lending T C → Type 0
  TookShown x xs y = TookFrom x xs [] y × (buffer_of x.reader ≡ (untaken buffer_of x ++ xs) ++ buffer_of y.reader)

  -- What is known without a read. `Pending`: all bytes shown were taken, and no frame is whole.
  abbrev pub FindsInHand : Lending T C → Answer (Result (Unit {0}) (FramesError E)) → Lending T C → Type 0
  FindsInHand x Pending y = IsUnfinished y × (buffer_of y.reader ≡ [])
  FindsInHand x (Ready r) y = Finds x [] (Ready r) y

  -- What a call that does not read may do.
  abbrev pub AdvancesInHand : Lending T C → Answer (Result (Unit {0}) (FramesError E)) → Lending T C → Type 0
  AdvancesInHand x a y = StaysOver x a y
      ⊎ ((x.is_over ≡ false) × (xs : List ℕ) × TookShown x xs y × FindsInHand x a y)

  -- Whether the next frame was lent. If not, nothing was done.
  abbrev pub TakesShown : Lending T C → Bool → Lending T C → Type 0
  TakesShown x true y = AdvancesInHand x (Ready (Some (Ok tt))) y
  TakesShown x false y = y ≡ x

  -- The input ended, and no frame is whole in the bytes held.
  abbrev pub Ends : Lending T C → Option (Result (Unit {0}) (FramesError E)) → Lending T C → Type 0
  Ends x r y = Finds x (ReadMark.end ∷ []) (Ready r) y × (y.reader ≡ x.reader) × (y.cutter ≡ x.cutter) × (y.held ≡ x.held)
      × (y.room ≡ x.room)

  -- A look at the bytes held alone. `Pending`: no frame is whole in them.
  abbrev pub LooksLoose : Lending T C → Answer (Result (Unit {0}) (FramesError E)) → Lending T C → Type 0
  LooksLoose x Pending y = (y ≡ x) × IsUnfinished y
  LooksLoose x (Ready r) y = AdvancesInHand x (Ready r) y

  -- A look at them and at some of those shown. `Pending`: these were taken, and no frame is whole.
  abbrev pub LooksBehind : Lending T C → Answer (Result (Unit {0}) (FramesError E)) → Lending T C → Type 0
  LooksBehind x Pending y = (xs : List ℕ) × (0 < length xs) × TookShown x xs y × IsUnfinished y
  LooksBehind x (Ready r) y = AdvancesInHand x (Ready r) y

  -- A step within a poll: some bytes were taken, and no frame is whole yet.
  pub record WaitsForMore (x y : Lending T C) : Type 0 where
    pub taken : List ℕ
    pub some : 0 < length (untaken buffer_of x ++ taken)
    pub was : x.is_over ≡ false
    pub took : TookFrom x taken [] y
    pub waits : IsUnfinished y
