-- The `bytes` stream: each mark of its reader becomes one poll result.
use Rattle.std.specs.Prelude.{◌≡◌, ℕ, Bool, true, false, List, [], ◌∷◌, ⊤, Some, None, Result, Ok, Err}
use Rattle.lite_read.specs.Uses.{error_kind, Error, Interrupted, Ready, Pending, Answer, Runs, ReadMark}
use Rattle.futures.specs.Task.{Lasting}
use Rattle.lite_base.specs.Registered.{HoldsWoken}
use Rattle.lite_read.specs.declared.bytes.Bytes.{Bytes}

-- The poll result that one mark of the reader becomes. A byte is an item, end of file is the end of the stream, and
-- `Pending` is `Pending`. An error is an item, except that an `Interrupted` one is `Pending`.
abbrev pub GivesMark : ReadMark → Answer (Result ℕ Error) → Type 0
GivesMark (ReadMark.byte b) (Ready (Some (Ok x))) = x ≡ b
GivesMark (ReadMark.fault kind) (Ready (Some (Err e))) = (error_kind e ≡ kind) × (kind ≡ Interrupted → ⊥)
GivesMark (ReadMark.fault kind) Pending = kind ≡ Interrupted
GivesMark ReadMark.pending Pending = ⊤
GivesMark ReadMark.end (Ready None) = ⊤
GivesMark m a = ⊥

-- Two lists have one length, and each mark becomes the poll result at its place.
abbrev pub GivesEach : List ReadMark → List (Answer (Result ℕ Error)) → Type 0
GivesEach [] [] = ⊤
GivesEach (m ∷ ms) (a ∷ l) = GivesMark m a × GivesEach ms l
GivesEach ms l = ⊥

-- Whether the last `Pending` was an interruption, once this mark became this poll result. `before` says whether the
-- last one before it was.
abbrev pub interrupted_by : {A : Type 0} → ReadMark → Answer A → Bool → Bool
interrupted_by (ReadMark.fault kind) Pending before = true
interrupted_by m Pending before = false
interrupted_by m (Ready x) before = before

-- Whether the last `Pending` was an interruption, once each of the marks became the poll result at its place. `before`
-- says whether the last one before them was.
abbrev pub interrupted_after : {A : Type 0} → Bool → List ReadMark → List (Answer A) → Bool
interrupted_after before (m ∷ ms) (a ∷ l) = interrupted_after (interrupted_by m a before) ms l
interrupted_after before ms l = before

-- The run of `bytes`: its reader produced some marks, and each became one poll result. The stream notes whether its
-- last `Pending` was an interruption. Without a poll it is unchanged.
pub record GivesBytes {R : Type 0} (reads : Runs ReadMark R) (x : Bytes R) (out : List (Answer (Result ℕ Error)))
    (y : Bytes R) : Type 0 where
  pub marks : List ReadMark
  pub came : reads x.inner marks y.inner
  pub told : GivesEach marks out
  pub noted : y.interrupted ≡ interrupted_after x.interrupted marks out
  pub idle : out ≡ [] → y ≡ x

-- What a `Pending` has registered, by its cause. If it is an interruption, the task is woken. Otherwise it is the
-- reader's `Pending`, which has registered `inner`.
abbrev pub RegistersInterrupted : Bool → (Lasting → Type 0) → Lasting → Type 0
RegistersInterrupted true inner = HoldsWoken
RegistersInterrupted false inner = inner

-- What a `Pending` of `bytes` has registered, from what its reader registers.
abbrev pub BytesRegister : {R : Type 0} → (R → Lasting → Type 0) → Bytes R → Lasting → Type 0
BytesRegister registers x = RegistersInterrupted x.interrupted (registers x.inner)
