-- The `read_to_string` future: it reads as `read_to_end` does, and appends the bytes to a `String`.
use Rattle.std.specs.Prelude.{◌≡◌, ◌≤◌, ◌<◌, ◌+◌, ◌-◌, ◌*◌, ℕ, List, length, max, take, Result}
use Rattle.lite_read.specs.Uses.{Error, Poll, ReadMark, Runs}
use Rattle.lite_read.specs.ReadFold.{ReadFold}
use Rattle.lite_read.specs.ReadToEnd.{appends_where, next_read}
use Rattle.lite_read.specs.Holding.{HasRoomFor, TextOver, room_for}
use Rattle.lite_read.specs.Texts.{ReadsText, ReadsTextByRoom}
use Rattle.lite_read.specs.declared.read_to_string.ReadToStringFuture.{ReadToStringFuture}

-- The fold of `read_to_string`: bytes are consumed up to end of file. An allocation may fail if `may_refuse` is true of
-- the bytes read.
abbrev pub read_to_string_fold : (List ℕ → Type 0) → ReadFold (List ℕ) (Result ℕ Error)
read_to_string_fold may_refuse = appends_where may_refuse 0

-- The memory of `x` is too small for the bytes `read`, which are those of `x` and `n` more, and for the next read.
abbrev pub StringLacksMemory : {R A : Type 0} → ReadToStringFuture R A → List ℕ → Type 0
StringLacksMemory x read =
    (n : ℕ) × (length read ≡ x.filled + n) × (room_for x.text.now x.bytes < length read + next_read x.room n)

-- The bytes read so far, without the room behind them.
abbrev pub text_front : {R A : Type 0} → ReadToStringFuture R A → List ℕ
text_front x = take x.filled x.bytes.items

-- What is true before each poll of `read_to_string`: the bytes read so far and the room behind them fit into the text.
pub record StringHolds {R A : Type 0} (x : ReadToStringFuture R A) : Type 0 where
  pub fits : HasRoomFor x.text.now x.bytes
  pub within : x.filled ≤ length x.bytes.items

-- From `x` to `y`, the number of bytes read grows or stays, and so does the memory for them. `y.room` is at most the
-- larger of `x.room` and twice the number of bytes read in between.
pub record StringGrows {R A : Type 0} (x y : ReadToStringFuture R A) : Type 0 where
  pub filled : x.filled ≤ y.filled
  pub memory : room_for x.text.now x.bytes ≤ room_for y.text.now y.bytes
  pub room : y.room ≤ max x.room (2 * (y.filled - x.filled))

-- A view of `read_to_string` as a future that reads into a text.
abbrev pub all_over : {R A : Type 0} → TextOver (ReadToStringFuture R A) R A
all_over =
    record {
      reader = λ x. x.reader;
      text = λ x. x.text;
      read = text_front;
      grows = StringGrows;
      holds = StringHolds;
    }

module _ {R A : Type 0} (may_refuse : List ℕ → Type 0) (reads : Runs ReadMark R) where
  -- The run of `read_to_string`: the reader's marks are read up to end of file, and the text gains the bytes with the
  -- value. An allocation may fail if `may_refuse` is true of the bytes read.
  abbrev pub ReadsToString : Runs (Poll (Result ℕ Error)) (ReadToStringFuture R A)
  ReadsToString = ReadsText all_over (read_to_string_fold may_refuse) reads

module _ {R A : Type 0} (reads : Runs ReadMark R) where
  -- The run of `read_to_string`, in which an allocation fails only if the memory was too small (`StringLacksMemory`).
  abbrev pub ReadsStringByRoom : Runs (Poll (Result ℕ Error)) (ReadToStringFuture R A)
  ReadsStringByRoom = ReadsTextByRoom all_over read_to_string_fold (λ x y. StringLacksMemory x) reads
