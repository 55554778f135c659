-- A `BufReader` over a cursor, viewed as the bare cursor at its logical position.
use Rattle.std.specs.Prelude.{◌≡◌, ◌≤◌, ◌<◌, ◌^◌, ℕ, ◌-◌, List, length, take}
use Rattle.lite_bridge.specs.Uses.{BufReader, ThroughBuffer, bytes_ahead, reader_capacity, reader_inner, SeeksThrough}
use Rattle.lite_bridge.specs.declared.cursor.Cursor.{Cursor}
use Rattle.lite_bridge.specs.Cursor.{CursorReads, CursorSeeks, at_place, bytes_left, cursor_inner as value_of}
use Rattle.lite_bridge.specs.Cursor.{position_of}
use Rattle.lite_bridge.specs.Calls.{Event, RunsEvents}

-- The inner cursor, moved back by the number of bytes ahead in the buffer.
abbrev pub logical : {T : Type 0} → BufReader (Cursor T) → Cursor T
logical r = at_place (reader_inner r) (position_of (reader_inner r) - length (bytes_ahead r))

-- The buffer has some capacity, and the bytes ahead are those before the inner position. This holds of a fresh
-- `BufReader` whose capacity is at least 1. Position and size are `u64`s.
pub record IsInStep {T : Type 0} (bytes : T → List ℕ) (r : BufReader (Cursor T)) : Type 0 where
  pub buffered : 0 < reader_capacity r
  pub behind : length (bytes_ahead r) ≤ position_of (reader_inner r)
  pub same : bytes_ahead r ≡ take (length (bytes_ahead r)) (bytes_left bytes (logical r))
  pub place : position_of (reader_inner r) < 2 ^ 64
  pub size : length (bytes (value_of (reader_inner r))) < 2 ^ 64

-- However reads and seeks of `r` follow one another, each has the outcome that it has on the bare cursor at the logical
-- position. They leave that cursor at the logical position of what they leave of `r`.
abbrev pub AnswersAsCursor : {T : Type 0} → (T → List ℕ) → BufReader (Cursor T) → Type 0
AnswersAsCursor {T} bytes r =
    (calls : List Event) (last : BufReader (Cursor T))
    → RunsEvents (ThroughBuffer (CursorReads bytes)) (SeeksThrough (CursorSeeks bytes)) r calls last
    → RunsEvents (CursorReads bytes) (CursorSeeks bytes) (logical r) calls (logical last) × IsInStep bytes last
