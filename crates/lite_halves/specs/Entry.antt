-- An entry of a journal: one call of a stream with its result, and the marks that these leave.
use Rattle.std.specs.Prelude.{ℕ, zero, suc, ◌≤◌, List, [], ◌∷◌, length, map, take, Result, Ok, Err, ⊤}
use Rattle.lite_halves.specs.Uses.{error_kind, Error, ErrorKind, Poll, Part, ReadMark, bytes, WriteMark}
use Rattle.futures.specs.declared.task.Poll.TheVariants.{Ready, Pending as Waits}
use Rattle.lite_halves.specs.declared.entry.Entry.{Entry}
use Rattle.lite_halves.specs.declared.entry.Call.{Call}
use Rattle.lite_halves.specs.declared.entry.Call.TheVariants.{Read, Write, Flush, Close}
use Rattle.lite_halves.specs.declared.entry.DoneCall.{DoneCall}
use Rattle.lite_halves.specs.declared.entry.DoneCall.TheVariants.{Flush as Flushes, Close as Closes}
use Rattle.lite_halves.specs.declared.entry.Answer.{Answer}
use Rattle.lite_halves.specs.declared.entry.Answer.TheVariants.{Pending, Read as WasRead, Wrote, Done, Fault}

-- A call: a read into so much room, a write of these bytes, a flush or a close.
pub data Request : Type 0 where
  room : ℕ → Request
  offer : List ℕ → Request
  flush : Request
  close : Request

-- The result of a call: `Pending`, the bytes that were read, how many bytes were taken, that it is done, or an error of
-- this kind.
pub data Told : Type 0 where
  pending : Told
  got : List ℕ → Told
  took : ℕ → Told
  done : Told
  fault : ErrorKind → Told

-- How many bytes are copied into the entry of a call: those that a read has room for, or that a write offers.
abbrev pub copied : Request → ℕ
copied (Request.room n) = n
copied (Request.offer xs) = length xs
copied asked = 0

-- What an entry of a journal says: one call, and its result.
pub record Note : Type 0 where
  pub asked : Request
  pub told : Told

-- The call of an entry, as a `Request`.
abbrev pub asked_of : Call → Request
asked_of (Read n) = Request.room n
asked_of (Write xs) = Request.offer xs.items
asked_of Flush = Request.flush
asked_of Close = Request.close

-- The result of an entry, as a `Told`.
abbrev pub told_of : Answer → Told
told_of Pending = Told.pending
told_of (WasRead xs) = Told.got xs.items
told_of (Wrote n) = Told.took n
told_of Done = Told.done
told_of (Fault kind) = Told.fault kind

-- What one entry says: its call and its result.
abbrev pub note_of : Entry → Note
note_of e = record { asked = asked_of e.call; told = told_of e.answer }

-- The calls of a list, as `Request`s.
abbrev pub asked_in : List Call → List Request
asked_in = map asked_of

-- The results of a list, as `Told`s.
abbrev pub told_in : List Answer → List Told
told_in = map told_of

-- What the entries of a list say.
abbrev pub notes_in : List Entry → List Note
notes_in = map note_of

-- A read may have this result: at most as many bytes as it has room for, `Pending`, or an error.
abbrev pub FitsRead : ℕ → Told → Type 0
FitsRead n Told.pending = ⊤
FitsRead n (Told.got xs) = length xs ≤ n
FitsRead n (Told.took m) = ⊥
FitsRead n Told.done = ⊥
FitsRead n (Told.fault kind) = ⊤

-- A write may have this result: at most as many bytes taken as it offered, `Pending`, or an error.
abbrev pub FitsWrite : List ℕ → Told → Type 0
FitsWrite offered Told.pending = ⊤
FitsWrite offered (Told.got xs) = ⊥
FitsWrite offered (Told.took n) = n ≤ length offered
FitsWrite offered Told.done = ⊥
FitsWrite offered (Told.fault kind) = ⊤

-- A flush or a close may have this result: done, `Pending`, or an error.
abbrev pub FitsDone : Told → Type 0
FitsDone Told.pending = ⊤
FitsDone (Told.got xs) = ⊥
FitsDone (Told.took n) = ⊥
FitsDone Told.done = ⊤
FitsDone (Told.fault kind) = ⊤

-- The call may have this result. A read gets at most the bytes that it has room for, a write has at most as many taken
-- as it offered, and a flush or a close is done. Each may be `Pending` or fail.
abbrev pub FitsCall : Request → Told → Type 0
FitsCall (Request.room n) told = FitsRead n told
FitsCall (Request.offer xs) told = FitsWrite xs told
FitsCall Request.flush told = FitsDone told
FitsCall Request.close told = FitsDone told

-- Each result of the list is one that its call may have.
abbrev pub AllFit : List Note → Type 0
AllFit [] = ⊤
AllFit (e ∷ es) = FitsCall e.asked e.told × AllFit es

-- The marks of a read with room for `n` bytes: the bytes that were read. If none were, the mark is the end of file, or
-- no mark if it had no room.
abbrev pub met : ℕ → List ℕ → List ReadMark
met n (x ∷ xs) = bytes (x ∷ xs)
met (suc n) [] = ReadMark.end ∷ []
met zero [] = []

-- The marks of a read with room for `n` bytes and this result.
abbrev pub read_marks_of : ℕ → Told → List ReadMark
read_marks_of n Told.pending = ReadMark.pending ∷ []
read_marks_of n (Told.got xs) = met n xs
read_marks_of n (Told.took m) = []
read_marks_of n Told.done = []
read_marks_of n (Told.fault kind) = ReadMark.fault kind ∷ []

-- The marks of a write of these bytes with this result.
abbrev pub write_marks_of : List ℕ → Told → List WriteMark
write_marks_of offered Told.pending = WriteMark.pending ∷ []
write_marks_of offered (Told.got xs) = []
write_marks_of [] (Told.took n) = WriteMark.nothing ∷ []
write_marks_of (x ∷ xs) (Told.took n) = WriteMark.wrote (take n (x ∷ xs)) ∷ []
write_marks_of offered Told.done = []
write_marks_of offered (Told.fault kind) = WriteMark.fault kind ∷ []

-- The marks of a flush or a close with this result. `mark` is its mark if it is done.
abbrev pub done_marks_of : WriteMark → Told → List WriteMark
done_marks_of mark Told.pending = WriteMark.pending ∷ []
done_marks_of mark (Told.got xs) = []
done_marks_of mark (Told.took n) = []
done_marks_of mark Told.done = mark ∷ []
done_marks_of mark (Told.fault kind) = WriteMark.fault kind ∷ []

-- The marks of an entry. A read leaves the bytes that were read, or the end of file if there were none and it had room.
-- A write leaves the first of the bytes offered, as many as were taken. A flush or a close leaves its own mark, and
-- each may leave `Pending` or an error. A result that the call cannot have leaves no marks.
abbrev pub part_of : Request → Told → Part
part_of (Request.room n) told = Part.reading (read_marks_of n told)
part_of (Request.offer xs) told = Part.writing (write_marks_of xs told)
part_of Request.flush told = Part.writing (done_marks_of WriteMark.flushed told)
part_of Request.close told = Part.writing (done_marks_of WriteMark.closed told)

-- The marks of a list of entries, in order.
abbrev pub parts_in : List Note → List Part
parts_in = map (λ e. part_of e.asked e.told)

-- A result of `poll_read` as a `Told`, given the buffer that it left.
abbrev pub told_of_read : Poll (Result ℕ Error) → List ℕ → Told
told_of_read Waits buf = Told.pending
told_of_read (Ready (Err e)) buf = Told.fault (error_kind e)
told_of_read (Ready (Ok n)) buf = Told.got (take n buf)

-- A result of `poll_write` as a `Told`.
abbrev pub told_of_write : Poll (Result ℕ Error) → Told
told_of_write Waits = Told.pending
told_of_write (Ready (Err e)) = Told.fault (error_kind e)
told_of_write (Ready (Ok n)) = Told.took n

-- A result of `poll_flush` or `poll_close` as a `Told`.
abbrev pub told_of_done : Poll (Result (Unit {0}) Error) → Told
told_of_done Waits = Told.pending
told_of_done (Ready (Err e)) = Told.fault (error_kind e)
told_of_done (Ready (Ok u)) = Told.done

-- The entry of a read, given the buffer that it left.
abbrev pub read_note : Poll (Result ℕ Error) → List ℕ → Note
read_note r buf = record { asked = Request.room (length buf); told = told_of_read r buf }

-- The entry of a write of these bytes.
abbrev pub write_note : Poll (Result ℕ Error) → List ℕ → Note
write_note r offered = record { asked = Request.offer offered; told = told_of_write r }

-- The entry of a flush.
abbrev pub flush_note : Poll (Result (Unit {0}) Error) → Note
flush_note r = record { asked = Request.flush; told = told_of_done r }

-- The entry of a close.
abbrev pub close_note : Poll (Result (Unit {0}) Error) → Note
close_note r = record { asked = Request.close; told = told_of_done r }

-- A flush or a close, as a `Request`.
abbrev pub done_asked : DoneCall → Request
done_asked Flushes = Request.flush
done_asked Closes = Request.close

-- The entry of a flush or a close.
abbrev pub done_note : DoneCall → Poll (Result (Unit {0}) Error) → Note
done_note call r = record { asked = done_asked call; told = told_of_done r }
