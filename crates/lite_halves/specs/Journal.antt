-- Journals: a stream, the calls that were made of it with their results, and a clone of the stream before these calls.
use Rattle.std.specs.Prelude.{◌≡◌, ◌⊎◌, ◌<◌, ◌≤◌, ℕ, ◌+◌, List, [], ◌∷◌, ◌++◌, length, map, Option, Some, None, Result, vec_capacity}
use Rattle.lite_halves.specs.Uses.{Error, OutOfMemory, IoSliceMut, Poll, Part, PartRuns, PartsInOrder, ReadMark, StandsFirst, room_in, Steps, WriteMark, Runs}
use Rattle.std.proofs.Common.{Global}
use Rattle.std.specs.List.{flat_map}
use Rattle.std.specs.declared.vec.Vec.{Vec}
use Rattle.lite_halves.specs.Entry.{AllFit, FitsCall, Note, Request, Told, copied, part_of, parts_in, read_note, write_note}

-- What contracts see of a journal: the stream at the start, the calls since then with their results, and the stream
-- now. `room` is how many more entries fit without an allocation.
pub record Chronicle (T : Type 0) : Type 0 where
  pub start : T
  pub notes : List Note
  pub stream : T
  pub room : ℕ

-- The call allocates memory: the journal has no room for an entry, or the call copies bytes into it.
abbrev pub AsksMemory : {T : Type 0} → Chronicle T → Request → Type 0
AsksMemory j asked = (j.room ≡ 0) ⊎ (0 < copied asked)

-- The journal has room for an entry, and an empty vector has room for `n` bytes. Or an allocation failed, and nothing
-- changed.
abbrev pub EntryRoom : {T : Type 0} → Chronicle T → ℕ → Option (Vec ℕ Global) → Chronicle T → Type 0
EntryRoom a n (Some v) b =
    (v.items ≡ []) × (n ≤ vec_capacity v) × (0 < b.room) × (a.room ≤ b.room) × (b ≡ record a { room = b.room })
EntryRoom a n None b = (b ≡ a) × ((a.room ≡ 0) ⊎ (0 < n))

-- Every clone equals its original.
abbrev pub ClonesEqual : {T : Type 0} → (T → T → Type 0) → Type 0
ClonesEqual {T} copies = (x y : T) → copies x y → y ≡ x

-- The marks of a list that are there, in order. The others are left out.
abbrev pub parts_among : List (Option Part) → List Part
parts_among [] = []
parts_among (Some p ∷ ps) = p ∷ parts_among ps
parts_among (None ∷ ps) = parts_among ps

-- The lists one after the other, appended.
abbrev pub all_in_order : {A : Type 0} → List (List A) → List A
all_in_order = flat_map (λ l. l)

-- The list `ks` is `ms` without some of its marks, each of which is `refusal`.
abbrev pub Thins : {A : Type 0} → A → List A → List A → Type 0
Thins refusal [] ks = ks ≡ []
Thins {A} refusal (m ∷ ms) ks =
    ((rest : List A) × (ks ≡ m ∷ rest) × Thins refusal ms rest) ⊎ ((m ≡ refusal) × Thins refusal ms ks)

-- `reads` and `writes` say what calls do to the stream.
module _ {T : Type 0} (reads : Runs ReadMark T) (writes : Runs WriteMark T) where
  -- `copies` says what its clones are.
  module _ (copies : T → T → Type 0) where
    -- One stage of a story: a call that left these marks, or a step between a stream and its clone, in either
    -- direction.
    abbrev pub Stage : T → Option Part → T → Type 0
    Stage x (Some p) y = PartRuns reads writes x p y
    Stage x None y = copies x y ⊎ copies y x

    -- A story leads from one stream to another by stages, whose calls left these marks.
    abbrev pub Story : Runs Part T
    Story x ps y = (stages : List (Option Part)) × (ps ≡ parts_among stages) × Steps Stage x stages y

    -- A journal is sound. Each result is one that its call may have. By the marks of the entries a story leads from the
    -- start to the stream as it is now. A clone may replace its original in it, because the start is kept as a clone.
    pub record IsSound (j : Chronicle T) : Type 0 where
      pub fits : AllFit j.notes
      pub story : Story j.start (parts_in j.notes) j.stream

    -- If every clone equals its original, the start runs to the stream as it is now, by the marks of the entries.
    abbrev pub Replays : Chronicle T → Type 0
    Replays j = ClonesEqual copies → PartsInOrder reads writes j.start (parts_in j.notes) j.stream

  -- A call added its entry at the end of the list. The stream ran by the entry's marks, and the result is one that the
  -- call may have. The start is as it was, and room for at most one entry is used.
  pub record Adds (a : Chronicle T) (e : Note) (b : Chronicle T) : Type 0 where
    pub fits : FitsCall e.asked e.told
    pub start : b.start ≡ a.start
    pub notes : b.notes ≡ a.notes ++ e ∷ []
    pub ran : PartRuns reads writes a.stream (part_of e.asked e.told) b.stream
    pub room : a.room ≤ b.room + 1

  -- The call added its entry. Or its allocation failed, its result is an `OutOfMemory` error, and nothing changed.
  abbrev pub AddsOrStays : Chronicle T → Note → Chronicle T → Type 0
  AddsOrStays a e b = Adds a e b ⊎ ((e.told ≡ Told.fault OutOfMemory) × (b ≡ a) × AsksMemory a e.asked)

  -- A read added one entry, with no more room than the buffers have together. Or its allocation failed, and nothing
  -- changed.
  abbrev pub AddsRead : Chronicle T → Poll (Result ℕ Error) → List IoSliceMut → Chronicle T → Type 0
  AddsRead a r bufs b = (buf : List ℕ) × (length buf ≤ room_in bufs) × AddsOrStays a (read_note r buf) b

  -- A write added one entry, for a front of the bytes offered, which is empty only if nothing was offered. Or its
  -- allocation failed, and nothing changed.
  abbrev pub AddsWrite : Chronicle T → Poll (Result ℕ Error) → List ℕ → Chronicle T → Type 0
  AddsWrite a r offered b = (front : List ℕ) × StandsFirst front offered × (front ≡ [] → offered ≡ [])
      × AddsOrStays a (write_note r front) b

  -- Several entries were added, by as many calls.
  pub record AddsAll (a : Chronicle T) (es : List Note) (b : Chronicle T) : Type 0 where
    pub fits : AllFit es
    pub start : b.start ≡ a.start
    pub notes : b.notes ≡ a.notes ++ es
    pub ran : PartsInOrder reads writes a.stream (parts_in es) b.stream
    pub room : a.room ≤ b.room + length es

  -- What callers of a journal see of one kind of calls: the marks of the entries that were added, all of that kind.
  -- Between them are those of calls whose allocation failed, which did not reach the stream.
  pub record Journals {A : Type 0} (part : List A → Part) (refusal : A) (a : Chronicle T) (ms : List A)
      (b : Chronicle T) : Type 0 where
    pub entries : List Note
    pub marks : List (List A)
    pub kind : parts_in entries ≡ map part marks
    pub added : AddsAll a entries b
    pub thinned : Thins refusal ms (all_in_order marks)

  -- What callers of a journal see of its reads: the marks of the entries that were added, and `OutOfMemory` errors of
  -- calls that did not reach the stream.
  abbrev pub JournalReads : Runs ReadMark (Chronicle T)
  JournalReads = Journals Part.reading (ReadMark.fault OutOfMemory)

  -- What callers of a journal see of its writes, flushes and closes: the marks of the entries that were added, and
  -- `OutOfMemory` errors of calls that did not reach the stream.
  abbrev pub JournalWrites : Runs WriteMark (Chronicle T)
  JournalWrites = Journals Part.writing (WriteMark.fault OutOfMemory)

-- The runs of a journal in which no allocation fails.

-- The journal was read, and its stream was read by the same marks in an ample run: no allocation failed.
abbrev pub ReadsAmply : {T : Type 0} → Runs ReadMark T → Runs WriteMark T → Runs ReadMark T
    → Runs ReadMark (Chronicle T)
ReadsAmply reads writes ample a ms b = JournalReads reads writes a ms b × ample a.stream ms b.stream
