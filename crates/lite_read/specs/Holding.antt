-- The futures that read into a `String`, `read_line` and `read_to_string`: what such a future holds, and when it needs
-- memory.
use Rattle.std.specs.Prelude.{◌≡◌, ◌≤◌, ◌⊎◌, ◌+◌, ◌-◌, ◌==◌, if◌then◌else◌, ℕ, List, min, max, string_capacity, string_len, vec_capacity, vec_len}
use Rattle.lite_read.specs.Uses.{String, Vec}
use denote.MutBor.{MutBor}

-- `len` more bytes can become part of the text without an allocation. The text is empty, and takes over the buffer of
-- the bytes, or its spare capacity is large enough.
abbrev pub CanTakeIn : {A : Type 0} → String A → ℕ → Type 0
CanTakeIn text len = (string_len text ≡ 0) ⊎ (string_len text + len ≤ string_capacity text)

-- All of these bytes can become part of the text without an allocation.
abbrev pub HasRoomFor : {A : Type 0} → String A → Vec ℕ A → Type 0
HasRoomFor text bytes = CanTakeIn text (vec_len bytes)

-- How many bytes can be read without an allocation. For a text that is not empty it is the smaller of the vector's
-- capacity and the text's spare capacity. An empty text takes over the vector, so it is the vector's capacity, or the
-- larger of both capacities while the vector is empty.
abbrev pub room_for : {A : Type 0} → String A → Vec ℕ A → ℕ
room_for text bytes =
    if string_len text == 0 then
    (if vec_len bytes == 0 then max (string_capacity text) (vec_capacity bytes) else vec_capacity bytes)
    else min (string_capacity text - string_len text) (vec_capacity bytes)

-- How to view a future of the type `X` that reads into a text: its reader, its text, and the bytes read so far. `grows`
-- says how a step keeps its memory, and `holds` what is true before each poll.
pub record TextOver (X R A : Type 0) : Type 1 where
  pub reader : X → MutBor R
  pub text : X → MutBor (String A)
  pub read : X → List ℕ
  pub grows : X → X → Type 0
  pub holds : X → Type 0

-- A poll keeps both references of a future that reads into a text, to the reader and to the text.
pub record TextStays {X R A : Type 0} (over : TextOver X R A) (x y : X) : Type 0 where
  pub reader : over.reader y ≡ record (over.reader x) { now = (over.reader y).now }
  pub text : over.text y ≡ record (over.text x) { now = (over.text y).now }
