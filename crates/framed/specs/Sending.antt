-- What a writer is given of the frames of an encoder.
use Rattle.std.specs.Prelude.{◌≡◌, ◌⊎◌, ◌≤◌, ℕ, List, [], ◌∷◌, ◌++◌, Result, Ok, Err}
use Rattle.std.specs.declared.io.Error.{Error}
use Rattle.framed.specs.Uses.{Runs, WriteMark, bytes_taken}
use Rattle.lite_io_base.specs.WriteMarks.{TakesFront}
use Rattle.lite_write.specs.Handed.{FlushedUp, HandedUp}
use Rattle.tokio_util.specs.Codec.Whole.{EncodesAll}

module _ {O : Type 0} (writes : Runs WriteMark O) where
  -- The writer was flushed once, or the flush failed. It took no byte.
  abbrev pub FlushesOnce : O → Result (Unit {0}) Error → O → Type 0
  FlushesOnce w r v = (took : List WriteMark) × writes w took v × (bytes_taken took ≡ []) × FlushedUp took r

  -- The writer took just the bytes `xs`, or it failed behind a front of them. It was not flushed.
  abbrev pub HandsBytes : O → List ℕ → Result (Unit {0}) Error → O → Type 0
  HandsBytes w xs r v = (took : List WriteMark) × TakesFront writes w xs took v × HandedUp xs took r

  -- The result of a call that sends `frames`, which were encoded only if `encoded` is `Ok`. Otherwise it is that error, and
  -- nothing was written.
  abbrev pub SentIfEncoded : {E : Type 0} → (Error → E → Type 0) → Result (Unit {0}) E → List ℕ → O → Result (Unit {0}) E → O → Type 0
  SentIfEncoded from_gives (Err e) frames w r v = (r ≡ Err e) × (v ≡ w)
  SentIfEncoded from_gives (Ok u) frames w (Ok t) v = HandsBytes w frames (Ok tt) v
  SentIfEncoded from_gives (Ok u) frames w (Err e) v = (cause : Error) × from_gives cause e × HandsBytes w frames (Err cause) v

module _ {C B F : Type 0} (encodes : C → B → List ℕ → C → Type 0) (rejects : C → B → ℕ → F → Type 0) where
  -- The encoder refused one of these items with the error `e`. Those before it were encoded. `spare` is the room that
  -- the buffer had.
  pub record EncodesUpTo (c : C) (items : List B) (e : F) (d : C) : Type 0 where
    pub before : List B
    pub item : B
    pub behind : List B
    pub frames : List ℕ
    pub spare : ℕ
    pub cut : items ≡ before ++ item ∷ behind
    pub encoded : EncodesAll encodes c before frames d
    pub rejected : rejects d item spare e

  -- Whether an item was encoded, as the bytes `frame`. If not, nothing is left in the buffer, of which `room` is the capacity.
  abbrev pub EncodesItem : C → B → ℕ → Result (Unit {0}) F → List ℕ → C → Type 0
  EncodesItem c item room (Ok u) frame d = encodes c item frame d
  EncodesItem c item room (Err e) frame d = (spare : ℕ) × (room ≤ spare) × rejects c item spare e × (frame ≡ []) × (d ≡ c)

  -- Whether the items were encoded, as the bytes `frames`. If not, nothing is left in the buffer, of which `room` is the
  -- capacity. The first item was refused only if that was not enough.
  abbrev pub EncodesItems : C → List B → ℕ → Result (Unit {0}) F → List ℕ → C → Type 0
  EncodesItems c items room (Ok u) frames d = EncodesAll encodes c items frames d
  EncodesItems c items room (Err e) frames d = (refused : EncodesUpTo c items e d)
      × (refused.before ≡ [] → room ≤ refused.spare) × (frames ≡ [])

  -- Sending one item by a writer `w`, which leaves `v`, and an encoder `c`, which leaves `d`. If it is `Ok`, the writer
  -- took exactly the item's frame, which is left in the buffer. Or the encoder refused it: nothing was written, nothing is
  -- left in the buffer, of which `room` is the capacity, and nothing else is changed. Or the writer failed behind a front of
  -- the frame.
  abbrev pub SendsOne : {O : Type 0} → Runs WriteMark O → (Error → F → Type 0) → O → C → B → ℕ → Result (Unit {0}) F → O → C
      → List ℕ → Type 0
  SendsOne writes from_gives w c item room (Ok u) v d out = encodes c item out d × HandsBytes writes w out (Ok tt) v
  SendsOne writes from_gives w c item room (Err e) v d out =
      (EncodesItem c item room (Err e) out d × (v ≡ w))
      ⊎ (encodes c item out d × (cause : Error) × from_gives cause e × HandsBytes writes w out (Err cause) v)

  -- Sending the items of a list, in order. If it is `Ok`, the writer took exactly their frames, which are left in the buffer.
  -- Or the encoder refused one of them, and nothing was written. Or the writer failed behind a front of the frames.
  abbrev pub SendsItems : {O : Type 0} → Runs WriteMark O → (Error → F → Type 0) → O → C → List B → ℕ → Result (Unit {0}) F → O
      → C → List ℕ → Type 0
  SendsItems writes from_gives w c items room (Ok u) v d out = EncodesAll encodes c items out d × HandsBytes writes w out (Ok tt) v
  SendsItems writes from_gives w c items room (Err e) v d out =
      (EncodesItems c items room (Err e) out d × (v ≡ w))
      ⊎ (EncodesAll encodes c items out d × (cause : Error) × from_gives cause e × HandsBytes writes w out (Err cause) v)
