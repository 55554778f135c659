-- What was sent, by how it was encoded and what the writer took.
use Rattle.std.specs.Prelude.{ℕ, List, Result, Ok, Err}
use Rattle.std.specs.declared.io.Error.{Error}
use Rattle.std.proofs.Common.{inl, inr}
use Rattle.framed.specs.Uses.{Runs, WriteMark}
use Rattle.framed.specs.Sending.{EncodesItem, EncodesItems, SendsItems, SendsOne, SentIfEncoded}

module _ {O C B E : Type 0} (from_gives : Error → E → Type 0) (writes : Runs WriteMark O) (encodes : C → B → List ℕ → C → Type 0)
    (rejects : C → B → ℕ → E → Type 0) (c d : C) (room : ℕ) (frames : List ℕ) (w v : O) where
  pub sent_one : (item : B) (encoded r : Result (Unit {0}) E) → EncodesItem encodes rejects c item room encoded frames d
      → SentIfEncoded writes from_gives encoded frames w r v → SendsOne encodes rejects writes from_gives w c item room r v d frames
  sent_one item (Err e) r h k = rw k.0 (inl (h, k.1))
  sent_one item (Ok u) (Ok x) h k = (h, k)
  sent_one item (Ok u) (Err e) h k = inr (h, k.0, k.1, k.2)

  pub sent_items : (items : List B) (encoded r : Result (Unit {0}) E) → EncodesItems encodes rejects c items room encoded frames d
      → SentIfEncoded writes from_gives encoded frames w r v
      → SendsItems encodes rejects writes from_gives w c items room r v d frames
  sent_items items (Err e) r h k = rw k.0 (inl (h, k.1))
  sent_items items (Ok u) (Ok x) h k = (h, k)
  sent_items items (Ok u) (Err e) h k = inr (h, k.0, k.1, k.2)
