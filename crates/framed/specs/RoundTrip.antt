-- What an encoder wrote, a decoder reads back.
use Rattle.std.specs.Prelude.{◌≡◌, ℕ, List, [], ◌∷◌, ◌++◌, Some, None, Result, Ok, Err, ⊤}
use Rattle.std.specs.List.{AllZip}
use Rattle.std.specs.declared.io.Error.{Error}
use Rattle.framed.specs.Uses.{ReadMark, bytes}
use Rattle.tokio_util.specs.Codec.Next.{Gives, Next, at_end, decoded, partial}
use Rattle.tokio_util.specs.Codec.Whole.{EncodesAll}
use Rattle.framed.specs.Whole.{Collects, LacksMemory}
use Rattle.framed.specs.declared.collect_error.CollectError.{CollectError}
use Rattle.framed.specs.declared.collect_error.CollectError.TheVariants.{Input, Memory}

-- `readable c xs d` says that a decoder `d` reads back what an encoder `c` writes for the items `xs`, and `means` what an
-- item is read as.
module _ {C D X V E : Type 0} (encodes : C → X → List ℕ → C → Type 0) (gives : Gives D V E) (from_gives : Error → E → Type 0)
    (readable : C → List X → D → Type 0) (means : X → V → Type 0) where
  -- What comes of the frame of `x` and the bytes `more` behind it: the item, and then the decoder has `more`, and reads back
  -- the next items. Or an error, which says that memory was refused. `c` is the encoder behind the frame.
  abbrev pub IsBack : X → List ℕ → C → List X → Next D V E → Type 0
  IsBack x more c xs (decoded (Ok v) d ys) = means x v × (ys ≡ more) × readable c xs d
  IsBack x more c xs (decoded (Err e) d ys) = LacksMemory from_gives e
  IsBack x more c xs partial = ⊥
  IsBack x more c xs (at_end r d ys) = ⊥

  -- What comes of no bytes: no frame, and at the end of the input the end, or an error that says that memory was refused.
  abbrev pub IsNoFrame : Next D V E → Type 0
  IsNoFrame (decoded r d ys) = ⊥
  IsNoFrame partial = ⊤
  IsNoFrame (at_end (Ok None) d ys) = ⊤
  IsNoFrame (at_end (Ok (Some v)) d ys) = ⊥
  IsNoFrame (at_end (Err e) d ys) = LacksMemory from_gives e

  -- What an encoder and a decoder have to meet.
  pub record RoundTripLaws : Type 0 where
    -- The frame of an item comes back as the item, whatever follows it.
    pub back : (c : C) (x : X) (xs : List X) (d : D) (frame : List ℕ) (b : C) (more : List ℕ) (next : Next D V E)
        → readable c (x ∷ xs) d → encodes c x frame b → gives d (frame ++ more) next → IsBack x more b xs next
    -- Nothing comes of no bytes.
    pub nothing : (c : C) (d : D) (next : Next D V E) → readable c [] d → gives d [] next → IsNoFrame next

  -- These items are the first ones of `items`, in order.
  abbrev pub FirstBack : List X → List V → Type 0
  FirstBack items out = (front : List X) × (rest : List X) × (items ≡ front ++ rest) × AllZip means front out

  -- What is collected of the bytes that were written for some items: these items, in order. Or memory was refused, and then
  -- they are the first ones of these items.
  abbrev pub CollectsBack : List X → List V → Result (Unit {0}) (CollectError V E) → Type 0
  CollectsBack items out (Ok u) = AllZip means items out
  CollectsBack items out (Err (Input e)) = LacksMemory from_gives e × FirstBack items out
  CollectsBack items out (Err (Memory v)) = FirstBack items (out ++ v ∷ [])

  -- What was written for `items` comes back. `told` are marks of a reader that begin the bytes written and the end of file.
  -- Whatever is collected of them are these items. Or memory was refused, and then they are the first ones.
  abbrev pub ComesBack : C → List X → C → Type 0
  ComesBack c items b = (frames : List ℕ) → EncodesAll encodes c items frames b → (d : D) → readable c items d
      → (told after : List ReadMark) → bytes frames ++ ReadMark.end ∷ [] ≡ told ++ after
      → (out : List V) (r : Result (Unit {0}) (CollectError V E)) → Collects gives from_gives d [] told out r → CollectsBack items out r
