-- Texts that come back.
use Rattle.std.specs.Prelude.{◌≡◌, ℕ, List, [], ◌∷◌, ◌++◌, map, Result, Ok, Err, IfOk}
use Rattle.std.specs.List.{AllZip}
use Rattle.std.specs.declared.io.Error.{Error}
use Rattle.std.proofs.Common.{◌∙◌, Bor, ap, arith, refl}
use Rattle.bytes.specs.Filled.{Filled}
use Rattle.futures_lite.specs.Marks.{ReadMark, WriteMark, bytes}
use Rattle.futures_lite.specs.Own.{Runs}
use Rattle.futures_lite.specs.Readers.{Known, Knows, ReadsKnown, ToldStripped, strip_marks}
use Rattle.futures_lite.specs.Writers.{Stored, Stores}
use Rattle.tokio_util.specs.Codec.Whole.{EncodesAll, ReadsAll}
use Rattle.framed.specs.ComingBack.{come_back}
use Rattle.framed.specs.DelimitedBack.{AllowsAsMuch, Encoded, delimited_back}
use Rattle.framed.specs.LengthDelimited.{gives_delimited}
use Rattle.framed.specs.Sending.{SendsItems}
use Rattle.framed.specs.Whole.{Collects}
use Rattle.framed.specs.declared.frame_error.FrameError.{FrameError}
use Rattle.framed.specs.declared.frame_error.FrameError.TheVariants.{Io}
use Rattle.framed.specs.declared.length_delimited.LengthDelimited.{LengthDelimited}
use Rattle.example_frames.specs.Framing.{ReadsBack}

texts_zip : (texts : List (Bor (List ℕ))) (frames : List Filled) → AllZip (λ t f. f.items ≡ t.now) texts frames
    → map (λ f. f.items) frames ≡ map (λ t. t.now) texts
texts_zip [] [] h = refl
texts_zip [] (f ∷ frames) h = absurd h
texts_zip (t ∷ texts) [] h = absurd h
texts_zip (t ∷ texts) (f ∷ frames) h = rw (h.0, texts_zip texts frames h.1) refl

frames_back : (c d : LengthDelimited) (texts : List (Bor (List ℕ))) (xs : List ℕ)
    → EncodesAll (Encoded (λ (t : Bor (List ℕ)). t.now)) c texts xs d → ReadsBack c texts xs
frames_back c d texts xs encoded frames read =
    texts_zip texts frames
    (come_back (Encoded (λ (t : Bor (List ℕ)). t.now)) gives_delimited (λ cause e. e ≡ Io cause) (AllowsAsMuch (λ (t : Bor (List ℕ)). t.now))
    (λ t f. f.items ≡ t.now) (delimited_back (λ (t : Bor (List ℕ)). t.now)) c texts c xs d frames (omega arith) encoded read)

-- What was sent to a writer whose bytes are known.
pub sent_back : {O : Type 0} (writes : Runs WriteMark O) (stored : Stored O) (w v : O) (c d : LengthDelimited)
    (texts : List (Bor (List ℕ))) (rejects : LengthDelimited → Bor (List ℕ) → ℕ → FrameError → Type 0)
    (from_gives : Error → FrameError → Type 0) (room : ℕ) (r : Result (Unit {0}) FrameError) (out : List ℕ)
    → Stores writes stored w
    → SendsItems (Encoded (λ (t : Bor (List ℕ)). t.now)) rejects writes from_gives w c texts room r v d out
    → IfOk r (λ _. (xs : List ℕ) × (stored.kept v ≡ stored.kept w ++ xs) × ReadsBack c texts xs)
sent_back writes stored w v c d texts rejects from_gives room (Ok u) xs stores (encoded, (took, front, handed)) =
    let kept = (stored.tells w v took stores.0 (stores.1 took v front.0)).1 in
    (xs, kept ∙ ap (λ l. stored.kept w ++ l) handed.1, frames_back c d texts xs encoded)
sent_back writes stored w v c d texts rejects from_gives room (Err e) out stores h = tt

strip_known : (xs : List ℕ) (l : List ReadMark) (ys : List ℕ) → ReadsKnown xs l ys → ReadsKnown xs (strip_marks l) ys
strip_known xs [] ys h = h
strip_known xs (ReadMark.byte b ∷ l) ys h = (h.0, h.1, strip_known h.0 l ys h.2)
strip_known xs (ReadMark.pending ∷ l) ys h = strip_known xs l ys h
strip_known xs (ReadMark.fault kind ∷ l) ys h = absurd h
strip_known xs (ReadMark.end ∷ l) ys h = (h.0, strip_known xs l ys h.1)

all_known : (xs zs ys : List ℕ) → ReadsKnown zs (bytes xs ++ ReadMark.end ∷ []) ys → zs ≡ xs
all_known [] zs ys h = h.0
all_known (x ∷ xs) zs ys h = h.1 ∙ ap (λ l. x ∷ l) (all_known xs h.0 ys h.2)

-- What was read of a reader whose bytes are known.
pub read_known : {T : Type 0} (reads : Runs ReadMark T) (known : Known T) (x y : T) (c : LengthDelimited)
    (read : List Filled) (u : Unit {0}) → Knows reads known x
    → (m : List ReadMark) → ToldStripped reads x m y → Collects gives_delimited (λ cause e. e ≡ Io cause) c [] m read (Ok u)
    → ReadsAll gives_delimited c (known.left x) (map Ok read)
read_known reads known x y c all u knows m (l, came, is) (xs, m_is, read) =
    let told = (known.tells x y l knows.0 (knows.1 l y came)).1 in
    let left : known.left x ≡ xs = all_known xs _ _ (rw (is ∙ m_is) at (strip_known _ l _ told)) in
    rw left read
