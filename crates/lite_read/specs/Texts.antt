-- Bytes that are read for a `String`, and what the `String` gains.
use Rattle.std.specs.Prelude.{◌≡◌, ◌⊎◌, ℕ, List, [], ◌++◌, Result, Ok, Err, IsUtf8, string_bytes}
use Rattle.std.specs.declared.io.ErrorKind.TheVariants.{InvalidData}
use Rattle.lite_read.specs.Uses.{error_kind, Error, Poll, ReadMark, Runs, Global, String}
use Rattle.lite_read.specs.ReadFold.{Gathers, GathersByRoom, ReadFold}
use Rattle.lite_read.specs.Holding.{TextOver, TextStays}

-- The bytes `xs` are appended to the text if they are UTF-8, and dropped otherwise.
abbrev pub AppendsText : Runs ℕ (List ℕ)
AppendsText xs before after = (IsUtf8 xs × (after ≡ before ++ xs)) ⊎ ((¬ IsUtf8 xs) × (after ≡ before))

-- The value of reading a text, from the value of reading its bytes `xs`. A number of bytes stays if they are UTF-8, and
-- else becomes an `InvalidData` error. An error stays.
abbrev pub ValueOf : List ℕ → Result ℕ Error → Result ℕ Error → Type 0
ValueOf xs (Ok n) (Ok m) = IsUtf8 xs × (m ≡ n)
ValueOf xs (Ok n) (Err e) = (¬ IsUtf8 xs) × (error_kind e ≡ InvalidData)
ValueOf xs (Err e) r = r ≡ Err e

-- The bytes read so far, which are not in the text yet, and the bytes of the text.
pub record Reading : Type 0 where
  pub read : List ℕ
  pub text : List ℕ

-- The fold of a read into a text: bytes are read as `fold` does, and the value moves them into the text. Until then the
-- text is unchanged.
abbrev pub in_text : ReadFold (List ℕ) (Result ℕ Error) → ReadFold Reading (Result ℕ Error)
in_text fold =
    record {
      takes = λ p b q. fold.takes p.read b q.read × (q.text ≡ p.text);
      asks = λ p. fold.asks p.read;
      gives = λ p marks r q. (v : Result ℕ Error) × (all : List ℕ) × fold.gives p.read marks v all × ValueOf all v r
          × AppendsText all p.text q.text × (q.read ≡ []);
    }

module _ {X R A : Type 0} (over : TextOver X R A) where
  -- The bytes that a future has read so far, and the bytes of its text.
  abbrev pub reading : X → Reading
  reading x = record { read = over.read x; text = string_bytes (over.text x).now }

  -- The run of a future that reads into its text by `fold`.
  abbrev pub ReadsText : ReadFold (List ℕ) (Result ℕ Error) → Runs ReadMark R → Runs (Poll (Result ℕ Error)) X
  ReadsText fold = Gathers (λ x. (over.reader x).now) reading (λ x. in_text fold) (TextStays over)

  -- From `x` to `y` the memory does not shrink, and what is true before each poll stays true.
  abbrev pub TextGrows : X → X → Type 0
  TextGrows x y = over.grows x y × (over.holds x → over.holds y)

  -- The run of a future that reads into its text, in which an allocation fails only if `lacks` is true of both values
  -- of the run and of the bytes read.
  abbrev pub ReadsTextByRoom : ((List ℕ → Type 0) → ReadFold (List ℕ) (Result ℕ Error)) → (X → X → List ℕ → Type 0)
      → Runs ReadMark R → Runs (Poll (Result ℕ Error)) X
  ReadsTextByRoom fold lacks =
      GathersByRoom (λ x. (over.reader x).now) reading (λ x y v. in_text (fold (lacks x y))) (TextStays over)
      TextGrows

  -- The future `x` ends with the value `r`, and leaves `y`. `v` is the value of reading the bytes. They are appended to
  -- the text if they are UTF-8, and the future holds none afterwards. Both references stay.
  pub record FinishesText (x : X) (v r : Result ℕ Error) (y : X) : Type 0 where
    pub holds : over.holds y
    pub reader : over.reader y ≡ over.reader x
    pub text : over.text y ≡ record (over.text x) { now = (over.text y).now }
    pub value : ValueOf (over.read x) v r
    pub gains : AppendsText (over.read x) (string_bytes (over.text x).now) (string_bytes (over.text y).now)
    pub empty : over.read y ≡ []

-- How the bytes of a line become text.

-- The item for a line of these bytes: a `String` of exactly these bytes, or an `InvalidData` error if they are not
-- UTF-8.
abbrev pub IsText : List ℕ → Result (String Global) Error → Type 0
IsText xs (Ok text) = string_bytes text ≡ xs
IsText xs (Err e) = (error_kind e ≡ InvalidData) × ¬ IsUtf8 xs
