-- A whole session of a server: which bytes were read, what was answered to them, and which bytes were written.
use Rattle.std.specs.Prelude.{◌≡◌, ◌⊎◌, true, false, ℕ, List, [], ◌∷◌, ◌++◌, Some, None, Ok, map}
use Rattle.std.specs.List.{AllByRecursion}
use Rattle.framed.specs.Uses.{EndsFlushed, ReadMark, Runs, ToldStripped, WriteMark, WritesAndFlushes, bytes}
use Rattle.framed.specs.Uses.{bytes_taken}
use Rattle.tokio_util.specs.Codec.Next.{Gives, at_end, decoded}
use Rattle.tokio_util.specs.Codec.Whole.{EncodesAll}
use Rattle.framed.specs.Services.{AnswerOf, all_of}
use Rattle.framed.specs.Serving.{Session}

module _ {A : Type 0} (frame_of : A → List ℕ → Type 0) where
  -- The bytes `xs` are a frame of each item, one behind another.
  abbrev pub FramesOf : List A → List ℕ → Type 0
  FramesOf [] xs = xs ≡ []
  FramesOf (item ∷ items) xs =
      (frame : List ℕ) × (rest : List ℕ) × frame_of item frame × FramesOf items rest × (xs ≡ frame ++ rest)

  -- A frame of the item stands first in `xs`, and `ys` are the bytes behind it.
  abbrev pub FrontOf : A → List ℕ → List ℕ → Type 0
  FrontOf item xs ys = (frame : List ℕ) × frame_of item frame × (xs ≡ frame ++ ys)

  -- A decoder that is `idle` took no byte of an open frame. It gives an item of a frame of it, and is idle then. At the end
  -- of the input it has seen all bytes.
  pub record FrameByFrame {D E : Type 0} (gives : Gives D A E) (idle : D → Type 0) : Type 0 where
    pub next : (c : D) (xs : List ℕ) (v : A) (t : D) (ys : List ℕ) → idle c → gives c xs (decoded (Ok v) t ys) → idle t × FrontOf v xs ys
    pub last : (c : D) (xs : List ℕ) (v : A) (t : D) (ys : List ℕ) → idle c → gives c xs (at_end (Ok (Some v)) t ys) → idle t × FrontOf v xs ys
    pub end : (c : D) (xs : List ℕ) (t : D) (ys : List ℕ) → idle c → gives c xs (at_end (Ok None) t ys) → xs ≡ []

-- The answers to some requests, in turn, from what is held; and what is held behind them.
abbrev pub answers_from : {S P Q : Type 0} → (S → P → AnswerOf Q × S) → S → List P → List (AnswerOf Q) × S
answers_from step s [] = ([], s)
answers_from step s (request ∷ requests) =
    let one = step s request in let more = answers_from step one.1 requests in (one.0 ∷ more.0, more.1)

-- The session goes on behind each of these answers.
abbrev pub EachGoesOn : {Q : Type 0} → List (AnswerOf Q) → Type 0
EachGoesOn answers = AllByRecursion (λ answer. answer.1 ≡ true) answers

-- Why a session ended: at the end of file, behind all frames; or behind the last answer, and then the bytes `unread` may be
-- left if the end of file was seen before.
abbrev pub EndsBy : {Q : Type 0} → List (AnswerOf Q) → List ℕ → List ReadMark → Type 0
EndsBy {Q} answers unread marks = (EachGoesOn answers × (unread ≡ []) × (marks ≡ ReadMark.end ∷ []))
    ⊎ ((before : List (AnswerOf Q)) × (replies : List Q) × (answers ≡ before ++ (replies, false) ∷ []) × EachGoesOn before
    × (((unread ≡ []) × (marks ≡ [])) ⊎ (marks ≡ ReadMark.end ∷ [])))

module _ {T D O C L S A B P Q : Type 0} (reads : Runs ReadMark T) (writes : Runs WriteMark O)
    (frame_of : A → List ℕ → Type 0) (encodes : C → B → List ℕ → C → Type 0) (asked : A → P) (told : B → Q) (holds : L → S)
    (step : S → P → AnswerOf Q × S) where
  -- The reader gave the frames of these requests. They were answered in turn by `step`. The writer took the frames of all
  -- replies, one behind another, and then a flush.
  pub record Dialogue (x y : Session T D O C L) : Type 0 where
    pub requests : List A
    pub came : List ℕ
    pub unread : List ℕ
    pub marks : List ReadMark
    pub read : ToldStripped reads x.requests.reader (bytes (came ++ unread) ++ marks) y.requests.reader
    pub of_requests : FramesOf frame_of requests came
    pub answers : List (AnswerOf Q)
    pub answered : (answers, holds y.service) ≡ answers_from step (holds x.service) (map asked requests)
    pub ends : EndsBy answers unread marks
    pub replies : List B
    pub told_by : map told replies ≡ all_of (map (λ answer. answer.0) answers)
    pub frames : List ℕ
    pub encoded : EncodesAll encodes x.encoder replies frames y.encoder
    pub took : List WriteMark
    pub wrote : writes x.replies took y.replies
    pub whole : WritesAndFlushes took × (bytes_taken took ≡ frames) × EndsFlushed took
