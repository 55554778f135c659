-- What a whole session reads and replies.
use Rattle.std.specs.Prelude.{◌≡◌, ◌^◌, ◌-◌, ℕ, List, [], ◌++◌, Result, Ok, Err, flat_map, map, ⊤}
use Rattle.std.specs.Global.{Vec}
use Rattle.bytes.specs.Filled.{Filled}
use Rattle.futures_lite.specs.Marks.{ReadMark, WriteMark, bytes, bytes_taken}
use Rattle.futures_lite.specs.Own.{Runs}
use Rattle.futures_lite.specs.Readers.{ToldStripped}
use Rattle.futures_lite.specs.Writers.{EndsFlushed}
use Rattle.framed.specs.Dialogues.{EndsBy, FramesOf, EachGoesOn, answers_from}
use Rattle.framed.specs.Frames.{Framed}
use Rattle.framed.specs.LineBack.{EncodedText}
use Rattle.framed.specs.LineDelimited.{LineOf, RefusesText, gives_line_delimited, with_newline}
use Rattle.framed.specs.Refusals.{BreaksOff}
use Rattle.framed.specs.Services.{AnswerOf, ServesAs, all_of}
use Rattle.framed.specs.Serving.{ServeEnds}
use Rattle.framed.specs.declared.FrameError.{FrameError}
use Rattle.framed.specs.declared.FrameError.TheVariants.{Io}
use Rattle.framed.specs.declared.LineDelimited.{LineDelimited}
use Rattle.framed.specs.declared.ServeError.{ServeError}
use Rattle.framed.specs.declared.ServeError.TheVariants.{Encode, Input, Memory, Output}
use Rattle.example_lines.specs.Service.{SaysLast, last_lines, line_step}
use Rattle.example_lines.specs.Store.{no_keys, stored}
use Rattle.example_lines.specs.declared.store.Store.{Store}

-- What the encoder writes for a reply.
abbrev pub encodes_lines : LineDelimited → Vec ℕ → List ℕ → LineDelimited → Type 0
encodes_lines = EncodedText (λ reply. reply.items)

-- The answers to some lines, in turn, from a server that holds nothing at first.
abbrev pub answers_to : List (List ℕ) → List (AnswerOf (List ℕ))
answers_to lines = (answers_from line_step no_keys lines).0

-- The input ended behind the last line, or the session ended at that line, and some bytes may be unread.
abbrev pub EndsWell : List (AnswerOf (List ℕ)) → List ReadMark → Type 0
EndsWell answers behind = (unread : List ℕ) × (marks : List ReadMark) × EndsBy answers unread marks
    × (behind ≡ bytes unread ++ marks)

-- The replies to some lines, in order.
abbrev pub replies_to : List (List ℕ) → List (List ℕ)
replies_to lines = all_of (map (λ answer. answer.0) (answers_to lines))

-- Behind the last line came bytes that such a decoder refuses with this error, as they are or as the end of the input. Or it is
-- the error of the reader behind them, or memory was refused.
abbrev pub BreaksALine : LineDelimited → List ReadMark → FrameError → Type 0
BreaksALine c behind e = (ys : List ℕ) × (last : List ReadMark) × (behind ≡ bytes ys ++ last)
    × BreaksOff gives_line_delimited (λ given error. error ≡ Io given) (λ d. d ≡ c) ys last e

module _ {T O : Type 0} (reads : Runs ReadMark T) (writes : Runs WriteMark O) (x : Framed T LineDelimited) (w : O)
    (y : Framed T LineDelimited) (v : O) where
  -- The reader gave the bytes of some lines, and then the marks `behind`. The writer took the replies to these lines and then
  -- `words`, each with a newline behind it, and was flushed at last.
  pub record LineSession (ends : List (AnswerOf (List ℕ)) → List ReadMark → Type 0) (words : List (List ℕ)) : Type 0 where
    pub lines : List (List ℕ)
    pub came : List ℕ
    pub of_lines : FramesOf (LineOf x.decoder) lines came
    pub behind : List ReadMark
    pub read : ToldStripped reads x.reader (bytes came ++ behind) y.reader
    pub ended : ends (answers_to lines) behind
    pub took : List WriteMark
    pub wrote : writes w took v
    pub replied : bytes_taken took ≡ flat_map with_newline (replies_to lines ++ words)
    pub flushed : EndsFlushed took

  -- How a session ends. On `Ok` the input ended behind the last line, or that line was `QUIT` or one of a web page. On `Input` no
  -- line was such a one, the error is that of the bytes behind them, and the last words to it were written. Of other errors `LinesServed` says what was done.
  abbrev pub LineSessionEnds : Result (Unit {0}) (ServeError FrameError FrameError) → Type 0
  LineSessionEnds (Ok u) = LineSession EndsWell []
  LineSessionEnds (Err (Input e)) = LineSession (λ answers behind. EachGoesOn answers × BreaksALine x.decoder behind e) (last_lines e)
  LineSessionEnds (Err (Output e)) = ⊤
  LineSessionEnds (Err (Encode e)) = ⊤
  LineSessionEnds (Err Memory) = ⊤

-- How serving ends, whatever it stops at. At first nothing is held. A reply may be as long as memory allows.
abbrev pub LinesServed : {T O : Type 0} → Runs ReadMark T → (T → List ℕ) → Runs WriteMark O → Framed T LineDelimited → O
    → Framed T LineDelimited → O → Result (Unit {0}) (ServeError FrameError FrameError) → Type 0
LinesServed reads buffer_of writes x w y v r =
    (s : Store) × (stored s ≡ no_keys) × (t : Store) × (c : LineDelimited) × (c.max ≡ 2 ^ 64 - 1) × (d : LineDelimited)
    × ServeEnds gives_line_delimited (λ given error. error ≡ Io given) reads buffer_of writes encodes_lines
    (λ e item. RefusesText e item.items) (ServesAs (λ (line : Filled). line.items) (λ reply. reply.items) stored line_step)
    SaysLast (record { requests = x; replies = w; encoder = c; service = s }) r
    (record { requests = y; replies = v; encoder = d; service = t })
