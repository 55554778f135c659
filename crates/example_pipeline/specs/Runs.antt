-- What the pipeline reads and writes, and where it stops.
use Rattle.std.specs.Prelude.{◌≡◌, ◌≢◌, ◌⊎◌, ◌<◌, ◌+◌, ◌-◌, ◌^◌, ℕ, Bool, true, false, List, [], ◌∷◌, ◌++◌, None, Some, length, min}
use Rattle.futures_lite.specs.Lines.{byte_lines}
use Rattle.futures_lite.specs.Marks.{ReadMark, WriteMark, bytes, bytes_taken}
use Rattle.futures_lite.specs.Own.{Runs}
use Rattle.futures_lite.specs.Readers.{StandsFirst, ToldStripped, Without}
use Rattle.futures_lite.specs.Writers.{FailsAfter, FlushedOnce, OnlyWrites, TakesFront}
use Rattle.std.specs.IoError.{error_kind}
use Rattle.std.specs.declared.io.Error.{Error}
use Rattle.std.specs.declared.io.ErrorKind.TheVariants.{OutOfMemory}
use Rattle.example_pipeline.specs.Pipeline.{HoldsWindow, IsBadLine, SumPasses, even_numbers, first_bad, full_sums, full_text, if_even, last_sums, line_number}
use Rattle.example_pipeline.specs.Pipeline.{line_text, sums_text, text_of_sums}
use Rattle.example_pipeline.specs.declared.fault.Cause.{Cause}
use Rattle.example_pipeline.specs.declared.fault.Cause.TheVariants.{Input, Memory, NotANumber, NotUtf8, Output, Overflow}
use Rattle.example_pipeline.specs.declared.fault.PipelineError.{PipelineError}
use Rattle.example_pipeline.specs.declared.sums.Sums.{Sums}

-- The text is whole lines: it is empty, or its last byte is a newline.
abbrev pub EndsInNewline : List ℕ → Type 0
EndsInNewline text = (text ≡ []) ⊎ ((front : List ℕ) × (text ≡ front ++ 10 ∷ []))

-- The bytes of a line were read. If it has no newline, the end of file came behind it.
abbrev pub LineRead : List ℕ → List ReadMark → Type 0
LineRead line rest = ((front : List ℕ) × Without 10 front × (line ≡ front ++ 10 ∷ []) × (rest ≡ bytes line))
    ⊎ (Without 10 line × (0 < length line) × (rest ≡ bytes line ++ ReadMark.end ∷ []))

-- The text is whole lines, or the end of file came behind it.
abbrev pub CutAtLine : List ℕ → List ReadMark → Type 0
CutAtLine text rest = EndsInNewline text ⊎ (rest ≡ ReadMark.end ∷ [])

-- So many lines, as a number of 64 bits counts them.
abbrev pub counted_lines : ℕ → ℕ
counted_lines lines = min lines (2 ^ 64 - 1)

module _ {T : Type 0} (reads : Runs ReadMark T) where
  -- The reader gave just the bytes of a text, and then the end of file.
  abbrev pub GivesWholeText : T → List ℕ → T → Type 0
  GivesWholeText x text y = ToldStripped reads x (bytes text ++ ReadMark.end ∷ []) y

  -- The reader gave the bytes of a line. If it has no newline, the end of file came behind it.
  abbrev pub GivesLine : T → List ℕ → Bool → T → Type 0
  GivesLine x line true y = ToldStripped reads x (bytes line) y
      × ((front : List ℕ) × Without 10 front × (line ≡ front ++ 10 ∷ []))
  GivesLine x line false y = GivesWholeText x line y × Without 10 line

  -- The reader gave the bytes of a line without a newline, and then the error. Or memory for it was refused.
  abbrev pub FailsWithin : T → Error → T → Type 0
  FailsWithin x e y = (cut : List ℕ) × Without 10 cut × (ToldStripped reads x (bytes cut ++ ReadMark.fault (error_kind e) ∷ []) y
      ⊎ (ToldStripped reads x (bytes cut) y × (error_kind e ≡ OutOfMemory)))

module _ {O : Type 0} (writes : Runs WriteMark O) where
  -- The writer took just the bytes of a text, by writes alone.
  abbrev pub TakesWholeText : O → List ℕ → O → Type 0
  TakesWholeText w text v = (took : List WriteMark) × writes w took v × OnlyWrites took × (bytes_taken took ≡ text)

  -- The writer took a prefix of a text, by writes alone, and then failed with the error.
  abbrev pub FailsTaking : O → List ℕ → Error → O → Type 0
  FailsTaking w text e v = (took : List WriteMark) × TakesFront writes w text took v × FailsAfter OnlyWrites took e

  -- The cause is an error of the output, and the writer failed with it as `FailsTaking` says.
  abbrev pub FailsOutput : O → List ℕ → Cause → O → Type 0
  FailsOutput w text (Output e) v = FailsTaking w text e v
  FailsOutput w text _ v = ⊥

  -- The writer was flushed once, and took no byte.
  abbrev pub TakesFlush : O → O → Type 0
  TakesFlush w v = (flush : List WriteMark) × writes w flush v × (bytes_taken flush ≡ []) × FlushedOnce flush

  -- The flush failed with the error, and the writer took no byte.
  abbrev pub FailsFlush : O → Error → O → Type 0
  FailsFlush w e v = (flush : List WriteMark) × writes w flush v × (bytes_taken flush ≡ []) × FailsAfter OnlyWrites flush e

  -- The writer took just the bytes of a text, and was flushed after them.
  abbrev pub TakesFlushed : O → List ℕ → O → Type 0
  TakesFlushed w text v = (between : O) × TakesWholeText w text between × TakesFlush between v

  -- A line was added, and the sum of the window that it fills was written.
  abbrev pub AddsLine : List ℕ → Sums → O → Sums → O → Type 0
  AddsLine line s w t v = (x : ℕ) × (line_number (line_text line) ≡ Some x) × (added : List ℕ) × TakesWholeText w (text_of_sums added) v
      × ((l : List ℕ) → HoldsWindow s l → HoldsWindow t (l ++ if_even x) × (full_sums (l ++ if_even x) ≡ full_sums l ++ added))

  -- A line was not added, or the sum of the window was not written.
  abbrev pub AddFails : List ℕ → Sums → O → Cause → Sums → O → Type 0
  AddFails line s w NotUtf8 t v = (line_number (line_text line) ≡ None) × IsBadLine (line_text line) NotUtf8 × (t ≡ s) × (v ≡ w)
  AddFails line s w NotANumber t v = (line_number (line_text line) ≡ None) × IsBadLine (line_text line) NotANumber × (t ≡ s) × (v ≡ w)
  AddFails line s w Overflow t v = (x : ℕ) × (line_number (line_text line) ≡ Some x) × (if_even x ≡ x ∷ [])
      × ((l : List ℕ) → HoldsWindow s l → SumPasses l x) × (v ≡ w)
  AddFails line s w Memory t v = ⊥
  AddFails line s w (Input e) t v = ⊥
  AddFails line s w (Output e) t v = (x : ℕ) × (line_number (line_text line) ≡ Some x) × (added : List ℕ)
      × FailsTaking w (text_of_sums added) e v × ((l : List ℕ) → HoldsWindow s l → full_sums (l ++ if_even x) ≡ full_sums l ++ added)

  -- The output was ended at an error of this cause.
  abbrev pub EndsOutput : Sums → Cause → O → O → Type 0
  EndsOutput s NotUtf8 w v = (l : List ℕ) → HoldsWindow s l → TakesFlushed w (text_of_sums (last_sums l)) v
  EndsOutput s NotANumber w v = (l : List ℕ) → HoldsWindow s l → TakesFlushed w (text_of_sums (last_sums l)) v
  EndsOutput s Overflow w v = TakesFlush w v
  EndsOutput s Memory w v = TakesFlush w v
  EndsOutput s (Input e) w v = TakesFlush w v
  EndsOutput s (Output e) w v = v ≡ w

  -- It was not, since it failed with the error `e`.
  abbrev pub EndFails : Sums → Cause → O → Cause → O → Type 0
  EndFails s NotUtf8 w e v = (l : List ℕ) → HoldsWindow s l → FailsOutput w (text_of_sums (last_sums l)) e v
  EndFails s NotANumber w e v = (l : List ℕ) → HoldsWindow s l → FailsOutput w (text_of_sums (last_sums l)) e v
  EndFails s Overflow w e v = FailsOutput w [] e v
  EndFails s Memory w e v = FailsOutput w [] e v
  EndFails s (Input _) w e v = FailsOutput w [] e v
  EndFails s (Output _) w e v = ⊥

-- What the reader gave behind whole lines before the pipeline stopped: bytes of a line, and the error.
abbrev pub InputFails : Error → List ℕ → List ReadMark → Type 0
InputFails e text rest = (cut : List ℕ) × Without 10 cut × (rest ≡ bytes cut ++ ReadMark.fault (error_kind e) ∷ [])

-- Or one line that is no number, and the cause says why.
abbrev pub LineFails : Cause → List ℕ → List ReadMark → Type 0
LineFails cause text rest = (line : List ℕ) × LineRead line rest × (line_number (line_text line) ≡ None) × IsBadLine (line_text line) cause

-- Or one line whose number is even, and makes the sum of its window too large.
abbrev pub SumFails : List ℕ → List ReadMark → Type 0
SumFails text rest = (line : List ℕ) × LineRead line rest × (x : ℕ) × (line_number (line_text line) ≡ Some x) × (if_even x ≡ x ∷ [])
    × SumPasses (even_numbers (byte_lines text)) x

-- Or bytes of a line for which memory was refused, and maybe an error that says so.
abbrev pub MemoryFails : List ℕ → List ReadMark → Type 0
MemoryFails text rest = (cut : List ℕ) × Without 10 cut × ((rest ≡ bytes cut) ⊎ (rest ≡ bytes cut ++ ReadMark.fault OutOfMemory ∷ []))

-- Why a line was not read: memory was refused, or the input gave this error.
abbrev pub IsReading : Error → Cause → Type 0
IsReading e NotUtf8 = ⊥
IsReading e NotANumber = ⊥
IsReading e Overflow = ⊥
IsReading e Memory = error_kind e ≡ OutOfMemory
IsReading e (Input f) = (f ≡ e) × (error_kind e ≢ OutOfMemory)
IsReading e (Output f) = ⊥

module _ {T O : Type 0} (reads : Runs ReadMark T) (writes : Runs WriteMark O) where
  -- `Wrote` tells what was written for lines that are read in full, and `Early` for those before a line that was cut off.
  module _ (Wrote Early : O → List (List ℕ) → O → Type 0) where
    -- A text was read to its end. Each line is a number.
    abbrev pub EndsWithText : T → O → T → O → Type 0
    EndsWithText x w y v = (text : List ℕ) × GivesWholeText reads x text y × (first_bad (byte_lines text) ≡ None) × Wrote w (byte_lines text) v

    -- Whole lines were read, each a number, and then one that is none, for this cause. It is the line with this number.
    pub record EndsBadly (cause : Cause) (number : ℕ) (x : T) (w : O) (y : T) (v : O) : Type 0 where
      pub text : List ℕ
      pub rest : List ReadMark
      pub read : ToldStripped reads x (bytes text ++ rest) y
      pub whole : EndsInNewline text
      pub why : LineFails cause text rest
      pub first : first_bad (byte_lines text) ≡ None
      pub numbered : number ≡ counted_lines (length (byte_lines text) + 1)
      pub written : Wrote w (byte_lines text) v

    -- Whole lines were read, each a number, and then `rest`, for which `Rest` holds. It is of the line with this number.
    -- What is written for the whole lines is a prefix of what is written for a text that goes on.
    pub record EndsEarly (Rest : List ℕ → List ReadMark → Type 0) (number : ℕ) (x : T) (w : O) (y : T) (v : O) : Type 0 where
      pub text : List ℕ
      pub rest : List ReadMark
      pub read : ToldStripped reads x (bytes text ++ rest) y
      pub whole : EndsInNewline text
      pub why : Rest text rest
      pub first : first_bad (byte_lines text) ≡ None
      pub numbered : number ≡ counted_lines (length (byte_lines text) + 1)
      pub written : Early w (byte_lines text) v
      pub front : (more : List ℕ) → StandsFirst (full_text (byte_lines text)) (sums_text (byte_lines (text ++ more)))

    -- Lines were read. The writer took a prefix of what is written for them, and then failed with the error.
    abbrev pub EndsUnwritten : Error → T → O → T → O → Type 0
    EndsUnwritten e x w y v = (text : List ℕ) × (rest : List ReadMark) × ToldStripped reads x (bytes text ++ rest) y
        × CutAtLine text rest × FailsTaking writes w (sums_text (byte_lines text)) e v

    -- The run ended with an error of this cause, at the line with this number.
    abbrev pub EndsByCause : T → O → ℕ → Cause → T → O → Type 0
    EndsByCause x w number NotUtf8 y v = EndsBadly NotUtf8 number x w y v
    EndsByCause x w number NotANumber y v = EndsBadly NotANumber number x w y v
    EndsByCause x w number Overflow y v = EndsEarly SumFails number x w y v
    EndsByCause x w number Memory y v = EndsEarly MemoryFails number x w y v
    EndsByCause x w number (Input e) y v = EndsEarly (InputFails e) number x w y v
    EndsByCause x w number (Output e) y v = EndsUnwritten e x w y v

  -- The sums of full windows were written, and the last window is in `s`.
  abbrev pub WroteFull : Sums → O → List (List ℕ) → O → Type 0
  WroteFull s w lines v = TakesWholeText writes w (full_text lines) v × HoldsWindow s (even_numbers lines)

  -- The sums of full windows were written.
  abbrev pub WroteSome : O → List (List ℕ) → O → Type 0
  WroteSome w lines v = TakesWholeText writes w (full_text lines) v

  -- All sums were written, and then flushed.
  abbrev pub WroteAll : O → List (List ℕ) → O → Type 0
  WroteAll w lines v = TakesFlushed writes w (sums_text lines) v

  -- The sums of full windows were written, and then flushed.
  abbrev pub WroteEarly : O → List (List ℕ) → O → Type 0
  WroteEarly w lines v = TakesFlushed writes w (full_text lines) v

  -- All lines were added.
  abbrev pub AddsLines : T → O → Sums → T → O → Type 0
  AddsLines x w s y v = EndsWithText (WroteFull s) WroteSome x w y v

  -- Lines were added, up to this error.
  abbrev pub AddsUpTo : T → O → PipelineError → Sums → T → O → Type 0
  AddsUpTo x w e s y v = EndsByCause (WroteFull s) WroteSome x w e.line e.cause y v

  -- The input was read to its end, and the sums of its lines were written and flushed.
  abbrev pub SumsWhole : T → O → T → O → Type 0
  SumsWhole x w y v = EndsWithText WroteAll WroteEarly x w y v

  -- The pipeline stopped with this error.
  abbrev pub RunStops : T → O → PipelineError → T → O → Type 0
  RunStops x w e y v = EndsByCause WroteAll WroteEarly x w e.line e.cause y v
