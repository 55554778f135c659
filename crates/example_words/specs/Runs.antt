-- What `map` and `reduce` read and write, and where they stop.
use Rattle.std.specs.Prelude.{◌≡◌, ◌≢◌, ◌⊎◌, ◌<◌, ◌+◌, ◌-◌, ◌^◌, ℕ, Bool, true, false, List, [], ◌∷◌, ◌++◌}
use Rattle.std.specs.Prelude.{count_by, length, min, nat_eq}
use Rattle.std.specs.IoError.{error_kind}
use Rattle.std.specs.declared.io.ErrorKind.TheVariants.{OutOfMemory}
use Rattle.futures_lite.specs.Marks.{ReadMark, WriteMark, bytes, bytes_taken}
use Rattle.futures_lite.specs.Own.{Runs}
use Rattle.futures_lite.specs.Readers.{ToldStripped, Without}
use Rattle.futures_lite.specs.Writers.{EndsFlushed, FailsAfter, OnlyWrites, TakesFront}
use Rattle.example_words.specs.Records.{Counted, IsTable, MergesShards, TableSoFar, counted_records, record_lines, total_count}
use Rattle.std.specs.List.{All, concat}
use Rattle.example_words.specs.declared.counts.Counts.{Counts}
use Rattle.example_words.specs.Refusals.{RefusedLine, RefusedWords}
use Rattle.example_words.specs.Words.{CutAtLines, WholeLines, occurrences}
use Rattle.example_words.specs.declared.fault.LineError.{LineError}
use Rattle.example_words.specs.declared.fault.WordsError.{WordsError}
use Rattle.example_words.specs.declared.fault.WordsError.TheVariants.{Input, Line, Memory, Output}

-- The number of a line with so many lines before it, counted from 1 and kept in 64 bits.
abbrev pub numbered_after : ℕ → ℕ
numbered_after before = min (before + 1) (2 ^ 64 - 1)

-- What the reader gave of a line that was not read: bytes without a newline, and then this error. Or memory for them was refused.
abbrev pub LeavesLine : WordsError → List ReadMark → Type 0
LeavesLine (Input e) rest = (error_kind e ≢ OutOfMemory)
    × (cut : List ℕ) × Without 10 cut × (rest ≡ bytes cut ++ ReadMark.fault (error_kind e) ∷ [])
LeavesLine Memory rest = (cut : List ℕ) × Without 10 cut × ((rest ≡ bytes cut) ⊎ (rest ≡ bytes cut ++ ReadMark.fault OutOfMemory ∷ []))
LeavesLine _ rest = ⊥

-- What the reader gave behind the last record: what `LeavesLine` says, or the end of file, if memory for the last sum was refused.
abbrev pub LeavesLineOrEnd : WordsError → List ReadMark → Type 0
LeavesLineOrEnd e rest = LeavesLine e rest ⊎ ((e ≡ Memory) × (rest ≡ ReadMark.end ∷ []))

module _ {T : Type 0} (reads : Runs ReadMark T) where
  -- The reader gave just the bytes of a text, and then the end of file.
  abbrev pub ReadsWholeText : T → List ℕ → T → Type 0
  ReadsWholeText x text y = ToldStripped reads x (bytes text ++ ReadMark.end ∷ []) y

  -- The reader gave the bytes of a line. If it has no newline, the end of file came behind it.
  abbrev pub ReadsOneLine : T → List ℕ → Bool → T → Type 0
  ReadsOneLine x line true y = ToldStripped reads x (bytes line) y × ((front : List ℕ) × Without 10 front × (line ≡ front ++ 10 ∷ []))
  ReadsOneLine x line false y = ReadsWholeText x line y × Without 10 line

  -- The reader gave the bytes of a text and the end of file, and the words of the text are what was counted.
  pub record HasCounted (x : T) (cs : Counts) (y : T) : Type 0 where
    pub text : List ℕ
    pub read : ReadsWholeText x text y
    pub positive : All (λ r. 0 < r.1) (counted_records cs)
    pub right : (word : List ℕ) → total_count (counted_records cs) word ≡ occurrences text word

  -- No line was read, for this error.
  abbrev pub LineUnread : T → WordsError → T → Type 0
  LineUnread x e y = (rest : List ReadMark) × ToldStripped reads x rest y × LeavesLine e rest

  -- Whole lines were read and counted, and then the line `number`, whose words are refused for `e`.
  pub record StopsCounting (x : T) (number : ℕ) (e : LineError) (y : T) : Type 0 where
    pub text : List ℕ
    pub line : List ℕ
    pub whole : Bool
    pub between : T
    pub before : ToldStripped reads x (bytes text) between
    pub lines : WholeLines text
    pub read : ReadsOneLine between line whole y
    pub numbered : number ≡ numbered_after (count_by (nat_eq 10) text)
    pub refused : RefusedWords (occurrences text) line e

  -- Whole lines were read, and then a line was not, for this error.
  abbrev pub StopsReading : T → WordsError → T → Type 0
  StopsReading x e y = (text : List ℕ) × (rest : List ReadMark) × ToldStripped reads x (bytes text ++ rest) y × WholeLines text
      × LeavesLine e rest

  -- The words of a text were not all counted, for this error: a line was refused, or was not read.
  abbrev pub CountStops : T → WordsError → T → Type 0
  CountStops x (Line number e) y = StopsCounting x number e y
  CountStops x e y = StopsReading x e y

module _ {O : Type 0} (writes : Runs WriteMark O) where
  -- The writer took just the bytes of a text, by writes alone.
  abbrev pub WritesText : O → List ℕ → O → Type 0
  WritesText w text v = (took : List WriteMark) × writes w took v × OnlyWrites took × (bytes_taken took ≡ text)

  -- The writer took a prefix of a text, and then failed with this error.
  abbrev pub TextUnwritten : O → List ℕ → WordsError → O → Type 0
  TextUnwritten w text (Output e) v = (took : List WriteMark) × TakesFront writes w text took v × FailsAfter OnlyWrites took e
  TextUnwritten w text _ v = ⊥

  -- The writer took just the bytes of a text, and was flushed after them.
  pub record WritesFlushed (w : O) (text : List ℕ) (v : O) : Type 0 where
    pub between : O
    pub flush : List WriteMark
    pub wrote : WritesText w text between
    pub flushed : writes between flush v
    pub none : bytes_taken flush ≡ []
    pub ends : EndsFlushed flush

module _ {T O : Type 0} (reads : Runs ReadMark T) (writes : Runs WriteMark O) where
  -- A text was read to its end. The writer took a prefix of the lines of the table of its words, and then failed with this error.
  abbrev pub MapUnwritten : T → O → WordsError → T → O → Type 0
  MapUnwritten x w e y v = (text : List ℕ) × (table : List Counted) × ReadsWholeText reads x text y × IsTable (occurrences text) table
      × TextUnwritten writes w (record_lines table) e v

  -- `map` stopped with this error. Unless the output failed, nothing was written. Then a line was refused, or was not read, or
  -- memory for the lines of the table was refused.
  abbrev pub MapStops : T → O → WordsError → T → O → Type 0
  MapStops x w (Output e) y v = MapUnwritten x w (Output e) y v
  MapStops x w e y v = (CountStops reads x e y ⊎ ((e ≡ Memory) × (text : List ℕ) × ReadsWholeText reads x text y)) × (v ≡ w)

  -- The lines of some records were read, and then `rest`. The sums of all words but the last were written.
  pub record SumsBefore (x : T) (w : O) (rest : List ReadMark) (y : T) (v : O) : Type 0 where
    pub records : List Counted
    pub done : List Counted
    pub word : List ℕ
    pub count : ℕ
    pub read : ToldStripped reads x (bytes (record_lines records) ++ rest) y
    pub holds : TableSoFar done word count records
    pub wrote : WritesText writes w (record_lines done) v

  -- The lines of some records were read, and then the line `number`, which is refused for `e`.
  pub record StopsAdding (x : T) (w : O) (number : ℕ) (e : LineError) (y : T) (v : O) : Type 0 where
    pub line : List ℕ
    pub whole : Bool
    pub between : T
    pub before : SumsBefore x w [] between v
    pub read : ReadsOneLine reads between line whole y
    pub numbered : number ≡ numbered_after (length before.records)
    pub refused : RefusedLine before.word before.count line e

  -- Records were read, and maybe the end of file. The writer took a prefix of the lines of the table of their sums, and then
  -- failed with this error.
  abbrev pub ReduceUnwritten : T → O → WordsError → T → O → Type 0
  ReduceUnwritten x w e y v = (records : List Counted) × (table : List Counted) × (rest : List ReadMark)
      × ToldStripped reads x (bytes (record_lines records) ++ rest) y × ((rest ≡ []) ⊎ (rest ≡ ReadMark.end ∷ []))
      × IsTable (total_count records) table × TextUnwritten writes w (record_lines table) e v

  -- `reduce` stopped with this error. Unless the output failed, the sums of all words but the last were written. Then a line was
  -- refused, or was not read, or memory for the line of the last word was refused.
  abbrev pub ReduceStops : T → O → WordsError → T → O → Type 0
  ReduceStops x w (Line number e) y v = StopsAdding x w number e y v
  ReduceStops x w (Output e) y v = ReduceUnwritten x w (Output e) y v
  ReduceStops x w e y v = (rest : List ReadMark) × SumsBefore x w rest y v × LeavesLineOrEnd e rest

  -- A text was read to its end, and the lines of the table of its words were written.
  pub record MapsText (x : T) (w : O) (y : T) (v : O) : Type 0 where
    pub text : List ℕ
    pub table : List Counted
    pub read : ReadsWholeText reads x text y
    pub is_table : IsTable (occurrences text) table
    pub written : WritesFlushed writes w (record_lines table) v

  -- The lines of some records were read to their end, and the lines of a table of their sums were written. If the records
  -- are those of a table for each shard of a text, what was written is the table of the whole text.
  pub record Reduces (x : T) (w : O) (y : T) (v : O) : Type 0 where
    pub records : List Counted
    pub table : List Counted
    pub read : ReadsWholeText reads x (record_lines records) y
    pub is_table : IsTable (total_count records) table
    pub written : WritesFlushed writes w (record_lines table) v
    pub whole : (shards : List (List ℕ)) → CutAtLines shards → MergesShards shards records
        → IsTable (occurrences (concat shards)) table
