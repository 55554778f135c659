-- Laws of `copy`.
use Rattle.std.specs.Prelude.{◌≡◌, ◌<◌, ◌+◌, ◌%◌, ◌^◌, ℕ, Bool, List, [], ◌∷◌, ◌++◌, length, Result, Ok, ⊤, IsOk, Err}
use Rattle.lite_write.specs.Uses.{◌∙◌, refl, ap, arith, append-nil, append_assoc, length-append, filter, Error, Poll, strip}
use Rattle.lite_write.specs.Uses.{FutureLaws, FutureRunLaws, future_laws_of, up_to_once, Runs, ThroughBuffer, ReadMark}
use Rattle.lite_write.specs.Uses.{MarkLaws, WriteMark, bytes_taken, idle_join, sym, error_kind, ComparableBy, CalmLaws}
use Rattle.lite_write.specs.Uses.{Sameness, bytes, CalmWriteLaws, NoPendingWrite, SameByKind, taken_both}
use Rattle.lite_base.specs.Answers.{Waiting, Comparable}
use Rattle.lite_base.specs.Chain.{Reaches}
use Rattle.lite_base.specs.Laws.Answers.{strip_join, waiting_strip, waiting_up_to}
use Rattle.lite_base.specs.Laws.Calm.{waits_join, none_no_pending}
use Rattle.lite_base.specs.Laws.Chain.{Reaches-back}
use Rattle.lite_base.specs.Ranks.{Ranks}
use Rattle.lite_io_base.specs.Counting.{ReadCounting}
use Rattle.lite_io_base.specs.Laws.Counting.{GivenRun}
use Rattle.lite_io_base.specs.Laws.Counting.{given_of}
use Rattle.std.proofs.Math.Nat.{mod-add-mod}
use Rattle.std.proofs.lemmas.Grind.{flat_map-append}
use Rattle.std.proofs.lemmas.List.Elements.{filter-append}
use Rattle.lite_write.specs.Copy.{Copied, CopyRuns, CopyValue, Moves, CopiesSome, source_of, held_of, met_in}
use Rattle.lite_write.specs.MarkLists.{BytesAlone, TakesSome, WritesUpTo, ReadsUpTo, byte_in, bytes_told, is_taken_wait, is_told_wait, waits_taken, waits_told}
use Rattle.lite_write.specs.declared.copy.CopyFuture.{CopyFuture}
use Rattle.lite_base.specs.Spent.{Finishes}
use Rattle.lite_base.specs.Laws.Alike.{gives_strip}
use Rattle.lite_base.specs.Steady.{FutureSteadyLawsBy, TakesNone}
use Rattle.lite_io_base.specs.Laws.Steady.{comparable_behind, strip_marks-append}
use Rattle.lite_io_base.specs.Steady.{CalmReadLaws, NoPendingRead, SteadyReadLaws, strip_marks}
use Rattle.lite_write.specs.Laws.WriteAll.{without_failure_laws, no_failure_both, no_failure_last}
use Rattle.lite_write.specs.WriteAll.{NoFailure, NoneFails, WithoutFailure}
use Rattle.lite_write.specs.declared.copy.Phase.{Phase}
use Rattle.lite_write.specs.declared.copy.Phase.TheVariants.{Copying, Flushing}

-- The value of a `copy`: the number of bytes, or an error.
abbrev pub CopyResult : Type 0
CopyResult = Result ℕ Error

pub told_both : (l m : List ReadMark) → bytes_told (l ++ m) ≡ bytes_told l ++ bytes_told m
told_both = flat_map-append byte_in

filtered_both : {A : Type 0} (test : A → Bool) (l m : List A)
    → length (filter test (l ++ m)) ≡ length (filter test l) + length (filter test m)
filtered_both test l m = rw (filter-append, length-append)

goes_both : (l m : List ReadMark) → BytesAlone l → BytesAlone m → BytesAlone (l ++ m)
goes_both [] m h k = k
goes_both (ReadMark.fault kind ∷ l) m h k = absurd h
goes_both (ReadMark.end ∷ l) m h k = absurd h
goes_both (_ ∷ l) m h k = goes_both l m h k

some_both : (l m : List WriteMark) → TakesSome l → TakesSome m → TakesSome (l ++ m)
some_both [] m h k = k
some_both (WriteMark.wrote xs ∷ l) m h k = (h.0, some_both l m h.1 k)
some_both (WriteMark.pending ∷ l) m h k = some_both l m h k
some_both (_ ∷ l) m h k = absurd h

module _ (after : List ℕ) (met : List ReadMark) (total : ℕ) where
  no_value : (failed : List ReadMark) (last : List WriteMark) → CopyValue [] failed last after met total → (failed ≡ [])
      × (last ≡ [])
  no_value [] [] h = (refl, refl)
  no_value _ _ h = absurd h

  pub ok_value : (n : ℕ) (failed : List ReadMark) (last : List WriteMark)
      → CopyValue (Ok n ∷ []) failed last after met total
      → (failed ≡ []) × (last ≡ WriteMark.flushed ∷ []) × (after ≡ []) × (met ≡ ReadMark.end ∷ []) × (n ≡ total)
  ok_value n [] (WriteMark.flushed ∷ []) h = (refl, refl, h.0, h.1, h.2)
  ok_value n _ _ h = absurd h

pub copied_none : (p : List ℕ) (a : List ReadMark) (n : ℕ) → Copied p a [] [] [] p a n
copied_none p a n =
    record {
      failed = [];
      last = [];
      reading = record { read = []; goes_on = tt; cut = refl };
      writing = record { written = []; takes_some = tt; cut = refl };
      balanced = append-nil p;
      waited = refl;
      once = tt;
      value = tt;
    }

-- What a copy does after polls that were all pending joins with them.
module _ (p q r : List ℕ) (a b c : List ReadMark) (i j : List ReadMark) (s t : List WriteMark)
    (l m : List (Poll CopyResult)) (n k : ℕ) (w : Waiting l)
    (h : Copied p a i s l q b n) (g : Copied q b j t m r c k) where
  none : (h.failed ≡ []) × (h.last ≡ [])
  none = no_value q b n h.failed h.last (rw (← (waiting_strip l w)) h.value)

  reading_both : ReadsUpTo (a ++ (i ++ j)) (c ++ g.failed)
  reading_both =
      record {
        read = h.reading.read ++ g.reading.read;
        goes_on = goes_both h.reading.read g.reading.read h.reading.goes_on g.reading.goes_on;
        cut = rw (← append_assoc, h.reading.cut, none.0, append-nil, append_assoc, g.reading.cut, append_assoc);
      }

  writing_both : WritesUpTo (s ++ t) g.last
  writing_both =
      record {
        written = h.writing.written ++ g.writing.written;
        takes_some = some_both h.writing.written g.writing.written h.writing.takes_some g.writing.takes_some;
        cut = rw (h.writing.cut, none.1, append-nil, g.writing.cut, append_assoc);
      }

  balanced_both : p ++ bytes_told (i ++ j) ≡ bytes_taken (s ++ t) ++ r
  balanced_both = rw (told_both i j, ← append_assoc, h.balanced, append_assoc, g.balanced, taken_both s t, append_assoc)

  same_value : strip m ≡ strip (l ++ m)
  same_value = rw (strip_join l m, waiting_strip l w)

  pub copied_both : Copied p a (i ++ j) (s ++ t) (l ++ m) r c k
  copied_both =
      record {
        failed = g.failed;
        last = g.last;
        reading = reading_both;
        writing = writing_both;
        balanced = balanced_both;
        waited = omega (
          arith,
          waits_join l m,
          filtered_both is_told_wait i j,
          filtered_both is_taken_wait s t,
          h.waited,
          g.waited,
        );
        once = waiting_up_to l m w g.once;
        value = rw (← same_value) g.value;
      }

pub counted_none : (n : ℕ) → n < 2 ^ 64 → n ≡ (n + 0) % 2 ^ 64
counted_none n fits = omega arith

counted_both : (x y z : ℕ) (s t : List WriteMark) → y ≡ (x + length (bytes_taken s)) % 2 ^ 64
    → z ≡ (y + length (bytes_taken t)) % 2 ^ 64
    → z ≡ (x + length (bytes_taken (s ++ t))) % 2 ^ 64
counted_both x y z s t h k =
    k ∙ ap (λ v. (v + length (bytes_taken t)) % 2 ^ 64) h ∙ mod-add-mod (x + length (bytes_taken s)) (2 ^ 64)
    (length (bytes_taken t)) ∙ ap (λ v. v % 2 ^ 64)
    (omega (arith, ap length (taken_both s t), length-append (bytes_taken s) (bytes_taken t)))

module _ {R W : Type 0} where
  module _ {reads : Runs ReadMark R} {writes : Runs WriteMark W} (rl : MarkLaws reads) (wl : MarkLaws writes) where
    pub moves_none : (x : CopyFuture R W) → Moves reads writes x [] x
    moves_none x =
        record {
          told = [];
          took = [];
          came = rl.rests _;
          went = wl.rests x.writer;
          copied = (copied_none _ _ x.amount);
          counted = (counted_none x.amount x.counted);
        }

    pub moves_both : (x y z : CopyFuture R W) (l m : List (Poll CopyResult)) → Waiting l → Moves reads writes x l y
        → Moves reads writes y m z
        → Moves reads writes x (l ++ m) z
    moves_both x y z l m w h k =
        record {
          told = h.told ++ k.told;
          took = h.took ++ k.took;
          came = rl.follows _ _ _ h.told k.told h.came k.came;
          went = wl.follows x.writer y.writer z.writer h.took k.took h.went k.went;
          copied = copied_both _ _ _ _ _ _ h.told k.told h.took k.took l m y.amount z.amount w h.copied k.copied;
          counted = counted_both x.amount y.amount z.amount h.took k.took h.counted k.counted;
        }

    pub copies_runs : FutureRunLaws (CopyRuns reads writes)
    copies_runs =
        record {
          rests = λ x. record { moves = moves_none x; idle = λ e. refl };
          stays = λ x y h. h.idle refl;
          follows = λ x y z l m w h k. record {
            moves = moves_both x y z l m w h.moves k.moves;
            idle = idle_join x y z l m h.idle k.idle;
          };
          once = λ x y l h. up_to_once l h.moves.copied.once;
        }

    pub copies_laws : {r : Ranks R} → ReadCounting reads r
        → FutureLaws (λ x. r.counts (source_of x)) (CopyRuns reads writes)
    copies_laws c = future_laws_of copies_runs (λ x y l w k h. c.counts_on _ _ h.moves.told k h.moves.came)

    -- Steps that do not yet return, followed by a poll result, are one run with that result.
    pub copy_answer : (x y z : CopyFuture R W) (a : Poll CopyResult) → Reaches (CopiesSome reads writes) x y
        → Moves reads writes y (a ∷ []) z
        → CopyRuns reads writes x (a ∷ []) z
    copy_answer x y z a goes last =
        let all =
        Reaches-back (λ v. Moves reads writes v (a ∷ []) z) (λ v w t. moves_both v w z [] (a ∷ []) tt t.moves) x y
        goes last in
        record { moves = all; idle = λ e. cc e }

  -- A step that does not yet return consumes bytes from the buffer.
  pub some_given : {reads : Runs ReadMark R} {writes : Runs WriteMark W} (x y : CopyFuture R W)
      → CopiesSome reads writes x y
      → GivenRun (ThroughBuffer reads) x.reader y.reader
  some_given {reads} x y h = given_of (ThroughBuffer reads) x.reader y.reader h.taken h.some h.given

-- The value of `copy` does not depend on when its reader and its writer were pending, if no write fails. It is pending
-- only when one of them is.

-- Bytes and `Pending`s, without the `Pending`s, are the bytes.
goes_stripped : (l : List ReadMark) → BytesAlone l → strip_marks l ≡ bytes (bytes_told l)
goes_stripped [] g = refl
goes_stripped (ReadMark.byte b ∷ l) g = rw (goes_stripped l g)
goes_stripped (ReadMark.pending ∷ l) g = goes_stripped l g
goes_stripped (_ ∷ l) g = absurd g

-- The reader's mark that produces a value: end of file for `Ok`, and the error for `Err`.
abbrev stop_of : CopyResult → ReadMark
stop_of (Ok n) = ReadMark.end
stop_of (Err e) = ReadMark.fault (error_kind e)

stops_not : (v : CopyResult) (x : ℕ) → stop_of v ≡ ReadMark.byte x → ⊥
stops_not (Ok n) x e = cc
stops_not (Err e) x h = cc

-- If two lists of marks are bytes and then such a mark, and one is a prefix of the other, they are equal.
one_stop : (v w : CopyResult) (xs ys : List ℕ)
    → Comparable (bytes xs ++ stop_of v ∷ []) (bytes ys ++ stop_of w ∷ []) → (xs ≡ ys) × (stop_of v ≡ stop_of w)
one_stop v w [] [] c = (refl, c.0)
one_stop v w [] (y ∷ ys) c = absurd (stops_not v y c.0)
one_stop v w (x ∷ xs) [] c = absurd (stops_not w x (sym c.0))
one_stop v w (x ∷ xs) (y ∷ ys) c =
    let rest = one_stop v w xs ys c.1 in
    let same : x ≡ y = cc c.0 in
    (rw (same, rest.0), rest.1)

-- An `Ok` value counts the bytes read before and the bytes `xs`, modulo 2^64. Of an error nothing is said.
abbrev OkCounts : CopyResult → ℕ → List ℕ → Type 0
OkCounts (Ok n) held xs = n ≡ (held + length xs) % 2 ^ 64
OkCounts (Err e) held xs = ⊤

-- The marks without their `Pending`s are some bytes and then the mark of this value, and an `Ok` counts these bytes.
abbrev MarksOfValue : CopyResult → ℕ → List ReadMark → Type 0
MarksOfValue v held marks = (xs : List ℕ) × (strip_marks marks ≡ bytes xs ++ stop_of v ∷ []) × OkCounts v held xs

same_outcome : (v w : CopyResult) (held : ℕ) (xs ys : List ℕ) → (xs ≡ ys) × (stop_of v ≡ stop_of w)
    → OkCounts v held xs → OkCounts w held ys → SameByKind v w
same_outcome (Ok n) (Ok k) held xs ys both h g = cc
same_outcome (Err e) (Err f) held xs ys both h g = cc both.1
same_outcome _ _ held xs ys both h g = absurd (cc both.1)

same_told : (v w : CopyResult) (held : ℕ) (i j : List ReadMark) → MarksOfValue v held i → MarksOfValue w held j
    → Comparable (strip_marks i) (strip_marks j) → SameByKind v w
same_told v w held i j h g c =
    same_outcome v w held h.0 g.0 (one_stop v w h.0 g.0 (rw (← g.1, ← h.1) c)) h.2 g.2

no_bytes : (phase : Phase) → bytes_told (met_in phase) ≡ []
no_bytes Copying = refl
no_bytes Flushing = refl

-- At most one value is given, and `MarksOfValue` holds of it.
abbrev AllTold : List CopyResult → ℕ → List ReadMark → Type 0
AllTold [] held marks = ⊤
AllTold (v ∷ l) held marks = MarksOfValue v held marks × (l ≡ [])

stopped : (read marks : List ReadMark) (v : CopyResult) → BytesAlone read → marks ≡ read ++ stop_of v ∷ []
    → strip_marks marks ≡ bytes (bytes_told read) ++ stop_of v ∷ []
stopped read marks (Ok n) on cut = rw (cut, strip_marks-append, goes_stripped read on)
stopped read marks (Err e) on cut = rw (cut, strip_marks-append, goes_stripped read on)

-- If no write failed, an error is one of the reader.
reader_failed : (e : Error) (fault : List ReadMark) (last : List WriteMark) (after : List ℕ) (met : List ReadMark)
    (total : ℕ) → NoFailure last
    → CopyValue (Err e ∷ []) fault last after met total → (fault ≡ ReadMark.fault (error_kind e) ∷ []) × (met ≡ [])
reader_failed e [] (WriteMark.wrote [] ∷ last) after met total k h = absurd k
reader_failed e [] (WriteMark.fault kind ∷ last) after met total k h = absurd k
reader_failed e (ReadMark.fault kind ∷ []) [] after met total k h = (ap (λ v. ReadMark.fault v ∷ []) h.0, h.1)
reader_failed e _ _ after met total k h = absurd h

told_no_pending : (l : List ReadMark) → NoPendingRead l → waits_told l ≡ 0
told_no_pending [] n = refl
told_no_pending (ReadMark.pending ∷ l) n = absurd n
told_no_pending (_ ∷ l) n = told_no_pending l n

taken_no_pending : (l : List WriteMark) → NoPendingWrite l → waits_taken l ≡ 0
taken_no_pending [] n = refl
taken_no_pending (WriteMark.pending ∷ l) n = absurd n
taken_no_pending (_ ∷ l) n = taken_no_pending l n

module _ {R W : Type 0} where
  -- Two copies have equal bytes read and not yet written, equal amounts, and both have met end of file or neither has,
  -- over readers that are alike.
  abbrev pub CopyAlike : (R → R → Type 0) → CopyFuture R W → CopyFuture R W → Type 0
  CopyAlike alike x y = alike (source_of x) (source_of y) × (held_of x ≡ held_of y) × (met_in x.phase ≡ met_in y.phase)
      × (x.amount ≡ y.amount)

  -- All marks of the reader: the end of file if it was met before, and then these marks.
  abbrev marks_of : CopyFuture R W → List ReadMark → List ReadMark
  marks_of x told = met_in x.phase ++ told

  -- How many bytes were read before: those written and those still held.
  abbrev before_of : CopyFuture R W → ℕ
  before_of x = x.amount + length (held_of x)

  module _ {reads : Runs ReadMark R} {writes : Runs WriteMark W} (x y : CopyFuture R W)
      (out : List (Poll CopyResult))
      (h : Moves reads (WithoutFailure writes) x out y) where
    -- The bytes and `Pending`s of the reader.
    abbrev read : List ReadMark
    read = h.copied.reading.read

    -- If no byte is held, the writer took all bytes held before and all that the reader produced.
    taken_all : held_of y ≡ [] → read ++ (met_in y.phase ++ h.copied.failed) ≡ read ++ ReadMark.end ∷ []
        → bytes_taken h.took ≡ held_of x ++ bytes_told read
    taken_all empty end =
        let told : bytes_told h.told ≡ bytes_told read =
        simp (told_both, no_bytes, append-nil) at (ap bytes_told (h.copied.reading.cut ∙ end)) in
        sym (rw (told, empty, append-nil) at h.copied.balanced)

    ok_told : (n : ℕ) → CopyValue (Ok n ∷ []) h.copied.failed h.copied.last (held_of y) (met_in y.phase) y.amount
        → MarksOfValue (Ok n) (before_of x) (marks_of x h.told)
    ok_told n value =
        let c = h.copied in
        let a = ok_value _ _ y.amount n c.failed c.last value in
        let end : read ++ (met_in y.phase ++ c.failed) ≡ read ++ ReadMark.end ∷ [] =
        ap (λ k. read ++ (k ++ c.failed)) a.3 ∙ ap (λ k. read ++ (ReadMark.end ∷ k)) a.0 in (
          bytes_told read,
          stopped read _ (Ok n) c.reading.goes_on (c.reading.cut ∙ end),
          a.4 ∙ h.counted ∙ ap (λ (k : ℕ). k % 2 ^ 64)
              (omega (arith, ap length (taken_all a.2 end), length-append (held_of x) (bytes_told read))),
        )

    err_told : (e : Error) → CopyValue (Err e ∷ []) h.copied.failed h.copied.last (held_of y) (met_in y.phase) y.amount
        → MarksOfValue (Err e) (before_of x) (marks_of x h.told)
    err_told e value =
        let c = h.copied in
        let f =
        reader_failed e c.failed c.last _ _ y.amount
        (no_failure_last c.writing.written c.last (rw (← c.writing.cut) h.went.1)) value in
        let cut = c.reading.cut ∙ ap (λ k. read ++ (k ++ c.failed)) f.1 ∙ ap (λ k. read ++ k) f.0 in
        (bytes_told read, stopped read _ (Err e) c.reading.goes_on cut, tt)

    told_at : (given : List CopyResult)
        → CopyValue given h.copied.failed h.copied.last (held_of y) (met_in y.phase) y.amount
        → AllTold given (before_of x) (marks_of x h.told)
    told_at [] a = tt
    told_at (Ok n ∷ []) a = (ok_told n a, refl)
    told_at (Err e ∷ []) a = (err_told e a, refl)
    told_at (Ok n ∷ v ∷ given) a = absurd a
    told_at (Err e ∷ v ∷ given) a = absurd a

    all_told : AllTold (strip out) (before_of x) (marks_of x h.told)
    all_told = told_at _ h.copied.value

all_same : (l m : List CopyResult) (held : ℕ) (i j : List ReadMark) → AllTold l held i → AllTold m held j
    → Comparable (strip_marks i) (strip_marks j)
    → ComparableBy SameByKind l m
all_same (v ∷ l) (w ∷ m) held i j h g c = rw h.1 (same_told v w held i j h.0 g.0 c, tt)
all_same _ _ held i j h g c = tt

-- What a copy does holds for other relations of the reader and the writer that allow the same marks.
moves_by : {R W : Type 0} {reads ample : Runs ReadMark R} {writes wins : Runs WriteMark W} {x y : CopyFuture R W}
    {out : List (Poll CopyResult)} (m : Moves reads writes x out y) → ample (source_of x) m.told (source_of y)
    → wins x.writer m.took y.writer → Moves ample wins x out y
moves_by m came went =
    record { told = m.told; took = m.took; came = came; went = went; copied = m.copied; counted = m.counted }

module _ {R W : Type 0} {reads : Runs ReadMark R} {writes : Runs WriteMark W} where
  pub copy_steady : {ample : Runs ReadMark R} {needs_none : Type 0} {alike : R → R → Type 0}
      → SteadyReadLaws reads ample needs_none alike → MarkLaws writes
      → FutureSteadyLawsBy (Sameness.by SameByKind) (CopyRuns reads writes) (CopyRuns ample (WithoutFailure writes))
      (needs_none × NoneFails writes)
      (CopyAlike {W = W} alike)
  copy_steady s laws =
      record {
        laws = copies_runs s.laws (without_failure_laws laws);
        steady = λ x y e l m x' y' h k.
            let i = h.moves in
            let j = k.moves in
            let one = all_told x x' l i in
            let two = all_told y y' m j in
            let lists =
            s.steady _ _ _ _ i.told j.told e.0 i.came j.came in
            let both =
            comparable_behind (strip_marks (met_in x.phase)) _ _ lists in
            let begun : before_of y ≡ before_of x = omega (arith, e.3, ap length e.1) in
            let other = rw begun at two in
            all_same _ _ _ _ _ one other (rw (strip_marks-append _ i.told, strip_marks-append _ j.told, ← e.2) both);
        found = λ n x y l h.
            let i = h.moves in
            record {
              moves = moves_by i (s.found n.0 _ _ _ i.came) (i.went, n.1 _ _ _ i.went);
              idle = h.idle;
            };
      }

  pub copy_calm : {reader_calm : R → Type 0} {writer_calm : W → Type 0} → CalmReadLaws reads reader_calm
      → CalmWriteLaws writes writer_calm
      → CalmLaws (CopyRuns reads writes) (λ (x : CopyFuture R W). reader_calm (source_of x) × writer_calm x.writer)
  copy_calm c d =
      record {
        no_pending = λ x y l k h.
            let i = h.moves in
            let told = told_no_pending i.told (c.no_pending _ _ i.told k.0 i.came) in
            none_no_pending l
            (omega (
              arith,
              i.copied.waited,
              told,
              taken_no_pending i.took (d.no_pending x.writer y.writer i.took k.1 i.went),
            ));
        calm_on = λ x y l k h.
            let i = h.moves in
            (c.calm_on _ _ i.told k.0 i.came, d.calm_on x.writer y.writer i.took k.1 i.went);
      }

takes_without_failure : (l : List WriteMark) → TakesSome l → NoFailure l
takes_without_failure [] h = tt
takes_without_failure (WriteMark.wrote [] ∷ l) h = omega arith
takes_without_failure (WriteMark.wrote (x ∷ xs) ∷ l) h = takes_without_failure l h.1
takes_without_failure (WriteMark.pending ∷ l) h = takes_without_failure l h
takes_without_failure (_ ∷ l) h = absurd h

-- If the value is `Ok`, the last mark is a flush, so it is no failure.
last_no_failure : (v : CopyResult) (fault : List ReadMark) (last : List WriteMark) (after : List ℕ)
    (met : List ReadMark) (total : ℕ) → IsOk v
    → CopyValue (v ∷ []) fault last after met total → NoFailure last
last_no_failure (Ok n) fault last after met total ok h = rw ((ok_value after met total n fault last h).1) tt
last_no_failure (Err e) fault last after met total ok h = cc

module _ {R W : Type 0} {reads ample : Runs ReadMark R} {writes : Runs WriteMark W}
    (found : TakesNone reads ample) where
  -- If the value is `Ok`, no write failed.
  pub ok_no_failure : (x : CopyFuture R W) (l : List (Poll CopyResult)) (v : CopyResult) → IsOk v
      → Finishes (CopyRuns reads writes) x l v
      → Finishes (CopyRuns ample (WithoutFailure writes)) x l v
  ok_no_failure x l v ok h =
      let m = h.came.moves in
      let k = m.copied in
      let f = k.writing in
      let last =
      last_no_failure v k.failed k.last _ _ h.last.amount ok (rw (gives_strip l v h.gives) at k.value) in
      let no_failure =
      rw (← f.cut) at (no_failure_both f.written k.last (takes_without_failure f.written f.takes_some) last) in
      record {
        gives = h.gives;
        last = h.last;
        came = record { moves = moves_by m (found _ _ m.told m.came) (m.went, no_failure); idle = h.came.idle };
      }
