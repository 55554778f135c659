use Rattle.std.specs.Prelude.{⊤, ◌≡◌, ◌<◌, ℕ, List, [], ◌++◌}
use Rattle.lite_theorems.specs.Uses.{◌∙◌, ap, subst, sym, Global, Folds, fold_of, Consume, LacksRoom, tries_collect, bytes_ahead, reader_capacity}
use Rattle.lite_theorems.specs.Uses.{ReadsWithin, WithinLimit, take_inner, Take, ReadMark, bytes, line_fold, PieceSegments, Runs}
use Rattle.lite_buffered.specs.Laws.BufReader.{passes_some}
use Rattle.lite_buffered.specs.Take.{limit_of}
use Rattle.lite_buffered.specs.declared.buf_reader.BufReader.{BufReader}
use Rattle.lite_gather.specs.declared.try_collect.TryCollect.{TryCollect}
use Rattle.lite_read.specs.Lines.{GivesLines}
use Rattle.lite_read.specs.declared.lines.Lines.{Lines}
use Rattle.std.proofs.Common.{String}
use Rattle.lite_buffered.specs.BufReader.{reader_inner as buffered_of, PassesBuffer, ThroughBuffer}
use Rattle.lite_theorems.specs.Lines.{AtEachValue, CollectsLines, limited, lines_told}
use Rattle.lite_theorems.proofs.Collecting.{collects_so, says}
use Rattle.lite_theorems.specs.Laws.Collected.{Has, has}
use Rattle.lite_theorems.proofs.Limits.{told_through}
use Rattle.lite_theorems.proofs.Telling.{Given, given}
use Rattle.lite_theorems.proofs.lines.collect_buffered_lines.Goals as goal

module _ {R C : Type 0} (reads : Runs ReadMark R) (may_refuse : C → String Global → Type 0)
    (holds : C → List (String Global) → Type 0) where
  abbrev Collecting : Type 0
  Collecting = Consume (Lines (Take (BufReader R))) (TryCollect C)

  lines_collected : (reader : BufReader R) (limit : ℕ) (x : Collecting) → take_inner x.stream.reader ≡ reader
      → 0 < reader_capacity reader
      → limit_of x.stream.reader ≡ limit → x.stream.held.bytes.items ≡ []
      → Has holds x.folder.items []
      → AtEachValue
      (Folds (GivesLines (ReadsWithin (ThroughBuffer reads)) ⊤)
      (fold_of (λ (f : TryCollect C). f.items) (tries_collect may_refuse holds))) x
      (CollectsLines reads holds (bytes_ahead reader) (buffered_of reader) limit)
  lines_collected reader limit x inner some bound held has out y v h g =
      let s = h.came.segmented in
      let t = s.came in
      let b = t.ran in
      let left = take_inner y.stream.reader in
      let front = bytes (bytes_ahead reader) in
      let full : PassesBuffer (reader_capacity reader) (bytes_ahead reader) b.came t.front (bytes_ahead left) =
      subst (λ r. PassesBuffer (reader_capacity r) (bytes_ahead r) b.came t.front (bytes_ahead left)) inner b.passes
      in
      let told = passes_some (reader_capacity reader) (bytes_ahead reader) b.came t.front (bytes_ahead left) some full in
      let fits : WithinLimit limit t.front (limit_of y.stream.reader) =
      subst (λ (n : ℕ). WithinLimit n t.front (limit_of y.stream.reader)) bound t.fits in
      let cut : PieceSegments (line_fold ⊤ tt) [] s.marks h.ins y.stream.held.bytes.items =
      subst (λ k. PieceSegments (line_fold ⊤ tt) k s.marks h.ins y.stream.held.bytes.items) held s.cut in
      let each : (more : List ReadMark) → Given h.ins (lines_told [] (limited limit (front ++ b.came) ++ more)) =
      λ more.
      let l = told_through limit (limit_of y.stream.reader) s.marks t.front t.ends
      (bytes (bytes_ahead left)) t.cut fits t.used_up more in
      let same = ap (λ k. lines_told [] (limited limit k ++ more)) told ∙ l.1 in
      subst (Given h.ins) (sym same) (given [] y.stream.held.bytes.items s.marks h.ins cut l.0)
      in
      let says = says holds may_refuse (λ (f : TryCollect C). f.items) out x.folder y.folder h.ins [] v has h.consumed g in
      record {
        marks = b.came;
        later = buffered_of left;
        told = subst (λ r. reads (buffered_of r) b.came (buffered_of left)) inner b.ran;
        collects = collects_so holds (limited limit (front ++ b.came)) (Given h.ins) v says each;
      }

pub returns-clause-lines : goal.returns-clause-lines
returns-clause-lines g c =
    λ some.
    let made = c.try_collect.ensures in
    let at = ap (λ s. s.reader) made.stream ∙ c.lines.ensures.reader in
    let held = has g.C.Gather.holds c.try_collect.result.folder.items [] made.«open» made.empty in
    lines_collected g.R.ReadSpec.reads (LacksRoom g.C.Gather.has_room) g.C.Gather.holds c.args.reader c.args.limit c.try_collect.result
    (ap take_inner at ∙ c.take.ensures.inner) some
    (ap limit_of at ∙ c.take.ensures.limit) (ap (λ s. s.held.bytes.items) made.stream ∙ c.lines.ensures.empty) held
