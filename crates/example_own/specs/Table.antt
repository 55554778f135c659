-- What reading a `Table` returns.
use Rattle.std.specs.Prelude.{◌≡◌, ℕ, ◌+◌, List, drop}
use Rattle.std.proofs.Common.{add-zero, ap, arith, drop-drop, sym}
use Rattle.futures_lite.specs.Marks.{ReadMark}
use Rattle.futures_lite.specs.Own.{FrontLaws, FrontStep}
use Rattle.example_own.specs.declared.table.Table.{Table}

-- The bytes that are to come.
abbrev pub table_left : Table → List ℕ
table_left x = drop x.at x.bytes.items

-- The table after `n` more bytes were read.
abbrev pub table_on : Table → ℕ → Table
table_on x n = record x { at = x.at + n }

-- A byte is the first of those that are to come, and the end of file comes if there is none.
abbrev pub TableStep : Table → ReadMark → Table → Type 0
TableStep = FrontStep table_left table_on

pub table_laws : FrontLaws table_left table_on
table_laws =
    record {
      none = λ x. ap (λ (k : ℕ). record x { at = k }) (add-zero x.at);
      more = λ x m n. let e : x.at + m + n ≡ x.at + (m + n) = omega arith in ap (λ (k : ℕ). record x { at = k }) e;
      rest = λ x n. sym (drop-drop n x.at x.bytes.items);
    }
