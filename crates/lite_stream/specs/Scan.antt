-- `scan`: like `map_while`, with a state that each call of the function may change.
use Rattle.std.specs.Prelude.{Option}
use Rattle.lite_stream.specs.Uses.{Answer, Runs}
use Rattle.lite_stream.specs.Pointwise.{Exchanges}
use Rattle.lite_stream.specs.Through.{AdapterParts, Through, parts_of}
use Rattle.lite_stream.specs.declared.scan.Scan.{Scan}

-- The source's results, each item replaced by `Ready` of what the function returns for the state and the item: an item
-- for `Some`, and the end of the stream for `None`. The state goes from one call to the next.
abbrev pub Scans : {S V F A B : Type 0} → Runs (Answer A) S → (F × V → A → Option B → F × V → Type 0)
    → Runs (Answer B) (Scan S V F)
Scans run call x l y = Through run (Exchanges call) x.stream (x.f, x.state) l y.stream (y.f, y.state)

-- A `Scan` consists of its source, and of its function with the state.
abbrev pub scan_parts : {S V F : Type 0} → AdapterParts (Scan S V F) S (F × V)
scan_parts =
    parts_of (λ m. m.stream) (λ m. (m.f, m.state)) (λ s h. record { stream = s; f = h.0; state = h.1 }) (λ x y p. p)
