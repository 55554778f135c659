-- `map_while`: every item is replaced by what the function returns for it, and by the end of the stream if that is
-- `None`.
use Rattle.std.specs.Prelude.{Option}
use Rattle.lite_stream.specs.Uses.{Answer, Question, Runs}
use Rattle.lite_stream.specs.Pointwise.{Exchanges}
use Rattle.lite_stream.specs.Through.{AdapterParts, Through, parts_of}
use Rattle.lite_stream.specs.declared.map_while.MapWhile.{MapWhile}

-- The source's results, each item replaced by `Ready` of what the function returns: an item for `Some`, and the end of
-- the stream for `None`. Later polls go on with the source.
abbrev pub MapsWhile : {S F A B : Type 0} → Runs (Answer A) S → Question F A (Option B) → Runs (Answer B) (MapWhile S F)
MapsWhile run call x l y = Through run (Exchanges call) x.stream x.f l y.stream y.f

-- A `MapWhile` consists of its source and its function.
abbrev pub map_while_parts : {S F : Type 0} → AdapterParts (MapWhile S F) S F
map_while_parts = parts_of (λ m. m.stream) (λ m. m.f) (λ s h. record { stream = s; f = h }) (λ x y p. p)
