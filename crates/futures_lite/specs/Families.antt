-- The families of adapters: how the answers that come in become those that go out.
pub use Rattle.lite_stream.specs.Through.{AdapterParts, Adapts, Through}
-- lists that are cut into segments, one for each answer out
pub use Rattle.lite_base.specs.Segments.{OneAnswer, Segment, Segments, SegmentsToValue}
-- one answer for each answer: map, enumerate, inspect, copied; and with an end in an item's place: take_while,
-- map_while, scan
pub use Rattle.lite_stream.specs.Pointwise.{Exchanges, Replaces}
-- cut off at some point: take
pub use Rattle.lite_stream.specs.Cutting.{Cuts}
-- items left out: filter, filter_map, skip, skip_while, step_by
pub use Rattle.lite_reshape.specs.Leaving.{LeavesOut, Passes, Rejects}
-- items replaced by lists: then, cloned; flatten, flat_map
pub use Rattle.lite_reshape.specs.Expanding.{Expanding, Expands}
pub use Rattle.lite_reshape.specs.Flatten.{Flat, Flattening}
-- one list after another: chain
pub use Rattle.lite_reshape.specs.Chain.{Joins}
-- two lists: zip; or, race
pub use Rattle.lite_merge.specs.Zip.{Pairing, Pairs}
pub use Rattle.lite_merge.specs.Merge.{MergeRows, Merges}
-- items taken in until one decides: the futures that consume a stream
pub use Rattle.lite_consume.specs.Consuming.{Consumes, Decides, Fold, TakesIn}
-- two lists whose items went out in some order: or, race
pub use Rattle.lite_theorems.specs.Interleaving.{Interleaves, items_given}
