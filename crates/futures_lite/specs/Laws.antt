-- Laws with their proofs: of lists of answers, of the families, and of nests ("EachItem" and "Front" of Answers).
pub use Rattle.lite_base.specs.Laws.Answers
pub use Rattle.lite_base.specs.Laws.Alike
pub use Rattle.lite_base.specs.Laws.Armed
pub use Rattle.lite_base.specs.Laws.Calling
pub use Rattle.lite_base.specs.Laws.Calm
pub use Rattle.lite_stream.specs.Laws.Cutting
pub use Rattle.lite_base.specs.Laws.EachItem
pub use Rattle.lite_stream.specs.Laws.Pointwise
pub use Rattle.lite_stream.specs.Laws.Through
pub use Rattle.lite_reshape.specs.Laws.Leaving
pub use Rattle.lite_source.specs.Laws.Iterators
pub use Rattle.lite_source.specs.Laws.Script
pub use Rattle.lite_views.specs.Laws.Each
pub use Rattle.lite_views.specs.Laws.Fronts
pub use Rattle.lite_views.specs.Laws.Items
pub use Rattle.lite_views.specs.Laws.Sources
-- that a collection of a merge has all items: `or_collected`, `race_collected`
pub use Rattle.lite_theorems.specs.Laws.Collected
pub use Rattle.lite_theorems.specs.Laws.Rows
-- that calls which are waited for follow one another: `told_follow`, `front_follows`
pub use Rattle.lite_io_base.specs.Laws.Told
