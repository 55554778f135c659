-- Ranks: numbers that fall with items, so that a loop over a stream ends.
pub use Rattle.lite_base.specs.Ranks.{AtMost, Below, Lowers, Counting, Ranks, number_ranks, ranks_of, OkCounting, OkRun, Terminates, ItemRun}
pub use Rattle.lite_base.specs.Laws.Ranks.{counting_ends, number_counting, ok_counting, ok_counting_by}
pub use Rattle.lite_base.specs.Laws.Ranks.{ok_counting_ends, Terminates-after, Terminates-by, Terminates-count}
pub use Rattle.lite_base.specs.Laws.Ranks.{Terminates-map, Terminates-where, Below-wf, counted_ends, ranked_ends}
pub use Rattle.lite_base.specs.Laws.Ranks.{AtMost-both, Below-after, Below-first, Below-then}
pub use Rattle.lite_source.specs.Always.{no_ranks}
-- a reader's: as many bytes and errors as it may still give
pub use Rattle.lite_io_base.specs.Counting.{ReadCounting}
