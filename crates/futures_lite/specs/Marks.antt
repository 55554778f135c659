-- The marks that reading leaves, and those that writing leaves.
pub use Rattle.lite_io_base.specs.Marks.{AllGiven, IsGiven, ReadMark, bytes, count_of, fill_marks, filled_marks, given_count, moved_marks, read_marks, by_kind}
pub use Rattle.lite_io_base.specs.WriteMarks.{WriteMark, bytes_in, bytes_taken, done_marks, write_marks}
pub use Rattle.lite_io_base.specs.Parts.{Part, PartRuns, PartsInOrder, reading_of, writing_of}
