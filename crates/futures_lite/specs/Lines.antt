-- Lines and pieces of a reader's bytes: where they are cut, what text is made of one, and what is collected of them.
pub use Rattle.lite_read.specs.Pieces.{behind, byte_lines, byte_pieces, last_piece, pieces_from, through_first, AtEnd, Cut, CutsPiece, Itemised, pieces}
pub use Rattle.lite_read.specs.Segments.{PieceSegments, Segmented, StreamOver}
pub use Rattle.lite_read.specs.Texts.{IsText}
pub use Rattle.lite_io_base.specs.Runs.{without_return}
pub use Rattle.lite_theorems.specs.Lines.{AtEachValue, CollectsLines, CollectsOf, Line, StandsFor, as_lines, limited, lines_told}
