-- One answer of `write_all`.
use Rattle.std.specs.Prelude.{◌≡◌, List, [], ◌∷◌}
use Rattle.lite_write.specs.Uses.{Poll, Runs, WriteMark}
use Rattle.lite_base.specs.Laws.Segments.{segment_alone, to_value_one}
use Rattle.lite_write.specs.Laws.WriteAll.{WriteAllResult}
use Rattle.lite_write.specs.WriteAll.{HandsMarks, LastTaken, WritesAll}
use Rattle.lite_write.specs.declared.write_all.WriteAllFuture.{WriteAllFuture}

-- nothing is taken before it
pub write_one : {W : Type 0} (writes : Runs WriteMark W) (x y : WriteAllFuture W) (marks : List WriteMark)
    (a : Poll WriteAllResult) → LastTaken x.buf.now marks a y.buf.now → writes x.writer.now marks y.writer.now
    → y.writer ≡ record x.writer { now = y.writer.now } → WritesAll writes x (a ∷ []) y
write_one writes x y marks a last came stays =
    record {
      marks = marks;
      came = came;
      handed = to_value_one HandsMarks x.buf.now y.buf.now marks a (segment_alone x.buf.now y.buf.now marks a last);
      stays = stays;
      idle = λ e. absurd (cc e);
    }
