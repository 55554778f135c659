-- The futures of writing are armed over an armed writer.
use Rattle.std.specs.Prelude.{◌≡◌, ℕ, List, [], ◌∷◌, refl, true, false}
use Rattle.futures.specs.Task.{Lasting}
use Rattle.lite_write.specs.Uses.{Pending, PolledByCalls, Runs, WriteMark}
use Rattle.lite_base.specs.Armed.{Arms}
use Rattle.lite_io_base.specs.Armed.{ArmsWrite, is_write_pending}
use Rattle.lite_io_base.specs.Laws.Armed.{polled_armed, segments_end}
use Rattle.lite_write.specs.Close.{Closes}
use Rattle.lite_write.specs.Flush.{Flushes}
use Rattle.lite_write.specs.Write.{Writes}
use Rattle.lite_write.specs.WriteAll.{Hands, LastTaken, WritesAll}
use Rattle.lite_write.specs.WriteVectored.{WritesVectored}
use Rattle.lite_write.specs.declared.close.CloseFuture.{CloseFuture}
use Rattle.lite_write.specs.declared.flush.FlushFuture.{FlushFuture}
use Rattle.lite_write.specs.declared.write.WriteFuture.{WriteFuture}
use Rattle.lite_write.specs.declared.write_all.WriteAllFuture.{WriteAllFuture}
use Rattle.lite_write.specs.declared.write_vectored.WriteVectoredFuture.{WriteVectoredFuture}

-- The last mark of a poll that returns `Pending` is a `Pending`.
last_pending : (p q : List ℕ) (last : List WriteMark) → LastTaken p last Pending q
    → (m : WriteMark) × (last ≡ m ∷ []) × (is_write_pending m ≡ true)
last_pending p q last h = (WriteMark.pending, h.0, refl)

module _ {W : Type 0} {writes : Runs WriteMark W} {registers : W → Lasting → Type 0} (a : ArmsWrite writes registers)
  where
    pub write_arms : Arms (PolledByCalls (Writes writes)) (λ (x : WriteFuture W). registers x.writer.now)
    write_arms =
        record {
          at = polled_armed (Writes writes) (λ x. registers x.writer.now Lasting.armed)
              (λ x y c. a.at x.writer.now y.writer.now (WriteMark.pending ∷ []) refl c.came);
        }

    pub vectored_arms : Arms (PolledByCalls (WritesVectored writes))
        (λ (x : WriteVectoredFuture W). registers x.writer.now)
    vectored_arms =
        record {
          at = polled_armed (WritesVectored writes) (λ x. registers x.writer.now Lasting.armed)
              (λ x y c. a.at x.writer.now y.writer.now (WriteMark.pending ∷ []) refl c.came);
        }

    pub flush_arms : Arms (PolledByCalls (Flushes writes)) (λ (x : FlushFuture W). registers x.writer.now)
    flush_arms =
        record {
          at = polled_armed (Flushes writes) (λ x. registers x.writer.now Lasting.armed)
              (λ x y c. a.at x.writer.now y.writer.now (WriteMark.pending ∷ []) refl c.came);
        }

    pub close_arms : Arms (PolledByCalls (Closes writes)) (λ (x : CloseFuture W). registers x.writer.now)
    close_arms =
        record {
          at = polled_armed (Closes writes) (λ x. registers x.writer.now Lasting.armed)
              (λ x y c. a.at x.writer.now y.writer.now (WriteMark.pending ∷ []) refl c.came);
        }

    pub all_arms : Arms (WritesAll writes) (λ (x : WriteAllFuture W). registers x.writer.now)
    all_arms =
        record {
          at = λ x y l e h.
              a.at x.writer.now y.writer.now h.marks
              (segments_end is_write_pending WriteMark.wrote Hands LastTaken last_pending x.buf.now y.buf.now h.marks l
              h.handed.0 false false (λ n. n) e) h.came;
        }
