-- The futures of one write, one flush and one close are calm over a calm writer.
use Rattle.lite_write.specs.Uses.{CalmLaws, Runs, CalmWriteLaws, WriteMark, PolledByCalls, refl, Poll, Ready, Pending, strip, FutureSteadyLaws, done_marks}
use Rattle.lite_base.specs.Laws.FutureLaws.{calls_calm, polled_runs}
use Rattle.lite_write.specs.Close.{Closes}
use Rattle.lite_write.specs.Flush.{Flushes}
use Rattle.lite_write.specs.Write.{Writes}
use Rattle.lite_write.specs.WriteVectored.{WritesVectored}
use Rattle.lite_write.specs.declared.close.CloseFuture.{CloseFuture}
use Rattle.lite_write.specs.declared.flush.FlushFuture.{FlushFuture}
use Rattle.lite_write.specs.declared.write.WriteFuture.{WriteFuture}
use Rattle.lite_write.specs.declared.write_vectored.WriteVectoredFuture.{WriteVectoredFuture}
use Rattle.std.specs.Prelude.{◌≡◌, List, [], ◌∷◌, Ok, Err, ⊤}
use Rattle.lite_write.specs.Laws.WriteAll.{AllOk, all_ok_same, WriteAllResult}
use Rattle.lite_write.specs.WriteAll.{NoFailure, NoneFails, WithoutFailure}

module _ {W : Type 0} {writes : Runs WriteMark W} {is_calm : W → Type 0}
    (c : CalmWriteLaws writes is_calm) where
  pub write_calm : CalmLaws (PolledByCalls (Writes writes)) (λ (x : WriteFuture W). is_calm x.writer.now)
  write_calm = calls_calm (Writes writes) (λ x. x.writer.now) (λ x y r h. (_, h.came)) (λ x y h n. n) c

  pub vectored_calm :
      CalmLaws (PolledByCalls (WritesVectored writes)) (λ (x : WriteVectoredFuture W). is_calm x.writer.now)
  vectored_calm = calls_calm (WritesVectored writes) (λ x. x.writer.now) (λ x y r h. (_, h.came)) (λ x y h n. n) c

  pub flush_calm : CalmLaws (PolledByCalls (Flushes writes)) (λ (x : FlushFuture W). is_calm x.writer.now)
  flush_calm = calls_calm (Flushes writes) (λ x. x.writer.now) (λ x y r h. (_, h.came)) (λ x y h n. n) c

  pub close_calm : CalmLaws (PolledByCalls (Closes writes)) (λ (x : CloseFuture W). is_calm x.writer.now)
  close_calm = calls_calm (Closes writes) (λ x. x.writer.now) (λ x y r h. (_, h.came)) (λ x y h n. n) c

-- `flush` and `close` return `Ok` if their writer does not fail.

-- A future each poll of which is one call returns `Ok` if its calls without failure do.
module _ {F : Type 0} (call without_failure : F → Poll WriteAllResult → F → Type 0) where
  values_ok : ((x y : F) (r : WriteAllResult) → without_failure x (Ready r) y → r ≡ Ok tt)
      → (x y : F) (l : List (Poll WriteAllResult)) → PolledByCalls without_failure x l y → AllOk (strip l)
  values_ok ok x y [] h = tt
  values_ok ok x y (Pending ∷ l) h = values_ok ok h.0 y l h.2
  values_ok ok x y (Ready r ∷ l) h = rw h.1 (ok x y r h.0, tt)

  polled_so : ((x y : F) (c : Poll WriteAllResult) → call x c y → without_failure x c y)
      → (x y : F) (l : List (Poll WriteAllResult)) → PolledByCalls call x l y → PolledByCalls without_failure x l y
  polled_so so x y [] h = h
  polled_so so x y (Pending ∷ l) h = (h.0, so x h.0 Pending h.1, polled_so so h.0 y l h.2)
  polled_so so x y (Ready r ∷ l) h = (so x y _ h.0, h.1)

  done_steady : {needs_none : Type 0} → ((x y : F) (r : WriteAllResult) → without_failure x (Ready r) y → r ≡ Ok tt)
      → (needs_none → (x y : F) (c : Poll WriteAllResult) → call x c y → without_failure x c y)
      → FutureSteadyLaws (PolledByCalls call) (PolledByCalls without_failure) needs_none (λ x y. ⊤)
  done_steady ok so =
      record {
        laws = polled_runs without_failure;
        steady = λ x y e l m x' y' h k. all_ok_same _ _ (values_ok ok x x' l h) (values_ok ok y y' m k);
        found = λ n. polled_so (so n);
      }

done_ok : (mark : WriteMark) (r : WriteAllResult) → NoFailure (done_marks mark (Ready r)) → r ≡ Ok tt
done_ok mark (Ok u) a = refl
done_ok mark (Err e) a = absurd a

module _ {W : Type 0} {writes : Runs WriteMark W} where
  pub flush_steady : FutureSteadyLaws (PolledByCalls (Flushes writes)) (PolledByCalls (Flushes (WithoutFailure writes)))
      (NoneFails writes) (λ x y. ⊤)
  flush_steady =
      done_steady (Flushes writes) (Flushes (WithoutFailure writes)) (λ x y r h. done_ok WriteMark.flushed r h.came.1)
      (λ n x y c h. record { came = (h.came, n _ _ _ h.came); stays = h.stays })

  pub close_steady : FutureSteadyLaws (PolledByCalls (Closes writes)) (PolledByCalls (Closes (WithoutFailure writes)))
      (NoneFails writes) (λ x y. ⊤)
  close_steady =
      done_steady (Closes writes) (Closes (WithoutFailure writes)) (λ x y r h. done_ok WriteMark.closed r h.came.1)
      (λ n x y c h. record { came = (h.came, n _ _ _ h.came); stays = h.stays })
