-- A server is pending only if its reader or its writer is, and then the task is armed.
use Rattle.std.specs.Prelude.{◌≡◌, ◌⊎◌, ℕ, false, List, [], ◌∷◌, ◌++◌, Result, Ok, Err}
use Rattle.std.specs.declared.io.ErrorKind.TheVariants.{WriteZero}
use Rattle.futures.specs.Task.{Lasting}
use Rattle.lite_base.specs.Armed.{Arms}
use Rattle.lite_base.specs.Calm.{CalmLaws}
use Rattle.lite_base.specs.FutureLaws.{PolledByCalls}
use Rattle.lite_base.specs.Laws.FutureLaws.{polled_calm}
use Rattle.lite_io_base.specs.Armed.{ArmsRead, ArmsWrite, is_read_pending, is_write_pending}
use Rattle.lite_io_base.specs.Laws.Armed.{last_join, polled_armed}
use Rattle.lite_io_base.specs.Steady.{CalmReadLaws, CalmWriteLaws, NoPendingWrite}
use Rattle.framed.specs.CalmFrames.{waits_last}
use Rattle.serving.specs.Uses.{Advances, ErrorKind, FoldsTo, FramesError, LastWords, Pending, ReadMark, Ready, Runs, ServiceStep}
use Rattle.serving.specs.Uses.{WriteMark, bytes, inl, inr, refl, subst, untaken}
use Rattle.serving.specs.Serving.{EndsByStop, Goes, IsUnsent, MayTake, OutputFails, Pends, ServesPoll, ServingRegisters, side_of}
use Rattle.serving.specs.ServingLaws.{turns_keep}
use Rattle.serving.specs.Turns.{Server, ServingTurn, Side, TakesTurn, pended}
use Rattle.serving.specs.declared.serving_error.ServingError.{ServingError}
use Rattle.serving.specs.declared.serving_error.ServingError.TheVariants.{Input, OutOfMemory, Output}

-- The last of some steps, and those before it.
last_step : {P A : Type 0} (R : P → A → P → Type 0) (x y : P) (l : List A) (a : A) → FoldsTo R x (l ++ a ∷ []) y
    → (m : P) × FoldsTo R x l m × R m a y
last_step R x y [] a (m, one, is) = (x, refl, subst (λ k. R x a k) is one)
last_step R x y (b ∷ l) a (m, one, more) =
    let rest = last_step R m y l a more in
    (rest.0, (m, one, rest.1), rest.2)

-- A `Pending` of the writer behind some marks is one.
write_waits_last : (l : List WriteMark) → NoPendingWrite (l ++ WriteMark.pending ∷ []) → ⊥
write_waits_last [] h = h
write_waits_last (WriteMark.pending ∷ l) h = h
write_waits_last (_ ∷ l) h = write_waits_last l h

module _ {T C O S E : Type 0} (piece : C → List ℕ → List ℕ → Type 0) (refuses : C → List ℕ → E → Type 0) (cut_off : C → List ℕ → E → Type 0)
    (reads : Runs ReadMark T) (buffer_of : T → List ℕ) (writes : Runs WriteMark O) (answers : ServiceStep S (List ℕ) ℕ)
    (words : LastWords S (FramesError E) ℕ) where
  -- Turns of these were taken.
  abbrev FoldsTurns : Server T C O S E → List (ServingTurn E) → Server T C O S E → Type 0
  FoldsTurns x turns y = FoldsTo (TakesTurn piece refuses cut_off reads buffer_of answers words) (side_of x) turns (side_of y)

  -- The last turn, if the reader was pending in it, and the marks that the reader left in it.
  pended_last : (x y : Server T C O S E) (before : List (ServingTurn E)) → FoldsTurns x (before ++ pended ∷ []) y
      → (m : Side T C S E) × FoldsTo (TakesTurn piece refuses cut_off reads buffer_of answers words) (side_of x) before m
      × (l : List ReadMark) × reads m.requests.reader (l ++ ReadMark.pending ∷ []) y.requests.reader
  pended_last x y before taken =
      let last = last_step (TakesTurn piece refuses cut_off reads buffer_of answers words) (side_of x) (side_of y) before pended taken in
      let left = by last.0 last.2.0 in
      (last.0, last.1, left.0, left.1)
    where
      by : (m : Side T C S E) → Advances piece refuses cut_off reads buffer_of m.requests Pending y.requests
          → (l : List ReadMark) × reads m.requests.reader (l ++ ReadMark.pending ∷ []) y.requests.reader
      by m (inl (_, wrong, _)) = cc wrong
      by m (inr (was, xs, last, took, (is, _, _))) =
          (bytes (untaken buffer_of m.requests ++ xs), rw is at took.ran)

  -- If the reader and the writer are armed, the server is.
  module _ {by_reader : T → Lasting → Type 0} {by_writer : O → Lasting → Type 0} (reader : ArmsRead reads by_reader)
      (writer : ArmsWrite writes by_writer) where
    pends_armed : (x y : Server T C O S E) → Pends piece refuses cut_off reads buffer_of writes answers words x y
        → ServingRegisters by_reader by_writer y Lasting.armed
    pends_armed x y p = (
      (λ may.
          let last = pended_last x y (p.reader may).0 (subst (λ l. FoldsTurns x l y) (p.reader may).1 p.served.taken) in
          reader.at _ _ (last.2 ++ ReadMark.pending ∷ []) (last_join is_read_pending false last.2 (ReadMark.pending ∷ [])) last.3),
      (λ due.
          let before = (p.writer due).0 in
          let marks = subst (λ l. writes x.replies l y.replies) (p.writer due).1 p.served.went in
          writer.at _ _ (before ++ WriteMark.pending ∷ []) (last_join is_write_pending false before (WriteMark.pending ∷ [])) marks),
    )

    pub serving_arms : Arms (PolledByCalls (ServesPoll piece refuses cut_off reads buffer_of writes answers words))
        (ServingRegisters {C = C} {S = S} {E = E} by_reader by_writer)
    serving_arms = record {
      at = polled_armed (ServesPoll piece refuses cut_off reads buffer_of writes answers words)
          (λ y. ServingRegisters by_reader by_writer y Lasting.armed) pends_armed;
    }

  -- If the reader and the writer are never pending, the server is not.
  module _ {reader_calm : T → Type 0} {writer_calm : O → Type 0} (reader : CalmReadLaws reads reader_calm)
      (writer : CalmWriteLaws writes writer_calm) where
    -- Neither the reader nor the writer is ever pending.
    abbrev pub BothCalm : Server T C O S E → Type 0
    BothCalm x = reader_calm x.requests.reader × writer_calm x.replies

    turns_calm : (x : Side T C S E) (y : Side T C S E) (turns : List (ServingTurn E)) → reader_calm x.requests.reader
        → FoldsTo (TakesTurn piece refuses cut_off reads buffer_of answers words) x turns y → reader_calm y.requests.reader
    turns_calm = turns_keep piece refuses cut_off reads buffer_of answers words reader_calm (λ s t l k h. reader.calm_on s t l k h)

    serves_calm : (x y : Server T C O S E) → BothCalm x → Goes piece refuses cut_off reads buffer_of writes answers words x y → BothCalm y
    serves_calm x y k (turns, took, h) =
        (turns_calm (side_of x) (side_of y) turns k.0 h.taken, writer.calm_on x.replies y.replies took k.1 h.went)

    never_pends : (x y : Server T C O S E) → BothCalm x → Pends piece refuses cut_off reads buffer_of writes answers words x y → ⊥
    never_pends x y k p = by p.some
      where
        by : MayTake y ⊎ IsUnsent y → ⊥
        by (inl may) =
            let last = pended_last x y (p.reader may).0 (subst (λ l. FoldsTurns x l y) (p.reader may).1 p.served.taken) in
            waits_last last.2 (reader.no_pending _ _ _ (turns_calm (side_of x) last.0 _ k.0 last.1) last.3)
        by (inr due) =
            let marks = subst (λ l. writes x.replies l y.replies) (p.writer due).1 p.served.went in
            write_waits_last (p.writer due).0 (writer.no_pending _ _ _ k.1 marks)

    ends_calm : (x y : Server T C O S E) (r : Result (Unit {0}) (ServingError E)) → BothCalm x
        → EndsByStop piece refuses cut_off reads buffer_of writes answers words x r y → BothCalm y
    ends_calm x y r k (m, stop, goes, sent, is, value, same) = rw same (serves_calm x m k goes)

    fails_calm : (m y : Server T C O S E) (kind : ErrorKind) → BothCalm m → OutputFails writes m kind y → BothCalm y
    fails_calm m y kind k f = (rw f.rest k.0, by f.went)
      where
        by : writes m.replies (WriteMark.fault kind ∷ []) y.replies
            ⊎ (writes m.replies (WriteMark.wrote [] ∷ []) y.replies × (kind ≡ WriteZero)) → writer_calm y.replies
        by (inl came) = writer.calm_on _ _ _ k.1 came
        by (inr (came, _)) = writer.calm_on _ _ _ k.1 came

    stays_calm : (x y : Server T C O S E) (r : Result (Unit {0}) (ServingError E)) → BothCalm x
        → ServesPoll piece refuses cut_off reads buffer_of writes answers words x (Ready r) y → BothCalm y
    stays_calm x y (Ok u) k h = ends_calm x y (Ok tt) k h
    stays_calm x y (Err (Input e)) k h = ends_calm x y (Err (Input e)) k h
    stays_calm x y (Err OutOfMemory) k h = ends_calm x y (Err OutOfMemory) k h
    stays_calm x y (Err (Output kind)) k (m, goes, failed) = fails_calm m y kind (serves_calm x m k goes) failed

    pub serving_calm : CalmLaws (PolledByCalls (ServesPoll piece refuses cut_off reads buffer_of writes answers words)) BothCalm
    serving_calm = polled_calm (ServesPoll piece refuses cut_off reads buffer_of writes answers words) never_pends stays_calm
