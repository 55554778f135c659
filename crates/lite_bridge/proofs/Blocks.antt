-- Laws of reads, writes and seeks that wait.
use Rattle.std.specs.Prelude.{◌≡◌, ℕ, suc, List, [], ◌∷◌, ◌⊎◌, Err, Ok, Result}
use Rattle.lite_bridge.specs.Uses.{◌∙◌, ap, inl, inr, refl, subst, sym, ReadsAtMost, WritesAtMost, Error, ErrorKind, SeekFrom, Poll, Pending, Ready}
use Rattle.lite_bridge.specs.Uses.{Gives, Runs, by_kind, ReadMark, fill_marks, read_marks, MarkLaws, WriteMark, done_marks, write_marks}
use Rattle.lite_bridge.specs.Uses.{PolledByCalls}
use Rattle.lite_read.specs.Read.{Reads}
use Rattle.lite_read.specs.Seek.{Seeks}
use Rattle.lite_read.specs.declared.read.ReadFuture.{ReadFuture}
use Rattle.lite_read.specs.declared.seek.SeekFuture.{SeekFuture}
use Rattle.lite_write.specs.Flush.{Flushes}
use Rattle.lite_write.specs.Write.{Writes}
use Rattle.lite_write.specs.declared.flush.FlushFuture.{FlushFuture}
use Rattle.lite_write.specs.declared.write.WriteFuture.{WriteFuture}
use Rattle.lite_bridge.specs.Filling.{FillsLent}
use Rattle.lite_bridge.proofs.Waits.{gave_blocks, gave_last, gave_stays, read_at_most, refused_reads}
use Rattle.lite_bridge.proofs.Waits.{refused_writes}
use Rattle.lite_bridge.specs.Waits.{Awaits, Blocks, GaveOrRefused, NoMemoryToWait, SeekBlocks}
use Rattle.lite_bridge.specs.declared.filling.Filling.{Filling}

module _ {T : Type 0} {reads : Runs ReadMark T} where
  pub read_blocks : {unused : Type 0} → MarkLaws reads → (x y : ReadFuture T) (r : Result ℕ Error)
      → GaveOrRefused unused (PolledByCalls (Reads reads)) x r y
      → Blocks unused reads ReadMark.pending (λ c. read_marks c y.buf.now) x.reader.now r y.reader.now
  read_blocks laws =
      gave_blocks (Reads reads) laws (λ (x : ReadFuture T). x.reader.now) ReadMark.pending
      (λ c y. read_marks c y.buf.now) (λ y. refl) (λ x y c h. h.came)

  of_last : {unused : Type 0} (x y : ReadFuture T) (r : Result ℕ Error) → ((m : ReadFuture T) × Reads reads m (Ready r) y)
      ⊎ (NoMemoryToWait unused r × (y ≡ x)) → ReadsAtMost r y.buf.now
  of_last x y r (inl h) = read_at_most r y.buf.now h.1.bound
  of_last x y r (inr h) = refused_reads r y.buf.now h.0

  pub read_in_room : {unused : Type 0} (x y : ReadFuture T) (r : Result ℕ Error) → GaveOrRefused unused (PolledByCalls (Reads reads)) x r y
      → ReadsAtMost r y.buf.now
  read_in_room x y r h = of_last x y r (gave_last (Reads reads) x y r h)

  pub reader_stays : {unused : Type 0} (x y : ReadFuture T) (r : Result ℕ Error) → GaveOrRefused unused (PolledByCalls (Reads reads)) x r y
      → y.reader.ghost_name ≡ x.reader.ghost_name
  reader_stays =
      gave_stays (Reads reads) (λ (x : ReadFuture T). x.reader.ghost_name)
      (λ x y c h. ap (λ (t : ReadFuture T). t.reader.ghost_name) h.stays)

  pub buf_stays : {unused : Type 0} (x y : ReadFuture T) (r : Result ℕ Error) → GaveOrRefused unused (PolledByCalls (Reads reads)) x r y
      → y.buf.ghost_name ≡ x.buf.ghost_name
  buf_stays = gave_stays (Reads reads) (λ (x : ReadFuture T). x.buf.ghost_name)
      (λ x y c h. ap (λ (t : ReadFuture T). t.buf.ghost_name) h.stays)

module _ {T : Type 0} {writes : Runs WriteMark T} where
  bytes_stay : {unused : Type 0} (x y : WriteFuture T) (r : Result ℕ Error) → GaveOrRefused unused (PolledByCalls (Writes writes)) x r y
      → y.buf.now ≡ x.buf.now
  bytes_stay = gave_stays (Writes writes) (λ (x : WriteFuture T). x.buf.now)
      (λ x y c h. ap (λ (t : WriteFuture T). t.buf.now) h.stays)

  pub write_blocks : {unused : Type 0} → MarkLaws writes → (x y : WriteFuture T) (r : Result ℕ Error)
      → GaveOrRefused unused (PolledByCalls (Writes writes)) x r y
      → Blocks unused writes WriteMark.pending (λ c. write_marks c x.buf.now) x.writer.now r y.writer.now
  write_blocks laws x y r h =
      rw (← (bytes_stay x y r h))
      (gave_blocks (Writes writes) laws (λ (x : WriteFuture T). x.writer.now) WriteMark.pending
      (λ c y. write_marks c y.buf.now) (λ y. refl)
      (λ x y c h. rw (ap (λ (t : WriteFuture T). t.buf.now) h.stays) h.came) x y r h)

  within_last : {unused : Type 0} (x y : WriteFuture T) (r : Result ℕ Error) → y.buf.now ≡ x.buf.now
      → ((m : WriteFuture T) × Writes writes m (Ready r) y) ⊎ (NoMemoryToWait unused r × (y ≡ x)) → WritesAtMost r x.buf.now
  within_last x y r e (inl h) =
      subst (λ (b : List ℕ). WritesAtMost r b) (sym (ap (λ (t : WriteFuture T). t.buf.now) h.1.stays) ∙ e) h.1.bound
  within_last x y r e (inr h) = refused_writes r x.buf.now h.0

  pub write_within : {unused : Type 0} (x y : WriteFuture T) (r : Result ℕ Error) → GaveOrRefused unused (PolledByCalls (Writes writes)) x r y
      → WritesAtMost r x.buf.now
  write_within x y r h = within_last x y r (bytes_stay x y r h) (gave_last (Writes writes) x y r h)

  pub writer_stays : {unused : Type 0} (x y : WriteFuture T) (r : Result ℕ Error) → GaveOrRefused unused (PolledByCalls (Writes writes)) x r y
      → y.writer.ghost_name ≡ x.writer.ghost_name
  writer_stays =
      gave_stays (Writes writes) (λ (x : WriteFuture T). x.writer.ghost_name)
      (λ x y c h. ap (λ (t : WriteFuture T). t.writer.ghost_name) h.stays)

  pub flush_blocks : {unused : Type 0} → MarkLaws writes → (x y : FlushFuture T) (r : Result (Unit {0}) Error)
      → GaveOrRefused unused (PolledByCalls (Flushes writes)) x r y
      → Blocks unused writes WriteMark.pending (λ c. done_marks WriteMark.flushed c) x.writer.now r y.writer.now
  flush_blocks laws =
      gave_blocks (Flushes writes) laws (λ (x : FlushFuture T). x.writer.now) WriteMark.pending
      (λ c y. done_marks WriteMark.flushed c) (λ y. refl) (λ x y c h. h.came)

  pub flushed_stays : {unused : Type 0} (x y : FlushFuture T) (r : Result (Unit {0}) Error)
      → GaveOrRefused unused (PolledByCalls (Flushes writes)) x r y → y.writer.ghost_name ≡ x.writer.ghost_name
  flushed_stays =
      gave_stays (Flushes writes) (λ (x : FlushFuture T). x.writer.ghost_name)
      (λ x y c h. ap (λ (t : FlushFuture T). t.writer.ghost_name) h.stays)

module _ {T : Type 0} (seeks : T → SeekFrom → Poll (Result ℕ ErrorKind) → T → Type 0) where
  pub seeker_stays : {unused : Type 0} (x y : SeekFuture T) (r : Result ℕ Error) → GaveOrRefused unused (PolledByCalls (Seeks seeks)) x r y
      → y.seeker.ghost_name ≡ x.seeker.ghost_name
  seeker_stays =
      gave_stays (Seeks seeks) (λ (x : SeekFuture T). x.seeker.ghost_name)
      (λ x y c h. ap (λ (t : SeekFuture T). t.seeker.ghost_name) h.stays)

  sought : (to : SeekFrom) (ins : List (Poll (Result ℕ Error))) (x y : SeekFuture T) (r : Result ℕ Error) → x.pos ≡ to
      → Gives ins r
      → PolledByCalls (Seeks seeks) x ins y
      → (n : ℕ) × (last : T) × Awaits seeks to n x.seeker.now last × seeks last to (by_kind (Ready r)) y.seeker.now
  sought to [] x y r e g h = absurd g
  sought to (Pending ∷ ins) x y r e g h =
      let m = h.0 in
      let rest = sought to ins m y r (ap (λ (t : SeekFuture T). t.pos) h.1.stays ∙ e) g h.2 in (
        suc rest.0,
        rest.1,
        (m.seeker.now, rw (← e) h.1.sought, rest.2),
        rest.3,
      )
  sought to (Ready a ∷ ins) x y r e g h = (
    0,
    x.seeker.now,
    refl,
    rw (← g.0) (rw (← e) h.0.sought),
  )

  pub seek_blocks : {unused : Type 0} (x y : SeekFuture T) (r : Result ℕ Error) → GaveOrRefused unused (PolledByCalls (Seeks seeks)) x r y
      → SeekBlocks unused seeks x.seeker.now x.pos r y.seeker.now
  seek_blocks x y r (inl h) = inl (sought x.pos h.0 x y r refl h.1 h.2)
  seek_blocks x y r (inr h) = inr (h.0, ap (λ (t : SeekFuture T). t.seeker.now) h.1)

module _ {T : Type 0} {reads : Runs ReadMark T} {buffer_of : T → List ℕ} where
  pub fill_blocks : {unused : Type 0} → MarkLaws reads → (x y : Filling T) (r : Result (Unit {0}) Error)
      → GaveOrRefused unused (PolledByCalls (FillsLent reads buffer_of)) x r y
      → Blocks unused reads ReadMark.pending (λ c. fill_marks c (buffer_of y.io.now)) x.io.now r y.io.now
  fill_blocks laws =
      gave_blocks (FillsLent reads buffer_of) laws (λ (x : Filling T). x.io.now) ReadMark.pending
      (λ c y. fill_marks c (buffer_of y.io.now)) (λ y. refl) (λ x y c h. h.came)

  pub filling_stays : {unused : Type 0} (x y : Filling T) (r : Result (Unit {0}) Error)
      → GaveOrRefused unused (PolledByCalls (FillsLent reads buffer_of)) x r y → y.io.ghost_name ≡ x.io.ghost_name
  filling_stays =
      gave_stays (FillsLent reads buffer_of) (λ (x : Filling T). x.io.ghost_name)
      (λ x y c h. ap (λ (t : Filling T). t.io.ghost_name) h.stays)

  -- what is lent then, in place of nothing
  pub fill_lends : {unused A : Type 0} → MarkLaws reads → (x y : Filling T) (r : Result (Unit {0}) Error) (s : A) → r ≡ Ok tt
      → GaveOrRefused unused (PolledByCalls (FillsLent reads buffer_of)) x r y
      → Blocks unused reads ReadMark.pending (λ (c : Poll (Result A Error)). fill_marks c (buffer_of y.io.now)) x.io.now
      (Ok s) y.io.now
  fill_lends {unused = unused} laws x y r s e h =
      subst (λ (t : Result (Unit {0}) Error). Blocks unused reads ReadMark.pending
      (λ c. fill_marks c (buffer_of y.io.now)) x.io.now t y.io.now) e (fill_blocks laws x y r h)

  pub fill_fails : {unused : Type 0} (A : Type 0) → MarkLaws reads → (x y : Filling T) (r : Result (Unit {0}) Error) (e : Error)
      → r ≡ Err e
      → GaveOrRefused unused (PolledByCalls (FillsLent reads buffer_of)) x r y
      → Blocks unused reads ReadMark.pending (λ (c : Poll (Result A Error)). fill_marks c (buffer_of y.io.now)) x.io.now
      (Err e) y.io.now
  fill_fails {unused = unused} A laws x y r e is h =
      subst (λ (t : Result (Unit {0}) Error). Blocks unused reads ReadMark.pending
      (λ c. fill_marks c (buffer_of y.io.now)) x.io.now t y.io.now) is (fill_blocks laws x y r h)
