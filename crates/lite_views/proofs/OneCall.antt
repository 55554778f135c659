-- `read`, `write`, `flush` and `close`, which are polled by calls: what the whole wait did to the reader or the writer.
use Rattle.std.specs.Prelude.{◌≡◌, ◌≤◌, ◌⊎◌, ℕ, zero, suc, List, [], ◌∷◌, ◌++◌, refl, drop, length, take, Result, Ok, Err, IfOk}
use Rattle.lite_views.specs.Uses.{Error, Gives, Known, Knows, MutBor, Poll, ReadMark, Ready, Pending, Runs, Stored}
use Rattle.lite_views.specs.Uses.{Stores, ReadsKnown, WriteMark, bytes_taken, replicate, knows_spends, spends_bytes}
use Rattle.lite_views.specs.Uses.{stores_kept, taken_both, ap, append-nil, inl, inr, sym, ◌∙◌, drop-append_seam}
use Rattle.lite_views.specs.Uses.{take-append_seam}
use Rattle.lite_io_base.specs.Marks.{moved_marks, read_marks}
use Rattle.lite_io_base.specs.Runs.{MarkLaws}
use Rattle.lite_io_base.specs.Stored.{Arrives}
use Rattle.lite_io_base.specs.WriteMarks.{done_marks, write_marks}
use Rattle.lite_base.specs.FutureLaws.{PolledByCalls}
use Rattle.lite_read.specs.Read.{Reads}
use Rattle.lite_read.specs.declared.read.ReadFuture.{ReadFuture}
use Rattle.lite_write.specs.Close.{Closes}
use Rattle.lite_write.specs.Flush.{Flushes}
use Rattle.lite_write.specs.Write.{Writes}
use Rattle.lite_write.specs.declared.close.CloseFuture.{CloseFuture}
use Rattle.lite_write.specs.declared.flush.FlushFuture.{FlushFuture}
use Rattle.lite_write.specs.declared.write.WriteFuture.{WriteFuture}
use lib.Seq.{take-nil}
use Rattle.std.proofs.lemmas.List.{length-take-le}
use Rattle.lite_views.specs.OneCall.{ArrivesAll, ReadsFront, WritesFront}
use Rattle.lite_views.specs.Answering.{WhenLeft}
use Rattle.lite_views.proofs.Futures.{when_left}

-- A future that is polled by calls on a part of it. A pending call leaves the mark `wait`. Each call keeps what `Same`
-- says.
module _ {F A M S : Type 0} (call : F → Poll A → F → Type 0) (part : F → S) {run : Runs M S} (laws : MarkLaws run)
    (wait : M) (Same : F → F → Type 0) (pauses : (x y : F) → call x Pending y → run (part x) (wait ∷ []) (part y))
    (itself : (x : F) → Same x x) (same : (x y z : F) (c : Poll A) → call x c y → Same y z → Same x z) where
  -- some calls were pending, and then one returned the value
  pub record LastCall (x : F) (v : A) (y : F) : Type 0 where
    pub before : F
    pub waits : ℕ
    pub came : run (part x) (replicate waits wait) (part before)
    pub last : call before (Ready v) y
    pub stays : Same x before

  pub last_call : (x y : F) (l : List (Poll A)) (v : A) → Gives l v → PolledByCalls call x l y → LastCall x v y
  last_call x y [] v g h = absurd g
  last_call x y (Pending ∷ l) v g h =
      let more = last_call h.0 y l v g h.2 in
      record {
        before = more.before;
        waits = suc more.waits;
        came =
            laws.follows (part x) (part h.0) (part more.before) (wait ∷ []) (replicate more.waits wait)
            (pauses x h.0 h.1) more.came;
        last = more.last;
        stays = same x h.0 more.before Pending h.1 more.stays;
      }
  last_call x y (Ready r ∷ l) v g h =
      record { before = x; waits = zero; came = laws.rests (part x); last = rw g.0 at h.0; stays = itself x }

  pub calls_stay : (x y : F) (l : List (Poll A)) → PolledByCalls call x l y → Same x y
  calls_stay x y [] h = rw h (itself x)
  calls_stay x y (Pending ∷ l) h = same x h.0 y Pending h.1 (calls_stay h.0 y l h.2)
  calls_stay x y (Ready r ∷ l) h = same x y y (Ready r) h.0 (itself y)

waits_take : (n : ℕ) → bytes_taken (replicate n WriteMark.pending) ≡ []
waits_take zero = refl
waits_take (suc n) = waits_take n

taken_behind : (n : ℕ) (l : List WriteMark) → bytes_taken (replicate n WriteMark.pending ++ l) ≡ bytes_taken l
taken_behind n l = taken_both (replicate n WriteMark.pending) l ∙ ap (λ xs. xs ++ bytes_taken l) (waits_take n)

taken_offered : (n : ℕ) (buf : List ℕ) → bytes_taken (write_marks (Ready (Ok n)) buf) ≡ take n buf
taken_offered n [] = sym (take-nil n)
taken_offered n (x ∷ xs) = append-nil (take n (x ∷ xs))

taken_done : (m : WriteMark) → Arrives m → bytes_taken (m ∷ []) ≡ []
taken_done WriteMark.flushed a = refl
taken_done WriteMark.closed a = refl
taken_done _ a = absurd a

module _ {W : Type 0} {writes : Runs WriteMark W} (laws : MarkLaws writes) (stored : Stored W) where
  -- after a flush or a close that some pendings came before, all that the writer keeps has arrived
  done_kept : (x y : W) (n : ℕ) (m : WriteMark) → Arrives m → Stores writes stored x
      → writes x (replicate n WriteMark.pending ++ m ∷ []) y
      → (stored.kept y ≡ stored.kept x) × (stored.arrived y ≡ stored.kept x)
  done_kept x y n m done stores ran =
      let none = taken_behind n (m ∷ []) ∙ taken_done m done in
      let kept : stored.kept y ≡ stored.kept x =
      stores_kept writes stored x y _ stores ran ∙ rw (none, append-nil) refl in
      let arrived = stored.arrives x y _ m stores.0 (stores.1 _ y ran) done in
      (kept, arrived ∙ kept)

-- `write`
module _ {W : Type 0} where
  -- the future keeps its reference and the bytes
  abbrev SameWrite : WriteFuture W → WriteFuture W → Type 0
  SameWrite x y = (y.writer.ghost_name ≡ x.writer.ghost_name) × (y.buf ≡ x.buf)

  module _ {writes : Runs WriteMark W} where
    same_write : (x y z : WriteFuture W) (c : Poll (Result ℕ Error)) → Writes writes x c y → SameWrite y z → SameWrite x z
    same_write x y z c h k = (k.0 ∙ ap (λ f. f.writer.ghost_name) h.stays, k.1 ∙ ap (λ f. f.buf) h.stays)

    module _ (laws : MarkLaws writes) (stored : Stored W) where
      write_kept : (x y : WriteFuture W) (l : List (Poll (Result ℕ Error))) (v : Result ℕ Error) → Gives l v
          → Stores writes stored x.writer.now → PolledByCalls (Writes writes) x l y
          → IfOk v (λ n. WritesFront (stored.kept x.writer.now) x.buf.now n (stored.kept y.writer.now))
      write_kept x y l (Err e) g stores ran = tt
      write_kept x y l (Ok n) g stores ran =
          let c =
          last_call (Writes writes) (λ f. f.writer.now) laws WriteMark.pending SameWrite (λ x y h. h.came)
          (λ x. (refl, refl)) same_write x y l (Ok n) g ran in
          let buf : c.before.buf.now ≡ x.buf.now = ap (λ b. b.now) c.stays.1 in
          let marks = write_marks (Ready (Ok n)) c.before.buf.now in
          let whole =
          laws.follows x.writer.now c.before.writer.now y.writer.now (replicate c.waits WriteMark.pending) marks c.came
          c.last.came in
          let bytes = taken_behind c.waits marks ∙ taken_offered n c.before.buf.now in (
            rw buf at c.last.bound,
            stores_kept writes stored x.writer.now y.writer.now _ stores whole ∙ rw (bytes, buf) refl,
          )

      pub wrote_left : {E : Type 0} (x : WriteFuture W) → Stores writes stored x.writer.now
          → WhenLeft E (PolledByCalls (Writes writes)) x (λ y. y.writer.ghost_name ≡ x.writer.ghost_name)
          (λ y r. IfOk r (λ n. WritesFront (stored.kept x.writer.now) x.buf.now n (stored.kept y.writer.now)))
      wrote_left x stores =
          when_left (PolledByCalls (Writes writes)) x (λ y. y.writer.ghost_name ≡ x.writer.ghost_name)
          (λ y r. IfOk r (λ n. WritesFront (stored.kept x.writer.now) x.buf.now n (stored.kept y.writer.now))) refl
          (λ ins y ran. (calls_stay (Writes writes) (λ f. f.writer.now) laws WriteMark.pending SameWrite (λ x y h. h.came)
          (λ x. (refl, refl)) same_write x y ins ran).0)
          (λ ins y v gives ran. write_kept x y ins v gives stores ran)

-- A future that flushes or closes a writer, `done`: all that the writer keeps has arrived.
module _ {W F : Type 0} {writes : Runs WriteMark W} (laws : MarkLaws writes) (stored : Stored W)
    (call : F → Poll (Result (Unit {0}) Error) → F → Type 0) (writer : F → MutBor W) (done : WriteMark) (is_done : Arrives done)
    (came : (x y : F) (c : Poll (Result (Unit {0}) Error)) → call x c y
    → writes (writer x).now (done_marks done c) (writer y).now)
    (stays : (x y : F) (c : Poll (Result (Unit {0}) Error)) → call x c y
    → (writer y).ghost_name ≡ (writer x).ghost_name) where
  abbrev SameWriter : F → F → Type 0
  SameWriter x y = (writer y).ghost_name ≡ (writer x).ghost_name

  abbrev AllArrives : F → F → Result (Unit {0}) Error → Type 0
  AllArrives x y r =
      IfOk r
      (λ u. ArrivesAll (stored.kept (writer x).now) (stored.kept (writer y).now) (stored.arrived (writer y).now))

  same_writer : (x y z : F) (c : Poll (Result (Unit {0}) Error)) → call x c y → SameWriter y z → SameWriter x z
  same_writer x y z c h k = k ∙ stays x y c h

  all_arrives : (x y : F) (l : List (Poll (Result (Unit {0}) Error))) (v : Result (Unit {0}) Error) → Gives l v
      → Stores writes stored (writer x).now → PolledByCalls call x l y → AllArrives x y v
  all_arrives x y l (Err e) g stores ran = tt
  all_arrives x y l (Ok u) g stores ran =
      let c =
      last_call call (λ f. (writer f).now) laws WriteMark.pending SameWriter (λ x y h. came x y Pending h) (λ x. refl)
      same_writer x y l (Ok u) g ran in
      done_kept laws stored (writer x).now (writer y).now c.waits done is_done stores
      (laws.follows (writer x).now (writer c.before).now (writer y).now (replicate c.waits WriteMark.pending) (done ∷ [])
      c.came (came c.before y (Ready (Ok u)) c.last))

  arrived_left : {E : Type 0} (x : F) → Stores writes stored (writer x).now
      → WhenLeft E (PolledByCalls call) x (SameWriter x) (AllArrives x)
  arrived_left x stores =
      when_left (PolledByCalls call) x (SameWriter x) (AllArrives x) refl
      (λ ins y ran. calls_stay call (λ f. (writer f).now) laws WriteMark.pending SameWriter (λ x y h. came x y Pending h)
      (λ x. refl) same_writer x y ins ran)
      (λ ins y v gives ran. all_arrives x y ins v gives stores ran)

module _ {W E : Type 0} {writes : Runs WriteMark W} (laws : MarkLaws writes) (stored : Stored W) where
  pub flushed_left : (x : FlushFuture W) → Stores writes stored x.writer.now
      → WhenLeft E (PolledByCalls (Flushes writes)) x (λ y. y.writer.ghost_name ≡ x.writer.ghost_name)
      (λ y r. IfOk r
      (λ u. ArrivesAll (stored.kept x.writer.now) (stored.kept y.writer.now) (stored.arrived y.writer.now)))
  flushed_left x stores =
      arrived_left laws stored (Flushes writes) (λ f. f.writer) WriteMark.flushed tt (λ x y c h. h.came)
      (λ x y c h. ap (λ f. f.writer.ghost_name) h.stays) x stores

  pub closed_left : (x : CloseFuture W) → Stores writes stored x.writer.now
      → WhenLeft E (PolledByCalls (Closes writes)) x (λ y. y.writer.ghost_name ≡ x.writer.ghost_name)
      (λ y r. IfOk r
      (λ u. ArrivesAll (stored.kept x.writer.now) (stored.kept y.writer.now) (stored.arrived y.writer.now)))
  closed_left x stores =
      arrived_left laws stored (Closes writes) (λ f. f.writer) WriteMark.closed tt (λ x y c h. h.came)
      (λ x y c h. ap (λ f. f.writer.ghost_name) h.stays) x stores

-- `read`
spends_waits : (n : ℕ) (xs ys : List ℕ) (l : List ReadMark) → ReadsKnown xs (replicate n ReadMark.pending ++ l) ys
    → ReadsKnown xs l ys
spends_waits zero xs ys l h = h
spends_waits (suc n) xs ys l h = spends_waits n xs ys l h

-- the bytes that were moved into a buffer came first
moved_first : (room got xs ys : List ℕ) → ReadsKnown xs (moved_marks room got) ys → xs ≡ got ++ ys
moved_first room (b ∷ got) xs ys h = spends_bytes (b ∷ got) xs ys h
moved_first (r ∷ room) [] xs ys h = sym h.1
moved_first [] [] xs ys h = sym h

-- no byte was moved
moved_none : (room xs ys : List ℕ) → ReadsKnown xs (moved_marks room []) ys → (length room ≡ 0) ⊎ (xs ≡ [])
moved_none (r ∷ room) xs ys h = inr h.0
moved_none [] xs ys h = inl refl

read_first : (n : ℕ) (buf xs ys : List ℕ) → n ≤ length buf → ReadsKnown xs (moved_marks buf (take n buf)) ys
    → ReadsFront xs (length buf) n buf ys
read_first n buf xs ys fits told =
    let all = moved_first buf (take n buf) xs ys told in
    let size = length-take-le n buf fits in
    let front : take n xs ≡ take n buf =
    rw all (ap (λ k. take k (take n buf ++ ys)) (sym size) ∙ take-append_seam (take n buf) ys) in
    let rest : drop n xs ≡ ys =
    rw all (ap (λ k. drop k (take n buf ++ ys)) (sym size) ∙ drop-append_seam (take n buf) ys) in
    (fits, sym front, sym rest, λ none. moved_none buf xs ys (rw none at told))

module _ {R : Type 0} where
  abbrev SameRead : ReadFuture R → ReadFuture R → Type 0
  SameRead x y =
      (y.buf.ghost_name ≡ x.buf.ghost_name) × (y.reader.ghost_name ≡ x.reader.ghost_name)
      × (length y.buf.now ≡ length x.buf.now)

  module _ {reads : Runs ReadMark R} where
    same_read : (x y z : ReadFuture R) (c : Poll (Result ℕ Error)) → Reads reads x c y → SameRead y z → SameRead x z
    same_read x y z c h k = (
      k.0 ∙ ap (λ f. f.buf.ghost_name) h.stays,
      k.1 ∙ ap (λ f. f.reader.ghost_name) h.stays,
      k.2 ∙ h.room,
    )

    module _ (laws : MarkLaws reads) (known : Known R) where
      read_came : (x y : ReadFuture R) (l : List (Poll (Result ℕ Error))) (v : Result ℕ Error) → Gives l v
          → Knows reads known x.reader.now → PolledByCalls (Reads reads) x l y
          → IfOk v
          (λ n. ReadsFront (known.left x.reader.now) (length x.buf.now) n y.buf.now (known.left y.reader.now))
      read_came x y l (Err e) g knows ran = tt
      read_came x y l (Ok n) g knows ran =
          let c =
          last_call (Reads reads) (λ f. f.reader.now) laws ReadMark.pending SameRead (λ x y h. h.came)
          (λ x. (refl, refl, refl)) same_read x y l (Ok n) g ran in
          let marks = read_marks (Ready (Ok n)) y.buf.now in
          let whole =
          laws.follows x.reader.now c.before.reader.now y.reader.now (replicate c.waits ReadMark.pending) marks c.came
          c.last.came in
          let told = spends_waits c.waits _ _ marks (knows_spends reads known x.reader.now y.reader.now _ knows whole) in
          let room : length y.buf.now ≡ length x.buf.now = c.last.room ∙ c.stays.2 in
          rw room at (read_first n y.buf.now _ _ c.last.bound told)

      pub read_left : {E : Type 0} (x : ReadFuture R) → Knows reads known x.reader.now
          → WhenLeft E (PolledByCalls (Reads reads)) x
          (λ y. (y.buf.ghost_name ≡ x.buf.ghost_name) × (y.reader.ghost_name ≡ x.reader.ghost_name))
          (λ y r. IfOk r
          (λ n. ReadsFront (known.left x.reader.now) (length x.buf.now) n y.buf.now (known.left y.reader.now)))
      read_left x knows =
          when_left (PolledByCalls (Reads reads)) x
          (λ y. (y.buf.ghost_name ≡ x.buf.ghost_name) × (y.reader.ghost_name ≡ x.reader.ghost_name))
          (λ y r. IfOk r
          (λ n. ReadsFront (known.left x.reader.now) (length x.buf.now) n y.buf.now (known.left y.reader.now))) (refl, refl)
          (λ ins y ran.
          let s =
          calls_stay (Reads reads) (λ f. f.reader.now) laws ReadMark.pending SameRead (λ x y h. h.came)
          (λ x. (refl, refl, refl)) same_read x y ins ran in
          (s.0, s.1))
          (λ ins y v gives ran. read_came x y ins v gives knows ran)
