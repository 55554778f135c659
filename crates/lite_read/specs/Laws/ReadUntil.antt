-- Laws of `read_until`.
use Rattle.std.specs.Prelude.{⊤, ◌≤◌, List, [], ◌∷◌, length, Result, ℕ, vec_capacity}
use Rattle.lite_read.specs.Uses.{◌∙◌, refl, ap, arith, Error, Poll, FutureLaws, FutureRunLaws, Ranks, ReadCounting}
use Rattle.lite_read.specs.Uses.{Runs, ReadMark, MarkLaws, future_laws_of, lent_still}
use Rattle.lite_read.specs.Laws.Gathers.{KeepLaws, gathers_before, gathers_runs}
use Rattle.lite_read.specs.ReadUntil.{UntilStays, CountsPiece, ReadsUntil, ReadsUntilByRoom, UntilLacksRoom, until}
use Rattle.lite_read.specs.Laws.Refusals.{RoomLaws, room_runs, gathers_weaker, pieces_weaker}
use Rattle.lite_read.specs.PollSteps.{AppendsMore}
use Rattle.lite_read.specs.declared.read_until.ReadUntilFuture.{ReadUntilFuture}

module _ {R : Type 0} where
  stays_none : (x : ReadUntilFuture R) → UntilStays x x
  stays_none x =
      record {
        reader = refl;
        buf = refl;
        byte = refl;
        start = refl;
        before = refl;
        grows = omega arith;
        room = omega arith;
      }

  -- The bytes that were in the vector before are still in it.
  module _ (x y : ReadUntilFuture R) where
    pub stays_within : UntilStays x y → x.start ≤ length x.buf.now.items → y.start ≤ length y.buf.now.items
    stays_within h within = omega arith

    stays_join : (z : ReadUntilFuture R) → UntilStays x y → UntilStays y z → UntilStays x z
    stays_join z h k =
        record {
          reader = lent_still x.reader y.reader z.reader h.reader k.reader;
          buf = lent_still x.buf y.buf z.buf h.buf k.buf;
          byte = k.byte ∙ h.byte;
          start = k.start ∙ h.start;
          before = rw (← h.start) k.before ∙ h.before;
          grows = omega (arith, h.grows, k.grows);
          room = omega (arith, h.room, k.room);
        }

  keeps : (m : Type 0) → KeepLaws (λ (x : ReadUntilFuture R). until x.byte m) UntilStays
  keeps m = record { none = stays_none; join = stays_join; same = λ x y k. ap (λ b. until b m) k.byte }

  module _ {reads : Runs ReadMark R} where
    -- The laws of `read_until`, whether an allocation may fail or not.
    pub until_runs : (may_refuse : Type 0) → MarkLaws reads → FutureRunLaws (ReadsUntil reads may_refuse)
    until_runs may_refuse = gathers_runs (keeps may_refuse)

    -- A step that does not yet return, followed by a poll result, is one run with that result.
    pub step_before : {m : Type 0} → MarkLaws reads → (x y z : ReadUntilFuture R) (a : Poll (Result ℕ Error))
        → AppendsMore reads m x y → ReadsUntil reads m y (a ∷ []) z → ReadsUntil reads m x (a ∷ []) z
    step_before {m} laws = gathers_before (keeps m) laws (λ x y k. k)

  module _ (buffer_of : R → List ℕ) where
    -- A vector that lacks room after a run that was pending lacked it before that run.
    pub lacks_sooner : (x y z : ReadUntilFuture R) → UntilStays x y → UntilLacksRoom buffer_of y z → UntilLacksRoom buffer_of x z
    lacks_sooner x y z s full = let here = rw s.byte at full in omega (arith, s.room, here)

    until_room : RoomLaws (λ x y v. until v.byte (UntilLacksRoom buffer_of x y)) UntilStays
        (λ x y. vec_capacity x.buf.now ≤ vec_capacity y.buf.now)
    until_room =
        record {
          keeps = λ x y. keeps (UntilLacksRoom buffer_of x y);
          none = λ x. omega arith;
          join = λ x y z h k. omega (arith, h, k);
          waits = λ x y z v. record { takes = λ p q b h. h; asks = λ p h. h };
          sooner = λ x y z v s h. pieces_weaker v.byte (λ held. UntilLacksRoom buffer_of y z)
              (λ held. UntilLacksRoom buffer_of x z) (CountsPiece v.byte) (λ held. lacks_sooner x y z s);
        }

    module _ {reads : Runs ReadMark R} where
      pub until_room_laws : {r : Ranks R} → MarkLaws reads → ReadCounting reads r
          → FutureLaws (λ x. r.counts x.reader.now × (x.start ≤ length x.buf.now.items)) (ReadsUntilByRoom reads buffer_of)
      until_room_laws laws c =
          future_laws_of (room_runs until_room laws)
          (λ x y l w k h.
          let told = h.gathered.folded in
          (c.counts_on _ _ told.marks k.0 told.came, stays_within x y h.gathered.stays k.1))

      -- A run in which an allocation fails only if the vector lacked room is one in which it may fail at any time.
      pub until_any : (x y : ReadUntilFuture R) (l : List (Poll (Result ℕ Error))) → ReadsUntilByRoom reads buffer_of x l y
          → ReadsUntil reads ⊤ x l y
      until_any x y l h =
          gathers_weaker (λ v. pieces_weaker v.byte (λ held. UntilLacksRoom buffer_of x y) (λ held. ⊤) (CountsPiece v.byte)
          (λ held full. tt)) x y l h.gathered
