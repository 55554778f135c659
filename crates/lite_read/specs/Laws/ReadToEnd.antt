-- Laws of `read_to_end`.
use Rattle.std.specs.Prelude.{⊤, ◌≤◌, ◌+◌, ◌-◌, ℕ, List, [], ◌∷◌, ◌++◌, length, Result, ◌≡◌, Ok, Err}
use Rattle.lite_read.specs.Uses.{◌∙◌, refl, ap, sym, arith, length-append, append-nil, append_assoc, length-take-le}
use Rattle.lite_read.specs.Uses.{FoldsTo, Error, Poll, Terminates-map, FutureLaws, FutureRunLaws, Ranks, Runs}
use Rattle.lite_read.specs.Uses.{ReadCounting, GivenRun, ReadMark, MarkLaws, future_laws_of, lent_still, Sameness}
use Rattle.lite_read.specs.Uses.{FutureSteadyLawsBy, SteadyReadLaws, SameByKind}
use Rattle.lite_base.specs.Ranks.{Terminates}
use Rattle.lite_read.specs.Laws.Gathers.{KeepLaws, gathers_before, gathers_runs, gathers_alike}
use Rattle.lite_read.specs.ReadToEnd.{CanAppend, ToEndStays, VectorGrows, ReadsToEnd, ReadsToEndByRoom, ToEndLacksRoom, appends, Appended}
use Rattle.lite_read.specs.Laws.Refusals.{RoomLaws, room_runs, appends_weaker, gathers_weaker}
use Rattle.lite_read.specs.ReadFold.{ReadFold}
use Rattle.lite_read.specs.Laws.ReadFold.{takes_given}
use Rattle.lite_read.specs.PollSteps.{AnswersUntrimmed, ReadsSome}
use Rattle.lite_read.specs.declared.read_to_end.ReadToEndFuture.{ReadToEndFuture}
use Rattle.lite_read.specs.Laws.Deterministic.{GivenBy, TakenAt, deterministic_by}
use Rattle.lite_read.specs.Deterministic.{IsDeterministic}

-- The fold of `read_to_end` can append any bytes.
pub appends_all : (m : Type 0) (start : ℕ) (g xs : List ℕ) → FoldsTo (appends m start).takes g xs (g ++ xs)
appends_all m start g [] = sym (append-nil g)
appends_all m start g (x ∷ xs) = (
  g ++ x ∷ [],
  refl,
  rw (← (append_assoc g (x ∷ []) xs)) (appends_all m start (g ++ x ∷ []) xs),
)

pub grown : (m : Type 0) (start : ℕ) (p q xs : List ℕ) → FoldsTo (appends m start).takes p xs q → length p ≤ length q
grown m start p q [] h = omega (arith, ap length h)
grown m start p q (x ∷ xs) h = omega (arith, ap length h.1 ∙ length-append p (x ∷ []), grown m start h.0 q xs h.2)

module _ {R A : Type 0} where
  stays_none : (x : ReadToEndFuture R A) → ToEndStays x x
  stays_none x = record { reader = refl; buf = refl; start = refl }

  stays_join : (x y z : ReadToEndFuture R A) → ToEndStays x y → ToEndStays y z → ToEndStays x z
  stays_join x y z h k =
      record {
        reader = lent_still x.reader y.reader z.reader h.reader k.reader;
        buf = lent_still x.buf y.buf z.buf h.buf k.buf;
        start = k.start ∙ h.start;
      }

  -- If the reader's runs of bytes and errors terminate, so do the steps of a poll of `read_to_end`.
  pub some_falls : {m : Type 0} {reads : Runs ReadMark R} (counts : R → Type 0)
      → ((s : R) → counts s → Terminates (GivenRun reads) s) → (x : ReadToEndFuture R A)
      → CanAppend counts x → Terminates (ReadsSome m reads) x
  some_falls counts ends x can =
      Terminates-map (λ (v : ReadToEndFuture R A). v.reader.now) takes_given x (ends x.reader.now can.counts)

  module _ {m : Type 0} {reads : Runs ReadMark R} {r : Ranks R} where
    pub steps_on : ReadCounting reads r → (x y : ReadToEndFuture R A) → CanAppend r.counts x → ReadsSome m reads x y
        → CanAppend r.counts y
    steps_on c x y can t =
        record {
          started =
              omega (
                arith,
                t.stays.0.start,
                can.started,
                length-take-le x.filled x.buf.now.items can.within,
                length-take-le y.filled y.buf.now.items t.stays.1.within,
                grown m x.start _ _ t.taken t.folds,
              );
          within = t.stays.1.within;
          counts = c.counts_on x.reader.now y.reader.now _ can.counts t.came;
        }

  keeps : (m : Type 0) → KeepLaws (λ (x : ReadToEndFuture R A). appends m x.start) ToEndStays
  keeps m = record { none = stays_none; join = stays_join; same = λ x y k. ap (appends m) k.start }

  module _ (m : Type 0) {reads : Runs ReadMark R} (laws : MarkLaws reads) where
    pub append_runs : FutureRunLaws (ReadsToEnd {A = A} m reads)
    append_runs = gathers_runs (keeps m) laws

    -- A step that does not yet return, followed by a poll result, is one run with that result.
    pub step_before : (x y z : ReadToEndFuture R A) (a : Poll (Result ℕ Error)) → ReadsSome m reads x y
        → AnswersUntrimmed m reads y a z → AnswersUntrimmed m reads x a z
    step_before = gathers_before (keeps m) laws (λ x y k. k.0)

  -- A vector that lacks room after a run that was pending lacked it before that run.
  lacks_sooner : (x y z : ReadToEndFuture R A) → VectorGrows x y → ToEndLacksRoom (length y.buf.now.items) (length z.buf.now.items) y
      → ToEndLacksRoom (length x.buf.now.items) (length z.buf.now.items) x
  lacks_sooner x y z h full = (
    full.0 + (length y.buf.now.items - length x.buf.now.items),
    omega (arith, h.items, full.1),
    omega (arith, h.items, h.capacity, h.room, full.1, full.2),
  )

  -- The fold of `read_to_end` in a run from `x` to `y`. An allocation may fail only if the vector of `x` is too small
  -- for the bytes of `y` and the next read.
  abbrev appends_by_room : ReadToEndFuture R A → ReadToEndFuture R A → ReadToEndFuture R A
      → ReadFold (List ℕ) (Result ℕ Error)
  appends_by_room x y v = appends (ToEndLacksRoom (length x.buf.now.items) (length y.buf.now.items) x) v.start

  to_end_room : RoomLaws appends_by_room ToEndStays VectorGrows
  to_end_room =
      record {
        keeps = λ x y. keeps (ToEndLacksRoom (length x.buf.now.items) (length y.buf.now.items) x);
        none = λ x. record { items = omega arith; capacity = omega arith; room = omega arith };
        join = λ x y z h k. record {
          items = omega (arith, h.items, k.items);
          capacity = omega (arith, h.capacity, k.capacity);
          room = omega (arith, h.items, k.items, h.room, k.room);
        };
        waits = λ x y z v. record { takes = λ p q b h. h; asks = λ p h. h };
        sooner = λ x y z v s h. appends_weaker v.start (λ g. ToEndLacksRoom (length y.buf.now.items) (length z.buf.now.items) y)
            (λ g. ToEndLacksRoom (length x.buf.now.items) (length z.buf.now.items) x) (λ g. lacks_sooner x y z h);
      }

  module _ {reads : Runs ReadMark R} where
    pub to_end_room_laws : {r : Ranks R} → MarkLaws reads → ReadCounting reads r
        → FutureLaws (λ x. (x.start ≤ length x.buf.now.items) × r.counts x.reader.now) (ReadsToEndByRoom {A = A} reads)
    to_end_room_laws laws c =
        future_laws_of (room_runs to_end_room laws)
        (λ x y l w k h.
        let told = h.gathered.folded in
        (omega (arith, h.gathered.stays.start, (h.grows w).items, k.0), c.counts_on _ _ told.marks k.1 told.came))

    -- A run in which an allocation fails only if the vector lacked room is one in which it may fail at any time.
    pub to_end_any : (x y : ReadToEndFuture R A) (l : List (Poll (Result ℕ Error))) → ReadsToEndByRoom reads x l y
        → ReadsToEnd ⊤ reads x l y
    to_end_any x y l h =
        gathers_weaker (λ v. appends_weaker v.start (λ g. ToEndLacksRoom (length x.buf.now.items) (length y.buf.now.items) x) (λ g. ⊤)
        (λ g full. tt)) x y l h.gathered

-- `read_to_end` is steady over a steady reader if no allocation fails, and calm over a calm one.

given_by : (start : ℕ) (g : List ℕ) (l : List ReadMark) (v : Result ℕ Error) → Appended ⊥ start g l v
    → GivenBy ⊥ (TakenAt (appends ⊥ start) g) l
given_by start g (ReadMark.end ∷ []) (Ok n) h = GivenBy.at_mark _ (λ n. n) (λ t. cc t.2) tt
given_by start g (ReadMark.fault kind ∷ []) (Err e) h = GivenBy.at_mark _ (λ n. n) (λ t. cc t.2) tt
given_by start g [] (Err e) h = absurd h.0
given_by start g _ v h = absurd h

one_value : (start : ℕ) (g : List ℕ) (l : List ReadMark) (v w : Result ℕ Error) → Appended ⊥ start g l v
    → Appended ⊥ start g l w → SameByKind v w
one_value start g (ReadMark.end ∷ []) (Ok n) (Ok k) h j = omega (arith, h, j)
one_value start g (ReadMark.fault kind ∷ []) (Err e) (Err f) h k = h ∙ sym k
one_value start g [] (Err e) w h k = absurd h.0
one_value start g (ReadMark.end ∷ []) (Ok n) (Err f) h k = absurd k
one_value start g (ReadMark.fault kind ∷ []) (Err e) (Ok n) h k = absurd k
one_value start g _ v w h k = absurd h

pub appends_deterministic : (start : ℕ) → IsDeterministic SameByKind (appends ⊥ start)
appends_deterministic start =
    deterministic_by _ (λ g. ⊥) (λ p q r b h k. h ∙ sym k) (λ p r b h n. n) (λ p q l v h. given_by start p l v h.0)
    (λ p q r l v w h k. (one_value start p l v w h.0 k.0, h.1 ∙ sym k.1))

module _ {R A : Type 0} where
  -- All bytes in the vector of a `read_to_end` future.
  abbrev bytes_held : ReadToEndFuture R A → List ℕ
  bytes_held x = x.buf.now.items

  -- Two `read_to_end` futures have equal bytes in their vectors and one `start`, over readers that are alike.
  abbrev pub ToEndAlike : (R → R → Type 0) → ReadToEndFuture R A → ReadToEndFuture R A → Type 0
  ToEndAlike alike x y = alike x.reader.now y.reader.now × (bytes_held x ≡ bytes_held y) × (x.start ≡ y.start)

  module _ {reads : Runs ReadMark R} where
    module _ {ample : Runs ReadMark R} {needs_none : Type 0} {alike : R → R → Type 0}
        (s : SteadyReadLaws reads ample needs_none alike) where
      pub to_end_steady : FutureSteadyLawsBy (Sameness.by SameByKind) (ReadsToEndByRoom reads) (ReadsToEnd ⊥ ample) ⊥
          (ToEndAlike alike)
      to_end_steady = record {
        laws = append_runs ⊥ s.laws;
        steady = λ x y e. gathers_alike (λ x. appends_deterministic x.start) s x y e.0 e.1 (ap (appends ⊥) (sym e.2));
        found = λ n. absurd n;
      }
