-- Laws of futures that read into a text.
use Rattle.std.specs.Prelude.{◌≡◌, ◌+◌, ◌-◌, ℕ, List, [], ◌∷◌, Result, ⊤, string_bytes}
use Rattle.lite_read.specs.Uses.{refl, ap, arith, FoldsTo, Error, Poll, FutureLaws, FutureRunLaws, Ranks, ReadCounting}
use Rattle.lite_read.specs.Uses.{Runs, ReadMark, MarkLaws, future_laws_of, lent_still, Sameness, FutureSteadyLawsBy}
use Rattle.lite_read.specs.Uses.{SteadyReadLaws, SameByKind}
use Rattle.lite_read.specs.ReadFold.{ReadFold}
use Rattle.lite_read.specs.Laws.Gathers.{KeepLaws, gathers_before, gathers_runs, gathers_alike}
use Rattle.lite_read.specs.Holding.{TextOver, TextStays}
use Rattle.lite_read.specs.Laws.Refusals.{RoomLaws, room_runs, Weaker, appends_weaker, gathers_weaker, pieces_weaker, text_weaker}
use Rattle.lite_read.specs.ReadLine.{LineLacksMemory, line_over, read_line_fold}
use Rattle.lite_read.specs.ReadToString.{StringGrows, StringLacksMemory, all_over, read_to_string_fold}
use Rattle.lite_read.specs.ReadUntil.{CountsPiece}
use Rattle.lite_read.specs.declared.read_to_string.ReadToStringFuture.{ReadToStringFuture}
use Rattle.lite_read.specs.Texts.{ReadsText, ReadsTextByRoom, TextGrows, in_text, reading}
use Rattle.lite_read.specs.PollSteps.{AnswersText, TakesTextIn}
use Rattle.lite_read.specs.Deterministic.{IsDeterministic}
use Rattle.lite_read.specs.Laws.Deterministic.{text_deterministic}

-- Bytes that the fold consumes leave the text unchanged.
pub folds_in : (fold : ReadFold (List ℕ) (Result ℕ Error)) (text p q xs : List ℕ) → FoldsTo fold.takes p xs q
    → FoldsTo (in_text fold).takes (record { read = p; text = text }) xs (record { read = q; text = text })
folds_in fold text p q [] h = rw h
folds_in fold text p q (x ∷ xs) h = (record { read = h.0; text = text }, (h.1, refl), folds_in fold text h.0 q xs h.2)

module _ {X R A : Type 0} (over : TextOver X R A) where
  stays_none : (x : X) → TextStays over x x
  stays_none x = record { reader = refl; text = refl }

  pub stays_join : (x y z : X) → TextStays over x y → TextStays over y z → TextStays over x z
  stays_join x y z h k =
      record {
        reader = lent_still (over.reader x) _ _ h.reader k.reader;
        text = lent_still (over.text x) _ _ h.text k.text;
      }

  keeps : (fold : ReadFold (List ℕ) (Result ℕ Error)) → KeepLaws (λ (x : X). in_text fold) (TextStays over)
  keeps fold = record { none = stays_none; join = stays_join; same = λ x y k. refl }

  module _ (fold : ReadFold (List ℕ) (Result ℕ Error)) {reads : Runs ReadMark R} (laws : MarkLaws reads) where
    pub text_runs : FutureRunLaws (ReadsText over fold reads)
    text_runs = gathers_runs (keeps fold) laws

    -- A step that does not yet return, followed by a poll result, is one run with that result.
    pub step_before : (x y z : X) (a : Poll (Result ℕ Error)) → TakesTextIn over fold reads x y
        → AnswersText over fold reads y a z
        → AnswersText over fold reads x a z
    step_before x y z a t h =
        let same : reading over y ≡ record { read = over.read y; text = string_bytes (over.text x).now } =
        ap (λ v. record { read = over.read y; text = v }) t.stays.1 in
        let folds : FoldsTo (in_text fold).takes (reading over x) t.taken (reading over y) =
        rw same (folds_in fold (string_bytes (over.text x).now) (over.read x) (over.read y) t.taken t.folds) in (
          gathers_before (keeps fold) laws (λ x y k. k) x y z a (record {
            taken = t.taken;
            some = t.some;
            came = t.came;
            folds = folds;
            stays = t.stays.0;
          }) h.0,
          h.1,
        )

-- A family of folds, one for each condition under which an allocation may fail, that differ in nothing else.
pub record ReadsAlike (fold : (List ℕ → Type 0) → ReadFold (List ℕ) (Result ℕ Error)) : Type 1 where
  pub weaker : (m n : List ℕ → Type 0) → ((read : List ℕ) → m read → n read) → Weaker (fold m) (fold n)
  pub takes : (m n : List ℕ → Type 0) (p q : List ℕ) (b : ℕ) → (fold m).takes p b q → (fold n).takes p b q
  pub asks : (m n : List ℕ → Type 0) (p : List ℕ) → (fold m).asks p → (fold n).asks p

module _ {X R A : Type 0} {over : TextOver X R A} {fold : (List ℕ → Type 0) → ReadFold (List ℕ) (Result ℕ Error)}
    {reads : Runs ReadMark R} where
  pub text_weaker_run : ReadsAlike fold → (m n : List ℕ → Type 0) → ((read : List ℕ) → m read → n read) → (x y : X)
      (l : List (Poll (Result ℕ Error))) → ReadsText over (fold m) reads x l y → ReadsText over (fold n) reads x l y
  text_weaker_run alike m n more =
      gathers_weaker (λ v. text_weaker (fold m) (fold n) (alike.weaker m n more))

-- What the laws of a read into a text need if an allocation fails only when room was lacking. The folds differ only in
-- that, `grows` is reflexive and transitive, and room that is lacking later was lacking before.
pub record TextRoom {X R A : Type 0} (over : TextOver X R A)
    (fold : (List ℕ → Type 0) → ReadFold (List ℕ) (Result ℕ Error)) (lacks : X → X → List ℕ → Type 0) : Type 1 where
  pub alike : ReadsAlike fold
  pub none : (x : X) → over.grows x x
  pub join : (x y z : X) → over.grows x y → over.grows y z → over.grows x z
  pub sooner : (x y z : X) → over.grows x y → (read : List ℕ) → lacks y z read → lacks x z read

module _ {X R A : Type 0} {over : TextOver X R A} {fold : (List ℕ → Type 0) → ReadFold (List ℕ) (Result ℕ Error)}
    {lacks : X → X → List ℕ → Type 0} (r : TextRoom over fold lacks) where
  text_room : RoomLaws (λ x y (v : X). in_text (fold (lacks x y))) (TextStays over) (TextGrows over)
  text_room =
      record {
        keeps = λ x y. keeps over (fold (lacks x y));
        none = λ x. (r.none x, λ k. k);
        join = λ x y z h k. (r.join x y z h.0 k.0, λ holds. k.1 (h.1 holds));
        waits = λ x y z v. record {
          takes = λ p q b h. (r.alike.takes (lacks x y) (lacks x z) p.read q.read b h.0, h.1);
          asks = λ p h. r.alike.asks (lacks x y) (lacks x z) p.read h;
        };
        sooner = λ x y z v s h. text_weaker (fold (lacks y z)) (fold (lacks x z))
            (r.alike.weaker (lacks y z) (lacks x z) (r.sooner x y z h.0));
      }

  pub text_room_laws : {reads : Runs ReadMark R} {ranks : Ranks R} → MarkLaws reads → ReadCounting reads ranks
      → FutureLaws (λ x. ranks.counts (over.reader x).now × over.holds x) (ReadsTextByRoom over fold lacks reads)
  text_room_laws laws c =
      future_laws_of (room_runs text_room laws)
      (λ x y l w k h.
      let told = h.gathered.folded in
      (c.counts_on _ _ told.marks k.0 told.came, (h.grows w).1 k.1))

  -- A run in which an allocation fails only if room was lacking is one in which it may fail at any time.
  pub text_any : {reads : Runs ReadMark R} (x y : X) (l : List (Poll (Result ℕ Error)))
      → ReadsTextByRoom over fold lacks reads x l y
      → ReadsText over (fold (λ read. ⊤)) reads x l y
  text_any x y l h = text_weaker_run r.alike (lacks x y) (λ read. ⊤) (λ read full. tt) x y l h.gathered

-- The folds of `read_line` and `read_to_string` are such families.
pub line_alike : ReadsAlike read_line_fold
line_alike =
    record {
      weaker = λ m n more. pieces_weaker 10 m n (CountsPiece 10) more;
      takes = λ m n p q b h. h;
      asks = λ m n p h. h;
    }

pub string_alike : ReadsAlike read_to_string_fold
string_alike =
    record {
      weaker = λ m n more. appends_weaker 0 m n more;
      takes = λ m n p q b h. h;
      asks = λ m n p h. h;
    }

module _ {R A : Type 0} where
  pub line_room : (buffer_of : R → List ℕ) → TextRoom (line_over {A = A}) read_line_fold (LineLacksMemory buffer_of)
  line_room buffer_of =
      record {
        alike = line_alike;
        none = λ x. omega arith;
        join = λ x y z h k. omega (arith, h, k);
        sooner = λ x y z h read full. omega (arith, h, full);
      }

  string_sooner : (x y : ReadToStringFuture R A) → StringGrows x y → (read : List ℕ)
      → StringLacksMemory y read → StringLacksMemory x read
  string_sooner x y h read full = (
    full.0 + (y.filled - x.filled),
    omega (arith, h.filled, full.1),
    omega (arith, h.filled, h.memory, h.room, full.1, full.2),
  )

  pub string_room : TextRoom (all_over {R = R} {A = A}) read_to_string_fold (λ x y. StringLacksMemory x)
  string_room =
      record {
        alike = string_alike;
        none = λ x. record { filled = omega arith; memory = omega arith; room = omega arith };
        join = λ x y z h k. record {
          filled = omega (arith, h.filled, k.filled);
          memory = omega (arith, h.memory, k.memory);
          room = omega (arith, h.filled, k.filled, h.room, k.room);
        };
        sooner = λ x y z h. string_sooner x y h;
      }

-- The futures that read into a text are steady over a steady reader if no allocation fails, and calm over a calm one.

module _ {X R A : Type 0} (over : TextOver X R A) where
  -- Two futures have read equal bytes, for texts with equal bytes, over readers that are alike.
  abbrev pub TextAlike : (R → R → Type 0) → X → X → Type 0
  TextAlike alike x y = alike (over.reader x).now (over.reader y).now × (reading over x ≡ reading over y)

  module _ (fold : (List ℕ → Type 0) → ReadFold (List ℕ) (Result ℕ Error)) {reads : Runs ReadMark R} where
    module _ {lacks : X → X → List ℕ → Type 0} (deterministic : IsDeterministic SameByKind (fold (λ read. ⊥)))
        {ample : Runs ReadMark R} {needs_none : Type 0}
        {alike : R → R → Type 0} (s : SteadyReadLaws reads ample needs_none alike) where
      pub text_steady : FutureSteadyLawsBy (Sameness.by SameByKind) (ReadsTextByRoom over fold lacks reads)
          (ReadsText over (fold (λ read. ⊥)) ample) ⊥ (TextAlike alike)
      text_steady = record {
        laws = text_runs over _ s.laws;
        steady = λ x y e. gathers_alike (λ x. text_deterministic _ deterministic) s x y e.0 e.1 refl;
        found = λ n. absurd n;
      }
