-- A fold that lets allocations fail in more cases makes at least the same results.
use Rattle.std.specs.Prelude.{ℕ, List, [], ◌∷◌, Result, Err, ◌++◌}
use Rattle.lite_read.specs.Uses.{inl, inr, FoldsTo, Error, Poll, Ready, Pending, Waiting, Runs, ReadMark, refl}
use Rattle.lite_read.specs.Uses.{CalmLaws, FutureRunLaws, up_to_once, MarkLaws, CalmReadLaws}
use Rattle.lite_read.specs.Pieces.{Cut, CutsPiece, pieces}
use Rattle.lite_read.specs.PollSteps.{TakesBytes}
use Rattle.lite_read.specs.ReadFold.{AnswerMarks, Gathers, LastMarks, PieceSegments, ReadFold, Segmented, GathersByRoom}
use Rattle.lite_read.specs.ReadToEnd.{Appended, appends_where}
use Rattle.lite_read.specs.Texts.{in_text}
use Rattle.lite_read.specs.Laws.Deterministic.{segmented_calm}
use Rattle.lite_read.specs.Laws.Gathers.{KeepLaws, gathers_runs}

-- `more` allows everything that `fold` allows: the bytes consumed, the reads, and the values.
pub record Weaker {M R : Type 0} (fold more : ReadFold M R) : Type 0 where
  pub takes : (p q : M) (b : ℕ) → fold.takes p b q → more.takes p b q
  pub asks : (p : M) → fold.asks p → more.asks p
  pub gives : (p q : M) (l : List ReadMark) (v : R) → fold.gives p l v q → more.gives p l v q

-- `more` consumes each byte that `fold` consumes, and reads on whenever `fold` does. Nothing is said of values.
pub record Waits {M R : Type 0} (fold more : ReadFold M R) : Type 0 where
  pub takes : (p q : M) (b : ℕ) → fold.takes p b q → more.takes p b q
  pub asks : (p : M) → fold.asks p → more.asks p

folds_map : {M : Type 0} (f g : M → ℕ → M → Type 0) → ((p q : M) (b : ℕ) → f p b q → g p b q) → (p q : M)
    (xs : List ℕ) → FoldsTo f p xs q → FoldsTo g p xs q
folds_map f g each p q [] h = h
folds_map f g each p q (x ∷ xs) h = (h.0, each p h.0 x h.1, folds_map f g each h.0 q xs h.2)

module _ {M R : Type 0} {fold more : ReadFold M R} (w : Weaker fold more) where
  last_weaker : (p q : M) (l : List ReadMark) (a : Poll R) → LastMarks fold p l a q → LastMarks more p l a q
  last_weaker p q l Pending h = (h.0, w.asks p h.1, h.2)
  last_weaker p q l (Ready v) h = w.gives p q l v h

  answer_weaker : (p q : M) (i : List ReadMark) (a : Poll R) → AnswerMarks fold p i a q → AnswerMarks more p i a q
  answer_weaker p q i a h =
      record {
        taken = h.taken;
        last = h.last;
        cut = h.cut;
        between = h.between;
        folds = folds_map fold.takes more.takes w.takes p h.between h.taken h.folds;
        given = last_weaker h.between q h.last a h.given;
      }

  segments_weaker : (p q : M) (i : List ReadMark) (l : List (Poll R)) → PieceSegments fold p i l q
      → PieceSegments more p i l q
  segments_weaker p q i [] h = h
  segments_weaker p q i (a ∷ l) h =
      (h.0, h.1, h.2, h.3, answer_weaker p h.2 h.0 a h.4, segments_weaker h.2 q h.1 l h.5)

  pub segmented_weaker : {S : Type 0} (reads : Runs ReadMark S) (s t : S) (p q : M) (l : List (Poll R))
      → Segmented fold reads s p l t q → Segmented more reads s p l t q
  segmented_weaker reads s t p q l h =
      record { marks = h.marks; came = h.came; cut = segments_weaker p q h.marks l h.cut }

-- Poll results that are all `Pending` are also those of `more`.
module _ {M R : Type 0} {fold more : ReadFold M R} (w : Waits fold more) where
  waiting_alike : (p q : M) (i : List ReadMark) (l : List (Poll R)) → Waiting l → PieceSegments fold p i l q
      → PieceSegments more p i l q
  waiting_alike p q i [] v h = h
  waiting_alike p q i (Ready r ∷ l) v h = absurd v
  waiting_alike p q i (Pending ∷ l) v h =
      let s = h.4 in
      let first : AnswerMarks more p h.0 Pending h.2 = record {
        taken = s.taken;
        last = s.last;
        cut = s.cut;
        between = s.between;
        folds = folds_map fold.takes more.takes w.takes p s.between s.taken s.folds;
        given = (s.given.0, w.asks s.between s.given.1, s.given.2);
      } in
      (h.0, h.1, h.2, h.3, first, waiting_alike h.2 q h.1 l v h.5)

  segmented_waiting : {S : Type 0} (reads : Runs ReadMark S) (s t : S) (p q : M) (l : List (Poll R)) → Waiting l
      → Segmented fold reads s p l t q → Segmented more reads s p l t q
  segmented_waiting reads s t p q l v h =
      record { marks = h.marks; came = h.came; cut = waiting_alike p q h.marks l v h.cut }

module _ {X S M R : Type 0} {reader : X → S} {held : X → M} {fold more : X → ReadFold M R} {Keeps : X → X → Type 0}
    {reads : Runs ReadMark S} where
  -- Each run of a future by `fold` is one by `more`.
  pub gathers_weaker : ((x : X) → Weaker (fold x) (more x)) → (x y : X) (l : List (Poll R))
      → Gathers reader held fold Keeps reads x l y → Gathers reader held more Keeps reads x l y
  gathers_weaker w x y l h =
      record {
        folded = segmented_weaker (w x) reads _ _ _ _ l h.folded;
        ends = h.ends;
        stays = h.stays;
        idle = h.idle;
      }

  -- Each run by `fold` that is pending throughout is one by `more`.
  pub gathers_waiting : ((x : X) → Waits (fold x) (more x)) → (x y : X) (l : List (Poll R)) → Waiting l
      → Gathers reader held fold Keeps reads x l y → Gathers reader held more Keeps reads x l y
  gathers_waiting w x y l v h =
      record {
        folded = segmented_waiting (w x) reads _ _ _ _ l v h.folded;
        ends = h.ends;
        stays = h.stays;
        idle = h.idle;
      }

  -- Each step that does not yet return is also one by `more`.
  pub takes_alike : ((x : X) (p q : M) (b : ℕ) → (fold x).takes p b q → (more x).takes p b q) → (x y : X)
      → TakesBytes reader held fold Keeps reads x y → TakesBytes reader held more Keeps reads x y
  takes_alike each x y t =
      record {
        taken = t.taken;
        some = t.some;
        came = t.came;
        folds = folds_map (fold x).takes (more x).takes (each x) _ _ t.taken t.folds;
        stays = t.stays;
      }

-- A fold of pieces allows more if its allocations may fail in more cases.
module _ {R : Type 0} (byte : ℕ) (m n : List ℕ → Type 0) (becomes : Cut → List ℕ → R → List ℕ → Type 0)
    (more : (held : List ℕ) → m held → n held) where
  cut_weaker : (held : List ℕ) (l : List ReadMark) (cut : Cut) → CutsPiece byte (m held) held l cut
      → CutsPiece byte (n held) held l cut
  cut_weaker held l (Cut.failed e) (inl h) = inl h
  cut_weaker held l (Cut.failed e) (inr h) = inr (h.0, more held h.1, h.2)
  cut_weaker held l _ h = h

  pub pieces_weaker : Weaker (pieces byte m becomes) (pieces byte n becomes)
  pieces_weaker =
      record {
        takes = λ p q b h. h;
        asks = λ p h. h;
        gives = λ p q l v h. (h.0, cut_weaker p l h.0 h.1, h.2);
      }

-- A fold that appends allows more if its allocations may fail in more cases.
module _ (start : ℕ) (m n : List ℕ → Type 0) (more : (held : List ℕ) → m held → n held) where
  appended_weaker : (g : List ℕ) (l : List ReadMark) (v : Result ℕ Error) → Appended (m g) start g l v
      → Appended (n g) start g l v
  appended_weaker g [] (Err e) h = (more g h.0, h.1)
  appended_weaker g l v h = h

  pub appends_weaker : Weaker (appends_where m start) (appends_where n start)
  appends_weaker =
      record {
        takes = λ p q b h. h;
        asks = λ p h. h;
        gives = λ p q l v h. (appended_weaker p l v h.0, h.1);
      }

-- If `more` allows everything that `fold` allows, the same holds of their reads into a text.
pub text_weaker : (fold more : ReadFold (List ℕ) (Result ℕ Error)) → Weaker fold more
    → Weaker (in_text fold) (in_text more)
text_weaker fold more w =
    record {
      takes = λ p q b h. (w.takes p.read q.read b h.0, h.1);
      asks = λ p h. w.asks p.read h;
      gives = λ p q l v h. (h.0, h.1, w.gives p.read h.1 l h.0 h.2, h.3, h.4, h.5);
    }

-- Laws of futures over a reader in which an allocation fails only if room was lacking.

-- What the laws of a `GathersByRoom` need. Each fold meets `KeepLaws`, `Grows` is reflexive and transitive, and the
-- fold depends on both values of a run only in when an allocation may fail.
pub record RoomLaws {X M R : Type 0} (fold : X → X → X → ReadFold M R) (Keeps Grows : X → X → Type 0) : Type 1 where
  pub keeps : (x y : X) → KeepLaws (fold x y) Keeps
  pub none : (x : X) → Grows x x
  pub join : (x y z : X) → Grows x y → Grows y z → Grows x z
  -- What the fold does before there is a value does not depend on the values of the run.
  pub waits : (x y z v : X) → Waits (fold x y v) (fold x z v)
  -- An allocation that may fail in a later part of a run may fail in the whole run.
  pub sooner : (x y z v : X) → Keeps x y → Grows x y → Weaker (fold y z v) (fold x z v)

behind_waiting : {A : Type 0} (l m : List (Poll A)) → Waiting (l ++ m) → Waiting m
behind_waiting [] m w = w
behind_waiting (Pending ∷ l) m w = behind_waiting l m w
behind_waiting (Ready x ∷ l) m w = absurd w

module _ {X S M R : Type 0} {reader : X → S} {held : X → M} {fold : X → X → X → ReadFold M R}
    {Keeps Grows : X → X → Type 0}
    {reads : Runs ReadMark S} where
  pub room_runs : RoomLaws fold Keeps Grows → MarkLaws reads
      → FutureRunLaws (GathersByRoom reader held fold Keeps Grows reads)
  room_runs r laws =
      record {
        rests = λ x. record { gathered = (gathers_runs (r.keeps x x) laws).rests x; grows = λ w. r.none x };
        stays = λ x y h. h.gathered.idle refl;
        follows = λ x y z l m w h k. record {
          gathered =
              (gathers_runs (r.keeps x z) laws).follows x y z l m w
              (gathers_waiting (r.waits x y z) x y l w h.gathered)
              (gathers_weaker (λ v. r.sooner x y z v h.gathered.stays (h.grows w)) y z m k.gathered);
          grows = λ v. r.join x y z (h.grows w) (k.grows (behind_waiting l m v));
        };
        once = λ x y l h. up_to_once l h.gathered.ends;
      }

  pub room_calm : {is_calm : S → Type 0} → CalmReadLaws reads is_calm
      → CalmLaws (GathersByRoom reader held fold Keeps Grows reads) (λ x. is_calm (reader x))
  room_calm c =
      record {
        no_pending = λ x y l k h. (segmented_calm _ _ _ _ _ l c k h.gathered.folded).0;
        calm_on = λ x y l k h. (segmented_calm _ _ _ _ _ l c k h.gathered.folded).1;
      }
