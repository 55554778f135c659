-- Laws of marks without their `Pending`s.
use Rattle.std.specs.Prelude.{⊤, List, [], ◌∷◌, ◌≡◌, ℕ, ◌++◌, refl}
use Rattle.lite_io_base.specs.Uses.{ap, sym, Comparable, MutBor, Lent, Runs}
use Rattle.lite_base.specs.Laws.Steady.{lent_takes_none}
use Rattle.lite_io_base.specs.Marks.{ReadMark, bytes, moved_marks}
use Rattle.lite_io_base.specs.Steady.{CalmReadLaws, NoPendingRead, SteadyReadLaws, strip_marks, OneListOfMarks, NoPendingWrite, SteadyWriteLaws}
use Rattle.lite_io_base.specs.Laws.Known.{told_laws}
use Rattle.lite_io_base.specs.Known.{ReadsScript}
use Rattle.lite_io_base.specs.Laws.Lent.{lent_laws}
use Rattle.lite_io_base.specs.Runs.{MarkLaws}
use Rattle.lite_io_base.specs.WriteMarks.{WriteMark}

-- A reader that never allocates is steady if readers that are alike leave the same marks in all runs.
pub steady_read_always : {S : Type 0} {reads : Runs ReadMark S} {alike : S → S → Type 0} → MarkLaws reads
    → OneListOfMarks reads alike → SteadyReadLaws reads reads ⊤ alike
steady_read_always laws s = record { laws = laws; steady = s; found = λ n x y l h. h }

-- The same laws hold behind a mutable reference.
module _ {S : Type 0} {reads : Runs ReadMark S} where
  pub lent_steady_read : {ample : Runs ReadMark S} {needs_none : Type 0} {alike : S → S → Type 0}
      → SteadyReadLaws reads ample needs_none alike
      → SteadyReadLaws (Lent reads) (Lent ample) needs_none (λ (x y : MutBor S). alike x.now y.now)
  lent_steady_read s =
      record {
        laws = lent_laws s.laws;
        steady = λ x y x' y' l m e h k. s.steady x.now y.now x'.now y'.now l m e h.0 k.0;
        found = λ n. lent_takes_none (s.found n);
      }

pub strip_marks-append : (l m : List ReadMark) → strip_marks (l ++ m) ≡ strip_marks l ++ strip_marks m
strip_marks-append [] m = refl
strip_marks-append (ReadMark.pending ∷ l) m = strip_marks-append l m
strip_marks-append (a ∷ l) m = rw (strip_marks-append l m)

pub comparable_none : (l : List ReadMark) → Comparable l []
comparable_none [] = tt
comparable_none (m ∷ l) = tt

pub comparable_swapped : (l m : List ReadMark) → Comparable l m → Comparable m l
comparable_swapped [] m c = comparable_none m
comparable_swapped (a ∷ l) [] c = tt
comparable_swapped (a ∷ l) (b ∷ m) c = (sym c.0, comparable_swapped l m c.1)

-- If one list of marks is a prefix of another, it still is without their `Pending`s.
pub comparable_stripped : (l m : List ReadMark) → Comparable l m → Comparable (strip_marks l) (strip_marks m)
comparable_stripped [] m c = tt
comparable_stripped (a ∷ l) [] c = comparable_none (strip_marks (a ∷ l))
comparable_stripped (ReadMark.pending ∷ l) (a ∷ m) c = rw (← c.0) (comparable_stripped l m c.1)
comparable_stripped (_ ∷ l) (a ∷ m) c = rw (← c.0) (refl, comparable_stripped l m c.1)

-- If one of two lists is a prefix of the other, so it is with their first parts.
pub comparable_fronts : (l k m n : List ReadMark) → Comparable (l ++ k) (m ++ n) → Comparable l m
comparable_fronts (a ∷ l) k (b ∷ m) n c = (c.0, comparable_fronts l k m n c.1)
comparable_fronts _ k _ n c = tt

-- The same holds of what follows one common first part.
pub comparable_rest : (p l m : List ReadMark) → Comparable (p ++ l) (p ++ m) → Comparable l m
comparable_rest [] l m c = c
comparable_rest (a ∷ p) l m c = comparable_rest p l m c.1

-- The same holds of lists behind one common first part.
pub comparable_behind : (p l m : List ReadMark) → Comparable l m → Comparable (p ++ l) (p ++ m)
comparable_behind [] l m c = c
comparable_behind (a ∷ p) l m c = (refl, comparable_behind p l m c)

pub strip_marks-bytes : (xs : List ℕ) → strip_marks (bytes xs) ≡ bytes xs
strip_marks-bytes [] = refl
strip_marks-bytes (x ∷ xs) = rw (strip_marks-bytes xs)

-- Marks without a `Pending` are unchanged without their `Pending`s.
pub stripped_no_pending : (l : List ReadMark) → NoPendingRead l → strip_marks l ≡ l
stripped_no_pending [] h = refl
stripped_no_pending (ReadMark.pending ∷ l) h = absurd h
stripped_no_pending (a ∷ l) h = rw (stripped_no_pending l h)

pub no_wait_parts : (l m : List ReadMark) → NoPendingRead (l ++ m) → NoPendingRead l × NoPendingRead m
no_wait_parts [] m h = (tt, h)
no_wait_parts (ReadMark.pending ∷ l) m h = absurd h
no_wait_parts (_ ∷ l) m h = no_wait_parts l m h

pub no_wait_both : (l m : List ReadMark) → NoPendingRead l → NoPendingRead m → NoPendingRead (l ++ m)
no_wait_both [] m h k = k
no_wait_both (ReadMark.pending ∷ l) m h k = absurd h
no_wait_both (_ ∷ l) m h k = no_wait_both l m h k

pub no_wait_bytes : (xs : List ℕ) → NoPendingRead (bytes xs)
no_wait_bytes [] = tt
no_wait_bytes (x ∷ xs) = no_wait_bytes xs

pub no_wait_moved : (room xs : List ℕ) → NoPendingRead (moved_marks room xs)
no_wait_moved room (x ∷ xs) = no_wait_bytes xs
no_wait_moved (r ∷ room) [] = tt
no_wait_moved [] [] = tt

-- Two runs of fixed marks: one is a prefix of the other.
told_comparable : (t x y l m : List ReadMark) → ReadsScript t l x → ReadsScript t m y → Comparable l m
told_comparable [] x y (a ∷ l) (b ∷ m) h k = (cc (h.0, k.0), told_comparable [] x y l m h.1 k.1)
told_comparable (c ∷ t) x y (a ∷ l) (b ∷ m) h k = (cc (h.0, k.0), told_comparable t x y l m h.1 k.1)
told_comparable t x y _ _ h k = tt

told_stripped : (x y l : List ReadMark) → ReadsScript x l y
    → ReadsScript (strip_marks x) (strip_marks l) (strip_marks y)
told_stripped x y [] h = ap strip_marks h
told_stripped [] y (a ∷ l) h = rw h.0 (refl, told_stripped [] y l h.1)
told_stripped (ReadMark.pending ∷ x) y (a ∷ l) h = rw h.0 (told_stripped x y l h.1)
told_stripped (_ ∷ x) y (a ∷ l) h = rw h.0 (refl, told_stripped x y l h.1)

-- Two lists of fixed marks that are equal without their `Pending`s lead to runs that are equal without them.
pub told_marks_agree : (t u x y l m : List ReadMark) → strip_marks t ≡ strip_marks u → ReadsScript t l x
    → ReadsScript u m y → Comparable (strip_marks l) (strip_marks m)
told_marks_agree t u x y l m same h k =
    told_comparable _ _ (strip_marks y) _ _ (rw same at (told_stripped t x l h)) (told_stripped u y m k)

-- If fixed marks have no `Pending`, neither their run nor what is left has one.
pub told_no_wait : (t x l : List ReadMark) → NoPendingRead t → ReadsScript t l x → NoPendingRead l × NoPendingRead x
told_no_wait t x [] n h = (tt, rw h n)
told_no_wait [] x (a ∷ l) n h = rw h.0 (told_no_wait [] x l tt h.1)
told_no_wait (ReadMark.pending ∷ t) x (a ∷ l) n h = absurd n
told_no_wait (_ ∷ t) x (a ∷ l) n h = rw h.0 (told_no_wait t x l n h.1)

-- Values whose marks are fixed in advance. Two are alike if their marks to come, without `Pending`s, are equal.
module _ {S : Type 0} where
  module _ (marks : S → List ReadMark) where
    pub told_steady : SteadyReadLaws (λ x l y. ReadsScript (marks x) l (marks y))
        (λ x l y. ReadsScript (marks x) l (marks y)) ⊤ (λ x y. strip_marks (marks x) ≡ strip_marks (marks y))
    told_steady =
        steady_read_always (told_laws marks) (λ x y x' y'. told_marks_agree _ _ _ _)

    pub told_calm : CalmReadLaws (λ x l y. ReadsScript (marks x) l (marks y)) (λ x. NoPendingRead (marks x))
    told_calm =
        record {
          no_pending = λ x y l n h. (told_no_wait _ _ l n h).0;
          calm_on = λ x y l n h. (told_no_wait _ _ l n h).1;
        }

  -- Slices, whose marks are their bytes. Two are alike if their bytes are equal.
  module _ (held : S → List ℕ) where
    pub slice_steady : SteadyReadLaws (λ x l y. ReadsScript (bytes (held x)) l (bytes (held y)))
        (λ x l y. ReadsScript (bytes (held x)) l (bytes (held y))) ⊤ (λ x y. held x ≡ held y)
    slice_steady =
        steady_read_always (told_laws (λ x. bytes _))
        (λ x y x' y' l m e.
        told_marks_agree (bytes _) (bytes _) (bytes _) (bytes _) l m (rw e))

    pub slice_calm : CalmReadLaws (λ x l y. ReadsScript (bytes (held x)) l (bytes (held y))) (λ x. ⊤)
    slice_calm =
        record {
          no_pending = λ x y l n h. (told_no_wait (bytes _) (bytes _) l (no_wait_bytes (held x)) h).0;
          calm_on = λ x y l n h. tt;
        }

-- Laws of steady writers, and of marks without a `Pending`.

-- A writer that runs as a part of it does is steady if that part is.
pub steady_write_part : {S X : Type 0} {writes : Runs WriteMark S} {outer : Runs WriteMark X} {alike : S → S → Type 0}
    {below : S → List ℕ} (part : X → S)
    → ((x y : X) (l : List WriteMark) → outer x l y → writes (part x) l (part y)) → SteadyWriteLaws writes alike below
    → SteadyWriteLaws outer (λ x y. alike (part x) (part y)) (λ x. below (part x))
steady_write_part part ran s = record {
  steady = λ x y x' y' l m e h k. s.steady _ _ _ _ l m e (ran x x' l h) (ran y y' m k);
}

pub lent_steady_write : {S : Type 0} {writes : Runs WriteMark S} {alike : S → S → Type 0} {below : S → List ℕ}
    → SteadyWriteLaws writes alike below
    → SteadyWriteLaws (Lent writes) (λ (x y : MutBor S). alike x.now y.now) (λ x. below x.now)
lent_steady_write = steady_write_part (λ x. x.now) (λ x y l h. h.0)

pub never_waits_both : (l m : List WriteMark) → NoPendingWrite l → NoPendingWrite m → NoPendingWrite (l ++ m)
never_waits_both [] m h k = k
never_waits_both (WriteMark.pending ∷ l) m h k = absurd h
never_waits_both (_ ∷ l) m h k = never_waits_both l m h k

pub never_waits_parts : (l m : List WriteMark) → NoPendingWrite (l ++ m) → NoPendingWrite l × NoPendingWrite m
never_waits_parts [] m a = (tt, a)
never_waits_parts (WriteMark.pending ∷ l) m a = absurd a
never_waits_parts (_ ∷ l) m a = never_waits_parts l m a
