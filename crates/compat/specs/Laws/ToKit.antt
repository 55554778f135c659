-- Laws of this library's streams, readers and writers as the toolchain's.
use Rattle.std.specs.Prelude.{◌≡◌, ℕ, List, [], ◌∷◌, ◌++◌, Option, None, Some, IfSome, Result, Ok, Err, take}
use Rattle.lite_base.specs.StreamLaws.{RunLaws}
use Rattle.lite_io_base.specs.Laws.Marks.{taken_both}
use Rattle.lite_io_base.specs.Runs.{MarkLaws}
use Rattle.lite_write.specs.Laws.Copy.{told_both}
use Rattle.futures.specs.Runs.{After}
use Rattle.lite_io_base.specs.Marks.{moved_marks}
use Rattle.tokio.specs.Io.Moved.{bytes_moved}
use Rattle.lite_base.specs.FutureLaws.{FutureLaws}
use Rattle.compat.specs.ToKit.{FinishesWith, GaveBytes, TookBytes, YieldsUpTo}
use Rattle.compat.specs.Uses.{Answer, Error, bytes, error_kind, read_marks, Pending, Poll, ReadMark, Ready, Runs, WriteMark, ap, bytes_told, refl}

module _ {S A : Type 0} {run : Runs (Answer A) S} (laws : RunLaws run) where
  -- After an item the stream gives what the one that is left gives.
  pub yields_after : (x y : S) (v : A) → run x (Ready (Some v) ∷ []) y → (xs : List A) (last : Option A)
      → YieldsUpTo run y xs last → YieldsUpTo run x (v ∷ xs) last
  yields_after x y v h xs last k =
      record {
        ins = Ready (Some v) ∷ k.ins;
        left = k.left;
        came = laws.follows x y k.left (Ready (Some v) ∷ []) k.ins h k.came;
        gave = ap (λ l. Some v ∷ l) k.gave;
      }

  -- After a `Pending` too.
  pub yields_again : (x y : S) → run x (Pending ∷ []) y → (xs : List A) (last : Option A) → YieldsUpTo run y xs last
      → YieldsUpTo run x xs last
  yields_again x y h xs last k =
      record {
        ins = Pending ∷ k.ins;
        left = k.left;
        came = laws.follows x y k.left (Pending ∷ []) k.ins h k.came;
        gave = k.gave;
      }

  -- The same by what a poll returned.
  pub yields_rest : (x y : S) (o : Option A) → run x (Ready o ∷ []) y → IfSome o (λ v. After (YieldsUpTo run x) v (YieldsUpTo run y))
  yields_rest x y None h = tt
  yields_rest x y (Some v) h = yields_after x y v h

-- One answer.
pub yields_one : {S A : Type 0} {run : Runs (Answer A) S} (x y : S) (o : Option A) → run x (Ready o ∷ []) y
    → YieldsUpTo run x [] o
yields_one x y o h = record { ins = Ready o ∷ []; left = y; came = h; gave = refl }

module _ {R : Type 0} {reads : Runs ReadMark R} (laws : MarkLaws reads) where
  pub nothing_read : (x : R) → GaveBytes reads x [] x
  nothing_read x = record { told = []; came = laws.rests x; gave = refl }

  pub reads_on : (x : R) (xs : List ℕ) (y : R) (ys : List ℕ) (z : R) → GaveBytes reads x xs y → GaveBytes reads y ys z
      → GaveBytes reads x (xs ++ ys) z
  reads_on x xs y ys z h k =
      record {
        told = h.told ++ k.told;
        came = laws.follows x y z h.told k.told h.came k.came;
        gave = rw (told_both h.told k.told, h.gave, k.gave);
      }

module _ {W : Type 0} {writes : Runs WriteMark W} (laws : MarkLaws writes) where
  pub nothing_written : (x : W) → TookBytes writes x [] x
  nothing_written x = record { took = []; came = laws.rests x; gave = refl }

  pub writes_on : (x : W) (xs : List ℕ) (y : W) (ys : List ℕ) (z : W) → TookBytes writes x xs y → TookBytes writes y ys z
      → TookBytes writes x (xs ++ ys) z
  writes_on x xs y ys z h k =
      record {
        took = h.took ++ k.took;
        came = laws.follows x y z h.took k.took h.came k.came;
        gave = rw (taken_both h.took k.took, h.gave, k.gave);
      }

-- After a `Pending` the future gives what the one that is left gives.
pub finishes_again : {F A : Type 0} {can_poll : F → Type 0} {run : Runs (Poll A) F} → FutureLaws can_poll run → (x y : F)
    → run x (Pending ∷ []) y → (v : A) → FinishesWith run y v → FinishesWith run x v
finishes_again laws x y h v k = (
  Pending ∷ k.0,
  record {
    gives = k.1.gives;
    last = k.1.last;
    came = laws.follows x y k.1.last (Pending ∷ []) k.0 tt h k.1.came;
  },
)

pub told_bytes : (xs : List ℕ) → bytes_told (bytes xs) ≡ xs
told_bytes [] = refl
told_bytes (x ∷ xs) = ap (λ l. x ∷ l) (told_bytes xs)

told_moved : (room xs : List ℕ) → bytes_told (moved_marks room xs) ≡ xs
told_moved room (x ∷ xs) = told_bytes (x ∷ xs)
told_moved (r ∷ room) [] = refl
told_moved [] [] = refl

-- What one read gave.
pub gave_read : {R : Type 0} (reads : Runs ReadMark R) (x y : R) (r : Poll (Result ℕ Error)) (buf : List ℕ)
    → reads x (read_marks r buf) y → GaveBytes reads x (bytes_moved r buf) y
gave_read reads x y Pending buf h = record { told = ReadMark.pending ∷ []; came = h; gave = refl }
gave_read reads x y (Ready (Err e)) buf h = record { told = ReadMark.fault (error_kind e) ∷ []; came = h; gave = refl }
gave_read reads x y (Ready (Ok n)) buf h =
    record { told = moved_marks buf (take n buf); came = h; gave = told_moved buf (take n buf) }

-- What is consumed was given.
pub gave_bytes : {R : Type 0} (reads : Runs ReadMark R) (x y : R) (xs : List ℕ) → reads x (bytes xs) y
    → GaveBytes reads x xs y
gave_bytes reads x y xs h = record { told = bytes xs; came = h; gave = told_bytes xs }
