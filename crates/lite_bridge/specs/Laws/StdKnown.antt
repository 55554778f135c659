-- Laws of std readers and writers.
use Rattle.std.specs.Prelude.{◌≡◌, ◌<◌, ℕ, zero, suc, List, [], ◌∷◌, ◌++◌, length, take, Option, None, Some, Result, Ok, Err, ⊤}
use Rattle.lite_bridge.specs.Uses.{◌∙◌, append-nil, ap, arith, refl, subst, sym, ReadsAtMost, Keeps, ReadConsumes}
use Rattle.lite_bridge.specs.Uses.{WriteAppends, SeekMoves, StaysAt, Error, SeekFrom, End, Poll, Pending, Ready}
use Rattle.lite_bridge.specs.Uses.{by_kind, ReadMark, bytes, read_marks, MarkLaws, told_marks_agree, CalmReadLaws}
use Rattle.lite_bridge.specs.Uses.{NoPendingRead, SteadyReadLaws, strip_marks, CalmWriteLaws, SteadyWriteLaws}
use Rattle.lite_bridge.specs.Uses.{WriteMark, bytes_taken, done_marks, write_marks, ReadsScript, Comparable, Runs}
use Rattle.lite_base.specs.Calm.{CalmRuns}
use Rattle.lite_io_base.specs.Laws.Stored.{growing_laws, grows_all, grows_no_pending}
use Rattle.lite_io_base.specs.Laws.Steady.{no_wait_both, no_wait_moved, never_waits_both}
use Rattle.lite_io_base.specs.Marks.{moved_marks}
use Rattle.std.specs.Io.Seek.{IsSeekTarget}
use Rattle.lite_bridge.specs.Known.{GainsKnown, MovesKnown, NoFault, SameKnown, SpendsBytes, SpendsKnown, SpendsWell, WhereKnown, known_bytes}

spends_follows : (x y z : List ℕ) (l m : List ReadMark) → SpendsBytes x l y → SpendsBytes y m z
    → SpendsBytes x (l ++ m) z
spends_follows x y z [] m h k = rw (← h) k
spends_follows (a ∷ x) y z (ReadMark.byte b ∷ l) m h k = (h.0, spends_follows x y z l m h.1 k)
spends_follows x y z (ReadMark.fault kind ∷ l) m h k = spends_follows x y z l m h k
spends_follows x y z (ReadMark.end ∷ l) m h k = (h.0, spends_follows x y z l m h.1 k)
spends_follows [] y z (ReadMark.byte b ∷ l) m h k = absurd h
spends_follows x y z (ReadMark.pending ∷ l) m h k = absurd h

spends_no_wait : (x y : List ℕ) (l : List ReadMark) → SpendsBytes x l y → NoPendingRead l
spends_no_wait x y [] h = tt
spends_no_wait (a ∷ x) y (ReadMark.byte b ∷ l) h = spends_no_wait x y l h.1
spends_no_wait x y (ReadMark.fault kind ∷ l) h = spends_no_wait x y l h
spends_no_wait x y (ReadMark.end ∷ l) h = spends_no_wait x y l h.1
spends_no_wait [] y (ReadMark.byte b ∷ l) h = absurd h
spends_no_wait x y (ReadMark.pending ∷ l) h = absurd h

-- Runs from known bytes, of which none has a `Pending`.
module _ {M : Type 0} {NoWait : List M → Type 0} {run : Runs M (List ℕ)} (none : NoWait [])
    (both : (l m : List M) → NoWait l → NoWait m → NoWait (l ++ m)) (laws : MarkLaws run)
    (waits : (xs ys : List ℕ) (l : List M) → run xs l ys → NoWait l) where
  known_no_wait : (x y : Option (List ℕ)) (l : List M) → WhereKnown NoWait run x l y → NoWait l
  known_no_wait None y l h = h
  known_no_wait (Some xs) None l h = absurd h
  known_no_wait (Some xs) (Some ys) l h = waits xs ys l h

  known_rests : (x : Option (List ℕ)) → WhereKnown NoWait run x [] x
  known_rests None = none
  known_rests (Some xs) = laws.rests xs

  known_follows : (x y z : Option (List ℕ)) (l m : List M) → WhereKnown NoWait run x l y → WhereKnown NoWait run y m z
      → WhereKnown NoWait run x (l ++ m) z
  known_follows None y z l m h k = both l m h (known_no_wait y z m k)
  known_follows (Some xs) (Some ys) (Some zs) l m h k = laws.follows xs ys zs l m h k
  known_follows (Some xs) None z l m h k = absurd h
  known_follows (Some xs) (Some ys) None l m h k = absurd k

  module _ {S : Type 0} (known : S → Option (List ℕ)) where
    known_laws : MarkLaws (λ x l y. WhereKnown NoWait run (known x) l (known y))
    known_laws = record {
      rests = λ x. known_rests _;
      follows = λ x y z. known_follows _ _ _;
    }

    known_calm : CalmRuns NoWait (λ x l y. WhereKnown NoWait run (known x) l (known y)) (λ x. Unit {0})
    known_calm = record { no_pending = λ x y l c. known_no_wait _ _ l; calm_on = λ x y l c h. tt }

-- A reader whose bytes to come are known at some values meets the laws of runs.
pub spends_laws : {S : Type 0} (remaining : S → Option (List ℕ))
    → MarkLaws (λ x l y. SpendsKnown (remaining x) l (remaining y))
spends_laws = known_laws tt no_wait_both (record { rests = λ xs. refl; follows = spends_follows }) spends_no_wait

-- Such a reader is never pending.
pub spends_calm : {S : Type 0} (remaining : S → Option (List ℕ))
    → CalmReadLaws (λ (x : S) l y. SpendsKnown (remaining x) l (remaining y)) (λ x. Unit {0})
spends_calm = known_calm tt no_wait_both (record { rests = λ xs. refl; follows = spends_follows }) spends_no_wait

-- A writer whose bytes are known at some values meets the laws of runs.
pub gains_laws : {S : Type 0} (contents : S → Option (List ℕ))
    → MarkLaws (λ x l y. GainsKnown (contents x) l (contents y))
gains_laws = known_laws tt never_waits_both (growing_laws (λ _. ⊤)) (grows_no_pending (λ _. ⊤))

-- Such a writer is never pending.
pub gains_calm : {S : Type 0} (contents : S → Option (List ℕ))
    → CalmWriteLaws (λ (x : S) l y. GainsKnown (contents x) l (contents y)) (λ x. Unit {0})
gains_calm = known_calm tt never_waits_both (growing_laws (λ _. ⊤)) (grows_no_pending (λ _. ⊤))

no_fault_both : (l m : List ReadMark) → NoFault l → NoFault m → NoFault (l ++ m)
no_fault_both [] m h k = k
no_fault_both (ReadMark.fault kind ∷ l) m h k = absurd h
no_fault_both (_ ∷ l) m h k = no_fault_both l m h k

-- If no read failed, the known bytes come in order.
spends_told : (x y : List ℕ) (l : List ReadMark) → SpendsBytes x l y → NoFault l → ReadsScript (bytes x) l (bytes y)
spends_told x y [] h n = ap bytes h
spends_told (a ∷ x) y (ReadMark.byte b ∷ l) h n = (ap ReadMark.byte h.0, spends_told x y l h.1 n)
spends_told [] y (ReadMark.end ∷ l) h n = (refl, spends_told [] y l h.1 n)
spends_told (a ∷ x) y (ReadMark.end ∷ l) h n = absurd (cc h.0)
spends_told [] y (ReadMark.byte b ∷ l) h n = absurd h
spends_told x y (ReadMark.pending ∷ l) h n = absurd h
spends_told x y (ReadMark.fault kind ∷ l) h n = absurd n

known_marks_agree : (x x' y z : Option (List ℕ)) (l m : List ReadMark) → SameKnown x x' → SpendsWell x l y
    → SpendsWell x' m z
    → Comparable (strip_marks l) (strip_marks m)
known_marks_agree (Some xs) (Some ys) (Some y) (Some z) l m e h k =
    told_marks_agree (bytes xs) (bytes ys) (bytes y) (bytes z) l m (rw e) (spends_told xs y l h.0 h.1)
    (spends_told ys z m k.0 k.1)
known_marks_agree (Some xs) (Some ys) None z l m e h k = absurd h.0
known_marks_agree (Some xs) (Some ys) (Some y) None l m e h k = absurd k.0
known_marks_agree _ _ y z l m e h k = absurd e

-- If no read failed, two readers of which the same bytes are known leave the same marks.
pub spends_steady : {S : Type 0} (remaining : S → Option (List ℕ))
    → SteadyReadLaws (λ (x : S) l y. SpendsKnown (remaining x) l (remaining y))
    (λ x l y. SpendsWell (remaining x) l (remaining y)) ⊥
    (λ x y. SameKnown (remaining x) (remaining y))
spends_steady remaining =
    record {
      laws = record {
        rests = λ x. ((spends_laws remaining).rests x, tt);
        follows = λ x y z l m h k.
            ((spends_laws remaining).follows x y z l m h.0 k.0, no_fault_both l m h.1 k.1);
      };
      steady = λ x y x' y'. known_marks_agree _ _ _ _;
      found = λ n. absurd n;
    }

-- Two writers have the same bytes, and these are known of both.
abbrev OneContents : Option (List ℕ) → Option (List ℕ) → Type 0
OneContents x y = (known_bytes x ≡ known_bytes y) × SameKnown x y

one_contents : (x y p q : Option (List ℕ)) (l m : List WriteMark) → SameKnown x y → GainsKnown x l p → GainsKnown y m q
    → bytes_taken l ≡ bytes_taken m → OneContents p q
one_contents (Some xs) (Some ys) (Some ps) (Some qs) l m e h k same =
    let one : ps ≡ qs = rw (grows_all _ xs ps l h, grows_all _ ys qs m k, e, same) in
    (one, one)
one_contents (Some xs) (Some ys) None q l m e h k same = absurd h
one_contents (Some xs) (Some ys) (Some ps) None l m e h k same = absurd k
one_contents _ _ p q l m e h k same = absurd e

-- Two writers of which the same bytes are known keep the same bytes after they took the same.
pub gains_steady : {S : Type 0} (contents : S → Option (List ℕ))
    → SteadyWriteLaws (λ (x : S) l y. GainsKnown (contents x) l (contents y))
    (λ x y. SameKnown (contents x) (contents y)) (λ x. known_bytes (contents x))
gains_steady contents =
    record {
      steady = λ x y x' y' l m e h k a b f g same. one_contents _ _ _ _ l m e h k same;
    }

-- Calls of std's traits, after calls that failed and so changed nothing that is known.
spends_front : (xs ys : List ℕ) → SpendsBytes (xs ++ ys) (bytes xs) ys
spends_front [] ys = refl
spends_front (x ∷ xs) ys = (refl, spends_front xs ys)

spends_moved : (room xs ys : List ℕ) → (xs ≡ [] → 0 < length room → ys ≡ []) → SpendsBytes (xs ++ ys) (moved_marks room xs) ys
spends_moved room (x ∷ xs) ys none = (refl, spends_front xs ys)
spends_moved [] [] ys none = refl
spends_moved (r ∷ room) [] ys none = (none refl (omega arith), refl)

keeps_trans : (x y z : Option (List ℕ)) → Keeps x y → Keeps y z → Keeps x z
keeps_trans None y z h k = tt
keeps_trans (Some xs) (Some ys) (Some zs) h k = k ∙ h
keeps_trans (Some xs) None z h k = absurd h
keeps_trans (Some xs) (Some ys) None h k = absurd k

pub read_spends : (x y z : Option (List ℕ)) (r : Result ℕ Error) (buf : List ℕ) → Keeps x y → ReadsAtMost r buf
    → ReadConsumes y z r buf
    → SpendsKnown x (read_marks (Ready r) buf) z
read_spends None y z (Ok n) buf k b h = no_wait_moved buf (take n buf)
read_spends None y z (Err e) buf k b h = tt
read_spends (Some xs) (Some ys) (Some zs) (Ok n) buf k b h =
    subst (λ t. SpendsBytes t (moved_marks buf (take n buf)) zs) (sym h.0 ∙ k)
    (spends_moved buf (take n buf) zs (λ none room. h.1 (b.1 ∙ ap length none) room))
read_spends (Some xs) (Some ys) (Some zs) (Err e) buf k b h = h ∙ k
read_spends (Some xs) None z r buf k b h = absurd k
read_spends (Some xs) (Some ys) None (Ok n) buf k b h = absurd h.0
read_spends (Some xs) (Some ys) None (Err e) buf k b h = absurd h

take_none : (n : ℕ) → take {A = ℕ} n [] ≡ []
take_none zero = refl
take_none (suc n) = refl

pub write_gains : (x y z : Option (List ℕ)) (r : Result ℕ Error) (buf : List ℕ) → Keeps x y → WriteAppends y z r buf
    → GainsKnown x (write_marks (Ready r) buf) z
write_gains None y z (Ok n) [] k h = tt
write_gains None y z (Ok n) (b ∷ bs) k h = tt
write_gains None y z (Err e) buf k h = tt
write_gains (Some xs) (Some ys) (Some zs) (Ok n) [] k h = h ∙ ap (λ l. ys ++ l) (take_none n) ∙ append-nil ys ∙ k
write_gains (Some xs) (Some ys) (Some zs) (Ok n) (b ∷ bs) k h = rw (h, k)
write_gains (Some xs) (Some ys) (Some zs) (Err e) buf k h = (tt, h ∙ k)
write_gains (Some xs) None z r buf k h = absurd k
write_gains (Some xs) (Some ys) None (Ok n) buf k h = absurd h
write_gains (Some xs) (Some ys) None (Err e) buf k h = absurd h

pub flush_gains : (x y z : Option (List ℕ)) (r : Result (Unit {0}) Error) → Keeps x y → Keeps y z
    → GainsKnown x (done_marks WriteMark.flushed (Ready r)) z
flush_gains None y z (Ok u) k h = tt
flush_gains None y z (Err e) k h = tt
flush_gains (Some xs) (Some ys) (Some zs) (Ok u) k h = h ∙ k
flush_gains (Some xs) (Some ys) (Some zs) (Err e) k h = (tt, h ∙ k)
flush_gains (Some xs) None z r k h = absurd k
flush_gains (Some xs) (Some ys) None r k h = absurd h

-- A close changes as much as a flush.
pub close_gains : (x y : Option (List ℕ)) (r : Poll (Result (Unit {0}) Error))
    → GainsKnown x (done_marks WriteMark.flushed r) y
    → GainsKnown x (done_marks WriteMark.closed r) y
close_gains (Some xs) None r h = absurd h
close_gains _ _ Pending h = h
close_gains _ _ (Ready (Ok u)) h = h
close_gains _ _ (Ready (Err e)) h = h

target_kept : (at : ℕ) (x y : Option (List ℕ)) (to : SeekFrom) (n : ℕ) → Keeps x y → IsSeekTarget at y to n
    → IsSeekTarget at x to n
target_kept at None y (End k) n s h = tt
target_kept at (Some xs) None (End k) n s h = absurd s
target_kept at (Some xs) (Some ys) (End k) n s h = rw (← s) h
target_kept at x y _ n s h = h

pub seek_moves : (p q s : Option ℕ) (x y z : Option (List ℕ)) (to : SeekFrom) (r : Result ℕ Error) → StaysAt p q
    → Keeps x y → SeekMoves q s y to r
    → Keeps y z → MovesKnown p s x z to (by_kind (Ready r))
seek_moves (Some at) q s x y z to (Ok n) stays k h l =
    let moved = rw stays at h in
    ((target_kept at x y to n k moved.0, moved.1), keeps_trans x y z k l)
seek_moves (Some at) q s x y z to (Err e) stays k h l =
    (rw stays at h, keeps_trans x y z k l)
seek_moves None q s x y z to (Ok n) stays k h l = (tt, keeps_trans x y z k l)
seek_moves None q s x y z to (Err e) stays k h l = (tt, keeps_trans x y z k l)
