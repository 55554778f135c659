-- Laws of `write_all`.
use Rattle.std.specs.Prelude.{⊤, ◌<◌, [], ◌∷◌, ◌++◌, length, Result, ◌≡◌, ℕ, List, Ok}
use Rattle.lite_write.specs.Uses.{◌∙◌, refl, ap, arith, length-append, Error, Poll, FutureLaws, FutureRunLaws}
use Rattle.lite_write.specs.Uses.{future_laws_of, up_to_once, Runs, MarkLaws, WriteMark, idle_join, subst, Ready}
use Rattle.lite_write.specs.Uses.{Pending, ComparableBy, strip, CalmLaws, FutureSteadyLaws, CalmWriteLaws}
use Rattle.lite_write.specs.Uses.{NoPendingWrite, to_value_last}
use Rattle.lite_base.specs.Laws.Segments.{segment_before, segments_before, to_value_join}
use Rattle.lite_io_base.specs.Laws.Lent.{lent_still}
use Rattle.lite_write.specs.WriteAll.{WritesSome, HandsMarks, WritesAll, NoFailure, NoneFails, WithoutFailure, Ended, HandsOver}
use Rattle.lite_write.specs.declared.write_all.WriteAllFuture.{WriteAllFuture}
use Rattle.lite_base.specs.Calm.{NoPending}
use Rattle.lite_io_base.specs.Laws.Steady.{never_waits_parts}
use Rattle.std.proofs.Common.{map}

-- The value of `write_all`: `Ok` of nothing, or an error.
abbrev pub WriteAllResult : Type 0
WriteAllResult = Result (Unit {0}) Error

module _ {W : Type 0} where
  module _ {writes : Runs WriteMark W} (laws : MarkLaws writes) where
    pub all_runs : FutureRunLaws (WritesAll writes)
    all_runs =
        record {
          rests = λ x. record {
            marks = [];
            came = laws.rests x.writer.now;
            handed = ((refl, refl), tt);
            stays = refl;
            idle = λ e. refl;
          };
          stays = λ x y h. h.idle refl;
          follows = λ x y z l m w h k. record {
            marks = h.marks ++ k.marks;
            came = laws.follows _ _ _ h.marks k.marks h.came k.came;
            handed = to_value_join HandsMarks _ _ _ h.marks k.marks l m w h.handed k.handed;
            stays = lent_still x.writer _ _ h.stays k.stays;
            idle = idle_join x y z l m h.idle k.idle;
          };
          once = λ x y l h. up_to_once l h.handed.1;
        }

    pub all_laws : FutureLaws (λ _. ⊤) (WritesAll writes)
    all_laws = future_laws_of all_runs (λ x y l w c h. tt)

    -- A step that does not yet return, followed by a poll result, is one run with that result.
    pub step_before : (x y z : WriteAllFuture W) (a : Poll WriteAllResult) → WritesSome writes x y
        → WritesAll writes y (a ∷ []) z → WritesAll writes x (a ∷ []) z
    step_before x y z a t h =
        record {
          marks = WriteMark.wrote t.taken ∷ h.marks;
          came = laws.follows x.writer.now y.writer.now z.writer.now
              (WriteMark.wrote t.taken ∷ []) h.marks t.came h.came;
          handed = (
            segments_before HandsMarks x.buf.now y.buf.now z.buf.now (WriteMark.wrote t.taken ∷ []) h.marks a []
                (λ k first. segment_before x.buf.now y.buf.now k (t.taken ∷ []) first a
                (y.buf.now, (t.some, t.front), refl)) h.handed.0,
            h.handed.1,
          );
          stays = lent_still x.writer y.writer z.writer t.stays h.stays;
          idle = λ e. cc e;
        }

  -- Each step leaves fewer bytes to be written.
  pub left_falls : {writes : Runs WriteMark W} (x y : WriteAllFuture W) → WritesSome writes x y
      → length y.buf.now < length x.buf.now
  left_falls x y t = omega (arith, ap length t.front ∙ length-append t.taken y.buf.now, t.some)

-- `write_all` returns `Ok` in the end if no write fails, and is pending only when its writer is.

pub no_failure_both : (l m : List WriteMark) → NoFailure l → NoFailure m → NoFailure (l ++ m)
no_failure_both [] m a b = b
no_failure_both (WriteMark.wrote [] ∷ l) m a b = absurd a
no_failure_both (WriteMark.fault kind ∷ l) m a b = absurd a
no_failure_both (_ ∷ l) m a b = no_failure_both l m a b

-- If a list of marks has no failure, the marks at its end have none.
pub no_failure_last : (l m : List WriteMark) → NoFailure (l ++ m) → NoFailure m
no_failure_last [] m a = a
no_failure_last (WriteMark.wrote [] ∷ l) m a = absurd a
no_failure_last (WriteMark.fault kind ∷ l) m a = absurd a
no_failure_last (_ ∷ l) m a = no_failure_last l m a

pub without_failure_laws : {W : Type 0} {writes : Runs WriteMark W} → MarkLaws writes → MarkLaws (WithoutFailure writes)
without_failure_laws laws =
    record {
      rests = λ x. (laws.rests x, tt);
      follows = λ x y z l m h k. (laws.follows x y z l m h.0 k.0, no_failure_both l m h.1 k.1);
    }

-- Each value is `Ok`.
abbrev pub AllOk : List WriteAllResult → Type 0
AllOk [] = ⊤
AllOk (v ∷ l) = (v ≡ Ok tt) × AllOk l

ended_ok : (left : List ℕ) (last : List WriteMark) (r : WriteAllResult) → NoFailure last → Ended left last r → r ≡ Ok tt
ended_ok left [] r a h = h.1
ended_ok left (WriteMark.wrote [] ∷ l) r a h = absurd a
ended_ok left (WriteMark.fault kind ∷ l) r a h = absurd a
ended_ok left (_ ∷ l) r a h = absurd h

hands_ok : (p q : List ℕ) (i : List WriteMark) (l : List (Poll WriteAllResult)) → NoFailure i → HandsOver p i l q
    → AllOk (strip l)
hands_ok p q i [] a h = tt
hands_ok p q i (Pending ∷ l) a h = hands_ok h.0.2 q h.0.1 l (no_failure_last h.0.0 h.0.1 (rw (← h.0.3) a)) (h.0.5, h.1)
hands_ok p q i (Ready r ∷ l) a h =
    let c = to_value_last HandsMarks p q i r l h in
    let last = no_failure_last (map WriteMark.wrote c.taken) c.last (rw (← c.cut) a) in
    rw h.1 (ended_ok c.between c.last r last c.given.0, tt)

pub all_ok_same : (l m : List WriteAllResult) → AllOk l → AllOk m → ComparableBy (λ v w. v ≡ w) l m
all_ok_same (v ∷ l) (w ∷ m) a b = rw (a.0, b.0) (refl, all_ok_same l m a.1 b.1)
all_ok_same _ _ a b = tt

module _ (p q : List ℕ) (i : List WriteMark) where
  hands_no_pending : (l : List (Poll WriteAllResult)) → NoPendingWrite i → HandsOver p i l q → NoPending l
  hands_no_pending [] a h = tt
  hands_no_pending (Pending ∷ l) a h =
      let w = h.0.4 in
      let one = (never_waits_parts h.0.0 h.0.1 (subst NoPendingWrite h.0.3 a)).0 in
      let last = never_waits_parts (map WriteMark.wrote w.taken) w.last (subst NoPendingWrite w.cut one) in
      absurd (subst NoPendingWrite w.given.0 last.1)
  hands_no_pending (Ready r ∷ l) a h = rw h.1 tt

module _ {W : Type 0} {writes : Runs WriteMark W} where
  pub all_steady : MarkLaws writes
      → FutureSteadyLaws (WritesAll writes) (WritesAll (WithoutFailure writes)) (NoneFails writes) (λ x y. ⊤)
  all_steady laws =
      record {
        laws = all_runs (without_failure_laws laws);
        steady = λ x y e l m x' y' h k.
            all_ok_same _ _ (hands_ok _ _ h.marks l h.came.1 h.handed) (hands_ok _ _ k.marks m k.came.1 k.handed);
        found = λ n x y l h. record {
          marks = h.marks;
          came = (h.came, n _ _ _ h.came);
          handed = h.handed;
          stays = h.stays;
          idle = h.idle;
        };
      }

  pub all_calm : {is_calm : W → Type 0} → CalmWriteLaws writes is_calm
      → CalmLaws (WritesAll writes) (λ (x : WriteAllFuture W). is_calm x.writer.now)
  all_calm c =
      record {
        no_pending = λ x y l k h. hands_no_pending x.buf.now y.buf.now h.marks l
            (c.no_pending x.writer.now y.writer.now h.marks k h.came) h.handed;
        calm_on = λ x y l k h. c.calm_on x.writer.now y.writer.now h.marks k h.came;
      }
