-- Laws of futures that write frames.
use Rattle.std.specs.Prelude.{◌≡◌, ◌⊎◌, ◌≤◌, ⊤, List, [], ◌∷◌, ◌++◌, length, Result, Ok, Err}
use Rattle.std.specs.List.{AllZip}
use Rattle.std.specs.declared.io.Error.{Error}
use Rattle.std.proofs.Common.{◌∙◌, ap, arith, inl, inr, refl}
use Rattle.futures.specs.declared.task.Poll.{Poll}
use Rattle.framed.specs.Uses.{MarkLaws, Pending, Ready, Runs, WriteMark}
use Rattle.lite_base.specs.Answers.{ComparableBy, Waiting, strip}
use Rattle.lite_base.specs.Calm.{CalmLaws, NoPending}
use Rattle.lite_base.specs.FutureLaws.{FutureLaws, FutureRunLaws}
use Rattle.lite_base.specs.Laws.FutureLaws.{future_laws_of}
use Rattle.lite_base.specs.Steady.{FutureSteadyLaws}
use Rattle.lite_io_base.specs.Steady.{CalmWriteLaws}
use Rattle.lite_write.specs.Laws.WriteAll.{all_calm, all_runs, all_steady, without_failure_laws}
use Rattle.lite_write.specs.WriteAll.{NoneFails, WithoutFailure, WritesAll}
use Rattle.lite_write.specs.declared.write_all.WriteAllFuture.{WriteAllFuture}
use Rattle.framed.specs.SendFuture.{SendsFrames, SendsIfEncoded, WithError}
use Rattle.framed.specs.declared.send_future.SendFuture.{SendFuture}

-- What the writer's polls returned, and the same with another error.
abbrev Written : Type 0
Written = List (Poll (Result (Unit {0}) Error))

module _ {E : Type 0} (from_gives : Error → E → Type 0) where
  -- The poll results of a future that sends.
  abbrev Sending : Type 0
  Sending = List (Poll (Result (Unit {0}) E))

  no_results : (l : Written) → AllZip (WithError from_gives) l [] → l ≡ []
  no_results [] h = refl
  no_results (a ∷ l) h = absurd h

  still_waiting : (l : Written) (out : Sending) → AllZip (WithError from_gives) l out → Waiting out → Waiting l
  still_waiting [] [] h w = tt
  still_waiting [] (b ∷ out) h w = absurd h
  still_waiting (a ∷ l) [] h w = absurd h
  still_waiting (Pending ∷ l) (Pending ∷ out) h w = still_waiting l out h.1 w
  still_waiting (Pending ∷ l) (Ready b ∷ out) h w = absurd h.0
  still_waiting (Ready (Ok u) ∷ l) (Pending ∷ out) h w = absurd h.0
  still_waiting (Ready (Err e) ∷ l) (Pending ∷ out) h w = absurd h.0
  still_waiting (Ready a ∷ l) (Ready b ∷ out) h w = absurd w

  both_zip : (l m : Written) (out more : Sending) → AllZip (WithError from_gives) l out → AllZip (WithError from_gives) m more
      → AllZip (WithError from_gives) (l ++ m) (out ++ more)
  both_zip [] m [] more h k = k
  both_zip [] m (b ∷ out) more h k = absurd h
  both_zip (a ∷ l) m [] more h k = absurd h
  both_zip (a ∷ l) m (b ∷ out) more h k = (h.0, both_zip l m out more h.1 k)

  as_many : (l : Written) (out : Sending) → AllZip (WithError from_gives) l out → length (strip out) ≡ length (strip l)
  as_many [] [] h = refl
  as_many [] (b ∷ out) h = absurd h
  as_many (a ∷ l) [] h = absurd h
  as_many (Pending ∷ l) (Pending ∷ out) h = as_many l out h.1
  as_many (Pending ∷ l) (Ready b ∷ out) h = absurd h.0
  as_many (Ready (Ok u) ∷ l) (Pending ∷ out) h = absurd h.0
  as_many (Ready (Err e) ∷ l) (Pending ∷ out) h = absurd h.0
  as_many (Ready a ∷ l) (Ready b ∷ out) h = let rest = as_many l out h.1 in omega (arith, rest)

  with_none : (l : List (Result (Unit {0}) E)) → ComparableBy (λ v w. v ≡ w) l []
  with_none [] = tt
  with_none (v ∷ l) = tt

  -- If the first value of the writer is `Ok`, so is that of the future.
  first_ok : (l : Written) (out : Sending) → AllZip (WithError from_gives) l out → ComparableBy (λ v w. v ≡ w) (strip l) (Ok tt ∷ [])
      → ComparableBy (λ v w. v ≡ w) (strip out) (Ok tt ∷ [])
  first_ok [] [] h k = tt
  first_ok [] (b ∷ out) h k = absurd h
  first_ok (a ∷ l) [] h k = absurd h
  first_ok (Pending ∷ l) (Pending ∷ out) h k = first_ok l out h.1 k
  first_ok (Pending ∷ l) (Ready b ∷ out) h k = absurd h.0
  first_ok (Ready (Ok u) ∷ l) (Pending ∷ out) h k = absurd h.0
  first_ok (Ready (Err e) ∷ l) (Pending ∷ out) h k = absurd h.0
  first_ok (Ready (Ok u) ∷ l) (Ready (Ok v) ∷ out) h k = (refl, with_none (strip out))
  first_ok (Ready (Ok u) ∷ l) (Ready (Err e) ∷ out) h k = absurd h.0
  first_ok (Ready (Err e) ∷ l) (Ready b ∷ out) h k = let no = k.0 in cc

  calm_zip : (l : Written) (out : Sending) → AllZip (WithError from_gives) l out → NoPending l → NoPending out
  calm_zip [] [] h k = tt
  calm_zip [] (b ∷ out) h k = absurd h
  calm_zip (a ∷ l) [] h k = absurd h
  calm_zip (Pending ∷ l) out h k = absurd k
  calm_zip (Ready (Ok u) ∷ l) (Pending ∷ out) h k = absurd h.0
  calm_zip (Ready (Err e) ∷ l) (Pending ∷ out) h k = absurd h.0
  calm_zip (Ready a ∷ l) (Ready b ∷ out) h k = calm_zip l out h.1 k

  module _ {O : Type 0} where
    same_future : (x y : SendFuture O E) → y.encoded ≡ x.encoded → y.writing ≡ x.writing → y ≡ x
    same_future x y e f =
        ap (λ r. record { writing = y.writing; encoded = r }) e ∙ ap (λ w. record { writing = w; encoded = x.encoded }) f

  module _ {O : Type 0} {writes : Runs WriteMark O} where
    module _ (laws : MarkLaws writes) where
      rests_by : (r : Result (Unit {0}) E) (w : WriteAllFuture O) → SendsIfEncoded from_gives writes r w [] r w
      rests_by (Err e) w = (refl, refl)
      rests_by (Ok u0) w = (refl, [], (all_runs laws).rests w, tt)

      stays_by : (r s : Result (Unit {0}) E) (w v : WriteAllFuture O) → SendsIfEncoded from_gives writes r w [] s v → (s ≡ r) × (v ≡ w)
      stays_by (Err e) s w v h = h
      stays_by (Ok u0) s w v (none, l, ran, zip) = (none, (all_runs laws).stays w v (rw (no_results l zip) at ran))

      follows_by : (r s t : Result (Unit {0}) E) (w v u : WriteAllFuture O) (l m : Sending) → Waiting l → SendsIfEncoded from_gives writes r w l s v → SendsIfEncoded from_gives writes s v m t u
          → SendsIfEncoded from_gives writes r w (l ++ m) t u
      follows_by (Err e) s t w v u [] m z h k = rw (h.0, h.1) at k
      follows_by (Err e) s t w v u (a ∷ l) m z h k = absurd (rw h.0 at z)
      follows_by (Ok u0) s t w v u l m z (none, i, ran, zip) k =
          let (last, j, more, also) = rw none at k in
          (last, i ++ j, (all_runs laws).follows w v u i j (still_waiting i l zip z) ran more, both_zip i j l m zip also)

      once_by : (r s : Result (Unit {0}) E) (w v : WriteAllFuture O) (l : Sending) → SendsIfEncoded from_gives writes r w l s v → length (strip l) ≤ 1
      once_by (Err e) s w v [] h = omega arith
      once_by (Err e) s w v (a ∷ l) h = rw (h.0, h.1) (omega arith)
      once_by (Ok u0) s w v l (none, i, ran, zip) =
          let one = (all_runs laws).once w v i ran in omega (arith, as_many i l zip, one)

      pub sends_runs : FutureRunLaws (SendsFrames from_gives writes)
      sends_runs =
          record {
            rests = λ x. rests_by x.encoded x.writing;
            stays = λ x y h. let k = stays_by x.encoded y.encoded x.writing y.writing h in same_future x y k.0 k.1;
            follows = λ x y z l m w h k. follows_by x.encoded y.encoded z.encoded x.writing y.writing z.writing l m w h k;
            once = λ x y l h. once_by x.encoded y.encoded x.writing y.writing l h;
          }

      pub sends_laws : FutureLaws (λ _. ⊤) (SendsFrames from_gives writes)
      sends_laws = future_laws_of sends_runs (λ x y l w c h. tt)

    pub sends_calm : {is_calm : O → Type 0} → CalmWriteLaws writes is_calm
        → CalmLaws (SendsFrames from_gives writes) (λ (x : SendFuture O E). is_calm x.writing.writer.now)
    sends_calm {is_calm} c =
        record {
          no_pending = λ x y l k h. no_pending_by x.encoded y.encoded x.writing y.writing l k h;
          calm_on = λ x y l k h. calm_by x.encoded y.encoded x.writing y.writing l k h;
        }
      where
        no_pending_by : (r s : Result (Unit {0}) E) (w v : WriteAllFuture O) (l : Sending) → is_calm w.writer.now → SendsIfEncoded from_gives writes r w l s v → NoPending l
        no_pending_by (Err e) s w v [] k h = tt
        no_pending_by (Err e) s w v (a ∷ l) k h = rw (h.0, h.1) tt
        no_pending_by (Ok u0) s w v l k (none, i, ran, zip) = calm_zip i l zip ((all_calm c).no_pending w v i k ran)

        calm_by : (r s : Result (Unit {0}) E) (w v : WriteAllFuture O) (l : Sending) → is_calm w.writer.now → SendsIfEncoded from_gives writes r w l s v → is_calm v.writer.now
        calm_by (Err e) s w v [] k h = rw h.1 k
        calm_by (Err e) s w v (a ∷ l) k h = rw h.3 k
        calm_by (Ok u0) s w v l k (none, i, ran, zip) = (all_calm c).calm_on w v i k ran

  module _ {O : Type 0} {writes : Runs WriteMark O} (laws : MarkLaws writes) where
    -- The runs in which no write fails.
    abbrev ample_laws : MarkLaws (WithoutFailure writes)
    ample_laws = without_failure_laws laws

    -- A writer to which nothing is left to write.
    abbrev with_nothing : WriteAllFuture O → WriteAllFuture O
    with_nothing w = record w { buf = record w.buf { now = [] } }

    nothing_written : (w : WriteAllFuture O) → WritesAll (WithoutFailure writes) (with_nothing w) (Ready (Ok tt) ∷ []) (with_nothing w)
    nothing_written w =
        record {
          marks = [];
          came = (laws.rests w.writer.now, tt);
          handed = (
            ([], [], [], refl, record { taken = []; last = []; cut = refl; between = []; folds = refl; given = ((refl, refl), refl) }, (refl, refl)),
            refl,
          );
          stays = refl;
          idle = λ e. cc e;
        }

    at_most_ok : (out : List (Result (Unit {0}) E)) → length out ≤ 1 → ComparableBy (λ v w. v ≡ w) out (Ok tt ∷ [])
        → (out ≡ []) ⊎ (out ≡ Ok tt ∷ [])
    at_most_ok [] k h = inl refl
    at_most_ok (v ∷ []) k h = inr (rw h.0 refl)
    at_most_ok (v ∷ u ∷ l) k h = absurd (omega (arith, k))

    both_ok : (l m : List (Result (Unit {0}) E)) → (l ≡ []) ⊎ (l ≡ Ok tt ∷ []) → (m ≡ []) ⊎ (m ≡ Ok tt ∷ []) → ComparableBy (λ v w. v ≡ w) l m
    both_ok l m (inl e) k = rw e tt
    both_ok l m (inr e) (inl k) = rw (e, k) tt
    both_ok l m (inr e) (inr k) = rw (e, k) (refl, tt)

    sent_ok : (s : Result (Unit {0}) E) (w v : WriteAllFuture O) (out : Sending) → SendsIfEncoded from_gives (WithoutFailure writes) (Ok tt) w out s v
        → (strip out ≡ []) ⊎ (strip out ≡ Ok tt ∷ [])
    sent_ok s w v out (none, i, ran, zip) =
        let first = (all_steady laws).steady w (with_nothing w) tt i (Ready (Ok tt) ∷ []) v (with_nothing w) ran (nothing_written w) in
        let one = (all_runs ample_laws).once w v i ran in
        at_most_ok (strip out) (omega (arith, as_many i out zip, one)) (first_ok i out zip first)

    same_sent : (r q s t : Result (Unit {0}) E) (w v x y : WriteAllFuture O) (l m : Sending) → q ≡ r
        → SendsIfEncoded from_gives (WithoutFailure writes) r w l s v → SendsIfEncoded from_gives (WithoutFailure writes) q x m t y
        → ComparableBy (λ v w. v ≡ w) (strip l) (strip m)
    same_sent (Err e) (Err f) s t w v x y [] m is h k = tt
    same_sent (Err e) (Err f) s t w v x y (a ∷ l) [] is h k = rw h.0 tt
    same_sent (Err e) (Err f) s t w v x y (a ∷ l) (b ∷ m) is h k =
        let same : f ≡ e = cc is in rw (h.0, h.1, k.0, same) (refl, tt)
    same_sent (Err e) (Ok u0) s t w v x y l m is h k = cc is
    same_sent (Ok u0) (Err f) s t w v x y l m is h k = cc is
    same_sent (Ok u0) (Ok u1) s t w v x y l m is h k = both_ok (strip l) (strip m) (sent_ok s w v l h) (sent_ok t x y m k)

    found_by : NoneFails writes → (r s : Result (Unit {0}) E) (w v : WriteAllFuture O) (l : Sending) → SendsIfEncoded from_gives writes r w l s v
        → SendsIfEncoded from_gives (WithoutFailure writes) r w l s v
    found_by n (Err e) s w v [] h = h
    found_by n (Err e) s w v (a ∷ l) h = h
    found_by n (Ok u0) s w v l (none, i, ran, zip) = (none, i, (all_steady laws).found n w v i ran, zip)

    pub sends_steady : FutureSteadyLaws (SendsFrames from_gives writes) (SendsFrames from_gives (WithoutFailure writes)) (NoneFails writes)
        (λ (x y : SendFuture O E). y.encoded ≡ x.encoded)
    sends_steady =
        record {
          laws = sends_runs ample_laws;
          steady = λ x y e l m x' y' h k.
              same_sent x.encoded y.encoded x'.encoded y'.encoded x.writing x'.writing y.writing y'.writing l m e h k;
          found = λ n x y l h. found_by n x.encoded y.encoded x.writing y.writing l h;
        }
