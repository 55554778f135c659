-- `write_all` to a writer of which it is known what it keeps.
use Rattle.std.specs.Prelude.{◌≡◌, ℕ, List, [], ◌∷◌, ◌++◌, map, refl, Result, Ok, Err, IfOk, IsOk}
use Rattle.lite_views.specs.Uses.{◌∙◌, ap, sym, append_assoc, FoldsTo, Error, Poll, Ready, Pending, Gives}
use Rattle.lite_views.specs.Uses.{to_value_last, Runs, Stored, Stores, stores_kept, WriteMark, bytes_taken, taken_both}
use Rattle.lite_base.specs.Laws.Segments.{segment_front}
use Rattle.lite_write.specs.WriteAll.{Hands, Ended, HandsMarks, HandsOver, WritesAll}
use Rattle.lite_write.specs.declared.write_all.WriteAllFuture.{WriteAllFuture}
use Rattle.lite_views.proofs.Futures.{when_left}
use Rattle.lite_views.specs.OneCall.{AcceptsAll, AllAccepted}
use Rattle.lite_views.specs.Answering.{WhenLeft}

abbrev writes_of : List (List ℕ) → List WriteMark
writes_of = map WriteMark.wrote

handed_bytes : (l : List (List ℕ)) (offered left : List ℕ) → FoldsTo Hands offered l left
    → offered ≡ bytes_taken (writes_of l) ++ left
handed_bytes [] offered left h = h
handed_bytes (xs ∷ l) offered left h =
    rw (h.1.1, handed_bytes l h.0 left h.2) (sym (append_assoc xs (bytes_taken (writes_of l)) left))

ended_ok : (left : List ℕ) (last : List WriteMark) (u : Unit {0}) → Ended left last (Ok u) → (left ≡ []) × (last ≡ [])
ended_ok left [] u e = (e.0, refl)
ended_ok left (WriteMark.wrote [] ∷ []) u e = absurd e
ended_ok left (WriteMark.fault kind ∷ []) u e = absurd e
ended_ok left last u e = absurd e

-- what was taken is what was offered
pub all_handed : (out : List (Poll (Result (Unit {0}) Error))) (offered left : List ℕ) (marks : List WriteMark)
    (u : Unit {0}) → HandsOver offered marks out left
    → Gives out (Ok u) → bytes_taken marks ≡ offered
all_handed [] offered left marks u h g = absurd g
all_handed (Pending ∷ out) offered left marks u ((first, rest, m, cut, w, more), up) g =
    rw (segment_front offered m marks first rest Pending w cut, w.given.0, taken_both)
    (rw (all_handed out m left rest u (more, up) g, w.given.2) (sym (handed_bytes w.taken offered w.between w.folds)))
all_handed (Ready r ∷ out) offered left marks u h g =
    let w = to_value_last HandsMarks offered left marks r out h in
    let over = ended_ok w.between w.last u (rw (← g.0) w.given.0) in
    rw (w.cut, taken_both, over.1) (sym (rw over.0 at (handed_bytes w.taken offered w.between w.folds)))

all_written : (v : Result (Unit {0}) Error) (out : List (Poll (Result (Unit {0}) Error)))
    (offered left before after : List ℕ) (marks : List WriteMark)
    → HandsOver offered marks out left → Gives out v → after ≡ before ++ bytes_taken marks
    → IfOk v (λ u. after ≡ before ++ offered)
all_written (Ok u) out offered left before after marks h g k = k ∙ rw (all_handed out offered left marks u h g)
all_written (Err e) out offered left before after marks h g k = tt

pub written_left : {W E : Type 0} (writes : Runs WriteMark W) (stored : Stored W) (x : WriteAllFuture W)
    → Stores writes stored x.writer.now
    → WhenLeft E (WritesAll writes) x (λ y. y.writer.ghost_name ≡ x.writer.ghost_name)
    (λ y r. IfOk r (λ u. stored.kept y.writer.now ≡ stored.kept x.writer.now ++ x.buf.now))
written_left writes stored x stores =
    when_left (WritesAll writes) x (λ y. y.writer.ghost_name ≡ x.writer.ghost_name)
    (λ y r. IfOk r (λ u. stored.kept y.writer.now ≡ stored.kept x.writer.now ++ x.buf.now)) refl
    (λ ins y ran. ap (λ r. r.ghost_name) ran.stays)
    (λ ins y v gives ran. all_written v ins x.buf.now y.buf.now (stored.kept x.writer.now) (stored.kept y.writer.now)
    ran.marks ran.handed gives (stores_kept writes stored x.writer.now y.writer.now ran.marks stores ran.came))

-- `write_all` to a writer whose writes do not fail
accepted_part : (l m : List WriteMark) → AllAccepted (l ++ m) → AllAccepted m
accepted_part [] m a = a
accepted_part (WriteMark.fault kind ∷ l) m a = absurd a
accepted_part (WriteMark.wrote [] ∷ l) m a = absurd a
accepted_part (_ ∷ l) m a = accepted_part l m a

ends_ok : (left : List ℕ) (last : List WriteMark) (v : Result (Unit {0}) Error) → AllAccepted last → Ended left last v
    → IsOk v
ends_ok left last (Ok u) a e = refl
ends_ok left [] (Err e) a h = let none = h.1 in cc
ends_ok left (WriteMark.wrote [] ∷ []) (Err e) a h = absurd a
ends_ok left (WriteMark.fault kind ∷ []) (Err e) a h = absurd a
ends_ok left last (Err e) a h = absurd h

all_accepted : (out : List (Poll (Result (Unit {0}) Error))) (offered left : List ℕ) (marks : List WriteMark)
    (v : Result (Unit {0}) Error) → AllAccepted marks → HandsOver offered marks out left → Gives out v → IsOk v
all_accepted [] offered left marks v a h g = absurd g
all_accepted (Pending ∷ out) offered left marks v a ((first, rest, m, cut, w, more), up) g =
    all_accepted out m left rest v (accepted_part first rest (rw (← cut) a)) (more, up) g
all_accepted (Ready r ∷ out) offered left marks v a h g =
    let w = to_value_last HandsMarks offered left marks r out h in
    rw (← g.0) (ends_ok w.between w.last r (accepted_part (writes_of w.taken) w.last (rw (← w.cut) a)) w.given.0)

pub accepted_left : {W E : Type 0} (writes : Runs WriteMark W) (x : WriteAllFuture W) → AcceptsAll writes x.writer.now
    → WhenLeft E (WritesAll writes) x (λ y. y.writer.ghost_name ≡ x.writer.ghost_name) (λ y r. IsOk r)
unfolding AcceptsAll
accepted_left writes x accepts =
    when_left (WritesAll writes) x (λ y. y.writer.ghost_name ≡ x.writer.ghost_name) (λ y r. IsOk r) refl
    (λ ins y ran. ap (λ r. r.ghost_name) ran.stays)
    (λ ins y v gives ran. all_accepted ins x.buf.now y.buf.now ran.marks v (accepts ran.marks y.writer.now ran.came)
    ran.handed gives)
