-- Laws about references that are replaced by clones.
use Rattle.std.specs.Prelude.{false, ⊤, Result, Ok, ◌≡◌, List, [], ◌∷◌, ◌++◌, Option, Some, None}
use Rattle.lite_reshape.specs.Uses.{AllByRecursion, ◌∙◌, refl, ap, sym, append_assoc, Ready, Pending, Bor, OptionBy}
use Rattle.lite_reshape.specs.Uses.{SameAnswer, Sameness, Answer, Gives, Waiting, item, items, NoPending, all_any}
use Rattle.lite_reshape.specs.Uses.{all_split, no_pending_join, ok_counting, Counting, Ranks, SteadinessBy}
use Rattle.lite_reshape.specs.Uses.{SteadyLawsBy, TakesNone, StreamLaws, Hints, NoHint, Runs, through_alike, Calming}
use Rattle.lite_reshape.specs.Uses.{laws_following, through_on, through_runs}
use Rattle.futures.specs.Task.{Lasting}
use Rattle.lite_base.specs.Armed.{Arms, EndsPending}
use Rattle.lite_base.specs.Laws.Armed.{no_pends}
use Rattle.lite_reshape.specs.Laws.Arming.{LastPolled, before_held, expanding_pends}
use Rattle.lite_base.specs.Laws.Answers.{all_append}
use Rattle.lite_base.specs.Ranks.{OkCounting, all_ok}
use Rattle.lite_reshape.specs.Cloned.{AlikeCloned, ClonedFrom, Clones, ClonesAll, ClonesUnrefused, EqualClones}
use Rattle.lite_reshape.specs.Cloned.{IsCloneRefusal, NoCloneRefused, NotCloneRefused, Refers, Refuses, cloned_parts}
use Rattle.lite_reshape.specs.Uses.{not_empty}
use Rattle.lite_reshape.specs.Laws.Calming.{expanding_calming}
use Rattle.lite_reshape.specs.Laws.Expanding.{FollowLaws, GivingOne, held_counting, held_ranks, expanding_following}
use Rattle.lite_reshape.specs.Laws.SteadyExpanding.{OneMade, expanding_agreeing, expanding_found_where}
use Rattle.lite_reshape.specs.declared.cloned.Cloned.{Cloned}
use Rattle.lite_reshape.specs.Expanding.{Expanding}
use Rattle.lite_reshape.specs.Laws.Agreeing.{refers_match}

module _ {T E : Type 0} (is_clone : T → T → Type 0) (is_infallible : T → Type 0) where
  clones_join : (x y : Bor T) (next : Option (Bor T)) (l m : List (Answer (Result T E)))
      → Clones is_clone is_infallible x l (Some y)
      → Clones is_clone is_infallible y m next → Clones is_clone is_infallible x (l ++ m) next
  clones_join x y (Some z) l m h k =
      let d = rw h.1 at k in
      (all_append _ l m h.0 d.0, d.1)
  clones_join x y None l m h k =
      let d = rw h.1 at k in (
        l ++ d.0,
        d.1,
        all_append _ l d.0 h.0 d.2,
        d.3,
        ap (λ n. l ++ n) d.4
            ∙ sym (append_assoc l d.0 _),
      )

  clones_giving : FollowLaws (Clones {E = E} is_clone is_infallible)
  clones_giving =
      record {
        rests = λ x. (tt, refl);
        stays = λ x y h. h.1;
        answers = λ x h. not_empty h.0 _ [] h.4;
        joins = clones_join;
      }

  pub cloned_laws : {S : Type 0} {run : Runs (Answer (Bor T)) S} {can_poll : S → Type 0} {hints : Hints S} → StreamLaws can_poll run hints
      → StreamLaws (λ m. can_poll m.stream) (ClonesAll {E = E} is_clone is_infallible run) NoHint
  cloned_laws laws =
      laws_following cloned_parts laws (expanding_following Refers _ clones_giving) (through_on cloned_parts laws)

-- One poll that returns a clone.
pub gives_copy : {T E : Type 0} (is_clone : T → T → Type 0) (is_infallible : T → Type 0) (x : Bor T) (copy : T)
    → is_clone x.now copy → Clones {E = E} is_clone is_infallible x (item (Ok copy) ∷ []) None
gives_copy is_clone is_infallible x copy h = ([], copy, tt, h, refl)

held_same : {R : Type 0} (v w : Option R) → w ≡ v → OptionBy (λ a b. a ≡ b) v w
held_same None None e = tt
held_same (Some v) (Some w) e = cc
held_same _ _ e = cc

-- Without allocation failures each reference leads to one item.
module _ {T E : Type 0} (is_clone : T → T → Type 0) where
  waits : (x y : Bor T) (l : List (Answer (Result T E))) → Clones is_clone (λ _. ⊤) x l (Some y) → Waiting l
  waits x y [] h = tt
  waits x y (a ∷ l) h = absurd (h.0.0.0 tt)

  hands : (x : Bor T) (l refused : List (Answer (Result T E))) (copy : T) → Refuses is_clone (λ _. ⊤) x refused
      → l ≡ refused ++ item (Ok copy) ∷ []
      → Gives l (Some (Ok copy))
  hands x l [] copy h e = rw e (refl, refl)
  hands x l (a ∷ refused) copy h e = absurd (h.0.0 tt)

  clones_one : GivingOne (Clones {E = E} is_clone (λ _. ⊤))
  clones_one = record { waits = waits; hands = λ x l h. (Ok h.1, hands x l h.0 h.1 h.2 h.4) }

  clones_alike : EqualClones is_clone → OneMade clones_one Sameness.equal (λ x y. x ≡ y)
  unfolding clones_one
  clones_alike equal x y l m e h k = ap Ok (equal x.now h.1 k.1 h.3 (rw e k.3))

  clones_made : (same : Bor T → Bor T → Type 0) → OneMade clones_one (ClonedFrom (Sameness.by same) is_clone) same
  unfolding clones_one
  clones_made same x y l m e h k = (x, y, e, (h.1, h.3, refl), (k.1, k.3, refl))

  -- Streams of clones are alike, by how the references of their sources are compared.
  cloned_alike : {S : Type 0} {ample : Runs (Answer (Bor T)) S} {alike : S → S → Type 0} (like : Sameness (Bor T))
      → SteadinessBy (SameAnswer like) ample alike
      → SteadinessBy (SameAnswer (ClonedFrom like is_clone)) (ClonesUnrefused {E = E} is_clone ample)
      (AlikeCloned like alike is_clone)
  cloned_alike Sameness.equal s x y e =
      through_alike cloned_parts x y (s x.stream y.stream e.0) (tt, held_same x.held y.held e.1)
      (expanding_agreeing clones_one Refers Sameness.equal Sameness.equal (refers_match _)
      (clones_alike e.2))
  cloned_alike (Sameness.by same) s x y e =
      through_alike cloned_parts x y (s x.stream y.stream e.0) (tt, e.1)
      (expanding_agreeing clones_one Refers (Sameness.by same) (ClonedFrom (Sameness.by same) is_clone)
      (refers_match same) (clones_made same))

  -- If `may` rules allocation failures out, lists of such results hold none.
  module _ (is_infallible : T → Type 0) (may : Answer (Result T E) → Type 0)
      (never : (x : Bor T) (a : Answer (Result T E)) → may a → IsCloneRefusal is_clone is_infallible x a → ⊥) where
    module _ (x : Bor T) where
      refuses_found : (l : List (Answer (Result T E))) → AllByRecursion may l → Refuses is_clone is_infallible x l
          → Refuses is_clone (λ _. ⊤) x l
      refuses_found [] all h = tt
      refuses_found (a ∷ l) all h = absurd (never x a all.0 h.0)

      clones_found : (l : List (Answer (Result T E))) (next : Option (Bor T)) → AllByRecursion may l
          → Clones is_clone is_infallible x l next → Clones is_clone (λ _. ⊤) x l next
      clones_found l (Some y) all h = (refuses_found l all h.0, h.1)
      clones_found l None all h =
          let own = all_split may h.0 (item (Ok h.1) ∷ []) (rw (← h.4) all) in
          (h.0, h.1, refuses_found h.0 own.0 h.2, h.3, h.4)

module _ {T E : Type 0} (is_clone : T → T → Type 0) (is_infallible : T → Type 0) {S : Type 0}
    {run ample : Runs (Answer (Bor T)) S} where
  found_where : (may : Answer (Result T E) → Type 0)
      → ((x : Bor T) (a : Answer (Result T E)) → may a → IsCloneRefusal is_clone is_infallible x a → ⊥)
      → TakesNone run ample
      → (x y : Cloned S (Bor T)) (l : List (Answer (Result T E))) → AllByRecursion may l
      → ClonesAll is_clone is_infallible run x l y
      → ClonesUnrefused is_clone ample x l y
  found_where may never takes x y l all h =
      record {
        ins = h.ins;
        came = takes x.stream y.stream h.ins h.came;
        related = expanding_found_where Refers may (clones_found is_clone is_infallible may never) (tt, x.held)
            (tt, y.held) h.ins l all h.related;
      }

  -- A run without an allocation failure of a clone is ample, if no poll of the source allocates memory.
  pub cloned_ample : TakesNone run ample → (x y : Cloned S (Bor T)) (l : List (Answer (Result T E))) → NoCloneRefused l
      → ClonesAll is_clone is_infallible run x l y → ClonesUnrefused is_clone ample x l y
  cloned_ample = found_where NotCloneRefused (λ r a ok refused. ok refused.1 refused.2)

  -- No poll allocates memory if neither the source nor a clone does.
  pub cloned_steady : (like : Sameness (Bor T)) {none : Type 0} {alike : S → S → Type 0}
      → SteadyLawsBy like run ample none alike
      → SteadyLawsBy (ClonedFrom like is_clone) (ClonesAll {E = E} is_clone is_infallible run)
      (ClonesUnrefused is_clone ample)
      (none × ((x : T) → is_infallible x)) (AlikeCloned like alike is_clone)
  cloned_steady like s =
      record {
        laws = through_runs cloned_parts s.laws
            (expanding_following Refers _ (clones_giving is_clone _));
        steady = cloned_alike is_clone like s.steady;
        found = λ n x y l h. found_where _ (λ r a all refused. refused.0 (n.1 r.now)) (s.found n.0) x y l
            (all_any l) h;
      }

-- A list of `Ok` items holds no allocation failure.
ok_not_refused : {T : Type 0} (E : Type 0) (l : List (Answer T)) → NoCloneRefused {E = E} (all_ok l)
ok_not_refused E [] = tt
ok_not_refused E (Ready None ∷ l) = (λ e d. cc d, ok_not_refused E l)
ok_not_refused E (_ ∷ l) = (λ e d. cc d, ok_not_refused E l)

-- The rank falls with each clone, and an allocation failure keeps it.
pub cloned_ok_counting : {T E : Type 0} (is_clone : T → T → Type 0) (is_infallible : T → Type 0) {S : Type 0}
    {run : Runs (Answer (Bor T)) S} {can_poll : S → Type 0} {hints : Hints S} {r : Ranks S} → StreamLaws can_poll run hints → Counting run r
    → OkCounting (ClonesAll {E = E} is_clone is_infallible run) (held_ranks cloned_parts r)
cloned_ok_counting {E} is_clone is_infallible {run} laws c =
    let found = ok_counting (held_counting cloned_parts laws c (clones_one is_clone)) in
    let unrefused = cloned_ample is_clone is_infallible (λ x y l h. h) in
    record {
      sized = found.sized;
      counts_on = λ x y l k h. c.counts_on x.stream y.stream h.ins k h.came;
      firm_on = λ x y l k h. c.firm_on x.stream y.stream h.ins k h.came;
      falls = λ x y a more k h.
          found.falls x y a more k
          (unrefused x y (all_ok (items (a ∷ more))) (ok_not_refused E (items (a ∷ more))) h);
      lowers = λ x y l k h. found.lowers x y l k (unrefused x y (all_ok l) (ok_not_refused E l) h);
    }

-- What was polled last is the source, if no reference that is held can be pending.
polled_source : {S R : Type 0} {run : Runs (Answer R) S} {registers : S → Lasting → Type 0} → Arms run registers
    → (s t : S) (held : Option R) (i : List (Answer R)) → run s i t → LastPolled (λ _. ⊥) held false i
    → registers t Lasting.armed
polled_source a s t None i came e = a.at s t i e came
polled_source a s t (Some v) i came e = absurd e

-- A clone and an allocation failure are returned at once, without a `Pending`.
module _ {T E : Type 0} (is_clone : T → T → Type 0) (is_infallible : T → Type 0) where
  module _ (x : Bor T) where
    refuses_no_pending : (l : List (Answer (Result T E))) → Refuses is_clone is_infallible x l → NoPending l
    refuses_no_pending [] h = tt
    refuses_no_pending (Pending ∷ l) h = cc
    refuses_no_pending (Ready a ∷ l) h = refuses_no_pending l h.1

    clones_no_pending : (l : List (Answer (Result T E))) (next : Option (Bor T))
        → Clones is_clone is_infallible x l next → NoPending l
    clones_no_pending l (Some y) h = refuses_no_pending l h.0
    clones_no_pending l None h = rw h.4 (no_pending_join h.0 _ (refuses_no_pending h.0 h.2) tt)

  pub clones_calming : Calming (Expanding Refers (Clones {E = E} is_clone is_infallible))
  clones_calming = expanding_calming Refers _ clones_no_pending

  not_pending : (x : Bor T) (l : List (Answer (Result T E))) (next : Option (Bor T))
      → Clones is_clone is_infallible x l next → EndsPending l → ⊥
  not_pending x l next h e = cc (no_pends false l (clones_no_pending x l next h) e)

  -- A `cloned` is armed if its source is.
  pub cloned_arms : {S : Type 0} {run : Runs (Answer (Bor T)) S} {registers : S → Lasting → Type 0} → Arms run registers
      → Arms (ClonesAll {E = E} is_clone is_infallible run) (λ m. registers m.stream)
  cloned_arms a =
      record {
        at = λ x y l e h.
            polled_source a x.stream y.stream y.held h.ins h.came
            (expanding_pends Refers (Clones is_clone is_infallible) (λ _. ⊥)
            (λ v w m g d. not_pending v m (Some w) g d) (λ v m g d. not_pending v m None g d) (tt, x.held) (tt, y.held)
            h.ins l h.related false false (before_held x.held) e);
      }
