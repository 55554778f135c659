-- Laws about two streams whose items are paired.
use Rattle.std.specs.Prelude.{Bool, true, false, ◌≡◌, ℕ, zero, suc, ◌+◌, List, [], ◌∷◌, ◌++◌, Option, Some, None}
use Rattle.std.proofs.Common.{◌≤◌}
use Rattle.futures.specs.Task.{Lasting}
use Rattle.lite_base.specs.Armed.{Arms, EndsPending, pends_last}
use Rattle.lite_base.specs.Laws.Armed.{pends_anew}
use Rattle.lite_merge.specs.Uses.{sym, ◌∙◌, inl, inr, refl, ap, arith, Poll, Ready, Pending, Answer, end, item, items, CalmLaws}
use Rattle.lite_merge.specs.Uses.{waits, Lowers-at_most, same_hint, AtMost, Lowers, Counting, Ranks, held_rank}
use Rattle.lite_merge.specs.Uses.{StreamLaws, Hints, NoHint, Runs, Pairwise, SameHeld, Sameness, SteadyLawsBy}
use Rattle.lite_base.specs.Laws.Ranks.{Lowers-below}
use Rattle.lite_base.specs.Laws.Answers.{IsItem, items_each}
use Rattle.lite_base.specs.Laws.StreamLaws.{laws_of, runs_of}
use Rattle.lite_base.specs.Ranks.{count_held}
use Rattle.lite_base.specs.StreamLaws.{RunLaws}
use Rattle.lite_stream.specs.Laws.Calming.{calm_two}
use Rattle.lite_stream.specs.Laws.Held.{held_falls, held_first, held_less, held_level, held_sized}
use Rattle.std.specs.List.{AllByRecursion}
use Rattle.lite_merge.specs.Zip.{Pairing, Pairs, WithHeld, ZipRegisters, Zips, pair_with, pendings, zip_ranks}
use Rattle.lite_base.specs.Alike.{SameAnswer, SameItem}
use Rattle.lite_base.specs.Answers.{ComparableBy, strip}
use Rattle.lite_base.specs.Laws.Alike.{both_items, comparable_nil, ends_same, held_same, item_same, pairs_same, same_answer}
use Rattle.lite_merge.specs.declared.zip.Zip.{Zip}

module _ {C : Type 0} where
  pendings_join : (n : ℕ) (l m : List (Poll C)) → pendings n l ++ m ≡ pendings n (l ++ m)
  pendings_join zero l m = refl
  pendings_join (suc n) l m = rw (pendings_join n l m)

  pendings_more : (n k : ℕ) (l : List (Poll C)) → pendings n (pendings k l) ≡ pendings (n + k) l
  pendings_more zero k l = ap (λ m. pendings m l) (omega arith)
  pendings_more (suc n) k l =
      let e : suc (n + k) ≡ suc n + k = omega arith in
      ap (λ m. Pending ∷ m) (pendings_more n k l) ∙ ap (λ m. pendings m l) e

  waits_pendings : (n : ℕ) (l : List (Poll C)) → waits (pendings n l) ≡ n + waits l
  waits_pendings zero l = omega arith
  waits_pendings (suc n) l = omega (arith, waits_pendings n l)

  not_none : (n : ℕ) (z : Poll C) (r : List (Poll C)) → [] ≡ pendings n (z ∷ r) → ⊥
  not_none zero z r e = cc
  not_none (suc n) z r e = cc

module _ {C : Type 0} where
  not_items : (n : ℕ) (y : C) (l : List C) → items (y ∷ l) ≡ pendings n [] → ⊥
  not_items zero y l e = cc
  not_items (suc n) y l e = cc

  -- A list of items holds no `Pending`.
  items_rest : (n : ℕ) (z : Answer C) (r : List (Answer C)) → AllByRecursion IsItem (pendings n (z ∷ r))
      → AllByRecursion IsItem r
  items_rest zero z r h = h.1
  items_rest (suc n) z r h = cc

pendings_lower : (C : Type 0) (n : ℕ) (xs ys : List ℕ) → AtMost xs ys → Lowers {A = C} (pendings n []) xs ys
pendings_lower C zero xs ys h = h
pendings_lower C (suc n) xs ys h = pendings_lower C n xs ys h

none_pending : {C D : Type 0} (n : ℕ) → [] ≡ pendings {A = C} n [] → pendings {A = D} n [] ≡ []
none_pending zero e = refl
none_pending (suc n) e = cc

pairing_starts : {A : Type 0} (B : Type 0) (f : Option A) → Pairing {B = B} f [] [] [] f
pairing_starts B None = (refl, refl, refl)
pairing_starts B (Some x) = inl (0, refl, refl, refl, refl)

-- Induction on the two lists: nothing happens, the item that is held waits or is paired, or the first stream returns a
-- result.
module _ {A B : Type 0} (g : Option A)
    (P : Option A → List (Answer A) → List (Answer B) → List (Answer (A × B)) → Type 0)
    (nothing : g ≡ None → P None [] [] [])
    (still : (x : A) (n : ℕ) → g ≡ Some x → P (Some x) [] (pendings n []) (pendings n []))
    (paired : (x : A) (i : List (Answer A)) (n : ℕ) (b : Option B) (j : List (Answer B)) (l : List (Answer (A × B)))
    → P None i j l → P (Some x) i (pendings n (Ready b ∷ j)) (pendings n (pair_with x b ∷ l)))
    (pends : (i : List (Answer A)) (j : List (Answer B)) (l : List (Answer (A × B))) → P None i j l
    → P None (Pending ∷ i) j (Pending ∷ l))
    (ended : (i : List (Answer A)) (j : List (Answer B)) (l : List (Answer (A × B))) → P None i j l
    → P None (end ∷ i) j (end ∷ l))
    (taken : (x : A) (i : List (Answer A)) (j : List (Answer B)) (b : Answer (A × B)) (l : List (Answer (A × B)))
    → P (Some x) i j (b ∷ l) → P None (item x ∷ i) j (b ∷ l)) where
  held_by : (x : A) (i : List (Answer A)) (j : List (Answer B)) (l : List (Answer (A × B)))
      → ((more : List (Answer B)) (rest : List (Answer (A × B))) → Pairs i more rest g → P None i more rest)
      → Pairing (Some x) i j l g → P (Some x) i j l
  held_by x i j l rest (inl c) = rw (c.1, c.2, c.3) (still x c.0 c.4)
  held_by x i j l rest (inr c) = rw (c.4, c.5) (paired x i c.0 c.1 c.2 c.3 (rest c.2 c.3 c.6))

  pairs_by : (i : List (Answer A)) (j : List (Answer B)) (l : List (Answer (A × B))) → Pairs i j l g → P None i j l
  pairs_by [] j l c = rw (c.0, c.1) (nothing c.2)
  pairs_by (a ∷ i) j [] c = absurd c
  pairs_by (Pending ∷ i) j (b ∷ l) c = rw c.0 (pends i j l (pairs_by i j l c.1))
  pairs_by (Ready None ∷ i) j (b ∷ l) c = rw c.0 (ended i j l (pairs_by i j l c.1))
  pairs_by (Ready (Some x) ∷ i) j (b ∷ l) c = taken x i j b l (held_by x i j (b ∷ l) (pairs_by i) c)

  pub pairing_by : (f : Option A) (i : List (Answer A)) (j : List (Answer B)) (l : List (Answer (A × B)))
      → Pairing f i j l g → P f i j l
  pairing_by None i j l c = pairs_by i j l c
  pairing_by (Some x) i j l c = held_by x i j l (pairs_by i) c

module _ {A B : Type 0} where
  -- The item that is held may wait in two parts of a run.
  module _ (x : A) (k : List (Answer A)) (n : ℕ) (s : List (Answer B)) (m : List (Answer (A × B))) (h : Option A) where
    begun : Pairing (Some x) k s m h → Pairing (Some x) k (pendings n [] ++ s) (pendings n [] ++ m) h
    begun (inl c) =
        inl (
          n + c.0,
          c.1,
          rw (c.2, pendings_join, pendings_more),
          rw (c.3, pendings_join, pendings_more),
          c.4,
        )
    begun (inr c) =
        inr (
          n + c.0,
          c.1,
          c.2,
          c.3,
          rw (c.4, pendings_join, pendings_more),
          rw (c.5, pendings_join, pendings_more),
          c.6,
        )

  pairing_empty : (f g : Option A) (i : List (Answer A)) (j : List (Answer B)) → Pairing f i j [] g → (i ≡ [])
      × (j ≡ []) × (g ≡ f)
  pairing_empty None g [] j c = (refl, c.0, c.2)
  pairing_empty None g (a ∷ i) j c = absurd c
  pairing_empty (Some x) g i j (inl c) = (c.1, c.2 ∙ none_pending c.0 c.3, c.4)
  pairing_empty (Some x) g i j (inr c) = absurd (not_none c.0 (pair_with x c.1) c.3 c.5)

  pub ready_pairs : (x : A) (b : Option B) → WithHeld x [] (Pairs []) (Ready b ∷ []) (pair_with x b ∷ []) None
  ready_pairs x b = inr (0, b, [], [], refl, refl, (refl, refl, refl))

  -- If items were returned and the first stream was not polled, they came of the item that was held.
  alone : (f g : Option A) (j : List (Answer B)) (y : A × B) (l : List (A × B)) → Pairing f [] j (items (y ∷ l)) g
      → (g ≡ None) × (v : A) × (f ≡ Some v)
  alone None g j y l c = cc
  alone (Some x) g j y l (inl c) = absurd (not_items c.0 y l c.3)
  alone (Some x) g j y l (inr c) = (c.6.2, x, refl)

  -- A pair is no `Pending`.
  pair_no_pending : (x : A) (b : Option B) (l : List (Answer (A × B))) → waits (pair_with x b ∷ l) ≡ waits l
  pair_no_pending x None l = refl
  pair_no_pending x (Some y) l = refl

module _ {S U A B : Type 0} {run : Runs (Answer A) S} {run' : Runs (Answer B) U} where
  pub zip_runs : RunLaws run → RunLaws run' → RunLaws (Zips run run')
  zip_runs s u =
      record {
        rests = λ x. record {
          firsts = [];
          seconds = [];
          came = s.rests x.first;
          then_came = u.rests x.second;
          paired = pairing_starts B x.item_slot;
        };
        stays = λ x y h.
            let e = pairing_empty x.item_slot y.item_slot h.firsts h.seconds h.paired in
            λ i. record {
              item_slot = e.2 i;
              first = (s.stays x.first y.first (rw e.0 at h.came)) i;
              second = (u.stays x.second y.second (rw e.1 at h.then_came)) i;
            };
        follows = λ x y z l m h k.
            record {
              firsts = h.firsts ++ k.firsts;
              seconds = h.seconds ++ k.seconds;
              came = s.follows x.first y.first z.first h.firsts k.firsts h.came k.came;
              then_came = u.follows x.second y.second z.second h.seconds k.seconds h.then_came k.then_came;
              paired = pairing_by y.item_slot
                  (λ f i j l. Pairing f (i ++ k.firsts) (j ++ k.seconds) (l ++ m) z.item_slot)
                  (λ e. rw e at k.paired) (λ v n e. begun v k.firsts n k.seconds m z.item_slot (rw e at k.paired))
                  (λ v i n b j l r. inr (
                    n,
                    b,
                    j ++ k.seconds,
                    l ++ m,
                    pendings_join n (Ready b ∷ j) k.seconds,
                    pendings_join n (pair_with v b ∷ l) m,
                    r,
                  ))
                  (λ i j l r. (refl, r)) (λ i j l r. (refl, r)) (λ v i j b l r. r) x.item_slot h.firsts h.seconds l
                  h.paired;
            };
      }

  pub zip_laws : {can_poll : S → Type 0} {hints : Hints S} {can_poll' : U → Type 0} {hints' : Hints U} → StreamLaws can_poll run hints → StreamLaws can_poll' run' hints'
      → StreamLaws (λ m. can_poll m.first × can_poll' m.second) (Zips run run') NoHint
  zip_laws s u =
      laws_of (zip_runs (runs_of s) (runs_of u)) (λ x y hint l e h. same_hint hint (0, None) l e tt)
      (λ x y l c h.
      (s.polls_on x.first y.first h.firsts c.0 h.came, u.polls_on x.second y.second h.seconds c.1 h.then_came))

  pub zip_counting : {can_poll : S → Type 0} {hints : Hints S} {r : Ranks S} → StreamLaws can_poll run hints → Counting run r
      → Counting (Zips run run') (zip_ranks r)
  zip_counting {r} s c =
      record {
        sized = λ x. held_sized (r.rank x.first) x.item_slot (c.sized x.first);
        counts_on = λ x y l k h. c.counts_on x.first y.first h.firsts k h.came;
        firm_on = λ x y l k h. c.firm_on x.first y.first h.firsts k h.came;
        falls = λ x y a more k h.
            held_falls h.firsts (r.rank y.first) (r.rank x.first) y.item_slot x.item_slot
            (λ b before e. c.falls x.first y.first b before k (rw e at h.came))
            (λ e. ap r.rank (s.stays x.first y.first (rw e at h.came)))
            (λ e. alone x.item_slot y.item_slot h.seconds a more (rw e at h.paired))
            -- If all results are items, so are the first stream's results.
            (pairing_by y.item_slot (λ f i j l. AllByRecursion IsItem l → AllByRecursion IsItem i) (λ e h. tt)
            (λ v n e h. tt) (λ v i n b j l r h. r (items_rest n (pair_with v b) l h)) (λ i j l r h. let e = h.0.1 in cc)
            (λ i j l r h. let e = h.0.1 in cc) (λ v i j b l r h. ((v, refl), r h)) x.item_slot h.firsts h.seconds
            (items (a ∷ more)) h.paired (items_each (a ∷ more)));
        lowers = λ x y l k h.
            let xs = r.rank y.first in
            let us = r.rank x.first in
            pairing_by y.item_slot
            (λ f i j l. Lowers i xs us → Lowers l (held_rank xs y.item_slot) (held_rank us f))
            (λ e h. held_level xs us None y.item_slot h (ap count_held e))
            (λ v n e h. pendings_lower (A × B) n _ _ (held_level xs us (Some v) y.item_slot h (ap count_held e)))
            (λ v i n b j l r h. Lowers-below (pendings n (pair_with v b ∷ l)) _ _
            (held_less _ us v (Lowers-at_most l _ _ (r h))))
            (λ i j l r. r) (λ i j l r. r)
            (λ v i j b l r h. Lowers-below (b ∷ l) _ _ (held_first xs us y.item_slot None h)) x.item_slot h.firsts
            h.seconds l h.paired (c.lowers x.first y.first h.firsts k h.came);
      }

  -- A `zip` of two calm streams is calm.
  pub zip_calm : {is_calm : S → Type 0} {is_calm' : U → Type 0} → CalmLaws run is_calm → CalmLaws run' is_calm'
      → CalmLaws (Zips run run') (λ x. is_calm x.first × is_calm' x.second)
  zip_calm s u =
      calm_two (λ x. x.first) (λ x. x.second) s u
      (λ x y l h. (
        h.firsts,
        h.seconds,
        h.came,
        h.then_came,
        pairing_by y.item_slot (λ f i j l. waits l ≤ waits i + waits j) (λ e. omega arith)
            (λ v n e. omega (arith, waits_pendings {C = Option B} n [], waits_pendings {C = Option (A × B)} n []))
            (λ v i n b j l r.
            omega
            (arith, r, waits_pendings n (Ready b ∷ j), waits_pendings n (pair_with v b ∷ l), pair_no_pending v b l))
            (λ i j l r. omega (arith, r)) (λ i j l r. r) (λ v i j b l r. r) x.item_slot h.firsts h.seconds l h.paired,
      ))

-- The steadiness of two streams whose items are paired.

strip_pendings : {C : Type 0} (n : ℕ) (l : List (Poll C)) → strip (pendings n l) ≡ strip l
strip_pendings zero l = refl
strip_pendings (suc n) l = strip_pendings n l

-- An item that is held comes before the others.
abbrev held_before : {A : Type 0} → Option A → List (Option A) → List (Option A)
held_before None is = is
held_before (Some x) is = Some x ∷ is

module _ {A B : Type 0} where
  -- The pair, or the end of the stream.
  abbrev with_other : A → Option B → Option (A × B)
  with_other x None = None
  with_other x (Some y) = Some (x, y)

  strip_pair : (x : A) (b : Option B) (l : List (Answer (A × B))) → strip (pair_with x b ∷ l) ≡ with_other x b ∷ strip l
  strip_pair x None l = refl
  strip_pair x (Some y) l = refl

  -- The same as `Pairs`, for lists of results without their `Pending`s.
  abbrev Matched : List (Option A) → List (Option B) → List (Option (A × B)) → Type 0
  Matched [] js out = out ≡ []
  Matched (None ∷ is) js out = (more : List (Option (A × B))) × (out ≡ None ∷ more) × Matched is js more
  Matched (Some x ∷ is) [] out = out ≡ []
  Matched (Some x ∷ is) (b ∷ js) out =
      (more : List (Option (A × B))) × (out ≡ with_other x b ∷ more) × Matched is js more

  matching : (f g : Option A) (i : List (Answer A)) (j : List (Answer B)) (l : List (Answer (A × B)))
      → Pairing f i j l g → Matched (held_before f (strip i)) (strip j) (strip l)
  matching f g =
      pairing_by g (λ f i j l. Matched (held_before f (strip i)) (strip j) (strip l)) (λ e. refl)
      (λ x n e. rw (strip_pendings, strip_pendings))
      (λ x i n b j l r. rw (strip_pendings, strip_pendings, strip_pair) (strip l, refl, r)) (λ i j l r. r)
      (λ i j l r. (strip l, refl, r)) (λ x i j b l r. r) f

  module _ (same : Sameness A) (other : Sameness B) where
    -- The pairs of two runs are the same, as far as both go.
    abbrev Out : List (Option (A × B)) → List (Option (A × B)) → Type 0
    Out = ComparableBy (SameAnswer (Pairwise same other))

    other_same : (x y : A) (b c : Option B) → SameItem same x y → SameAnswer other b c
        → SameAnswer (Pairwise same other) (with_other x b) (with_other y c)
    other_same x y None None e d = ends_same (Pairwise same other)
    other_same x y None (Some c) e d = absurd (both_items other None (Some c) d)
    other_same x y (Some b) None e d = absurd (both_items other (Some b) None d)
    other_same x y (Some b) (Some c) e d =
        same_answer (Pairwise same other) (x, b) (y, c) (pairs_same same other (x, b) (y, c) e (item_same other b c d))

    matched_same : (i k : List (Option A)) (j h : List (Option B)) (o p : List (Option (A × B))) → Matched i j o
        → Matched k h p → ComparableBy (SameAnswer same) i k → ComparableBy (SameAnswer other) j h → Out o p
    matched_same [] k j h o p r q c d = rw r tt
    matched_same (x ∷ i) [] j h o p r q c d = rw q (comparable_nil (SameAnswer (Pairwise same other)) o)
    matched_same (None ∷ i) (None ∷ k) j h o p r q c d =
        rw (r.1, q.1) (ends_same (Pairwise same other), matched_same i k j h r.0 q.0 r.2 q.2 c.1 d)
    matched_same (None ∷ i) (Some y ∷ k) j h o p r q c d = absurd (both_items same None (Some y) c.0)
    matched_same (Some x ∷ i) (None ∷ k) j h o p r q c d = absurd (both_items same (Some x) None c.0)
    matched_same (Some x ∷ i) (Some y ∷ k) [] h o p r q c d = rw r tt
    matched_same (Some x ∷ i) (Some y ∷ k) (b ∷ j) [] o p r q c d =
        rw q (comparable_nil (SameAnswer (Pairwise same other)) o)
    matched_same (Some x ∷ i) (Some y ∷ k) (b ∷ j) (g ∷ h) o p r q c d =
        rw (r.1, q.1)
        (other_same x y b g (item_same same x y c.0) d.0, matched_same i k j h r.0 q.0 r.2 q.2 c.1 d.1)

    same_before : (f g : Option A) (i k : List (Option A)) → SameAnswer same f g → ComparableBy (SameAnswer same) i k
        → ComparableBy (SameAnswer same) (held_before f i) (held_before g k)
    same_before None None i k e c = c
    same_before (Some x) (Some y) i k e c = (e, c)
    same_before None (Some y) i k e c = absurd (both_items same None (Some y) e)
    same_before (Some x) None i k e c = absurd (both_items same (Some x) None e)

module _ {S U A B : Type 0} {run ample : Runs (Answer A) S} {run' ample' : Runs (Answer B) U} {none none' : Type 0}
    {alike : S → S → Type 0} {alike' : U → U → Type 0} (same : Sameness A) (other : Sameness B) where
  -- Two such streams are alike, if what they hold is the same.
  pub zip_steady : SteadyLawsBy same run ample none alike → SteadyLawsBy other run' ample' none' alike'
      → SteadyLawsBy (Pairwise same other) (Zips run run') (Zips ample ample') (none × none')
      (λ (x y : Zip S U A). alike x.first y.first × alike' x.second y.second
      × SameHeld same x.item_slot y.item_slot)
  zip_steady s u =
      record {
        laws = zip_runs s.laws u.laws;
        steady = λ x y e l m x' y' h k.
            matched_same same other (held_before x.item_slot (strip h.firsts))
            (held_before y.item_slot (strip k.firsts)) (strip h.seconds) (strip k.seconds) (strip l) (strip m)
            (matching x.item_slot x'.item_slot h.firsts h.seconds l h.paired)
            (matching y.item_slot y'.item_slot k.firsts k.seconds m k.paired)
            (same_before same other x.item_slot y.item_slot (strip h.firsts) (strip k.firsts)
            (held_same same x.item_slot y.item_slot e.2)
            (s.steady x.first y.first e.0 h.firsts k.firsts x'.first y'.first h.came k.came))
            (u.steady x.second y.second e.1 h.seconds k.seconds x'.second y'.second h.then_came k.then_came);
        found = λ n x y l h.
            record {
              firsts = h.firsts;
              seconds = h.seconds;
              came = s.found n.0 x.first y.first h.firsts h.came;
              then_came = u.found n.1 x.second y.second h.seconds h.then_came;
              paired = h.paired;
            };
      }

-- What is armed after a `Pending`.

pendings_alike : (C D : Type 0) (b : Bool) (n : ℕ) → pends_last b (pendings {A = C} n []) ≡ pends_last b (pendings {A = D} n [])
pendings_alike C D b zero = refl
pendings_alike C D b (suc n) = pendings_alike C D true n

-- A result ends a row of `Pending`s.
pendings_ended : {C : Type 0} (b : Bool) (n : ℕ) (x : C) (l : List (Poll C))
    → pends_last b (pendings n (Ready x ∷ l)) ≡ pends_last false l
pendings_ended b zero x l = refl
pendings_ended b (suc n) x l = pendings_ended true n x l

module _ {A B : Type 0} where
  -- What was polled last and ends in a `Pending`: the second stream while an item is held, and otherwise the first. If
  -- the first has no results, the answer is `before`.
  abbrev ZipPends : Option A → Bool → List (Answer A) → List (Answer B) → Type 0
  ZipPends None before is js = pends_last before is ≡ true
  ZipPends (Some x) before is js = EndsPending js

  pair_ended : (n : ℕ) (x : A) (b : Option B) (l : List (Answer (A × B)))
      → pends_last false (pendings n (pair_with x b ∷ l)) ≡ pends_last false l
  pair_ended n x None l = pendings_ended false n None l
  pair_ended n x (Some y) l = pendings_ended false n (Some (x, y)) l

  module _ (x : A) (is : List (Answer A))
      (rest : (js : List (Answer B)) (out : List (Answer (A × B))) (last : Option A) → Pairs is js out last
      → EndsPending out → ZipPends last false is js) where
    second_pends : (last : Option A) (js : List (Answer B)) → last ≡ Some x → EndsPending js → ZipPends last false is js
    second_pends last js is_held e = rw is_held e

    more_pends : (last : Option A) (js more : List (Answer B)) → pends_last false js ≡ pends_last false more
        → ZipPends last false is more → ZipPends last false is js
    more_pends None js more same e = e
    more_pends (Some y) js more same e = same ∙ e

    held_pends : (js : List (Answer B)) (out : List (Answer (A × B))) (last : Option A)
        → WithHeld x is (Pairs is) js out last → EndsPending out → ZipPends last false is js
    held_pends js out last (inl h) e =
        second_pends last js h.4 (rw h.2 (pendings_alike (Option B) (Option (A × B)) false h.0 ∙ (rw h.3 at e)))
    held_pends js out last (inr h) e =
        more_pends last js h.2 (rw h.4 (pendings_ended false h.0 h.1 h.2))
        (rest h.2 h.3 last h.6 (sym (pair_ended h.0 x h.1 h.3) ∙ (rw h.5 at e)))

  pairs_pend : (b c : Bool) → (b ≡ true → c ≡ true) → (is : List (Answer A)) (js : List (Answer B))
      (out : List (Answer (A × B))) (last : Option A) → Pairs is js out last → pends_last b out ≡ true
      → ZipPends last c is js
  pairs_pend b c k [] js out last h e = rw h.2 (k (rw h.1 at e))
  pairs_pend b c k (Pending ∷ is) js (d ∷ out) last h e =
      passed last (pairs_pend true true (λ n. n) is js out last h.1 (rw h.0 at e))
    where
      passed : (last : Option A) → ZipPends last true is js → ZipPends last c (Pending ∷ is) js
      passed None e = e
      passed (Some x) e = e
  pairs_pend b c k (Ready None ∷ is) js (d ∷ out) last h e =
      passed last (pairs_pend false false (λ n. n) is js out last h.1 (rw h.0 at e))
    where
      passed : (last : Option A) → ZipPends last false is js → ZipPends last c (Ready None ∷ is) js
      passed None e = e
      passed (Some x) e = e
  pairs_pend b c k (Ready (Some x) ∷ is) js (d ∷ out) last h e =
      passed last
      (held_pends x is (pairs_pend false false (λ n. n) is) js (d ∷ out) last h (pends_anew false b d out ∙ e))
    where
      passed : (last : Option A) → ZipPends last false is js → ZipPends last c (Ready (Some x) ∷ is) js
      passed None e = e
      passed (Some y) e = e
  pairs_pend b c k (a ∷ is) js [] last h e = absurd h

  pairing_pends : (held : Option A) (is : List (Answer A)) (js : List (Answer B)) (out : List (Answer (A × B)))
      (last : Option A) → Pairing held is js out last → EndsPending out → ZipPends last false is js
  pairing_pends None is js out last h e = pairs_pend false false (λ n. n) is js out last h e
  pairing_pends (Some x) is js out last h e = held_pends x is (pairs_pend false false (λ n. n) is) js out last h e

-- A `zip` is armed if both streams are.
module _ {S U A B : Type 0} {run : Runs (Answer A) S} {run' : Runs (Answer B) U} {registers : S → Lasting → Type 0}
    {registers' : U → Lasting → Type 0} (a : Arms run registers) (b : Arms run' registers') where
  polled_armed : (held : Option A) (s s' : S) (u u' : U) (i : List (Answer A)) (j : List (Answer B)) → run s i s'
      → run' u j u' → ZipPends held false i j → ZipRegisters registers registers' held s' u' Lasting.armed
  polled_armed None s s' u u' i j came came' e = a.at s s' i e came
  polled_armed (Some x) s s' u u' i j came came' e = b.at u u' j e came'

  pub zip_arms : Arms (Zips run run') (λ x. ZipRegisters registers registers' x.item_slot x.first x.second)
  zip_arms =
      record {
        at = λ x y l e h.
            polled_armed y.item_slot x.first y.first x.second y.second h.firsts h.seconds h.came h.then_came
            (pairing_pends x.item_slot h.firsts h.seconds l y.item_slot h.paired e);
      }
