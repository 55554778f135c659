-- Laws about two streams that are merged row by row.
use Rattle.std.specs.Prelude.{false, ◌⊎◌, ◌≡◌, ℕ, ◌+◌, List, [], ◌∷◌, ◌++◌, length, map, Bool, true, Some, None}
use Rattle.futures.specs.Task.{Lasting}
use Rattle.lite_base.specs.Armed.{Arms, EndsPending}
use Rattle.lite_base.specs.Laws.Armed.{EitherPends, no_pends, rows_pend}
use Rattle.lite_stream.specs.Laws.Arming.{through_arms}
use Rattle.lite_stream.specs.Fuse.{FusesOn}
use Rattle.lite_merge.specs.Laws.Ends.{ends_last, ends_no_pending}
use Rattle.lite_merge.specs.Uses.{inr, ◌∙◌, inl, refl, ap, sym, arith, length-append, Ready, Pending, Answer, item, items}
use Rattle.lite_merge.specs.Uses.{CalmLaws, NoPending, Lowers-at_most, no_pending_join, AtMost, Lowers, Counting, Ranks}
use Rattle.lite_merge.specs.Uses.{StreamLaws, Hints, NoHint, Runs, Fuses, through_calm, through_on, through_counting}
use Rattle.lite_merge.specs.Uses.{Fuse}
use Rattle.lite_base.specs.Laws.Ranks.{AtMost-both, AtMost-length, Below-after, Below-first}
use Rattle.lite_base.specs.Laws.Segments.{rows_by, rows_follow}
use Rattle.lite_base.specs.Ranks.{Below}
use Rattle.lite_stream.specs.Fuse.{fuse_parts}
use Rattle.lite_stream.specs.Laws.Fuse.{fuses_arming, fuses_calming, fuses_relating}
use Rattle.lite_stream.specs.Laws.Through.{laws_unhinted}
use Rattle.lite_merge.specs.Merge.{MergeRegisters, MergeRow, MergeRows, Merges, OpenRegisters, beside_pending}

module _ {A : Type 0} where
  row_more : (i j : List (Answer A)) (c : Answer A) (i' j' k h : List (Answer A)) → MergeRow i j c i' j'
      → MergeRow (i ++ k) (j ++ h) c (i' ++ k) (j' ++ h)
  row_more (Ready (Some x) ∷ i) j c i' j' k h r = (r.0, ap (λ l. l ++ k) r.1, ap (λ l. l ++ h) r.2)
  row_more (a ∷ i) (b ∷ j) c i' j' k h r = (r.0, ap (λ l. l ++ k) r.1, ap (λ l. l ++ h) r.2)
  row_more i j c i' j' k h r = absurd r

  -- If neither list holds a `Pending`, no row returns one.
  row_calm : (i j : List (Answer A)) (c : Answer A) (i' j' : List (Answer A)) → MergeRow i j c i' j' → NoPending i
      → NoPending j → NoPending (c ∷ []) × NoPending i' × NoPending j'
  row_calm (Ready (Some x) ∷ i) j c i' j' r p q = (rw r.0 tt, rw r.1 p, rw r.2 q)
  row_calm (Ready None ∷ i) (Pending ∷ j) c i' j' r p q = absurd q
  row_calm (Ready None ∷ i) (Ready y ∷ j) c i' j' r p q = (rw r.0 tt, rw r.1 p, rw r.2 q)
  row_calm (Pending ∷ i) j c i' j' r p q = absurd p
  row_calm i j c i' j' r p q = absurd r

  rows_calm : (o : List Bool) (i j out : List (Answer A)) → MergeRows o i j out → NoPending i → NoPending j
      → NoPending out
  rows_calm =
      rows_by MergeRow (λ i j l. NoPending i → NoPending j → NoPending l) (λ p q. tt)
      (λ i j c i' j' l r k p q. let d = row_calm i j c i' j' r p q in no_pending_join (c ∷ []) l d.0 (k d.1 d.2))
      (λ i j c i' j' l r k p q. let d = row_calm j i c j' i' r q p in no_pending_join (c ∷ []) l d.0 (k d.2 d.1))

  -- Ranks that are lower after an item of either stream.
  module _ (zs ws xs us ys vs : List ℕ) (one : Below xs us → AtMost ys vs → Below zs ws)
      (other : AtMost xs us → Below ys vs → Below zs ws) where
    beside_lowers : (b : Answer A) (out : List (Answer A)) → Lowers (b ∷ out) zs ws
        → Lowers (beside_pending b ∷ out) zs ws
    beside_lowers (Ready None) out h = h
    beside_lowers _ out h = h

    asked_lowers : (b : Answer A) (j out : List (Answer A)) → AtMost xs us → (Lowers j ys vs → Lowers out zs ws)
        → Lowers (b ∷ j) ys vs → Lowers (b ∷ out) zs ws
    asked_lowers (Ready (Some y)) j out least rest k = other least k
    asked_lowers b j out least rest k = rest k

    row_lowers : (i j : List (Answer A)) (c : Answer A) (i' j' out : List (Answer A)) → MergeRow i j c i' j'
        → (Lowers i' xs us → Lowers j' ys vs → Lowers out zs ws) → Lowers i xs us → Lowers j ys vs
        → Lowers (c ∷ out) zs ws
    row_lowers (Ready (Some x) ∷ i) j c i' j' out r rest h k = rw r.0 (one h (Lowers-at_most j ys vs k))
    row_lowers (Ready None ∷ i) (b ∷ j) c i' j' out r rest h k =
        rw r.0 (asked_lowers b j out (Lowers-at_most i xs us h) (λ k'. rest (rw r.1 h) (rw r.2 k')) k)
    row_lowers (Pending ∷ i) (b ∷ j) c i' j' out r rest h k =
        let asked = asked_lowers b j out (Lowers-at_most i xs us h) (λ k'. rest (rw r.1 h) (rw r.2 k')) k in
        rw r.0 (beside_lowers b out asked)
    row_lowers i j c i' j' out r rest h k = absurd r

  -- In a row with an item, when the first stream is polled first, the second yielded an item or was not polled.
  row_item : (i j : List (Answer A)) (y : A) (i' j' : List (Answer A)) (l s : List A) → MergeRow i j (item y) i' j'
      → j' ≡ items s → (s ≡ [] → i' ≡ items l) → (t : List A) × (j ≡ items t) × (t ≡ [] → i ≡ items (y ∷ l))
  row_item (Ready (Some x) ∷ i) j y i' j' l s r e rest =
      (s, sym r.2 ∙ e, λ none. let d = rest none in let a = r.0 in let b = r.1 in cc)
  row_item (Ready None ∷ i) (b ∷ j) y i' j' l s r e rest =
      (y ∷ s, (let a = r.0 in let d = r.2 in cc), λ none. cc none)
  row_item (Pending ∷ i) (Pending ∷ j) y i' j' l s r e rest = cc
  row_item (Pending ∷ i) (Ready None ∷ j) y i' j' l s r e rest = cc
  row_item (Pending ∷ i) (Ready (Some z) ∷ j) y i' j' l s r e rest =
      (z ∷ s, (let d = r.2 in cc), λ none. cc none)
  row_item i j y i' j' l s r e rest = absurd r

  -- If all results are items and the first stream is polled first, the second yielded only items. If it yielded none,
  -- all are the first's.
  first_items : (i j : List (Answer A)) (l : List A) → MergeRows (map (λ _. true) (items l)) i j (items l)
      → (s : List A) × (j ≡ items s) × (s ≡ [] → i ≡ items l)
  first_items i j [] r = ([], r.1, λ none. r.0)
  first_items i j (y ∷ l) r =
      let e = first_items r.0 r.1 l r.3 in
      row_item i j y r.0 r.1 l e.0 r.2 e.1 e.2

-- The laws of a stream that is not polled after its first end.
pub fused_laws : {S A : Type 0} {run : Runs (Answer A) S} {can_poll : S → Type 0} {hints : Hints S} → StreamLaws can_poll run hints
    → StreamLaws (λ f. can_poll f.stream) (Fuses run) NoHint
fused_laws s = laws_unhinted fuse_parts s fuses_relating (through_on fuse_parts s)

module _ {S U A : Type 0} {run : Runs (Answer A) S} {run' : Runs (Answer A) U} {can_poll : S → Type 0} {hints : Hints S} {can_poll' : U → Type 0} {hints' : Hints U}
    (s : StreamLaws can_poll run hints) (u : StreamLaws can_poll' run' hints') where
  pub merges_follow : {o p : List Bool} {x t t' : Fuse S} {y v v' : Fuse U} {l m : List (Answer A)}
      → Merges run run' o x y l t v → Merges run run' p t v m t' v' → Merges run run' (o ++ p) x y (l ++ m) t' v'
  merges_follow {o} {p} {x} {t} {t'} {y} {v} {v'} {l} {m} h k =
      record {
        firsts = h.firsts ++ k.firsts;
        seconds = h.seconds ++ k.seconds;
        came = (fused_laws s).follows x t t' h.firsts k.firsts h.came k.came;
        then_came = (fused_laws u).follows y v v' h.seconds k.seconds h.then_came k.then_came;
        rows = rows_follow MergeRow row_more o p h.firsts h.seconds k.firsts k.seconds l m h.rows k.rows;
      }

-- Two calm streams that are merged are calm.
pub merges_calm : {S U A : Type 0} {run : Runs (Answer A) S} {run' : Runs (Answer A) U} {is_calm : S → Type 0}
    {is_calm' : U → Type 0} → CalmLaws run is_calm → CalmLaws run' is_calm'
    → {o : List Bool} {x t : Fuse S} {y v : Fuse U} {out : List (Answer A)} → is_calm x.stream × is_calm' y.stream
    → Merges run run' o x y out t v → NoPending out × (is_calm t.stream × is_calm' v.stream)
merges_calm c d {o} {x} {t} {y} {v} {out} k h =
    let first = through_calm fuse_parts c fuses_calming in
    let second = through_calm fuse_parts d fuses_calming in (
      rows_calm o h.firsts h.seconds out h.rows (first.no_pending x t h.firsts k.0 h.came)
          (second.no_pending y v h.seconds k.1 h.then_came),
      (first.calm_on x t h.firsts k.0 h.came, second.calm_on y v h.seconds k.1 h.then_came),
    )

module _ {S U A : Type 0} {run : Runs (Answer A) S} {run' : Runs (Answer A) U} {r : Ranks S} {r' : Ranks U}
    (c : Counting run r) (d : Counting run' r') where
  pub merges_sized : (x : S) (y : U) → length (r'.rank y ++ r.rank x) ≡ r'.width + r.width
  merges_sized x y = length-append (r'.rank y) (r.rank x) ∙ omega (arith, c.sized x, d.sized y)

  pub merges_lower : {o : List Bool} {x t : Fuse S} {y v : Fuse U} {l : List (Answer A)} → r.firm x.stream
      × r'.firm y.stream → Merges run run' o x y l t v
      → Lowers l (r'.rank v.stream ++ r.rank t.stream) (r'.rank y.stream ++ r.rank x.stream)
  merges_lower {o} {x} {t} {y} {v} {l} k h =
      let xs = r.rank t.stream in
      let us = r.rank x.stream in
      let ys = r'.rank v.stream in
      let vs = r'.rank y.stream in
      rows_by MergeRow (λ i j l. Lowers i xs us → Lowers j ys vs → Lowers l (ys ++ xs) (vs ++ us))
      (λ h k. AtMost-both ys vs xs us k h)
      (row_lowers (ys ++ xs) (vs ++ us) xs us ys vs (λ h k. Below-after ys vs xs us k h)
      (λ h k. Below-first ys vs xs us k (AtMost-length xs us h)))
      (λ i j c i' j' l r rest h k. row_lowers (ys ++ xs) (vs ++ us) ys vs xs us
      (λ k h. Below-first ys vs xs us k (AtMost-length xs us h)) (λ k h. Below-after ys vs xs us k h) j i c j' i' l r
      (λ k' h'. rest h' k') k h) o h.firsts h.seconds l h.rows
      ((through_counting fuse_parts c fuses_relating).lowers x t h.firsts k.0 h.came)
      ((through_counting fuse_parts d fuses_relating).lowers y v h.seconds k.1 h.then_came)

  -- The rank falls if the first stream is polled first in each row.
  pub first_falls : {can_poll' : U → Type 0} {hints' : Hints U} → StreamLaws can_poll' run' hints' → {x t : Fuse S} {y v : Fuse U} (a : A) (more : List A)
      → r.counts x.stream × r'.counts y.stream
      → Merges run run' (map (λ _. true) (items (a ∷ more))) x y (items (a ∷ more)) t v
      → Below (r'.rank v.stream ++ r.rank t.stream) (r'.rank y.stream ++ r.rank x.stream)
  first_falls u {x} {t} {y} {v} a more k h = at_items (first_items h.firsts h.seconds (a ∷ more) h.rows)
    where
      at_items : (s : List A) × (h.seconds ≡ items s) × (s ≡ [] → h.firsts ≡ items (a ∷ more))
          → Below (r'.rank v.stream ++ r.rank t.stream) (r'.rank y.stream ++ r.rank x.stream)
      at_items ([], e, all) =
          Below-after (r'.rank v.stream) (r'.rank y.stream) (r.rank t.stream) (r.rank x.stream)
          (inl (ap (λ m. r'.rank m.stream) ((fused_laws u).stays y v (rw e at h.then_came))))
          ((through_counting fuse_parts c fuses_relating).falls x t a more k.0 (rw (all refl) at h.came))
      at_items (z ∷ s, e, all) =
          Below-first (r'.rank v.stream) (r'.rank y.stream) (r.rank t.stream) (r.rank x.stream)
          ((through_counting fuse_parts d fuses_relating).falls y v z s k.1 (rw e at h.then_came))
          (c.sized t.stream ∙ sym (c.sized x.stream))

-- A fact that each stream keeps is kept by merging.
pub merges_keep : {S U A : Type 0} {run : Runs (Answer A) S} {run' : Runs (Answer A) U} {P : S → Type 0}
    {Q : U → Type 0} → ((x y : S) (l : List (Answer A)) → P x → run x l y → P y)
    → ((x y : U) (l : List (Answer A)) → Q x → run' x l y → Q y)
    → {o : List Bool} {x t : Fuse S} {y v : Fuse U} {l : List (Answer A)} → P x.stream × Q y.stream
    → Merges run run' o x y l t v → P t.stream × Q v.stream
merges_keep keeps keeps' {x} {t} {y} {v} k h = (
  keeps x.stream t.stream h.came.ins k.0 h.came.came,
  keeps' y.stream v.stream h.then_came.ins k.1 h.then_came.came,
)

-- What is armed after a `Pending`.
module _ {A : Type 0} where
  row_pends : (i j : List (Answer A)) (c : Answer A) (i' j' l : List (Answer A)) → MergeRow i j c i' j'
      → EitherPends i' j' l → EitherPends i j (c ∷ l)
  row_pends (Ready (Some x) ∷ i) j c i' j' l r k b p q h e =
      rw (r.1, r.2) at (k false false q (λ d. cc d) (rw r.0 at e))
  row_pends (Ready None ∷ i) (Pending ∷ j) c i' j' l r k b p q h e =
      rw (r.1, r.2) at (k true false true (λ d. inr refl) (rw r.0 at e))
  row_pends (Ready None ∷ i) (Ready y ∷ j) c i' j' l r k b p q h e =
      rw (r.1, r.2) at (k false false false (λ d. cc d) (rw r.0 at e))
  row_pends (Pending ∷ i) (Pending ∷ j) c i' j' l r k b p q h e =
      rw (r.1, r.2) at (k true true true (λ d. inl refl) (rw r.0 at e))
  row_pends (Pending ∷ i) (Ready None ∷ j) c i' j' l r k b p q h e =
      rw (r.1, r.2) at (k true true false (λ d. inl refl) (rw r.0 at e))
  row_pends (Pending ∷ i) (Ready (Some y) ∷ j) c i' j' l r k b p q h e =
      rw (r.1, r.2) at (k false true false (λ d. cc d) (rw r.0 at e))
  row_pends i j c i' j' l r k b p q h e = absurd r

  rows_end : (o : List Bool) (i j l : List (Answer A)) → MergeRows o i j l → EndsPending l
      → EndsPending i ⊎ EndsPending j
  rows_end o i j l r e = rows_pend MergeRow row_pends o i j l r false false false (λ d. cc d) e

  -- What was pending last has not ended.
  still_open : (f g : Bool) (i l : List (Answer A)) → FusesOn f i l g → EndsPending l → g ≡ false
  still_open true g i l h e = absurd (cc (no_pends false l (ends_no_pending l h.1) e))
  still_open false false i l h e = refl
  still_open false true i l h e = absurd (ends_last h.0 h.1 h.5 (rw h.4 at e))

open_armed : {S A : Type 0} {run : Runs (Answer A) S} {registers : S → Lasting → Type 0} → Arms run registers
    → (x y : Fuse S) (l : List (Answer A)) → EndsPending l → Fuses run x l y → OpenRegisters registers y Lasting.armed
open_armed a x y l e h =
    (still_open x.done y.done h.ins l h.related e, (through_arms fuse_parts a fuses_arming).at x y l e h)

-- One of the two streams has registered the task if both are armed.
pub merges_arms : {S U A : Type 0} {run : Runs (Answer A) S} {run' : Runs (Answer A) U}
    {registers : S → Lasting → Type 0} {registers' : U → Lasting → Type 0} → Arms run registers → Arms run' registers'
    → {o : List Bool} {x t : Fuse S} {y v : Fuse U} {out : List (Answer A)} → EndsPending out
    → Merges run run' o x y out t v → MergeRegisters registers registers' t v Lasting.armed
merges_arms {registers} {registers'} a b {o} {x} {t} {y} {v} {out} e h =
    one_of (rows_end o h.firsts h.seconds out h.rows e)
  where
    one_of : EndsPending h.firsts ⊎ EndsPending h.seconds → MergeRegisters registers registers' t v Lasting.armed
    one_of (inl d) = inl (open_armed a x t h.firsts d h.came)
    one_of (inr d) = inr (open_armed b y v h.seconds d h.then_came)
