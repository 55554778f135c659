-- Laws of two futures of which each poll polls one first.
use Rattle.std.specs.Prelude.{true, false, ◌⊎◌, ◌≡◌, List, [], ◌∷◌, ◌++◌, Bool, refl}
use Rattle.futures.specs.Task.{Lasting}
use Rattle.lite_base.specs.Armed.{Arms, EndsPending}
use Rattle.lite_base.specs.Laws.Armed.{EitherPends, rows_pend}
use Rattle.lite_future.specs.Uses.{subst, ap, inl, inr, Poll, Ready, Pending, Waiting, CalmLaws, NoPending, FutureRunLaws, WaitsOn, waiting_up_to}
use Rattle.lite_future.specs.Uses.{no_pending_join, Runs}
use Rattle.lite_future.specs.Picks.{PickRow, PickRows, Picks}
use Rattle.lite_base.specs.Laws.Segments.{rows_by, rows_follow}

other_way : {P Q : Type 0} → P ⊎ Q → Q ⊎ P
other_way (inl p) = inr p
other_way (inr q) = inl q

module _ {A : Type 0} where
  row_more : (i j : List (Poll A)) (c : Poll A) (i' j' k h : List (Poll A)) → PickRow i j c i' j'
      → PickRow (i ++ k) (j ++ h) c (i' ++ k) (j' ++ h)
  row_more [] j c i' j' k h r = absurd r
  row_more (Pending ∷ i) [] c i' j' k h r = absurd r
  row_more (a ∷ i) j c i' j' k h r = (r.0, ap (λ l. l ++ k) r.1, ap (λ l. l ++ h) r.2)

  -- If a row is pending and so are the rows after it, both lists are.
  row_waits : (i j i' j' : List (Poll A)) → PickRow i j Pending i' j' → Waiting i' → Waiting j' → Waiting i × Waiting j
  row_waits (Ready x ∷ i) j i' j' r w v = absurd (let e = r.0 in cc)
  row_waits (Pending ∷ i) (Ready x ∷ j) i' j' r w v = absurd (let e = r.0 in cc)
  row_waits (Pending ∷ i) (Pending ∷ j) i' j' r w v = (rw (← r.1) w, rw (← r.2) v)
  row_waits i j i' j' r w v = absurd r

  rows_wait : (order : List Bool) (i j out : List (Poll A)) → PickRows order i j out → Waiting out → Waiting i
      × Waiting j
  rows_wait =
      rows_by PickRow (λ i j l. Waiting l → Waiting i × Waiting j) (λ w. (tt, tt)) waits
      (λ i j c i' j' l r k w. let d = waits j i c j' i' l r (λ v. let e = k v in (e.1, e.0)) w in (d.1, d.0))
    where
      waits : (i j : List (Poll A)) (c : Poll A) (i' j' l : List (Poll A)) → PickRow i j c i' j'
          → (Waiting l → Waiting i' × Waiting j') → Waiting (c ∷ l) → Waiting i × Waiting j
      waits i j Pending i' j' l r k w = let e = k w in row_waits i j i' j' r e.0 e.1
      waits i j (Ready x) i' j' l r k w = absurd w

  -- A row has no `Pending` if one of the two lists has none.
  row_calm : (i j : List (Poll A)) (c : Poll A) (i' j' : List (Poll A)) → PickRow i j c i' j' → NoPending i
      ⊎ NoPending j → NoPending (c ∷ []) × (NoPending i' ⊎ NoPending j')
  row_calm (Ready x ∷ i) j c i' j' r (inl p) = (rw r.0 tt, inl (rw r.1 p))
  row_calm (Ready x ∷ i) j c i' j' r (inr p) = (rw r.0 tt, inr (rw r.2 p))
  row_calm (Pending ∷ i) (b ∷ j) c i' j' r (inl p) = absurd p
  row_calm (Pending ∷ i) (Pending ∷ j) c i' j' r (inr p) = absurd p
  row_calm (Pending ∷ i) (Ready x ∷ j) c i' j' r (inr p) = (rw r.0 tt, inr (rw r.2 p))
  row_calm i j c i' j' r p = absurd r

  rows_calm : (order : List Bool) (i j out : List (Poll A)) → PickRows order i j out → NoPending i ⊎ NoPending j
      → NoPending out
  rows_calm =
      rows_by PickRow _ _
      (λ i j c i' j' l r k p. let d = row_calm i j c i' j' r p in no_pending_join (c ∷ []) l d.0 (k d.1))
      (λ i j c i' j' l r k p. let d = row_calm j i c j' i' r (other_way p) in
      no_pending_join (c ∷ []) l d.0 (k (other_way d.1)))

module _ {F G A : Type 0} {run_first : Runs (Poll A) F} {run_second : Runs (Poll A) G} where
  module _ (laws_first : FutureRunLaws run_first) (laws_second : FutureRunLaws run_second) where
    pub picks_rest : (f : F) (g : G)
        → Picks run_first run_second [] f g [] f g
    picks_rest f g =
        record {
          i = [];
          j = [];
          first = laws_first.rests f;
          second = laws_second.rests g;
          rows = (refl, refl, refl);
          ends = tt;
        }

    pub picks_stay : {f f' : F} {g g' : G}
        → Picks run_first run_second [] f g [] f' g' → (f' ≡ f) × (g' ≡ g)
    picks_stay {f} {f'} {g} {g'} h = (
      laws_first.stays f f' (subst (λ l. run_first f l f') h.rows.0 h.first),
      laws_second.stays g g' (subst (λ l. run_second g l g') h.rows.1 h.second),
    )

    pub picks_follow : {o p : List Bool} {f f' f2 : F} {g g' g2 : G} {l m : List (Poll A)} → Waiting l
        → Picks run_first run_second o f g l f' g' → Picks run_first run_second p f' g' m f2 g2
        → Picks run_first run_second (o ++ p) f g (l ++ m) f2 g2
    picks_follow {o} {p} {f} {f'} {f2} {g} {g'} {g2} {l} {m} w h k =
        let waits = rows_wait o h.i h.j l h.rows w in
        record {
          i = h.i ++ k.i;
          j = h.j ++ k.j;
          first = laws_first.follows f f' f2 h.i k.i waits.0 h.first k.first;
          second = laws_second.follows g g' g2 h.j k.j waits.1 h.second k.second;
          rows = rows_follow PickRow row_more o p h.i h.j k.i k.j l m h.rows k.rows;
          ends = waiting_up_to l m w k.ends;
        }

  -- Both may be polled after rows that are pending.
  pub picks_on : {can_first : F → Type 0} {can_second : G → Type 0} → WaitsOn can_first run_first
      → WaitsOn can_second run_second → {o : List Bool} {f f' : F} {g g' : G} {l : List (Poll A)} → Waiting l
      → can_first f × can_second g → Picks run_first run_second o f g l f' g' → can_first f' × can_second g'
  picks_on on also {o} {f} {f'} {g} {g'} {l} w c h =
      let waits = rows_wait o h.i h.j l h.rows w in
      (on f f' h.i waits.0 c.0 h.first, also g g' h.j waits.1 c.1 h.second)

  -- The two are never pending if one of them never is.
  pub picks_calm : {calm_first : F → Type 0} {calm_second : G → Type 0} → CalmLaws run_first calm_first
      → CalmLaws run_second calm_second
      → {order : List Bool} {f f' : F} {g g' : G} {out : List (Poll A)} → calm_first f ⊎ calm_second g
      → Picks run_first run_second order f g out f' g'
      → NoPending out × (calm_first f' ⊎ calm_second g')
  picks_calm c d {order} {f} {f'} {out} (inl k) h =
      (rows_calm order h.i h.j out h.rows (inl (c.no_pending f f' h.i k h.first)), inl (c.calm_on f f' h.i k h.first))
  picks_calm c d {order} {g} {g'} {out} (inr k) h =
      (rows_calm order h.i h.j out h.rows (inr (d.no_pending g g' h.j k h.second)), inr (d.calm_on g g' h.j k h.second))

module _ {A : Type 0} where
  row_pends : (i j : List (Poll A)) (c : Poll A) (i' j' l : List (Poll A)) → PickRow i j c i' j' → EitherPends i' j' l
      → EitherPends i j (c ∷ l)
  row_pends (Ready x ∷ i) j c i' j' l r k b p q h e =
      rw (r.1, r.2) at (k false false q (λ d. cc d) (rw r.0 at e))
  row_pends (Pending ∷ i) (Pending ∷ j) c i' j' l r k b p q h e =
      rw (r.1, r.2) at (k true true true (λ d. inl refl) (rw r.0 at e))
  row_pends (Pending ∷ i) (Ready x ∷ j) c i' j' l r k b p q h e =
      rw (r.1, r.2) at (k false true false (λ d. cc d) (rw r.0 at e))
  row_pends i j c i' j' l r k b p q h e = absurd r

  rows_end : (order : List Bool) (i j out : List (Poll A)) → PickRows order i j out → EndsPending out
      → EndsPending i ⊎ EndsPending j
  rows_end order i j out r e = rows_pend PickRow row_pends order i j out r false false false (λ d. cc d) e

-- One of the two futures has registered the task if both are armed.
pub picks_arms : {F G A : Type 0} {run_first : Runs (Poll A) F} {run_second : Runs (Poll A) G}
    {registers : F → Lasting → Type 0} {registers' : G → Lasting → Type 0} → Arms run_first registers
    → Arms run_second registers'
    → {order : List Bool} {f f' : F} {g g' : G} {out : List (Poll A)} → EndsPending out
    → Picks run_first run_second order f g out f' g'
    → registers f' Lasting.armed ⊎ registers' g' Lasting.armed
picks_arms {registers} {registers'} a b {order} {f} {f'} {g} {g'} {out} e h =
    one_of (rows_end order h.i h.j out h.rows e)
  where
    one_of : EndsPending h.i ⊎ EndsPending h.j → registers f' Lasting.armed ⊎ registers' g' Lasting.armed
    one_of (inl d) = inl (a.at f f' h.i d h.first)
    one_of (inr d) = inr (b.at g g' h.j d h.second)
