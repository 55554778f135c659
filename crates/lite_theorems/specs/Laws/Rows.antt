-- Laws of two streams that are merged: the items yielded are an interleaving of those of the two lists.
use Rattle.std.specs.Prelude.{◌⊎◌, ⊤, true, false, Some, None, ◌≡◌, Bool, List, [], ◌∷◌, ◌++◌, map}
use Rattle.lite_theorems.specs.Uses.{◌∙◌, inl, inr, refl, ap, sym, subst, Ready, Pending, Answer, end, strip, Runs, Fuse}
use Rattle.lite_base.specs.Answers.{until_end}
use Rattle.lite_merge.specs.Merge.{MergeRow, MergeRows, Merges, beside_pending}
use Rattle.lite_stream.specs.Fuse.{AllEnds, FusesOn}
use Rattle.lite_theorems.specs.Interleaving.{EndsWith, GivesRest, Interleaves, items_given}

module _ {A : Type 0} where
  -- A result is the end of the stream.
  abbrev pub HasEnd : List (Answer A) → Type 0
  HasEnd [] = ⊥
  HasEnd (Pending ∷ l) = HasEnd l
  HasEnd (Ready None ∷ l) = ⊤
  HasEnd (Ready (Some x) ∷ l) = HasEnd l

  -- No result is the end of the stream.
  abbrev pub WithoutEnd : List (Answer A) → Type 0
  WithoutEnd [] = ⊤
  WithoutEnd (Pending ∷ l) = WithoutEnd l
  WithoutEnd (Ready None ∷ l) = ⊥
  WithoutEnd (Ready (Some x) ∷ l) = WithoutEnd l

  -- After the first end of the stream, every result is the end of the stream.
  abbrev EndsForEver : List (Answer A) → Type 0
  EndsForEver [] = ⊤
  EndsForEver (Pending ∷ l) = EndsForEver l
  EndsForEver (Ready None ∷ l) = AllEnds l
  EndsForEver (Ready (Some x) ∷ l) = EndsForEver l

  -- The result is the next item of one of the two lists, or it is the end of the stream and neither list has one, or it
  -- is `Pending`.
  abbrev Taken : Answer A → (l m l' m' : List A) → Type 0
  Taken Pending l m l' m' = (l ≡ l') × (m ≡ m')
  Taken (Ready None) l m l' m' = (l ≡ []) × (m ≡ [])
  Taken (Ready (Some x)) l m l' m' = ((l ≡ x ∷ l') × (m ≡ m')) ⊎ ((l ≡ l') × (m ≡ x ∷ m'))

  -- One row of lists that end forever: what is left of them are such lists, and the result is what was read.
  record ReadOn (c : Answer A) (i j i' j' : List (Answer A)) : Type 0 where
    pub first_on : EndsForEver i'
    pub second_on : EndsForEver j'
    pub taken : Taken c (items_given i) (items_given j) (items_given i') (items_given j')
    pub first_end : HasEnd i' → HasEnd i
    pub second_end : HasEnd j' → HasEnd j

  ends_for_ever : (l : List (Answer A)) → AllEnds l → EndsForEver l × (items_given l ≡ [])
  ends_for_ever [] a = (tt, refl)
  ends_for_ever (Ready None ∷ l) a = (a.1, refl)
  ends_for_ever (_ ∷ l) a = cc

  -- The first list has ended.
  row_second : (i j : List (Answer A)) (b : Answer A) → AllEnds i → EndsForEver (b ∷ j) → ReadOn b (end ∷ i) (b ∷ j) i j
  row_second i j Pending a k =
      let e = ends_for_ever i a in
      record { first_on = e.0; second_on = k; taken = (sym e.1, refl); first_end = λ h. tt; second_end = λ h. h }
  row_second i j (Ready None) a k =
      let e = ends_for_ever i a in
      record {
        first_on = e.0;
        second_on = (ends_for_ever j k).0;
        taken = (refl, refl);
        first_end = λ h. tt;
        second_end = λ h. tt;
      }
  row_second i j (Ready (Some y)) a k =
      let e = ends_for_ever i a in
      record { first_on = e.0; second_on = k; taken = inr (sym e.1, refl); first_end = λ h. tt; second_end = λ h. h }

  -- The first list is pending.
  row_beside : (i j : List (Answer A)) (b : Answer A) → EndsForEver i → EndsForEver (b ∷ j)
      → ReadOn (beside_pending b) (Pending ∷ i) (b ∷ j) i j
  row_beside i j Pending p q =
      record {
        first_on = p;
        second_on = q;
        taken = (refl, refl);
        first_end = λ h. h;
        second_end = λ h. h;
      }
  row_beside i j (Ready None) p q =
      let e = ends_for_ever j q in
      record { first_on = p; second_on = e.0; taken = (refl, sym e.1); first_end = λ h. h; second_end = λ h. tt }
  row_beside i j (Ready (Some y)) p q =
      record {
        first_on = p;
        second_on = q;
        taken = inr (refl, refl);
        first_end = λ h. h;
        second_end = λ h. h;
      }

  row_on : (i j : List (Answer A)) (c : Answer A) (i' j' : List (Answer A)) → MergeRow i j c i' j' → EndsForEver i
      → EndsForEver j → ReadOn c i j i' j'
  row_on (Ready (Some x) ∷ i) j c i' j' r p q =
      rw (r.0, r.1, r.2) (record {
        first_on = p;
        second_on = q;
        taken = inl (refl, refl);
        first_end = λ h. h;
        second_end = λ h. h;
      })
  row_on (Ready None ∷ i) (b ∷ j) c i' j' r p q = rw (r.0, r.1, r.2) (row_second i j b p q)
  row_on (Pending ∷ i) (b ∷ j) c i' j' r p q = rw (r.0, r.1, r.2) (row_beside i j b p q)
  row_on _ _ c i' j' h p q = absurd h

  -- The result is the end of the stream if both lists have it.
  row_end : (i j i' j' : List (Answer A)) → MergeRow i j end i' j' → HasEnd i × HasEnd j
  row_end (Ready None ∷ i) (Ready None ∷ j) i' j' r = (tt, tt)
  row_end (Ready (Some x) ∷ i) j i' j' r = cc
  row_end (Pending ∷ i) (Ready (Some y) ∷ j) i' j' r = cc
  row_end (_ ∷ i) (_ ∷ j) i' j' r = cc
  row_end _ _ i' j' h = absurd h

  taken_swapped : (c : Answer A) (l m l' m' : List A) → Taken c m l m' l' → Taken c l m l' m'
  taken_swapped (Ready (Some x)) l m l' m' (inl (e, f)) = inr (f, e)
  taken_swapped (Ready (Some x)) l m l' m' (inr (e, f)) = inl (f, e)
  taken_swapped _ l m l' m' t = (t.1, t.0)

  -- A result comes before an interleaving of what is left.
  interleaves_on : (c : Answer A) (l m l' m' : List A) (body : List (Answer A)) → WithoutEnd (c ∷ body)
      → Taken c l m l' m'
      → Interleaves l' m' (items_given body) → Interleaves l m (items_given (c ∷ body))
  interleaves_on Pending l m l' m' body n t h = rw t.0 (rw t.1 h)
  interleaves_on (Ready None) l m l' m' body n t h = absurd n
  interleaves_on (Ready (Some x)) l m l' m' body n (inl (e, f)) h =
      inl (l', e, subst (λ k. Interleaves l' k (items_given body)) (sym f) h)
  interleaves_on (Ready (Some x)) l m l' m' body n (inr (e, f)) h =
      inr (m', f, subst (λ k. Interleaves k m' (items_given body)) (sym e) h)

  no_end_on : (c : Answer A) (body : List (Answer A)) → WithoutEnd (c ∷ body) → WithoutEnd body
  no_end_on (Ready None) body n = absurd n
  no_end_on _ body n = n

  -- Rows of which only the last is the end of the stream: both lists have ended, and the items are an interleaving of
  -- theirs.
  record Merged (i j body : List (Answer A)) : Type 0 where
    pub first_end : HasEnd i
    pub second_end : HasEnd j
    pub interleaved : Interleaves (items_given i) (items_given j) (items_given body)

  rows_merged : (o : List Bool) (i j body : List (Answer A)) → MergeRows o i j (body ++ end ∷ []) → WithoutEnd body
      → EndsForEver i → EndsForEver j → Merged i j body
  rows_merged [] i j [] r n p q = cc
  rows_merged [] i j (b ∷ body) r n p q = cc
  rows_merged (true ∷ o) i j [] r n p q =
      let ends = row_end i j r.0 r.1 r.2 in
      record { first_end = ends.0; second_end = ends.1; interleaved = (row_on i j end r.0 r.1 r.2 p q).taken }
  rows_merged (false ∷ o) i j [] r n p q =
      let ends = row_end j i r.1 r.0 r.2 in
      let taken =
      taken_swapped end (items_given i) (items_given j) (items_given r.0) (items_given r.1)
      (row_on j i end r.1 r.0 r.2 q p).taken in
      record { first_end = ends.1; second_end = ends.0; interleaved = taken }
  rows_merged (true ∷ o) i j (b ∷ body) r n p q =
      let read = row_on i j b r.0 r.1 r.2 p q in
      let rest = rows_merged o r.0 r.1 body r.3 (no_end_on b body n) read.first_on read.second_on in
      record {
        first_end = read.first_end rest.first_end;
        second_end = read.second_end rest.second_end;
        interleaved = interleaves_on b _ _ (items_given r.0) (items_given r.1) body n read.taken rest.interleaved;
      }
  rows_merged (false ∷ o) i j (b ∷ body) r n p q =
      let read = row_on j i b r.1 r.0 r.2 q p in
      let rest = rows_merged o r.0 r.1 body r.3 (no_end_on b body n) read.second_on read.first_on in
      let taken = taken_swapped b (items_given i) (items_given j) (items_given r.0) (items_given r.1) read.taken in
      record {
        first_end = read.second_end rest.first_end;
        second_end = read.first_end rest.second_end;
        interleaved = interleaves_on b _ _ (items_given r.0) (items_given r.1) body n taken rest.interleaved;
      }

  -- A list before a first end of the stream.
  open_list : (l : List (Answer A)) → until_end l ≡ l → EndsForEver l × (HasEnd l → ⊥)
  open_list [] u = (tt, λ h. h)
  open_list (Ready None ∷ l) u = cc
  open_list (_ ∷ l) u = open_list l (cc u)

  -- A list through a first end of the stream, and ends after it.
  ended_list : (own later : List (Answer A)) → until_end own ≡ own → AllEnds later
      → EndsForEver (own ++ end ∷ later) × (strip own ≡ map Some (items_given (own ++ end ∷ later)))
  ended_list [] later u a = (a, refl)
  ended_list (Pending ∷ own) later u a = ended_list own later (cc u) a
  ended_list (Ready None ∷ own) later u a = cc
  ended_list (Ready (Some x) ∷ own) later u a = let e = ended_list own later (cc u) a in (e.0, ap (λ k. Some x ∷ k) e.1)

  -- A list of a fused stream ends forever. If it ends, the stream yielded its items and then ended.
  fused_list : (i l : List (Answer A)) (g : Bool) → FusesOn false i l g → EndsForEver l
      × (HasEnd l → (own : List (Answer A)) × (i ≡ own ++ end ∷ []) × (strip own ≡ map Some (items_given l)))
  fused_list i l false h =
      let u = open_list i h.1 in (subst EndsForEver (sym h.0) u.0, λ e. absurd (u.1 (subst HasEnd h.0 e)))
  fused_list i l true h =
      let e = ended_list h.0 h.1 h.3 h.5 in
      (subst EndsForEver (sym h.4) e.0, λ d. (h.0, h.2, e.1 ∙ ap (λ k. map Some (items_given k)) (sym h.4)))

-- A list of a fused stream ends forever. If it ends, its items are all that the stream had.
fused_rest : {S A : Type 0} (run : Runs (Answer A) S) → ((x y : S) → run x [] y → y ≡ x)
    → (g : Bool) (s t : S) (i l : List (Answer A))
    → (d : Bool) → run s i t → FusesOn g i l d → EndsForEver l × (HasEnd l → EndsWith run g s (items_given l) t)
fused_rest run stays true s t i l d came h =
    let e = ends_for_ever l h.1 in (e.0, λ _. (e.1, stays s t (rw (← h.0) came)))
fused_rest run stays false s t i l d came h =
    let f = fused_list i l d h in
    (f.0, λ e. let g = f.1 e in (g.0, subst (λ j. run s j t) g.1 came, g.2))

module _ {S U A : Type 0} (run : Runs (Answer A) S) (run' : Runs (Answer A) U)
    (stays : (x y : S) → run x [] y → y ≡ x) (stays' : (x y : U) → run' x [] y → y ≡ x) where
  -- If the results end once, both streams yielded all that they had, and the results are an interleaving.
  pub merged_whole : {o : List Bool} {s : Fuse S} {u : Fuse U} (body : List (Answer A)) {t : Fuse S} {v : Fuse U}
      → WithoutEnd body
      → Merges run run' o s u (body ++ end ∷ []) t v
      → (firsts seconds : List A) × GivesRest run s firsts t × GivesRest run' u seconds v
      × Interleaves firsts seconds (items_given body)
  merged_whole {o} {s} {u} body {t} {v} n h =
      let first = fused_rest run stays s.done s.stream t.stream h.came.ins h.firsts t.done h.came.came h.came.related in
      let second = fused_rest run' stays' u.done u.stream v.stream h.then_came.ins h.seconds v.done h.then_came.came
      h.then_came.related in
      let m = rows_merged o h.firsts h.seconds body h.rows n first.0 second.0 in
      (items_given h.firsts, items_given h.seconds, first.1 m.first_end, second.1 m.second_end, m.interleaved)
