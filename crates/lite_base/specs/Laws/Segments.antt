-- Laws of lists that are cut into segments.
use Rattle.std.specs.Prelude.{◌≡◌, List, [], ◌∷◌, ◌++◌, map, refl, ◌%◌, ℕ, Bool, true, false, ◌≤◌, ◌+◌, ◌-◌, Some, None, length}
use Rattle.lite_base.specs.Uses.{◌∙◌, ap, append_assoc, subst, sym, map-append, AllByRecursion, FoldsTo, Poll, Ready, inl, inr, arith, Pending}
use Rattle.lite_base.specs.Answers.{Waiting, Answer, before_end, items, strip}
use Rattle.lite_base.specs.Laws.Answers.{up_to_one, waiting_up_to}
use Rattle.lite_base.specs.Laws.Calling.{folds_follow}
use Rattle.lite_base.specs.Runs.{Question}
use Rattle.lite_base.specs.Segments.{OneAnswer, Segment, Segments, SegmentsToValue, Rows, Paces, is_first, left_behind}
use Rattle.std.proofs.Common.{append-nil, eq-eqb}
use Rattle.std.proofs.lemmas.Bool.{ne_eqb}
use Rattle.lite_base.specs.Ranks.{Lowers}

module _ {M I O : Type 0} (one : Question M (List I) O) where
  -- Segments follow one another.
  pub segments_join : (p q r : M) (i j : List I) (l m : List O) → Segments one p i l q → Segments one q j m r
      → Segments one p (i ++ j) (l ++ m) r
  segments_join p q r i j [] m h k = rw (h.0, sym h.1) k
  segments_join p q r i j (a ∷ l) m h k =
      (h.0, h.1 ++ j, h.2, ap (λ v. v ++ j) h.3 ∙ append_assoc h.0 h.1 j, h.4, segments_join h.2 q r h.1 j l m h.5 k)

  -- One segment is a list of segments with one result.
  pub segments_one : (p q : M) (i : List I) (a : O) → one p i a q → Segments one p i (a ∷ []) q
  segments_one p q i a h = (i, [], q, sym (append-nil i), h, (refl, refl))

  -- Segments stay segments with more in front of the first, if the first stays one.
  pub segments_before : (p m q : M) (before i : List I) (a : O) (l : List O)
      → ((k : M) (first : List I) → one m first a k → one p (before ++ first) a k)
      → Segments one m i (a ∷ l) q → Segments one p (before ++ i) (a ∷ l) q
  segments_before p m q before i a l longer h = (
    before ++ h.0,
    h.1,
    h.2,
    ap (λ v. before ++ v) h.3 ∙ sym (append_assoc before h.0 h.1),
    longer h.2 h.0 h.4,
    h.5,
  )

  -- Segments of one kind are segments of another kind if each segment is.
  pub segments_map : (other : Question M (List I) O) (Q : O → Type 0)
      → ((p q : M) (i : List I) (a : O) → Q a → one p i a q → other p i a q)
      → (p q : M) (i : List I) (l : List O) → AllByRecursion Q l → Segments one p i l q → Segments other p i l q
  segments_map other Q each p q i [] e h = h
  segments_map other Q each p q i (a ∷ l) e h =
      (h.0, h.1, h.2, h.3, each p h.2 h.0 a e.0 h.4, segments_map other Q each h.2 q h.1 l e.1 h.5)

module _ {M I R : Type 0} (one : Question M (List I) (Poll R)) where
  -- Segments follow segments whose results were all `Pending`.
  pub to_value_join : (p q r : M) (i j : List I) (l m : List (Poll R)) → Waiting l → SegmentsToValue one p i l q
      → SegmentsToValue one q j m r → SegmentsToValue one p (i ++ j) (l ++ m) r
  to_value_join p q r i j l m w h k = (segments_join one p q r i j l m h.0 k.0, waiting_up_to l m w k.1)

  -- One segment is a future's list of segments with one result.
  pub to_value_one : (p q : M) (i : List I) (a : Poll R) → one p i a q → SegmentsToValue one p i (a ∷ []) q
  to_value_one p q i a h = (segments_one one p q i a h, up_to_one a)

  -- The segment of the value is all that is left of the list.
  pub to_value_last : (p q : M) (i : List I) (r : R) (l : List (Poll R)) → SegmentsToValue one p i (Ready r ∷ l) q
      → one p i (Ready r) q
  to_value_last p q i r l h =
      let none = subst (λ v. Segments one h.0.2 h.0.1 v q) h.1 h.0.5 in
      let whole : i ≡ h.0.0 = h.0.3 ∙ ap (λ v. h.0.0 ++ v) none.0 ∙ append-nil h.0.0 in
      subst (λ v. one p v _ q) (sym whole) (subst (one p h.0.0 _) (sym none.1) h.0.4)

module _ {M A I O : Type 0} {shows : A → I} {takes : M → A → M → Type 0} {gives : Question M (List I) O} where
  -- A segment stays one if more is consumed before it.
  pub segment_before : (p m q : M) (xs : List A) (i : List I) (a : O) → FoldsTo takes p xs m
      → Segment shows takes gives m i a q → Segment shows takes gives p (map shows xs ++ i) a q
  segment_before p m q xs i a f h =
      record {
        taken = xs ++ h.taken;
        last = h.last;
        cut = ap (λ v. map shows xs ++ v) h.cut ∙ sym (append_assoc _ _ h.last)
            ∙ ap (λ v. v ++ h.last) (sym (map-append shows xs h.taken));
        between = h.between;
        folds = folds_follow takes p m h.between xs h.taken f h.folds;
        given = h.given;
      }

  -- A segment may consume nothing.
  pub segment_alone : (p q : M) (i : List I) (a : O) → gives p i a q → Segment shows takes gives p i a q
  segment_alone p q i a h =
      record { taken = []; last = i; cut = refl; between = p; folds = refl; given = h }

  -- A segment with another result.
  pub segment_gives : {N : Type 0} {other : Question M (List I) N} (p q r : M) (i : List I) (a : O) (b : N)
      → ((m : M) (last : List I) → gives m last a q → other m last b r) → Segment shows takes gives p i a q
      → Segment shows takes other p i b r
  segment_gives p q r i a b also h =
      record {
        taken = h.taken;
        last = h.last;
        cut = h.cut;
        between = h.between;
        folds = h.folds;
        given = also h.between h.last h.given;
      }

  -- A list whose first segment this is begins with what the segment consumes.
  pub segment_front : (p q : M) (i first rest : List I) (a : O) (h : Segment shows takes gives p first a q)
      → i ≡ first ++ rest → i ≡ map shows h.taken ++ (h.last ++ rest)
  segment_front p q i first rest a h e =
      e ∙ ap (λ v. v ++ rest) h.cut ∙ append_assoc _ h.last rest

-- The rest of each segment is one result of the source.
module _ {M A I O : Type 0} (shows : A → I) (takes : M → A → M → Type 0) (gives : Question M I O) where
  -- One segment, whose rest is one result of the source.
  abbrev ByAnswers : Question M (List I) O
  ByAnswers = Segment shows takes (OneAnswer gives)

  -- One more thing is consumed before the first result.
  pub answers_taken : (p m q : M) (x : A) (i : List I) (b : O) (l : List O) → takes p x m
      → Segments ByAnswers m i (b ∷ l) q → Segments ByAnswers p (shows x ∷ i) (b ∷ l) q
  answers_taken p m q x i b l t h =
      segments_before ByAnswers p m q (shows x ∷ []) i b l
      (λ k first s. segment_before p m k (x ∷ []) first b (m, t, refl) s) h

  -- One more result of the source has one more result made of it.
  pub answers_given : (p m q : M) (a : I) (i : List I) (b : O) (l : List O) → gives p a b m → Segments ByAnswers m i l q
      → Segments ByAnswers p (a ∷ i) (b ∷ l) q
  answers_given p m q a i b l g h =
      (a ∷ [], i, m, refl, segment_alone p m _ b (a, refl, g), h)

  -- By induction on the source's list: what holds of no results, and holds with each thing that is consumed or becomes
  -- a result, holds of all.
  module _ (P : M → List I → List O → Type 0)
      (taken : (p m : M) (x : A) (i : List I) (b : O) (l : List O) → takes p x m → P m i (b ∷ l)
      → P p (shows x ∷ i) (b ∷ l))
      (given : (p m : M) (a : I) (i : List I) (b : O) (l : List O) → gives p a b m → P m i l
      → P p (a ∷ i) (b ∷ l)) where
    all_taken : (p m : M) (xs : List A) (i : List I) (b : O) (l : List O) → FoldsTo takes p xs m → P m i (b ∷ l)
        → P p (map shows xs ++ i) (b ∷ l)
    all_taken p m [] i b l h k = subst (λ z. P z i (b ∷ l)) (sym h) k
    all_taken p m (x ∷ xs) i b l h k =
        taken p h.0 x _ b l h.1 (all_taken h.0 m xs i b l h.2 k)

    pub answers_by : (p q : M) (i : List I) (l : List O) → P q [] [] → Segments ByAnswers p i l q → P p i l
    answers_by p q i [] none h = subst (λ k. P p k []) (sym h.0) (subst (λ z. P z [] []) h.1 none)
    answers_by p q i (b ∷ l) none h =
        let s = h.4 in
        let a = s.given.0 in
        let last = ap (λ v. map shows s.taken ++ v) s.given.1 in
        let cut = h.3 ∙ ap (λ v. v ++ h.1) (s.cut ∙ last) ∙ append_assoc _ _ h.1 in
        subst (λ k. P p k (b ∷ l)) (sym cut)
        (all_taken p s.between s.taken _ b l s.folds
        (given s.between h.2 a h.1 b l s.given.2 (answers_by h.2 q h.1 l none h.5)))

-- Laws of two lists that are read row by row.

module _ {A : Type 0} (row : (i j : List A) (c : A) (i' j' : List A) → Type 0) where
  -- By induction on the rows, in which either list may be read first.
  module _ (P : List A → List A → List A → Type 0) (none : P [] [] [])
      (first : (i j : List A) (c : A) (i' j' l : List A) → row i j c i' j' → P i' j' l → P i j (c ∷ l))
      (second : (i j : List A) (c : A) (i' j' l : List A) → row j i c j' i' → P i' j' l → P i j (c ∷ l)) where
    pub rows_by : (o : List Bool) (i j l : List A) → Rows row o i j l → P i j l
    rows_by [] i j l r = rw (r.0, r.1, r.2) none
    rows_by (b ∷ o) i j [] r = absurd r
    rows_by (true ∷ o) i j (c ∷ l) r = first i j c r.0 r.1 l r.2 (rows_by o r.0 r.1 l r.3)
    rows_by (false ∷ o) i j (c ∷ l) r = second i j c r.0 r.1 l r.2 (rows_by o r.0 r.1 l r.3)

  -- Rows follow one another, if a row stays a row with more results at the ends of its lists.
  pub rows_follow : ((i j : List A) (c : A) (i' j' k h : List A) → row i j c i' j'
      → row (i ++ k) (j ++ h) c (i' ++ k) (j' ++ h))
      → (o p : List Bool) (i j k h l m : List A) → Rows row o i j l → Rows row p k h m
      → Rows row (o ++ p) (i ++ k) (j ++ h) (l ++ m)
  rows_follow more [] p i j k h l m r q = rw (r.0, r.1, r.2) q
  rows_follow more (b ∷ o) p i j k h [] m r q = absurd r
  rows_follow more (true ∷ o) p i j k h (c ∷ l) m r q =
      (r.0 ++ k, r.1 ++ h, more i j c r.0 r.1 k h r.2, rows_follow more o p r.0 r.1 k h l m r.3 q)
  rows_follow more (false ∷ o) p i j k h (c ∷ l) m r q =
      (r.0 ++ k, r.1 ++ h, more j i c r.1 r.0 h k r.2, rows_follow more o p r.0 r.1 k h l m r.3 q)

  pub rows_empty : (o : List Bool) (i j : List A) → Rows row o i j [] → (i ≡ []) × (j ≡ [])
  rows_empty [] i j r = (r.0, r.1)
  rows_empty (b ∷ o) i j r = absurd r

  -- One row, in the order that a word of the generator names.
  pub drawn_first : (word : ℕ) {i j : List A} {c : A} → word % 2 ≡ 1 → row i j c [] []
      → Rows row (map is_first (word ∷ [])) i j (c ∷ [])
  drawn_first word odd r = rw (eq-eqb (word % 2) 1 odd) ([], [], r, (refl, refl, refl))

  pub drawn_second : (word : ℕ) {i j : List A} {c : A} → (word % 2 ≡ 1 → ⊥) → row j i c [] []
      → Rows row (map is_first (word ∷ [])) i j (c ∷ [])
  drawn_second word even r = rw (ne_eqb (word % 2) 1 even) ([], [], r, (refl, refl, refl))

-- Laws of results with pauses.

module _ {X : Type 0} (pause : X) (after : ℕ → X → ℕ → ℕ) where
  pub paces_follow : (p q r : ℕ × ℕ) (i j o m : List X) → Paces pause after p i o q → Paces pause after q j m r
      → Paces pause after p (i ++ j) (o ++ m) r
  paces_follow p q r i j [] m h k = rw h.0 (subst (λ v. Paces pause after v j m r) h.1 k)
  paces_follow p q r i j (b ∷ o) m (inl h) k = inl (h.0, h.1, paces_follow (p.0, p.0) q r i j o m h.2 k)
  paces_follow p q r i j (b ∷ o) m (inr h) k =
      inr (
        h.0,
        h.1 ++ j,
        ap (λ l. l ++ j) h.2,
        paces_follow (p.0, after p.0 b p.1) q r h.1 j o m h.3 k,
      )

module _ {A : Type 0} where
  pub paced_bounded : (p q : ℕ × ℕ) (i o : List (Answer A)) → Paces Pending left_behind p i o q
      → before_end o ≤ before_end i
  paced_bounded p q i (b ∷ o) (inl h) = rw h.1 (paced_bounded (p.0, p.0) q i o h.2)
  paced_bounded p q i (Pending ∷ o) (inr h) = rw h.2 (paced_bounded (p.0, p.0) q h.1 o h.3)
  paced_bounded p q i (Ready (Some x) ∷ o) (inr h) =
      let e = paced_bounded (p.0, p.1 - 1) q h.1 o h.3 in rw h.2 (omega arith)
  paced_bounded p q i o h = omega arith

  pub paced_lowers : (p q : ℕ × ℕ) (i o : List (Answer A)) (xs ys : List ℕ) → Paces Pending left_behind p i o q
      → Lowers i xs ys → Lowers o xs ys
  paced_lowers p q i [] xs ys h k = subst (λ l. Lowers l xs ys) h.0 k
  paced_lowers p q i (b ∷ o) xs ys (inl h) k = rw h.1 (paced_lowers (p.0, p.0) q i o xs ys h.2 k)
  paced_lowers p q i (Pending ∷ o) xs ys (inr h) k =
      paced_lowers (p.0, p.0) q h.1 o xs ys h.3 (subst (λ l. Lowers l xs ys) h.2 k)
  paced_lowers p q i (Ready None ∷ o) xs ys (inr h) k =
      paced_lowers p q h.1 o xs ys h.3 (subst (λ l. Lowers l xs ys) h.2 k)
  paced_lowers p q i (Ready (Some x) ∷ o) xs ys (inr h) k = subst (λ l. Lowers l xs ys) h.2 k

  -- Items among the results came from the source, and each uses one of the budget.
  pub paced_items : (p q : ℕ × ℕ) (i : List (Answer A)) (l : List A) → Paces Pending left_behind p i (items l) q
      → (i ≡ items l) × (q.1 + length l ≡ p.1)
  paced_items p q i [] h = (h.0, rw h.1 (omega arith))
  paced_items p q i (x ∷ l) (inl h) = absurd (cc h.1)
  paced_items p q i (x ∷ l) (inr h) =
      let e = paced_items (p.0, p.1 - 1) q h.1 l h.3 in (rw (h.2, e.0), omega (arith, e.1, h.0))

  -- Except for the pauses, the results are those of the source.
  pub paced_strip : (p q : ℕ × ℕ) (i o : List (Answer A)) → Paces Pending left_behind p i o q → strip o ≡ strip i
  paced_strip p q i [] h = rw h.0
  paced_strip p q i (b ∷ o) (inl h) = rw h.1 (paced_strip (p.0, p.0) q i o h.2)
  paced_strip p q i (Pending ∷ o) (inr h) = rw h.2 (paced_strip (p.0, p.0) q h.1 o h.3)
  paced_strip p q i (Ready x ∷ o) (inr h) =
      rw h.2 (ap (λ l. x ∷ l) (paced_strip (p.0, left_behind p.0 (Ready x) p.1) q h.1 o h.3))
