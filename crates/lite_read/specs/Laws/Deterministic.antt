-- The values that a deterministic fold makes of marks do not depend on their `Pending`s.
use Rattle.std.specs.Prelude.{◌≡◌, ℕ, List, [], ◌∷◌, ◌++◌, Result, Ok, Err}
use Rattle.lite_read.specs.Uses.{refl, subst, append_assoc, map-append, FoldsTo, Poll, Ready, Pending, Comparable}
use Rattle.lite_read.specs.Uses.{ComparableBy, strip, Runs, Segments, ReadMark, bytes, CalmReadLaws}
use Rattle.lite_read.specs.Uses.{NoPendingRead, SteadyReadLaws, strip_marks, inl, inr, ◌∙◌, sym, ap, Error, SameByKind}
use Rattle.lite_base.specs.Calm.{NoPending}
use Rattle.lite_base.specs.Laws.Calling.{folds_follow}
use Rattle.lite_base.specs.Laws.Segments.{segment_front}
use Rattle.lite_io_base.specs.Laws.Steady.{comparable_fronts, comparable_rest, comparable_swapped, no_wait_parts}
use Rattle.lite_io_base.specs.Laws.Steady.{strip_marks-append, strip_marks-bytes, stripped_no_pending}
use Rattle.lite_read.specs.ReadFold.{AnswerMarks, ReadFold, Segmented}
use Rattle.lite_read.specs.Deterministic.{IsDeterministic, MarkValues}
use Rattle.lite_read.specs.Texts.{AppendsText, Reading, ValueOf, in_text}

-- If the marks are some bytes and then a `Pending`, the marks without `Pending`s begin with these bytes, and the rest
-- follows.
pub past_pending : (marks rest : List ReadMark) (xs : List ℕ) → marks ≡ bytes xs ++ ReadMark.pending ∷ rest
    → strip_marks marks ≡ bytes xs ++ strip_marks rest
past_pending marks rest xs cut = rw (cut, strip_marks-append, strip_marks-bytes)

-- If the marks are some bytes and then marks without a `Pending`, the marks without `Pending`s begin with all of these.
pub past_value : (marks last rest : List ReadMark) (xs : List ℕ) → NoPendingRead last
    → marks ≡ bytes xs ++ (last ++ rest)
    → strip_marks marks ≡ bytes xs ++ (last ++ strip_marks rest)
past_value marks last rest xs now cut =
    rw (cut, strip_marks-append, strip_marks-bytes, strip_marks-append, stripped_no_pending last now)

comparable_front : (l k m : List ReadMark) → Comparable (l ++ k) m → Comparable l m
comparable_front (a ∷ l) k (b ∷ m) c = (c.0, comparable_front l k m c.1)
comparable_front _ k _ c = tt

module _ {M R : Type 0} (fold : ReadFold M R) where
  -- Bytes consumed before the marks do not change their values.
  mark_values_behind : (p m : M) (xs : List ℕ) (t : List ReadMark) (vs : List R) → FoldsTo fold.takes p xs m
      → MarkValues fold m t vs
      → MarkValues fold p (bytes xs ++ t) vs
  mark_values_behind p m xs _ _ f (MarkValues.held _ q ys g) =
      rw (← (map-append ReadMark.byte xs ys)) (MarkValues.held p q (xs ++ ys) (folds_follow fold.takes p m q xs ys f g))
  mark_values_behind p m xs _ _ f (MarkValues.next _ n q ys last rest v vs g h s) =
      rw (← append_assoc, ← map-append)
      (MarkValues.next p n q (xs ++ ys) last rest v vs (folds_follow fold.takes p m n xs ys f g) h s)

  module _ {same : R → R → Type 0} (s : IsDeterministic same fold) where
    -- The values of segments are those of their marks without `Pending`s.
    segments_values : (p q : M) (i : List ReadMark) (l : List (Poll R)) → Segments (AnswerMarks fold) p i l q
        → MarkValues fold p (strip_marks i) (strip l)
    segments_values p q i [] h = rw h.0 (MarkValues.held p p [] refl)
    segments_values p q i (Pending ∷ l) h =
        let w = h.4 in
        let cut = rw w.given.0 at (segment_front p h.2 i h.0 h.1 Pending w h.3) in
        rw (past_pending i h.1 w.taken cut) (mark_values_behind p w.between w.taken _ _ w.folds
        (rw w.given.2 at (segments_values h.2 q h.1 l h.5)))
    segments_values p q i (Ready r ∷ l) h =
        let c = h.4 in
        let cut = segment_front p h.2 i h.0 h.1 _ c h.3 in
        rw (past_value i c.last h.1 c.taken (s.at_once c.between h.2 c.last r c.given) cut)
        (MarkValues.next p c.between h.2 c.taken c.last _ r _ c.folds c.given (segments_values h.2 q h.1 l h.5))

    -- If one of two lists of marks is a prefix of the other, their first values are the same, and so are the states after them.
    aligned : (p x y q r : M) (xs ys : List ℕ) (l m k n : List ReadMark) (v w : R) → FoldsTo fold.takes p xs x
        → FoldsTo fold.takes p ys y
        → fold.gives x l v q → fold.gives y m w r → Comparable (bytes xs ++ (l ++ k)) (bytes ys ++ (m ++ n)) → same v w
        × (q ≡ r) × Comparable k n
    aligned p x y q r [] [] l m k n v w f g h j c =
        let both = s.one_value p q r l m v w (rw f h) (rw g j) (comparable_fronts l k m n c) in
        (both.0, both.1, comparable_rest m k n (rw both.2 at c))
    aligned p x y q r [] (b ∷ ys) l m k n v w f g h j c =
        absurd (s.given_or_taken p q g.0 l _ v b (rw f h) g.1 (comparable_front l k _ c))
    aligned p x y q r (b ∷ xs) [] l m k n v w f g h j c =
        absurd (s.given_or_taken p r f.0 m _ w b (rw g j) f.1 (comparable_front m n _ (comparable_swapped _ _ c)))
    aligned p x y q r (b ∷ xs) (d ∷ ys) l m k n v w f g h j c =
        let byte : b ≡ d = cc c.0 in
        let way = s.one_way p g.0 f.0 b (rw byte g.1) f.1 in
        aligned f.0 x y q r xs ys l m k n v w f.2 (rw (← way) g.2) h j c.1

    -- If one of two lists of marks is a prefix of the other, their values are the same as far as both go.
    mark_values_alike : (p : M) (t u : List ReadMark) (vs ws : List R) → MarkValues fold p t vs
        → MarkValues fold p u ws → Comparable t u → ComparableBy same vs ws
    mark_values_alike p _ _ _ _ (MarkValues.next _ m q xs last rest v vs f h a)
        (MarkValues.next _ n r ys end more w ws g j b) c =
        let first = aligned p m n q r xs ys last end rest more v w f g h j c in (
          first.0,
          mark_values_alike q rest more vs ws a
              (rw first.1 b) first.2,
        )
    mark_values_alike p _ _ _ _ _ _ c = tt

    -- Readers that are alike are made into values that are the same, as far as both go.
    module _ {S : Type 0} {reads ample : Runs ReadMark S} {needs_none : Type 0} {alike : S → S → Type 0}
        (laws : SteadyReadLaws reads ample needs_none alike) where
      module _ (x y x' y' : S) (p q r : M) where
        pub segmented_alike : (l m : List (Poll R)) → alike x y → Segmented fold ample x p l x' q
            → Segmented fold ample y p m y' r → ComparableBy same (strip l) (strip m)
        segmented_alike l m e h k =
            mark_values_alike p (strip_marks h.marks) (strip_marks k.marks) _ _
            (segments_values p q h.marks l h.cut) (segments_values p r k.marks m k.cut)
            (laws.steady x y x' y' h.marks k.marks e h.came k.came)

  -- If no mark is a `Pending`, no poll result is one.
  pub segments_no_pending : (p q : M) (i : List ReadMark) (l : List (Poll R)) → NoPendingRead i
      → Segments (AnswerMarks fold) p i l q → NoPending l
  segments_no_pending p q i [] n h = tt
  segments_no_pending p q i (Pending ∷ l) n h =
      let last =
      no_wait_parts (bytes h.4.taken) h.4.last
      (subst NoPendingRead h.4.cut (no_wait_parts h.0 h.1 (subst NoPendingRead h.3 n)).0) in
      absurd (subst NoPendingRead h.4.given.0 last.1)
  segments_no_pending p q i (Ready v ∷ l) n h =
      segments_no_pending h.2 q h.1 l (no_wait_parts h.0 h.1 (subst NoPendingRead h.3 n)).1 h.5

  -- Over a calm reader no poll result is `Pending`, and the reader stays calm.
  pub segmented_calm : {S : Type 0} {reads : Runs ReadMark S} {is_calm : S → Type 0} (x y : S) (p q : M)
      (l : List (Poll R)) → CalmReadLaws reads is_calm → is_calm x → Segmented fold reads x p l y q
      → NoPending l × is_calm y
  segmented_calm x y p q l c k h =
      (segments_no_pending p q h.marks l (c.no_pending x y h.marks k h.came) h.cut, c.calm_on x y h.marks k h.came)

-- The marks that produce a value: none if `All` holds, which says that everything is there, or else one mark that is
-- not a `Pending` and is not consumed.
pub data GivenBy (All : Type 0) (Taken : ReadMark → Type 0) : List ReadMark → Type 0 where
  at_none : All → GivenBy All Taken []
  at_mark : (m : ReadMark) → (All → ⊥) → (Taken m → ⊥) → NoPendingRead (m ∷ []) → GivenBy All Taken (m ∷ [])

module _ {All : Type 0} {Taken : ReadMark → Type 0} where
  given_no_pending : {l : List ReadMark} → GivenBy All Taken l → NoPendingRead l
  given_no_pending (GivenBy.at_none all) = tt
  given_no_pending (GivenBy.at_mark m more other now) = now

  not_taken : {l : List ReadMark} {a : ReadMark} (m : List ReadMark) → GivenBy All Taken l → (All → ⊥) → Taken a
      → Comparable l (a ∷ m) → ⊥
  not_taken _ (GivenBy.at_none all) more t c = more all
  not_taken _ (GivenBy.at_mark m _ other now) more t c = other (rw c.0 t)

  same_marks : {l m : List ReadMark} → GivenBy All Taken l → GivenBy All Taken m → Comparable l m → l ≡ m
  same_marks (GivenBy.at_none all) (GivenBy.at_none again) c = refl
  same_marks (GivenBy.at_none all) (GivenBy.at_mark m more other now) c = absurd (more all)
  same_marks (GivenBy.at_mark m more other now) (GivenBy.at_none all) c = absurd (more all)
  same_marks (GivenBy.at_mark m more other now) (GivenBy.at_mark n _ _ _) c = rw c.0

module _ {M R : Type 0} (fold : ReadFold M R) where
  -- The mark is a byte that the fold consumes in the state `p`.
  abbrev pub TakenAt : M → ReadMark → Type 0
  TakenAt p m = (b : ℕ) × (r : M) × (m ≡ ReadMark.byte b) × fold.takes p b r

  -- A fold is deterministic if each value is produced as `GivenBy` says, and equal marks produce values that are the
  -- same.
  pub deterministic_by : {same : R → R → Type 0} (All : M → Type 0)
      → ((p q r : M) (b : ℕ) → fold.takes p b q → fold.takes p b r → q ≡ r)
      → ((p r : M) (b : ℕ) → fold.takes p b r → All p → ⊥)
      → ((p q : M) (l : List ReadMark) (v : R) → fold.gives p l v q → GivenBy (All p) (TakenAt p) l)
      → ((p q r : M) (l : List ReadMark) (v w : R) → fold.gives p l v q → fold.gives p l w r → same v w × (q ≡ r))
      → IsDeterministic same fold
  deterministic_by All one_way more by one =
      record {
        one_way = one_way;
        at_once = λ p q l v h. given_no_pending (by p q l v h);
        given_or_taken = λ p q r l m v b h k. not_taken m (by p q l v h) (more p r b k) (b, r, refl, k);
        one_value = λ p q r l m v w h k c.
            let marks = same_marks (by p q l v h) (by p r m w k) c in
            let both = one p q r l v w h (rw marks k) in
            (both.0, both.1, marks);
      }

-- A text that is read from marks does not depend on their `Pending`s.

-- Two reads of equal bytes with the same value have the same value as reads of a text.
value_same : (xs : List ℕ) (a b v w : Result ℕ Error) → SameByKind a b → ValueOf xs a v → ValueOf xs b w
    → SameByKind v w
value_same xs (Ok n) (Ok m) (Ok v) (Ok w) s h k = h.1 ∙ s ∙ sym k.1
value_same xs (Ok n) (Ok m) (Ok v) (Err f) s h k = absurd (k.0 h.0)
value_same xs (Ok n) (Ok m) (Err e) (Ok w) s h k = absurd (h.0 k.0)
value_same xs (Ok n) (Ok m) (Err e) (Err f) s h k = h.1 ∙ sym k.1
value_same xs (Err e) (Err f) v w s h k =
    rw h (rw k s)
value_same xs _ _ v w s h k = absurd s

module _ (xs before p q : List ℕ) where
  gains_same : AppendsText xs before p → AppendsText xs before q → p ≡ q
  gains_same (inl h) (inl k) = h.1 ∙ sym k.1
  gains_same (inl h) (inr k) = absurd (k.0 h.0)
  gains_same (inr h) (inl k) = absurd (h.0 k.0)
  gains_same (inr h) (inr k) = h.1 ∙ sym k.1

same_reading : (p q : Reading) → p.read ≡ q.read → p.text ≡ q.text → p ≡ q
same_reading p q e f = ap (λ r. record { read = r; text = p.text }) e ∙ ap (λ t. record { read = q.read; text = t }) f

module _ (fold : ReadFold (List ℕ) (Result ℕ Error)) (s : IsDeterministic SameByKind fold) where
  one_text : (p q r : Reading) (l m : List ReadMark) (v w : Result ℕ Error) → (in_text fold).gives p l v q
      → (in_text fold).gives p m w r → Comparable l m
      → SameByKind v w × (q ≡ r) × (l ≡ m)
  one_text p q r l m v w (a, xs, given, value, gains, empty) (b, ys, given', value', gains', empty') c =
      let both = s.one_value p.read xs ys l m a b given given' c in (
        value_same xs a b v w both.0 value (rw both.1 value'),
        same_reading q r (empty ∙ sym empty') (gains_same xs p.text q.text r.text gains (rw both.1 gains')),
        both.2,
      )

  pub text_deterministic : IsDeterministic SameByKind (in_text fold)
  text_deterministic =
      record {
        one_way = λ p q r b h k. same_reading q r (s.one_way p.read q.read r.read b h.0 k.0) (h.1 ∙ sym k.1);
        at_once = λ p q l v h. s.at_once p.read h.1 l h.0 h.2;
        given_or_taken = λ p q r l m v b h k c. s.given_or_taken p.read h.1 r.read l m h.0 b h.2 k.0 c;
        one_value = one_text;
      }
