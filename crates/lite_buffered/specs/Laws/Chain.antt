-- Laws of `chain`.
use Rattle.std.specs.Prelude.{◌≡◌, ℕ, Bool, true, false, cond, replicate, ◌+◌, List, [], ◌∷◌, ◌++◌, length, ⊤}
use Rattle.lite_buffered.specs.Uses.{◌∙◌, refl, ap, append_assoc, inl, length-append, Falls, Comparable, AllGiven}
use Rattle.lite_buffered.specs.Uses.{ReadMark, bytes, given_count, given_count-append, given_parts, ReadCounting, Ranks}
use Rattle.lite_buffered.specs.Uses.{Runs, MarkLaws, Shows, sym, comparable_behind, comparable_none, no_wait_both}
use Rattle.lite_buffered.specs.Uses.{strip_marks-append, CalmReadLaws, NoPendingRead, SteadyReadLaws, strip_marks}
use Rattle.lite_io_base.specs.Laws.Counting.{falls_both, falls_to_zeros}
use Rattle.std.proofs.Common.{add-zero, zero-add}
use Rattle.std.proofs.lemmas.List.{length-replicate}
use Rattle.lite_buffered.specs.declared.chain.Chain.{Chain}
use Rattle.lite_buffered.specs.Chain.{ChainsReaders, EndlessMarks, JoinsReaders, chain_read_ranks, ReadsAcross}
use Rattle.lite_io_base.specs.Laws.Steady.{comparable_swapped}

no_end_both : (l m : List ReadMark) → EndlessMarks l → EndlessMarks m → EndlessMarks (l ++ m)
no_end_both [] m h k = k
no_end_both (a ∷ l) m h k = (h.0, no_end_both l m h.1 k)

first_sized : (w : ℕ) (xs : List ℕ) → length xs ≡ w → (b : Bool) → length (cond b (replicate w 0) xs) ≡ w
first_sized w xs e true = length-replicate w 0
first_sized w xs e false = e

module _ {R S : Type 0} (first : Runs ReadMark R) (second : Runs ReadMark S) where
  rests_at : MarkLaws first → MarkLaws second → (ended : Bool) (x : Chain R S)
      → JoinsReaders first second ended ended x [] x
  rests_at p q false x = (p.rests x.first, tt, refl)
  rests_at p q true x = (q.rests x.second, refl)

  follows_at : MarkLaws first → MarkLaws second → (a b c : Bool) (x y z : Chain R S) (l m : List ReadMark)
      → JoinsReaders first second a b x l y
      → JoinsReaders first second b c y m z → JoinsReaders first second a c x (l ++ m) z
  follows_at p q false false false x y z l m h k =
      (p.follows x.first y.first z.first l m h.0 k.0, no_end_both l m h.1 k.1, k.2 ∙ h.2)
  follows_at p q false false true x y z l m h k =
      record {
        before = l ++ k.before;
        after = k.after;
        cut = rw (k.cut, append_assoc);
        no_end = no_end_both l k.before h.1 k.no_end;
        between = k.between;
        first_ran = p.follows x.first y.first k.between l k.before h.0 k.first_ran;
        first_ended = k.first_ended;
        second_ran = rw (← h.2) k.second_ran;
      }
  follows_at p q false true true x y z l m h k =
      record {
        before = h.before;
        after = h.after ++ m;
        cut = rw (h.cut, append_assoc);
        no_end = h.no_end;
        between = h.between;
        first_ran = h.first_ran;
        first_ended = rw k.1 h.first_ended;
        second_ran = q.follows x.second y.second z.second h.after m h.second_ran k.0;
      }
  follows_at p q true true true x y z l m h k = (q.follows x.second y.second z.second l m h.0 k.0, k.1 ∙ h.1)
  follows_at p q true false c x y z l m h k = absurd h
  follows_at p q a true false x y z l m h k = absurd k

  pub chains_laws : MarkLaws first → MarkLaws second → MarkLaws (ChainsReaders first second)
  chains_laws p q = record {
    rests = λ x. rests_at p q x.has_ended x;
    follows = λ x y z. follows_at p q x.has_ended y.has_ended z.has_ended x y z;
  }

  -- The bytes that a reader has buffered come before its end of file.
  before_end : (xs : List ℕ) (before after : List ReadMark) → Comparable (bytes xs) (before ++ ReadMark.end ∷ [])
      → Comparable (bytes xs) (before ++ after)
  before_end [] before after h = tt
  before_end (x ∷ xs) [] after h = absurd (cc h.0)
  before_end (x ∷ xs) (m ∷ before) after h = (h.0, before_end xs before after h.1)

  module _ (lent1 : R → List ℕ) (lent2 : S → List ℕ) where
    show_at : MarkLaws first → Shows first lent1 → Shows second lent2
        → (a b : Bool) (x y : Chain R S) (l : List ReadMark) → JoinsReaders first second a b x l y
        → Comparable (bytes (cond a (lent2 x.second) (lent1 x.first))) l
    show_at f p q false false x y l h = p x.first y.first l h.0
    show_at f p q false true x y l h =
        let whole = f.follows x.first h.between y.first h.before (ReadMark.end ∷ []) h.first_ran h.first_ended in
        rw h.cut (before_end _ h.before h.after (p x.first y.first (h.before ++ ReadMark.end ∷ []) whole))
    show_at f p q true true x y l h = q x.second y.second l h.0
    show_at f p q true false x y l h = absurd h

    pub chains_show : MarkLaws first → Shows first lent1 → Shows second lent2
        → Shows (ChainsReaders first second) (λ x. cond x.has_ended (lent2 x.second) (lent1 x.first))
    chains_show f p q x y l = show_at f p q x.has_ended y.has_ended x y l

  -- What each reader's runs keep true, the chain's runs keep true of both.
  module _ (P : R → Type 0) (Q : S → Type 0) (kept1 : (x y : R) (l : List ReadMark) → P x → first x l y → P y)
      (kept2 : (x y : S) (l : List ReadMark) → Q x → second x l y → Q y) where
    keep_at : (a b : Bool) (x y : Chain R S) (l : List ReadMark) → P x.first × Q x.second
        → JoinsReaders first second a b x l y → P y.first × Q y.second
    keep_at false false x y l c h = (kept1 x.first y.first l c.0 h.0, rw h.2 c.1)
    keep_at false true x y l c h =
        let between = kept1 x.first h.between h.before c.0 h.first_ran in (
          kept1 h.between y.first (ReadMark.end ∷ []) between h.first_ended,
          kept2 x.second y.second h.after c.1 h.second_ran,
        )
    keep_at true true x y l c h = (rw h.1 c.0, kept2 x.second y.second l c.1 h.0)
    keep_at true false x y l c h = absurd h

    pub chains_keep : (x y : Chain R S) (l : List ReadMark) → P x.first × Q x.second → ChainsReaders first second x l y
        → P y.first × Q y.second
    chains_keep x y l = keep_at x.has_ended y.has_ended x y l

  -- The ranks of both readers fall by `size`, which counts marks of the kind `All` and is additive.
  module _ (width : ℕ) (rank1 : R → List ℕ) (rank2 : S → List ℕ) (sized : (x : R) → length (rank1 x) ≡ width)
      (All : List ReadMark → Type 0) (size : List ReadMark → ℕ)
      (parts : (l m : List ReadMark) → All (l ++ m) → All l × All m)
      (adds : (l m : List ReadMark) → size (l ++ m) ≡ size l + size m)
      (x y : Chain R S)
      (falls1 : (v : R) (l : List ReadMark) → All l → first x.first l v → Falls (size l) (rank1 v) (rank1 x.first))
      (falls2 : (l : List ReadMark) → All l → second x.second l y.second
      → Falls (size l) (rank2 y.second) (rank2 x.second)) where
    fall_at : (a b : Bool) (l : List ReadMark) → All l → JoinsReaders first second a b x l y
        → Falls (size l) (cond b (replicate width 0) (rank1 y.first) ++ rank2 y.second)
        (cond a (replicate width 0) (rank1 x.first) ++ rank2 x.second)
    fall_at false false l g h =
        rw add-zero at (falls_both (size l) 0 (rank1 y.first) (rank1 x.first) (rank2 y.second) (rank2 x.second)
        (falls1 y.first l g h.0) (inl (ap rank2 h.2)))
    fall_at false true l g h =
        let p = parts h.before h.after (rw (← h.cut) g) in
        let less = falls_to_zeros (size h.before) (rank1 h.between) (rank1 x.first)
        (falls1 h.between h.before p.0 h.first_ran) in
        rw (h.cut, adds)
        (falls_both (size h.before) (size h.after) (replicate width 0) (rank1 x.first) (rank2 y.second)
        (rank2 x.second) (rw (sized h.between) at less)
        (falls2 h.after p.1 h.second_ran))
    fall_at true true l g h =
        rw zero-add at (falls_both 0 (size l) (replicate width 0) (replicate width 0) (rank2 y.second)
        (rank2 x.second) (inl refl) (falls2 l g h.0))
    fall_at true false l g h = absurd h

  module _ {r : Ranks R} {s : Ranks S} (c : ReadCounting first r) (d : ReadCounting second s) where
    pub chains_counting : ReadCounting (ChainsReaders first second) (chain_read_ranks r s)
    chains_counting = record {
      sized = λ x.
          rw (length-append, first_sized r.width (r.rank x.first) (c.sized x.first) x.has_ended, d.sized x.second);
      counts_on = chains_keep r.counts s.counts c.counts_on d.counts_on;
      firm_on = chains_keep r.firm s.firm c.firm_on d.firm_on;
      falls = λ x y l k.
          fall_at r.width r.rank s.rank c.sized AllGiven length given_parts length-append x y
          (λ v m. c.falls x.first v m k.0) (λ m. d.falls x.second y.second m k.1) x.has_ended y.has_ended l;
      lowers = λ x y l k h.
          fall_at r.width r.rank s.rank c.sized (λ _. ⊤) given_count (λ m n _. (tt, tt)) given_count-append x y
          (λ v m _. c.lowers x.first v m k.0) (λ m _. d.lowers x.second y.second m k.1) x.has_ended y.has_ended l tt h;
    }

-- `chain` is steady over steady readers, and calm over calm ones.

stripped_no_end : (l : List ReadMark) → EndlessMarks l → EndlessMarks (strip_marks l)
stripped_no_end [] h = tt
stripped_no_end (ReadMark.pending ∷ l) h = stripped_no_end l h.1
stripped_no_end (ReadMark.end ∷ l) h = absurd (h.0 refl)
stripped_no_end (a ∷ l) h = (h.0, stripped_no_end l h.1)

-- Marks without an end of file that agree with a list up to its end come before that end.
past_end : (p q k : List ReadMark) → EndlessMarks q → Comparable (p ++ ReadMark.end ∷ []) q → Comparable (p ++ k) q
past_end p [] k n c = comparable_none _
past_end [] (b ∷ q) k n c = absurd (n.0 (sym c.0))
past_end (a ∷ p) (b ∷ q) k n c = (c.0, past_end p q k n.1 c.1)

-- If two lists without an end of file, each followed by one, agree, they are equal.
same_end : (p q : List ReadMark) → EndlessMarks p → EndlessMarks q
    → Comparable (p ++ ReadMark.end ∷ []) (q ++ ReadMark.end ∷ []) → p ≡ q
same_end [] [] n o c = refl
same_end [] (b ∷ q) n o c = absurd (o.0 (sym c.0))
same_end (a ∷ p) [] n o c = absurd (n.0 c.0)
same_end (a ∷ p) (b ∷ q) n o c = rw (c.0, same_end p q n.1 o.1 c.1)

-- Two chains have both ended their first reader or neither has, over readers that are alike.
abbrev pub PlaceAlike : {R S : Type 0} → (R → R → Type 0) → (S → S → Type 0) → Chain R S → Chain R S → Type 0
PlaceAlike alike1 alike2 x y = (x.has_ended ≡ y.has_ended) × alike1 x.first y.first × alike2 x.second y.second

module _ {R S : Type 0} {first : Runs ReadMark R} {second : Runs ReadMark S} where
  module _ {ample1 : Runs ReadMark R} {ample2 : Runs ReadMark S} {none1 none2 : Type 0} {alike1 : R → R → Type 0}
      {alike2 : S → S → Type 0}
      (s : SteadyReadLaws first ample1 none1 alike1) (t : SteadyReadLaws second ample2 none2 alike2) where
    -- The first reader's marks together with its end of file are one run of it.
    whole : (x y : Chain R S) (l : List ReadMark) (h : ReadsAcross ample1 ample2 x l y)
        → ample1 x.first (h.before ++ ReadMark.end ∷ []) y.first
    whole x y l h = s.laws.follows x.first h.between y.first h.before (ReadMark.end ∷ []) h.first_ran h.first_ended

    -- The second reader's marks come after an end of file, and so after marks that have none.
    past_cut : (x x' : Chain R S) (l m : List ReadMark) (h : ReadsAcross ample1 ample2 x l x') → EndlessMarks m
        → Comparable (strip_marks (h.before ++ ReadMark.end ∷ [])) (strip_marks m)
        → Comparable (strip_marks l) (strip_marks m)
    past_cut x x' l m h n c =
        rw (h.cut, strip_marks-append) (past_end _ _ _ (stripped_no_end m n) (rw strip_marks-append at c))

    both_cross : (x y x' y' : Chain R S) (l m : List ReadMark) → alike1 x.first y.first → alike2 x.second y.second
        → ReadsAcross ample1 ample2 x l x'
        → ReadsAcross ample1 ample2 y m y' → Comparable (strip_marks l) (strip_marks m)
    both_cross x y x' y' l m e d h k =
        let c = s.steady x.first y.first x'.first y'.first (h.before ++ ReadMark.end ∷ [])
        (k.before ++ ReadMark.end ∷ []) e (whole x x' l h) (whole y y' m k) in
        let same = same_end _ _ (stripped_no_end h.before h.no_end)
        (stripped_no_end k.before k.no_end) (rw (strip_marks-append, strip_marks-append) at c) in
        let after = t.steady x.second y.second x'.second y'.second h.after k.after d h.second_ran k.second_ran in
        rw (h.cut, strip_marks-append, k.cut, strip_marks-append, same) (comparable_behind _ _ _ after)

    marks_agree : (a b c : Bool) (x y x' y' : Chain R S) (l m : List ReadMark) → alike1 x.first y.first
        → alike2 x.second y.second → JoinsReaders ample1 ample2 a b x l x'
        → JoinsReaders ample1 ample2 a c y m y' → Comparable (strip_marks l) (strip_marks m)
    marks_agree false false false x y x' y' l m e d h k = s.steady x.first y.first x'.first y'.first l m e h.0 k.0
    marks_agree false true false x y x' y' l m e d h k =
        past_cut x x' l m h k.1
        (s.steady x.first y.first x'.first y'.first (h.before ++ ReadMark.end ∷ []) m e (whole x x' l h) k.0)
    marks_agree false false true x y x' y' l m e d h k =
        comparable_swapped _ _ (past_cut y y' m l k h.1 (comparable_swapped _ _
        (s.steady x.first y.first x'.first y'.first l (k.before ++ ReadMark.end ∷ []) e h.0 (whole y y' m k))))
    marks_agree false true true x y x' y' l m e d h k = both_cross x y x' y' l m e d h k
    marks_agree true true true x y x' y' l m e d h k = t.steady x.second y.second x'.second y'.second l m d h.0 k.0
    marks_agree true false c x y x' y' l m e d h k = absurd h
    marks_agree true true false x y x' y' l m e d h k = absurd k

    all_ample : none1 × none2 → (a b : Bool) (x y : Chain R S) (l : List ReadMark) → JoinsReaders first second a b x l y
        → JoinsReaders ample1 ample2 a b x l y
    all_ample n false false x y l h = (s.found n.0 x.first y.first l h.0, h.1, h.2)
    all_ample n false true x y l h =
        record {
          before = h.before;
          after = h.after;
          cut = h.cut;
          no_end = h.no_end;
          between = h.between;
          first_ran = s.found n.0 x.first h.between h.before h.first_ran;
          first_ended = s.found n.0 h.between y.first (ReadMark.end ∷ []) h.first_ended;
          second_ran = t.found n.1 x.second y.second h.after h.second_ran;
        }
    all_ample n true true x y l h = (t.found n.1 x.second y.second l h.0, h.1)
    all_ample n true false x y l h = absurd h

    pub chain_steady : SteadyReadLaws (ChainsReaders first second) (ChainsReaders ample1 ample2) (none1 × none2)
        (PlaceAlike alike1 alike2)
    chain_steady =
        record {
          laws = chains_laws ample1 ample2 s.laws t.laws;
          steady = λ x y x' y' l m e h k.
              marks_agree x.has_ended x'.has_ended y'.has_ended x y x' y' l m e.1 e.2 h
              (rw e.0 k);
          found = λ n x y l h. all_ample n x.has_ended y.has_ended x y l h;
        }

  module _ {calm1 : R → Type 0} {calm2 : S → Type 0} (c : CalmReadLaws first calm1)
      (d : CalmReadLaws second calm2) where
    no_pending_at : (a b : Bool) (x y : Chain R S) (l : List ReadMark) → calm1 x.first → calm2 x.second
        → JoinsReaders first second a b x l y → NoPendingRead l
    no_pending_at false false x y l k j h = c.no_pending x.first y.first l k h.0
    no_pending_at false true x y l k j h =
        let before = c.no_pending x.first h.between h.before k h.first_ran in
        rw h.cut (no_wait_both h.before h.after before (d.no_pending x.second y.second h.after j h.second_ran))
    no_pending_at true true x y l k j h = d.no_pending x.second y.second l j h.0
    no_pending_at true false x y l k j h = absurd h

    pub chain_calm : CalmReadLaws (ChainsReaders first second) (λ (x : Chain R S). calm1 x.first × calm2 x.second)
    chain_calm =
        record {
          no_pending = λ x y l k h. no_pending_at x.has_ended y.has_ended x y l k.0 k.1 h;
          calm_on = chains_keep first second calm1 calm2 c.calm_on d.calm_on;
        }
