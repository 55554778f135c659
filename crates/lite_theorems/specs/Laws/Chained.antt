-- Laws of a chain: up to its end of file it produces what its two readers produce up to theirs.
use Rattle.std.specs.Prelude.{◌≡◌, ℕ, Bool, true, false, List, [], ◌∷◌, ◌++◌}
use Rattle.lite_theorems.specs.Uses.{◌∙◌, refl, ap, sym, subst, ChainsReaders, first_of, has_ended, second_of, Chain, ReadMark, MarkLaws, BytesAlone}
use Rattle.lite_theorems.specs.Uses.{bytes_told, told_both, Runs}
use Rattle.lite_buffered.specs.Chain.{EndlessMarks, JoinsReaders, ReadsAcross}
use Rattle.lite_theorems.specs.Chained.{ReadsBoth, ReadsRest, ReadsWhole}

goes_parts : (l m : List ReadMark) → BytesAlone (l ++ m) → BytesAlone l × BytesAlone m
goes_parts [] m h = (tt, h)
goes_parts (ReadMark.fault kind ∷ l) m h = absurd h
goes_parts (ReadMark.end ∷ l) m h = absurd h
goes_parts (_ ∷ l) m h = goes_parts l m h

-- A list that ends with an end of file has one.
ends_so : (l : List ReadMark) → EndlessMarks (l ++ ReadMark.end ∷ []) → ⊥
ends_so [] h = h.0 refl
ends_so (m ∷ l) h = ends_so l h.1

-- What comes before the first end of file of one reader, and what comes after it.
cut_at : (read before after : List ReadMark) → read ++ ReadMark.end ∷ [] ≡ before ++ after → EndlessMarks before
    → (rest : List ReadMark) × (read ≡ before ++ rest) × (after ≡ rest ++ ReadMark.end ∷ [])
cut_at read [] after e h = (read, refl, sym e)
cut_at [] (m ∷ before) after e h = absurd (h.0 (cc e))
cut_at (r ∷ read) (m ∷ before) after e h =
    let same : r ≡ m = cc e in let rest = cut_at read before after (cc e) h.1 in (rest.0, cc (same, rest.1), rest.2)

module _ {R S : Type 0} (first : Runs ReadMark R) (second : Runs ReadMark S) (fl : MarkLaws first) where
  -- What `ReadsBoth` says, by whether the first reader had ended.
  record TellsByEnd (b : Bool) (x : Chain R S) (xs : List ℕ) (y : Chain R S) : Type 0 where
    pub firsts : List ℕ
    pub seconds : List ℕ
    pub first_told : ReadsRest b first (first_of x) firsts (first_of y)
    pub second_told : ReadsWhole second (second_of x) seconds (second_of y)
    pub all : xs ≡ firsts ++ seconds

  crossed : (x y : Chain R S) (read : List ReadMark) → BytesAlone read
      → ReadsAcross first second x (read ++ ReadMark.end ∷ []) y → TellsByEnd false x (bytes_told read) y
  crossed x y read on h =
      let at = cut_at read h.before h.after h.cut h.no_end in
      let parts = goes_parts h.before at.0 (subst BytesAlone at.1 on) in
      let came = fl.follows (first_of x) h.between (first_of y) h.before
      (ReadMark.end ∷ []) h.first_ran h.first_ended in
      let then_came = subst (λ l. second (second_of x) l (second_of y)) at.2 h.second_ran in
      record {
        firsts = bytes_told h.before;
        seconds = bytes_told at.0;
        first_told = record { told = h.before; goes_on = parts.0; all = refl; came = came };
        second_told = record { told = at.0; goes_on = parts.1; all = refl; came = then_came };
        all = ap bytes_told at.1 ∙ told_both h.before at.0;
      }

  joined : (b d : Bool) (x y : Chain R S) (read : List ReadMark) → BytesAlone read
      → JoinsReaders first second b d x (read ++ ReadMark.end ∷ []) y → TellsByEnd b x (bytes_told read) y
  joined false true x y read on h = crossed x y read on h
  joined false false x y read on h = absurd (ends_so read h.1)
  joined true false x y read on h = absurd h
  joined true true x y read on h =
      record {
        firsts = [];
        seconds = bytes_told read;
        first_told = (refl, h.1);
        second_told = record { told = read; goes_on = on; all = refl; came = h.0 };
        all = refl;
      }

  pub tells_both : (x y : Chain R S) (xs : List ℕ) → ReadsWhole (ChainsReaders first second) x xs y
      → ReadsBoth first second x xs y
  tells_both x y xs t =
      let b = joined (has_ended x) (has_ended y) x y t.told t.goes_on t.came in
      record {
        firsts = b.firsts;
        seconds = b.seconds;
        first_told = b.first_told;
        second_told = b.second_told;
        all = sym t.all ∙ b.all;
      }
