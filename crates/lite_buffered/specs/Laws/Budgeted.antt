-- Laws of a reader with a budget.
use Rattle.std.specs.Prelude.{◌≡◌, ◌+◌, ◌-◌, ℕ, zero, suc, List, [], ◌∷◌, ◌++◌, Option, Some, None, length, take}
use Rattle.lite_buffered.specs.Uses.{◌∙◌, inl, inr, refl, ap, subst, sym, arith, Comparable, Runs, ReadCounting, Falls}
use Rattle.lite_buffered.specs.Uses.{Known, ReadsKnown, calm_part, steady_write_part, AllGiven, ReadMark, bytes}
use Rattle.lite_buffered.specs.Uses.{MarkLaws, Shows, SteadyReadLaws, strip_marks, CalmWriteLaws, SteadyWriteLaws}
use Rattle.lite_buffered.specs.Uses.{WriteMark}
use Rattle.lite_base.specs.Laws.Segments.{paces_follow}
use Rattle.lite_buffered.specs.Budgeted.{BudgetsMarks, PacesMarks, WritesWithin, budgeted_lent, budgeted_ranks, left_behind_mark, left_noted, lent_noted}
use Rattle.lite_buffered.specs.declared.budgeted.Budgeted.{Budgeted}

-- The bytes that may be shown of the inner reader's are the first to be passed on.
paced_shows : (p q : ℕ × ℕ) (shown : List ℕ) (i o : List ReadMark) → PacesMarks p i o q → Comparable (bytes shown) i
    → Comparable (bytes (take p.1 shown)) o
paced_shows (budget, suc n) q (b ∷ shown) i (m ∷ o) (inl h) c = absurd (omega (arith, h.0))
paced_shows (budget, suc n) q (b ∷ shown) i (m ∷ o) (inr h) c =
    let e = rw h.2 at c in
    let one : suc n - 1 ≡ n = omega arith in
    let rest = subst (λ a. PacesMarks (budget, left_behind_mark budget a (suc n)) h.1 o q) (sym e.0) h.3 in
    (e.0, paced_shows (budget, n) q shown h.1 o (subst (λ k. PacesMarks (budget, k) h.1 o q) one rest) e.1)
paced_shows p q shown i o h c = tt

-- Marks of only bytes and errors use as much of the budget.
paced_falls : (p q : ℕ × ℕ) (i o : List ReadMark) → PacesMarks p i o q → AllGiven o → q.1 + length o ≡ p.1
paced_falls p q i [] h g = rw h.1 (omega arith)
paced_falls p q i (m ∷ o) (inl h) g = absurd (subst (λ a. AllGiven (a ∷ [])) h.1 (g.0, tt)).0
paced_falls p q i (ReadMark.pending ∷ o) (inr h) g = absurd g.0
paced_falls p q i (ReadMark.end ∷ o) (inr h) g = absurd g.0
paced_falls p q i (_ ∷ o) (inr h) g = let e = paced_falls (p.0, p.1 - 1) q h.1 o h.3 g.1 in omega (arith, e, h.0)

-- Without `Pending`s, the marks passed on are those that came in.
paced_marks : (p q : ℕ × ℕ) (i o : List ReadMark) → PacesMarks p i o q → strip_marks o ≡ strip_marks i
paced_marks p q i [] h = rw h.0
paced_marks p q i (m ∷ o) (inl h) = rw h.1 (paced_marks (p.0, p.0) q i o h.2)
paced_marks p q i (ReadMark.pending ∷ o) (inr h) = rw h.2 (paced_marks (p.0, p.0) q h.1 o h.3)
paced_marks p q i (m ∷ o) (inr h) =
    rw h.2 (ap (λ l. m ∷ l) (paced_marks (p.0, left_behind_mark p.0 m p.1) q h.1 o h.3))

pub paced_spends : (p q : ℕ × ℕ) (i o : List ReadMark) (xs ys : List ℕ) → PacesMarks p i o q → ReadsKnown xs i ys
    → ReadsKnown xs o ys
paced_spends p q i [] xs ys h k = rw h.0 at k
paced_spends p q i (m ∷ o) xs ys (inl h) k = rw h.1 (paced_spends (p.0, p.0) q i o xs ys h.2 k)
paced_spends p q i (ReadMark.byte b ∷ o) xs ys (inr h) k =
    let e = rw h.2 at k in (e.0, e.1, paced_spends (p.0, p.1 - 1) q h.1 o e.0 ys h.3 e.2)
paced_spends p q i (ReadMark.pending ∷ o) xs ys (inr h) k =
    paced_spends (p.0, p.0) q h.1 o xs ys h.3 (rw h.2 at k)
paced_spends p q i (ReadMark.fault kind ∷ o) xs ys (inr h) k = absurd (rw h.2 at k)
paced_spends p q i (ReadMark.end ∷ o) xs ys (inr h) k =
    let e = rw h.2 at k in (e.0, paced_spends p q h.1 o xs ys h.3 e.1)

-- What is known of a reader with a budget: the bytes of its inner reader.
abbrev pub budgets_known : {R : Type 0} → Known R → Known (Budgeted R)
budgets_known k = record {
  told = BudgetsMarks k.told;
  knows = λ x. k.knows x.reader;
  left = λ x. k.left x.reader;
  tells = λ x y l know h.
      let on = k.tells x.reader y.reader h.came know h.ran in (on.0, paced_spends _ _ h.came l _ _ h.paced on.1);
}

pub budgets_laws : {R : Type 0} {reads : Runs ReadMark R} → MarkLaws reads → MarkLaws (BudgetsMarks reads)
budgets_laws laws = record {
  rests = λ x. record { came = []; ran = laws.rests x.reader; paced = (refl, refl) };
  follows = λ x y z l m h k. record {
    came = h.came ++ k.came;
    ran = laws.follows x.reader y.reader z.reader h.came k.came h.ran k.ran;
    paced = paces_follow ReadMark.pending left_behind_mark _ _ _ h.came k.came l m h.paced k.paced;
  };
}

module _ {R : Type 0} {reads : Runs ReadMark R} where
  pub budgets_show : (buffer_of : R → List ℕ) → Shows reads buffer_of → Shows (BudgetsMarks reads) (budgeted_lent buffer_of)
  budgets_show buffer_of shows x y l h =
      shown x.left (paced_shows _ _ _ h.came l h.paced (shows x.reader y.reader h.came h.ran))
    where
      shown : (left : Option ℕ) → Comparable (bytes (take (left_noted x.budget left) (buffer_of x.reader))) l
          → Comparable (bytes (lent_noted left (buffer_of x.reader))) l
      shown None c = tt
      shown (Some n) c = c

  pub budgets_counting : ReadCounting (BudgetsMarks reads) budgeted_ranks
  budgets_counting = record {
    sized = λ x. refl;
    counts_on = λ x y l k h. tt;
    firm_on = λ x y l k h. absurd k;
    falls = λ x y l k g h. falls_by _ _ _ (paced_falls _ _ h.came l h.paced g);
    lowers = λ x y l k h. absurd k;
  }
    where
      falls_by : (n a b : ℕ) → a + n ≡ b → Falls n (a ∷ []) (b ∷ [])
      falls_by zero a b e = inl (let same : a ≡ b = omega (arith, e) in rw same)
      falls_by (suc n) a b e = inl (omega (arith, e), refl)

  -- Such readers are alike if their inner readers are, whatever their budgets are.
  pub budgets_steady : {ample : Runs ReadMark R} {needs_none : Type 0} {alike : R → R → Type 0}
      → SteadyReadLaws reads ample needs_none alike
      → SteadyReadLaws (BudgetsMarks reads) (BudgetsMarks ample) needs_none
      (λ (x y : Budgeted R). alike x.reader y.reader)
  budgets_steady s =
      record {
        laws = budgets_laws s.laws;
        steady = λ x y x' y' l m e h k. rw (paced_marks _ _ h.came l h.paced, paced_marks _ _ k.came m k.paced)
            (s.steady x.reader y.reader x'.reader y'.reader h.came k.came e h.ran k.ran);
        found = λ n x y l h. record {
          came = h.came;
          ran = s.found n x.reader y.reader h.came h.ran;
          paced = h.paced;
        };
      }

-- Writes go to the inner writer.
module _ {R : Type 0} {writes : Runs WriteMark R} where
  pub within_laws : MarkLaws writes → MarkLaws (WritesWithin writes)
  within_laws laws = record {
    rests = λ x. (laws.rests x.reader, (refl, refl));
    follows = λ x y z l m h k. (
      laws.follows x.reader y.reader z.reader l m h.0 k.0,
      (k.1.0 ∙ h.1.0, k.1.1 ∙ h.1.1),
    );
  }

  pub within_steady : {alike : R → R → Type 0} {below : R → List ℕ} → SteadyWriteLaws writes alike below
      → SteadyWriteLaws (WritesWithin writes) (λ (x y : Budgeted R). alike x.reader y.reader)
      (λ x. below x.reader)
  within_steady = steady_write_part (λ x. x.reader) (λ x y l h. h.0)

  pub within_calm : {is_calm : R → Type 0} → CalmWriteLaws writes is_calm
      → CalmWriteLaws (WritesWithin writes) (λ (x : Budgeted R). is_calm x.reader)
  within_calm = calm_part (λ x. x.reader) (λ x y l h. h.0)
