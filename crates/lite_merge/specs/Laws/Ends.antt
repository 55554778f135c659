-- Laws about results that are all ends of stream.
use Rattle.std.specs.Prelude.{true, false, ◌≡◌, ℕ, List, [], ◌∷◌, ◌++◌, Some, None}
use Rattle.std.proofs.Common.{◌≤◌}
use Rattle.lite_base.specs.Armed.{EndsPending, pends_last}
use Rattle.lite_base.specs.Laws.Armed.{no_pends, pends_join}
use Rattle.lite_merge.specs.Uses.{sym, ◌∙◌, NoPending, arith, Ready, Pending, Answer, before_end, end, items, waits, AtMost, Lowers, AllEnds}

module _ {A : Type 0} where
  pub ends_before : (l : List (Answer A)) → AllEnds l → before_end l ≤ 0
  ends_before [] h = omega arith
  ends_before (a ∷ l) h = rw h.0 (omega arith)

  -- Ends that follow other results yield no items.
  pub ends_bounded : (i l : List (Answer A)) → AllEnds l → before_end (i ++ l) ≤ before_end i
  ends_bounded [] l h = ends_before l h
  ends_bounded (Pending ∷ i) l h = ends_bounded i l h
  ends_bounded (Ready None ∷ i) l h = omega arith
  ends_bounded (Ready (Some x) ∷ i) l h = omega (arith, ends_bounded i l h)

  ends_keep : (l : List (Answer A)) (xs ys : List ℕ) → AllEnds l → AtMost xs ys → Lowers l xs ys
  ends_keep [] xs ys h k = k
  ends_keep (a ∷ l) xs ys h k = rw h.0 (ends_keep l xs ys h.1 k)

  pub ends_lower : (i l : List (Answer A)) (xs ys : List ℕ) → AllEnds l → Lowers i xs ys → Lowers (i ++ l) xs ys
  ends_lower [] l xs ys h k = ends_keep l xs ys h k
  ends_lower (Ready (Some x) ∷ i) l xs ys h k = k
  ends_lower (a ∷ i) l xs ys h k = ends_lower i l xs ys h k

  ends_waits : (l : List (Answer A)) → AllEnds l → waits l ≤ 0
  ends_waits [] h = omega arith
  ends_waits (a ∷ l) h = rw h.0 (ends_waits l h.1)

  -- Ends that follow other results add no `Pending`.
  pub ends_calm : (i l : List (Answer A)) → AllEnds l → waits (i ++ l) ≤ waits i
  ends_calm [] l h = ends_waits l h
  ends_calm (Pending ∷ i) l h = omega (arith, ends_calm i l h)
  ends_calm (Ready x ∷ i) l h = ends_calm i l h

  -- A list of items holds no end of stream.
  pub no_end_among : (i j : List (Answer A)) (l : List A) → items l ≡ i ++ end ∷ j → ⊥
  no_end_among [] j [] e = cc
  no_end_among (a ∷ i) j (x ∷ l) e = no_end_among i j l (cc e)
  no_end_among i j l e = cc

  pub ends_no_pending : (l : List (Answer A)) → AllEnds l → NoPending l
  ends_no_pending [] h = tt
  ends_no_pending (a ∷ l) h = rw h.0 (ends_no_pending l h.1)

  -- Results of which the last are ends do not end in a `Pending`.
  pub ends_last : (own later : List (Answer A)) → AllEnds later → EndsPending (own ++ end ∷ later) → ⊥
  ends_last own later a e =
      let rest : pends_last false later ≡ true = sym (pends_join false own (end ∷ later)) ∙ e in
      cc (no_pends false later (ends_no_pending later a) rest)
