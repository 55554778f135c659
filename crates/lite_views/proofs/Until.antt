-- `read_until` and `read_line` of a reader of which it is known what bytes are to come. They share one lemma.
use Rattle.std.specs.Prelude.{◌≡◌, ℕ, List, [], ◌∷◌, ◌++◌, refl, ⊤, Result, Ok, Err, IfOk}
use Rattle.lite_views.specs.Uses.{◌∙◌, length, take, drop, ap, sym, append_assoc, append-nil, FoldsTo, Error}
use Rattle.lite_views.specs.Uses.{ReadsKnown, ReadMark, Cut, CutsPiece, Reading, in_text}
use Rattle.lite_read.specs.Pieces.{behind, through_first}
use Rattle.lite_read.specs.ReadUntil.{CountsPiece, until}
use Rattle.std.proofs.Common.{take-append-drop, ne_eqb, eq-eqb}
use Rattle.std.proofs.Math.Seq.{drop-length, take-length}
use Rattle.lite_views.proofs.Futures.{TakenUp}
use Rattle.lite_views.proofs.Texts.{under_text}

module _ (at : ℕ) where
  taken_until : (xs p q rest : List ℕ) → FoldsTo (until at ⊤).takes p xs q
      → (q ≡ p ++ xs) × (through_first at (xs ++ rest) ≡ xs ++ through_first at rest)
      × (behind at (xs ++ rest) ≡ behind at rest)
  taken_until [] p q rest h = (sym h ∙ sym (append-nil p), refl, refl)
  taken_until (x ∷ xs) p q rest (r, t, more) =
      let next = taken_until xs r q rest more in
      let other = ne_eqb x at t.0 in
      (rw (← append_assoc p (x ∷ []) xs, ← t.1) next.0, rw (other, next.1), rw other next.2)

  cut_until : (c : Cut) (n : ℕ) (held after bs ys : List ℕ) (last : List ReadMark) → CutsPiece at ⊤ held last c
      → CountsPiece at c held (Ok n) after → ReadsKnown bs last ys
      → (after ≡ held ++ through_first at bs) × (ys ≡ behind at bs) × (n ≡ length after)
  cut_until (Cut.piece xs) n held after bs ys last c k s =
      let s = rw c.0 at s in rw (s.1, eq-eqb at at refl) (rw c.1 at k.0, s.2, (let e = k.1 in cc))
  cut_until (Cut.last xs) n held after bs ys last c k s =
      let s = rw c.0 at s in rw (s.0, append-nil) (k.0 ∙ c.2, s.1 ∙ s.0, (let e = k.1 in cc))
  cut_until Cut.nothing n held after bs ys last c k s =
      let s = rw c.0 at s in rw (s.0, append-nil) (k.0 ∙ sym c.1, s.1 ∙ s.0, (let e = k.1 in cc))
  cut_until (Cut.failed e) n held after bs ys last c k s = cc

  -- up to the first delimiter, or all where there is none
  pub until_read : (n : ℕ) (p q bs ys : List ℕ) → TakenUp (until at ⊤) p bs ys (Ok n) q
      → (q ≡ p ++ through_first at bs) × (ys ≡ behind at bs) × (n ≡ length q)
  until_read n p q bs ys t =
      let f = taken_until t.taken p t.between t.rest t.folds in
      let g = t.given in
      let end = cut_until g.0 n t.between q t.rest ys t.last g.1 g.2 t.told in
      rw (t.came, f.1, f.2, ← append_assoc, ← f.0) end

-- `read_until`
pub read_piece : (at : ℕ) (v : Result ℕ Error) (old new bs ys : List ℕ)
    → TakenUp (until at ⊤) (drop (length old) old) bs ys v (drop (length old) new)
    → take (length old) new ≡ take (length old) old
    → IfOk v (λ n. (new ≡ old ++ through_first at bs) × (n ≡ length (through_first at bs)) × (ys ≡ behind at bs))
read_piece at (Ok n) old new bs ys t before =
    let r = until_read at n (drop (length old) old) (drop (length old) new) bs ys t in
    let piece : drop (length old) new ≡ through_first at bs = rw drop-length at r.0 in
    (sym (take-append-drop (length old) new) ∙ rw (before ∙ take-length old, piece), r.2 ∙ ap length piece, r.1)
read_piece at (Err e) old new bs ys t before = tt

-- `read_line`
pub read_text_line : (v : Result ℕ Error) (p q : Reading) (bs ys : List ℕ)
    → TakenUp (in_text (until 10 ⊤)) p bs ys v q → p.read ≡ []
    → IfOk v (λ n. (q.text ≡ p.text ++ through_first 10 bs) × (n ≡ length (through_first 10 bs)) × (ys ≡ behind 10 bs))
read_text_line (Ok n) p q bs ys t none =
    let r = under_text (until 10 ⊤) n p q bs ys t in
    let u = until_read 10 n p.read r.0 bs ys r.1 in
    let line : r.0 ≡ through_first 10 bs = u.0 ∙ rw none refl in
    (rw (← line) r.2, u.2 ∙ ap length line, u.1)
read_text_line (Err e) p q bs ys t none = tt
