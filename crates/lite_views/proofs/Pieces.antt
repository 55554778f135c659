-- The pieces of a reader of which it is known what bytes are to come: what `split` and `lines` share.
use Rattle.lite_views.proofs.Collecting.{ok_seen}
use Rattle.std.specs.Prelude.{◌≡◌, ℕ, List, [], ◌∷◌, ◌++◌, refl, ⊤, Option, Some, None, Result, Ok, Err}
use Rattle.std.proofs.Common.{◌<◌, ne_eqb, eq-eqb}
use Rattle.lite_views.specs.Uses.{◌∙◌, length, ap, subst, arith, FoldsTo, Error, Ready, Pending, Answer, Runs}
use Rattle.lite_views.specs.Uses.{ReadsKnown, Known, Knows, spends_bytes, spends_split, knows_spends, ReadMark, bytes}
use Rattle.lite_views.specs.Uses.{Cut, CutsPiece, AnswerMarks, ReadFold}
use Rattle.lite_read.specs.Pieces.{last_piece, pieces_from, Itemised, pieces}
use Rattle.lite_read.specs.Segments.{Flows, PieceSegments, StreamOver}
use Rattle.lite_views.specs.Trying.{OkFits, OkLists, OkListsAs}

-- The pieces of a reader: `at` ends one, and h is made of it; f is what an item holds.
module _ {A : Type 0} (at : ℕ) (whole final : List ℕ → Result A Error → Type 0) (h : List ℕ → List ℕ) (f : A → List ℕ)
    (on_whole : (xs : List ℕ) (x : A) → whole xs (Ok x) → f x ≡ h xs)
    (on_final : (xs : List ℕ) (x : A) → final xs (Ok x) → f x ≡ xs) where
  abbrev stream_fold : ReadFold (List ℕ) (Option (Result A Error))
  stream_fold = pieces at (λ held. ⊤) (Itemised whole final)

  abbrev made : List ℕ → List ℕ → List (List ℕ)
  made = pieces_from at h

  taken_made : (xs p q rest : List ℕ) → FoldsTo stream_fold.takes p xs q → made p (xs ++ rest) ≡ made q rest
  taken_made [] p q rest e = ap (λ v. made v rest) e
  taken_made (x ∷ xs) p q rest (r, t, more) =
      rw (ne_eqb x at t.0, ← t.1) (taken_made xs r q rest more)

  last_made : (held : List ℕ) → 0 < length held → last_piece held ≡ held ∷ []
  last_made [] n = absurd (omega arith)
  last_made (b ∷ held) n = refl

  -- what stands in the places of the answers that are still to come
  abbrev StillToCome : Runs (Answer (Result A Error)) (List ℕ)
  StillToCome q out ys = OkFits f out (made q ys)

  cut_fits : (c : Cut) (r : Option (Result A Error)) (out : List (Answer (Result A Error)))
      (held after ys zs : List ℕ) (marks : List ReadMark)
      → CutsPiece at ⊤ held marks c → Itemised whole final c held r after → ReadsKnown ys marks zs
      → StillToCome after out zs → OkFits f (Ready r ∷ out) (made held ys)
  cut_fits (Cut.piece xs) (Some (Ok x)) out held after ys zs marks c i s k =
      let s = rw c.0 at s in rw (s.1, eq-eqb at at refl) (on_whole xs x i.0 ∙ ap h c.1, rw (i.1, s.2) at k)
  cut_fits (Cut.last xs) (Some (Ok x)) out held after ys zs marks c i s k =
      let s = rw c.0 at s in rw (s.0, last_made held c.1) (on_final xs x i.0 ∙ c.2, rw (i.1, s.1, s.0) at k)
  cut_fits Cut.nothing None out held after ys zs marks c i s k =
      let s = rw c.0 at s in rw (s.0, c.1)
  cut_fits (Cut.failed e) (Some (Ok x)) out held after ys zs marks c i s k = let a = i.0 in cc
  cut_fits _ (Some (Err _)) out held after ys zs marks c i s k = tt
  cut_fits _ _ out held after ys zs marks c h s k = absurd h

  answer_fits : (a : Answer (Result A Error)) (out : List (Answer (Result A Error))) (p q bs zs : List ℕ)
      (marks : List ReadMark) → AnswerMarks stream_fold p marks a q
      → ReadsKnown bs marks zs → StillToCome q out zs → OkFits f (a ∷ out) (made p bs)
  answer_fits Pending out p q bs zs marks w s k =
      let cut = spends_split bs zs (bytes w.taken) w.last (rw w.cut at s) in
      let told : zs ≡ cut.0 = subst (λ m. ReadsKnown cut.0 m zs) w.given.0 cut.2 in
      rw (spends_bytes w.taken bs cut.0 cut.1, taken_made w.taken p w.between cut.0 w.folds)
      (rw (w.given.2, told) at k)
  answer_fits (Ready r) out p q bs zs marks w s k =
      let cut = spends_split bs zs (bytes w.taken) w.last (rw w.cut at s) in
      let g = w.given in
      rw (spends_bytes w.taken bs cut.0 cut.1, taken_made w.taken p w.between cut.0 w.folds)
      (cut_fits g.0 r out w.between q cut.0 zs w.last g.1 g.2 cut.2 k)

  pieces_fit : (out : List (Answer (Result A Error))) (p q bs ys : List ℕ) (marks : List ReadMark)
      → PieceSegments stream_fold p marks out q → ReadsKnown bs marks ys
      → OkFits f out (pieces_from at h p bs)
  pieces_fit [] p q bs ys marks g s = tt
  pieces_fit (a ∷ out) p q bs ys marks (first, rest, m, e, one, more) s =
      let cut = spends_split bs ys first rest (rw e at s) in
      answer_fits a out p m bs cut.0 first one cut.1 (pieces_fit out m q cut.0 ys rest more cut.2)

  -- a stream of the pieces that holds nothing yet
  pub pieces_listed : {X S K : Type 0} (over : StreamOver X S (List ℕ) K)
      (fold : K → ReadFold (List ℕ) (Option (Result A Error))) (reads : Runs ReadMark S) (known : Known S) (x : X)
      → fold (over.kept x) ≡ stream_fold → over.held x ≡ [] → Knows reads known (over.reader x)
      → OkListsAs (Flows over fold reads) x f (pieces_from at h [] (known.left (over.reader x)))
  unfolding OkLists
  pieces_listed over fold reads known x same none knows = (
    ok_seen x f (pieces_from at h [] (known.left (over.reader x))),
    λ l y ran. let r = rw (same, none) at ran.segmented in
        pieces_fit l [] (over.held y) (known.left (over.reader x)) (known.left (over.reader y)) r.marks r.cut
        (knows_spends reads known (over.reader x) (over.reader y) r.marks knows r.came),
  )
