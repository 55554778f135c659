-- What a `read_until` of the first bytes of a reader was told is told of the reader.
use Rattle.std.specs.Prelude.{IfErr, IfOk, ◌≡◌, ◌<◌, ◌+◌, ◌-◌, ℕ, zero, suc, List, [], ◌∷◌, ◌++◌, length, Result, Ok, Err}
use Rattle.lite_theorems.specs.Uses.{◌∙◌, ap, append-nil, arith, inl, inr, refl, subst, sym, take, Error, ErrorKind, Lent, LimitEnds, MutBor, ReadMark, Runs, Take, ReadsWithin}
use Rattle.lite_theorems.specs.Uses.{WithinLimit, bytes, strip_marks, VectorLacksRoom, PieceTold, PieceWithin, ToldStripped}
use Rattle.lite_io_base.specs.Laws.Steady.{strip_marks-append}
use Rattle.lite_theorems.proofs.Waited.{LacksBy, ToldByUntil}

-- `Pending`s use nothing of a limit.
fits_stripped : (n rest : ℕ) (l : List ReadMark) → WithinLimit n l rest → WithinLimit n (strip_marks l) rest
fits_stripped n rest [] h = h
fits_stripped zero rest (m ∷ l) h = absurd h
fits_stripped (suc n) rest (ReadMark.byte b ∷ l) h = fits_stripped n rest l h
fits_stripped (suc n) rest (ReadMark.pending ∷ l) h = fits_stripped (suc n) rest l h
fits_stripped (suc n) rest (ReadMark.end ∷ l) h = fits_stripped (suc n) rest l h
fits_stripped (suc n) rest (ReadMark.fault kind ∷ l) h = fits_stripped (suc n) rest l h

-- Bytes use one of the limit each.
uses_bytes : (n rest : ℕ) (xs : List ℕ) (last : List ReadMark) → WithinLimit n (bytes xs ++ last) rest
    → (left : ℕ) × (n ≡ length xs + left) × WithinLimit left last rest
uses_bytes n rest [] last h = (n, omega arith, h)
uses_bytes zero rest (b ∷ xs) last h = absurd h
uses_bytes (suc n) rest (b ∷ xs) last h =
    let (left, count, more) = uses_bytes n rest xs last h in
    (left, omega (arith, count), more)

left_some : (left rest : ℕ) (m : ReadMark) (l : List ReadMark) → WithinLimit left (m ∷ l) rest → 0 < left
left_some zero rest m l h = absurd h
left_some (suc left) rest m l h = omega arith

-- Ends of file are no `Pending`s.
ends_stripped : (rest : ℕ) (l : List ReadMark) → LimitEnds rest l → strip_marks l ≡ l
ends_stripped rest [] h = refl
ends_stripped rest (m ∷ l) h = rw h.1 (ap (λ k. ReadMark.end ∷ k) (ends_stripped rest l h.2))

-- An end of file comes behind all bytes before it.
behind_bytes : (xs : List ℕ) (last m es : List ReadMark) → bytes xs ++ last ≡ m ++ ReadMark.end ∷ es
    → (ys : List ReadMark) × (m ≡ bytes xs ++ ys) × (last ≡ ys ++ ReadMark.end ∷ es)
behind_bytes [] last m es e = (m, refl, e)
behind_bytes (b ∷ xs) last [] es e = cc e
behind_bytes (b ∷ xs) last (c ∷ m) es e =
    let first : ReadMark.byte b ≡ c = cc e in
    let rest : bytes xs ++ last ≡ m ++ ReadMark.end ∷ es = cc e in
    let more = behind_bytes xs last m es rest in
    (more.0, ap (λ k. k ∷ m) (sym first) ∙ ap (λ k. ReadMark.byte b ∷ k) more.1, more.2)

none_in_front : (l m : List ReadMark) → l ++ m ≡ [] → l ≡ []
none_in_front [] m e = refl
none_in_front (a ∷ l) m e = cc e

nothing_behind : {A : Type 0} (ys es : List ReadMark) → [] ≡ ys ++ ReadMark.end ∷ es → A
nothing_behind [] es e = cc e
nothing_behind (y ∷ ys) es e = cc e

one_behind : (ys es : List ReadMark) → ReadMark.end ∷ [] ≡ ys ++ ReadMark.end ∷ es → ys ≡ []
one_behind [] es e = refl
one_behind (y ∷ ys) es e =
    let rest : [] ≡ ys ++ ReadMark.end ∷ es = cc e in nothing_behind ys es rest

no_fault : {A : Type 0} {kind : ErrorKind} (ys es : List ReadMark) → ReadMark.fault kind ∷ [] ≡ ys ++ ReadMark.end ∷ es → A
no_fault [] es e = cc e
no_fault (y ∷ ys) es e = let rest : [] ≡ ys ++ ReadMark.end ∷ es = cc e in nothing_behind ys es rest

-- `lacks` says when an allocation may fail, by what is left of the limit
module _ (lacks : ℕ → Type 0) (limit rest at : ℕ) (xs : List ℕ) (m : List ReadMark) (fits : WithinLimit limit m rest) where
  within : (last : List ReadMark) → m ≡ bytes xs ++ last
      → (left : ℕ) × (limit ≡ length xs + left) × WithinLimit left last rest
  within last e = uses_bytes limit rest xs last (rw e at fits)

  -- The limit was not used up, or nothing was read behind it.
  not_used_up : (v : Result ℕ Error) → PieceTold (lacks rest) at xs m v → PieceWithin (lacks (limit - length xs)) limit at xs m v
  not_used_up (Ok n) (count, inl (ends, told)) =
      let w = within [] (told ∙ sym (append-nil (bytes xs))) in
      (count, inl (ends, told, omega (arith, w.1)))
  not_used_up (Ok n) (count, inr (without, told)) =
      let w = within (ReadMark.end ∷ []) told in
      (count, inr (inr (without, told, omega (arith, w.1, left_some w.0 rest ReadMark.end [] w.2))))
  not_used_up (Err e) (without, inl told) =
      let w = within _ told in ((without, inl told), omega (arith, w.1))
  not_used_up (Err e) (without, inr (lacking, told, kind)) =
      let w = within [] (told ∙ sym (append-nil (bytes xs))) in
      let left : rest ≡ limit - length xs = omega (arith, w.1, w.2) in
      ((without, inr (subst lacks left lacking, told, kind)), omega (arith, w.1))

  used_up : (es : List ReadMark) → rest ≡ 0 → (v : Result ℕ Error)
      → PieceTold (lacks rest) at xs (m ++ ReadMark.end ∷ es) v → PieceWithin (lacks (limit - length xs)) limit at xs m v
  used_up es none (Ok n) (count, inl (ends, told)) =
      let b = behind_bytes xs [] m es (append-nil (bytes xs) ∙ sym told) in nothing_behind b.0 es b.2
  used_up es none (Ok n) (count, inr (without, told)) =
      let b = behind_bytes xs (ReadMark.end ∷ []) m es (sym told) in
      let all : m ≡ bytes xs = b.1 ∙ ap (λ k. bytes xs ++ k) (one_behind b.0 es b.2) ∙ append-nil (bytes xs) in
      let w = within [] (all ∙ sym (append-nil (bytes xs))) in
      (count, inr (inl (without, all, omega (arith, w.1, w.2, none))))
  used_up es none (Err e) (without, inl told) =
      let b = behind_bytes xs _ m es (sym told) in no_fault b.0 es b.2
  used_up es none (Err e) (without, inr told) =
      let b = behind_bytes xs [] m es (append-nil (bytes xs) ∙ sym told.1) in nothing_behind b.0 es b.2

  by_ends : (ends : List ReadMark) (v : Result ℕ Error) → LimitEnds rest ends → PieceTold (lacks rest) at xs (m ++ ends) v
      → PieceWithin (lacks (limit - length xs)) limit at xs m v
  by_ends [] v h told = not_used_up v (subst (λ l. PieceTold (lacks rest) at xs l v) (append-nil m) told)
  by_ends (e ∷ es) v h told = used_up es h.0 v (subst (λ f. PieceTold (lacks rest) at xs (m ++ f ∷ es) v) h.1 told)

-- What was told through a `Take` of a reader that is lent.
module _ {S : Type 0} (reads : Runs ReadMark S) (x y : Take (MutBor S)) (at : ℕ) where
  cut_of : (l : List ReadMark) (told : ToldStripped (ReadsWithin (Lent reads)) x l y)
      → l ≡ strip_marks told.1.front ++ told.1.ends
  cut_of l (told, ran, is) =
      sym is ∙ ap strip_marks ran.cut ∙ strip_marks-append ran.front ran.ends
      ∙ ap (λ k. strip_marks ran.front ++ k) (ends_stripped y.limit ran.ends ran.used_up)

  piece_of_taken : (lacks : ℕ → Type 0) (xs : List ℕ) (l : List ReadMark) (v : Result ℕ Error)
      → ToldStripped (ReadsWithin (Lent reads)) x l y → PieceTold (lacks y.limit) at xs l v
      → (m : List ReadMark) × ToldStripped reads x.inner.now m y.inner.now
      × PieceWithin (lacks (x.limit - length xs)) x.limit at xs m v
  piece_of_taken lacks xs l v (told, ran, is) piece =
      let m = strip_marks ran.front in (
        m,
        (ran.front, ran.ran.0, refl),
        by_ends lacks x.limit y.limit at xs m (fits_stripped x.limit y.limit ran.front ran.fits) ran.ends v ran.used_up
            (subst (λ k. PieceTold (lacks y.limit) at xs k v) (cut_of l (told, ran, is)) piece),
      )

  pub taken_lent : (l : List ReadMark) → ToldStripped (ReadsWithin (Lent reads)) x l y → y.inner.ghost_name ≡ x.inner.ghost_name
  taken_lent l (told, ran, is) = ap (λ r. r.ghost_name) ran.ran.1

  -- What a wait for a `read_until` of the `Take` was told.
  module _ (buffer_of : S → List ℕ) (capacity : ℕ) (before after : List ℕ) where
    -- what is lacking if so much is left of the limit
    abbrev pub LacksAt : ℕ → S → Type 0
    LacksAt left t = VectorLacksRoom at capacity after (take left (buffer_of t))

    pub told_of_taken : {E : Type 0} (r : Result (Result ℕ Error) E) (b : MutBor S) (limit : ℕ) (t : S)
        → x.inner ≡ b → x.limit ≡ limit → t ≡ y.inner.now
        → ToldByUntil (ReadsWithin (Lent reads)) at (LacksBy at capacity (λ u. take u.limit (buffer_of u.inner.now))) x before r y after
        → (m : List ReadMark) × (xs : List ℕ) × ToldStripped reads b.now m t × (after ≡ before ++ xs)
        × IfOk r (λ v. PieceWithin (LacksAt (limit - length xs) t) limit at xs m v) × IfErr r (λ _. (m ≡ []) × (xs ≡ []))
    told_of_taken (Ok v) b limit t inner is left (l, xs, told, appended, piece, none) =
        let (m, ran, within) = piece_of_taken (λ n. LacksAt n y.inner.now) xs l v told piece in
        (m, xs, rw (← inner, left) ran, appended, rw (← is, left) within, tt)
    told_of_taken (Err e) b limit t inner is left (l, xs, told, appended, piece, none) =
        let m = strip_marks told.1.front in
        let empty = none_in_front m told.1.ends (sym (cut_of l told) ∙ none.0) in
        (m, xs, rw (← inner, left) (told.1.front, told.1.ran.0, refl), appended, tt, (empty, none.1))
