-- What single polls of a `BufReader` do.
use Rattle.std.specs.Prelude.{◌≡◌, ℕ, zero, suc, ◌≤◌, ◌<◌, min, List, [], ◌∷◌, ◌++◌, length, take, drop, Result, ◌-◌}
use Rattle.lite_buffered.specs.Uses.{◌∙◌, refl, sym, ap, subst, arith, append-nil, length-take-le, take-append-drop}
use Rattle.lite_buffered.specs.Uses.{ReadMark, bytes, filled_marks, moved_marks, MarkLaws, Runs, inl, inr, Error, Poll}
use Rattle.lite_buffered.specs.Uses.{read_marks}
use Rattle.std.proofs.Math.Nat.{sub-zero}
use Rattle.std.proofs.lemmas.List.{map-append}
use Rattle.lite_buffered.specs.declared.buf_reader.BufReader.{BufReader}
use Rattle.lite_buffered.specs.BufReader.{Padded, PassesBuffer, ThroughBuffer, bytes_ahead, reader_capacity, AsksWhereEmpty, PollsOnce, ReadsOnce}
use Rattle.lite_buffered.specs.Laws.BufReader.{ahead_none, passes_of, through_laws}
use Rattle.lite_buffered.specs.Take.{WithinLimit}

-- nothing is moved into no room
pub moved_none : (buf xs : List ℕ) → length buf ≡ 0 → length xs ≡ 0 → moved_marks buf xs ≡ []
moved_none [] [] p q = refl
moved_none [] (x ∷ xs) p q = absurd (omega (arith, q))
moved_none (b ∷ buf) xs p q = absurd (omega (arith, p))

-- a fill, and then a read of what it lent, is a read
fill_then_read : (shown room : List ℕ) (n : ℕ) → n ≡ min (length shown) (length room) → 0 < length room
    → moved_marks room (take n shown) ≡ filled_marks shown ++ bytes (take n shown)
fill_then_read shown [] n is some = absurd (omega (arith, some))
fill_then_read [] (r ∷ room) n is some = let none : n ≡ 0 = omega arith in rw none refl
fill_then_read (x ∷ shown) (r ∷ room) zero is some = absurd (omega arith)
fill_then_read (x ∷ shown) (r ∷ room) (suc n) is some = refl

filled_some : (shown : List ℕ) → 0 < length shown → filled_marks shown ≡ []
filled_some [] some = absurd (omega (arith, some))
filled_some (x ∷ shown) some = refl

-- what a fill read is ahead
pub fill_passes : (buf xs : List ℕ) → length xs ≤ length buf
    → PassesBuffer (length buf) [] (moved_marks buf xs) (filled_marks xs) xs
fill_passes [] [] fits = (refl, refl, Padded.more [] [] Padded.none)
fill_passes [] (x ∷ xs) fits = absurd (omega (arith, fits))
fill_passes (b ∷ buf) [] fits = refl
fill_passes (b ∷ buf) (x ∷ xs) fits = refl

module _ {R : Type 0} (reads : Runs ReadMark R) (x y : BufReader R) where
  -- what was ahead and came in is what went out and is ahead
  pub through_read : (came out : List ReadMark) → reads x.inner came y.inner → reader_capacity y ≡ reader_capacity x
      → bytes (bytes_ahead x) ++ came ≡ out ++ bytes (bytes_ahead y) → ThroughBuffer reads x out y
  through_read came out ran same e =
      record {
        came = came;
        ran = ran;
        capacity = same;
        passes = passes_of (reader_capacity x) (bytes_ahead x) came out (bytes_ahead y) e
            (λ none. (ahead_none x none, ahead_none y (same ∙ none)));
      }

  -- the inner reader was read past the buffer, in which nothing is ahead
  pub through_past : (l : List ReadMark) → reads x.inner l y.inner → reader_capacity y ≡ reader_capacity x
      → bytes_ahead x ≡ [] → bytes_ahead y ≡ [] → ThroughBuffer reads x l y
  through_past l ran same p q = through_read l l ran same (rw (p, q) (sym (append-nil l)))

  -- bytes were taken from what is ahead
  pub through_taken : MarkLaws reads → (xs : List ℕ) → y.inner ≡ x.inner → reader_capacity y ≡ reader_capacity x
      → bytes_ahead x ≡ xs ++ bytes_ahead y → ThroughBuffer reads x (bytes xs) y
  through_taken laws xs stays same e =
      through_read [] (bytes xs) (subst (λ v. reads x.inner [] v) (sym stays) (laws.rests x.inner)) same
      (append-nil (bytes (bytes_ahead x)) ∙ ap bytes e ∙ map-append ReadMark.byte xs (bytes_ahead y))

  -- the inner reader was read into the whole buffer
  pub through_fill : (n : ℕ) → bytes_ahead x ≡ [] → y.pos ≡ 0 → y.end ≡ n → n ≤ length y.buf.items
      → reader_capacity y ≡ reader_capacity x → reads x.inner (moved_marks y.buf.items (take n y.buf.items)) y.inner
      → ThroughBuffer reads x (filled_marks (bytes_ahead y)) y
  through_fill n none pos end fits same ran =
      let buf = y.buf.items in
      let shown : bytes_ahead y ≡ take n buf = rw (pos, end) (ap (λ k. take k buf) (sub-zero n)) in
      let passes = subst (λ k. PassesBuffer k [] (moved_marks buf (take n buf)) (filled_marks (take n buf)) (take n buf)) same
      (fill_passes buf (take n buf) (omega (arith, length-take-le n buf fits))) in
      rw shown (record { came = moved_marks buf (take n buf); ran = ran; capacity = same; passes = rw (none, shown) passes })

  -- bytes were taken from what is ahead, and nothing else changed
  pub through_advance : MarkLaws reads → (n : ℕ) → y.inner ≡ x.inner → reader_capacity y ≡ reader_capacity x
      → bytes_ahead y ≡ drop n (bytes_ahead x) → ThroughBuffer reads x (bytes (take n (bytes_ahead x))) y
  through_advance laws n inner same rest =
      let cut = sym (take-append-drop n (bytes_ahead x)) ∙ ap (λ l. take n (bytes_ahead x) ++ l) (sym rest) in
      through_taken laws (take n (bytes_ahead x)) inner same cut

-- a fill where bytes are ahead
pub through_rest : {R : Type 0} (reads : Runs ReadMark R) (x : BufReader R) → MarkLaws reads → 0 < length (bytes_ahead x)
    → ThroughBuffer reads x (filled_marks (bytes_ahead x)) x
through_rest reads x laws some = rw (filled_some (bytes_ahead x) some) ((through_laws laws).rests x)

-- a fill, and then a read of the first n bytes of what it lent
pub fill_then_take : {R : Type 0} {reads : Runs ReadMark R} (laws : MarkLaws reads) (x s y : BufReader R) (n : ℕ)
    (room : List ℕ) → ThroughBuffer reads x (filled_marks (bytes_ahead s)) s → y.inner ≡ s.inner
    → reader_capacity y ≡ reader_capacity s → bytes_ahead y ≡ drop n (bytes_ahead s) → n ≡ min (length (bytes_ahead s)) (length room)
    → 0 < length room → ThroughBuffer reads x (moved_marks room (take n (bytes_ahead s))) y
fill_then_take {reads = reads} laws x s y n room fills inner same rest is some =
    rw (fill_then_read (bytes_ahead s) room n is some)
    ((through_laws laws).follows x s y (filled_marks (bytes_ahead s)) (bytes (take n (bytes_ahead s))) fills
    (through_advance reads s y laws n inner same rest))

-- A read that polls the inner reader at most once.

module _ {R : Type 0} (reads : Runs ReadMark R) (most : ℕ) (x y : R) where
  pub polls_none : MarkLaws reads → y ≡ x → PollsOnce reads most x y
  polls_none laws same = record { told = []; ran = subst (λ v. reads x [] v) (sym same) (laws.rests x); one = inl refl }

  pub polls_one : (r : Poll (Result ℕ Error)) (buf : List ℕ) → length buf ≤ most → reads x (read_marks r buf) y
      → PollsOnce reads most x y
  polls_one r buf fits ran = record { told = read_marks r buf; ran = ran; one = inr (r, buf, fits, refl) }

  -- it is asked where nothing of this list is there
  polls_where : (l : List ℕ) (space : ℕ) → MarkLaws reads → space ≤ most → (l ≡ [] → ReadsOnce reads space x y)
      → (0 < length l → y ≡ x) → PollsOnce reads most x y
  polls_where [] space laws within asks rests =
      let h = asks refl in polls_one h.answer h.buf (omega (arith, h.fits, within)) h.ran
  polls_where (b ∷ l) space laws within asks rests = polls_none laws (rests (omega arith))

-- the inner reader is asked where nothing is ahead
pub polls_asked : {R : Type 0} (reads : Runs ReadMark R) (space most : ℕ) (x y : BufReader R) → MarkLaws reads
    → space ≤ most → AsksWhereEmpty reads space x y → PollsOnce reads most x.inner y.inner
polls_asked reads space most x y laws within h =
    polls_where reads most x.inner y.inner (bytes_ahead x) space laws within h.0 h.1

pub ruleset polls_rules = (polls_none, polls_one, polls_asked)

-- Reads within a limit.

pub fits_bytes : (limit : ℕ) (xs : List ℕ) → length xs ≤ limit → WithinLimit limit (bytes xs) (limit - length xs)
fits_bytes limit [] h = omega arith
fits_bytes zero (x ∷ xs) h = absurd (omega (arith, h))
fits_bytes (suc n) (x ∷ xs) h = let e : n - length xs ≡ suc n - length (x ∷ xs) = omega arith in
    subst (λ k. WithinLimit n (bytes xs) k) e (fits_bytes n xs (omega (arith, h)))

pub fits_moved : (limit : ℕ) (buf xs : List ℕ) → length xs ≤ limit → 0 < limit → 0 < length buf
    → WithinLimit limit (moved_marks buf xs) (limit - length xs)
fits_moved limit buf (x ∷ xs) fits some room = fits_bytes limit (x ∷ xs) fits
fits_moved limit [] [] fits some room = absurd (omega (arith, room))
fits_moved zero (b ∷ buf) [] fits some room = absurd (omega (arith, some))
fits_moved (suc n) (b ∷ buf) [] fits some room = omega arith

-- When a `BufReader` asks its inner reader.

some_ahead : (l : List ℕ) → l ≡ [] → 0 < length l → {A : Type 0} → A
some_ahead l e some = absurd (omega (arith, subst (λ k. 0 < length k) e some))

module _ {R : Type 0} (reads : Runs ReadMark R) (room : ℕ) (x y : BufReader R) where
  pub asks_none : 0 < length (bytes_ahead x) → y.inner ≡ x.inner → AsksWhereEmpty reads room x y
  asks_none some same = ((λ e. some_ahead (bytes_ahead x) e some), (λ _. same))

  pub asks_one : (r : Poll (Result ℕ Error)) (buf : List ℕ) → length buf ≡ room → bytes_ahead x ≡ []
      → reads x.inner (read_marks r buf) y.inner → AsksWhereEmpty reads room x y
  asks_one r buf whole none ran =
      let fits : length buf ≤ room = omega (arith, whole) in
      let some : 0 < room → 0 < length buf = λ more. omega (arith, whole, more) in
      ((λ _. record { answer = r; buf = buf; fits = fits; some = some; ran = ran }), (λ more. some_ahead (bytes_ahead x) none more))

  -- a fill asks for as much as the capacity, and nothing where bytes are ahead
  pub asks_room : (space : ℕ) → (bytes_ahead x ≡ [] → space ≡ room) → AsksWhereEmpty reads space x y
      → AsksWhereEmpty reads room x y
  asks_room space is h = ((λ none. subst (λ n. ReadsOnce reads n x.inner y.inner) (is none) (h.0 none)), h.1)

  -- bytes are taken of what a fill left
  pub asks_filled : (z : BufReader R) → AsksWhereEmpty reads room x z → y.inner ≡ z.inner → AsksWhereEmpty reads room x y
  asks_filled z h same =
      ((λ none. subst (λ v. ReadsOnce reads room x.inner v) (sym same) (h.0 none)), (λ some. same ∙ h.1 some))

  pub ruleset asks_rules = (asks_none, asks_one, asks_room, asks_filled)
