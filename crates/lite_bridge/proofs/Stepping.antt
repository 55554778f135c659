-- A read of a buffered reader over a cursor is one of the bare cursor.
use Rattle.std.specs.Prelude.{◌≡◌, ◌≤◌, ◌<◌, ◌^◌, ℕ, suc, ◌+◌, ◌-◌, List, [], ◌∷◌, ◌++◌, length, take}
use Rattle.lite_bridge.specs.Uses.{◌∙◌, refl, sym, ap, subst, arith, length-take, BufReader, ThroughBuffer, bytes_ahead, reader_capacity, reader_inner, Runs}
use Rattle.lite_buffered.specs.Laws.BufReader.{passes_some}
use Rattle.lite_io_base.specs.Laws.Runs.{steps_follow, steps_split}
use Rattle.std.proofs.Common.{length-drop}
use Rattle.lite_io_base.specs.Marks.{ReadMark, bytes as marks_of}
use Rattle.lite_bridge.specs.declared.cursor.Cursor.{Cursor}
use Rattle.lite_bridge.specs.Cursor.{CursorReads, ReadStep, at_place, bytes_left, cursor_inner as value_of, position_of}
use Rattle.lite_bridge.specs.Laws.Cursor.{cursor_taken}
use Rattle.lite_bridge.specs.Logical.{IsInStep, logical}

module _ {T : Type 0} (bytes : T → List ℕ) where
  abbrev moves : Runs ReadMark (Cursor T)
  moves = CursorReads bytes

  -- bytes that were read stood from the position on
  stood : (x y : Cursor T) (xs : List ℕ) → moves x (marks_of xs) y → (y ≡ at_place x (position_of x + length xs))
      × (xs ≡ take (length xs) (bytes_left bytes x))
  stood x y [] h = (h ∙ ap (λ (k : ℕ). at_place x k) (omega arith), refl)
  stood x y (b ∷ xs) h =
      let z = h.0 in
      let rest = stood z y xs h.2 in
      let pos : position_of z + length xs ≡ position_of x + length (b ∷ xs) = omega (arith, ap position_of h.1.1) in (
        rest.0 ∙ ap (λ (c : Cursor T). at_place c (position_of z + length xs)) h.1.1 ∙ ap (λ (k : ℕ). at_place x k) pos,
        ap (λ l. b ∷ l) rest.1 ∙ sym (ap (take (suc (length xs))) h.1.0),
      )

  -- reads keep what the cursor stands on, and stay where positions are
  pub stays_placed : (x y : Cursor T) (l : List ReadMark) → moves x l y → position_of x < 2 ^ 64
      → length (bytes (value_of x)) < 2 ^ 64 → (position_of y < 2 ^ 64) × (value_of y ≡ value_of x)
  stays_placed x y [] h p s = (omega (arith, ap position_of h), ap value_of h)
  stays_placed x y (ReadMark.byte b ∷ l) h p s =
      let z = h.0 in
      let same : value_of z ≡ value_of x = ap value_of h.1.1 in
      let next : position_of z < 2 ^ 64 =
      omega (arith, ap position_of h.1.1, ap length h.1.0, length-drop (position_of x) (bytes (value_of x))) in
      let size : length (bytes (value_of z)) < 2 ^ 64 = subst (λ t. length (bytes t) < 2 ^ 64) (sym same) s in
      let rest = stays_placed z y l h.2 next size in
      (rest.0, rest.1 ∙ same)
  stays_placed x y (ReadMark.end ∷ l) h p s =
      let z = h.0 in
      let same : value_of z ≡ value_of x = ap value_of h.1.1 in
      let next : position_of z < 2 ^ 64 = omega (arith, ap position_of h.1.1) in
      let size : length (bytes (value_of z)) < 2 ^ 64 = subst (λ t. length (bytes t) < 2 ^ 64) (sym same) s in
      let rest = stays_placed z y l h.2 next size in
      (rest.0, rest.1 ∙ same)
  stays_placed x y (_ ∷ l) h p s = absurd h.1

  -- the bare cursor reads what is ahead, and is then where the inner one is
  ahead_read : (x : BufReader (Cursor T)) → IsInStep bytes x → moves (logical x) (marks_of (bytes_ahead x)) (reader_inner x)
  ahead_read x s =
      let k = length (bytes_ahead x) in
      let fits : k ≤ length (bytes_left bytes (logical x)) =
      omega (arith, ap length s.same, length-take k (bytes_left bytes (logical x))) in
      let back : position_of (logical x) + k ≡ position_of (reader_inner x) = omega (arith, s.behind) in
      subst (λ l. moves (logical x) (marks_of l) (reader_inner x)) (sym s.same)
      (subst (λ (n : ℕ). moves (logical x) (marks_of (take k (bytes_left bytes (logical x))))
      (at_place (logical x) n)) back (cursor_taken bytes (logical x) k fits))

  -- where the bare cursor read what is ahead to be where the inner one is, it was at the logical position
  ahead_stood : (x : BufReader (Cursor T)) (m : Cursor T) → moves m (marks_of (bytes_ahead x)) (reader_inner x)
      → (m ≡ logical x) × (length (bytes_ahead x) ≤ position_of (reader_inner x))
      × (bytes_ahead x ≡ take (length (bytes_ahead x)) (bytes_left bytes (logical x)))
  ahead_stood x m h =
      let s = stood m (reader_inner x) (bytes_ahead x) h in
      let there : position_of (reader_inner x) ≡ position_of m + length (bytes_ahead x) = ap position_of s.0 in
      let back : position_of m ≡ position_of (reader_inner x) - length (bytes_ahead x) = omega (arith, there) in
      let is : m ≡ logical x = ap (λ (k : ℕ). at_place m k) back
      ∙ sym (ap (λ (c : Cursor T). at_place c (position_of (reader_inner x) - length (bytes_ahead x))) s.0) in
      (is, omega (arith, there), s.1 ∙ ap (λ c. take (length (bytes_ahead x)) (bytes_left bytes c)) is)

  pub reads_as_bare : (x y : BufReader (Cursor T)) (l : List ReadMark) → IsInStep bytes x → ThroughBuffer moves x l y
      → moves (logical x) l (logical y) × IsInStep bytes y
  reads_as_bare x y l s h =
      let is : marks_of (bytes_ahead x) ++ h.came ≡ l ++ marks_of (bytes_ahead y) =
      passes_some (reader_capacity x) (bytes_ahead x) h.came l (bytes_ahead y) s.buffered h.passes in
      let whole = steps_follow (ReadStep bytes) (logical x) (reader_inner x) (reader_inner y)
      (marks_of (bytes_ahead x)) h.came (ahead_read x s) h.ran in
      let cut = steps_split (ReadStep bytes) (logical x) (reader_inner y) l (marks_of (bytes_ahead y))
      (subst (λ k. moves (logical x) k (reader_inner y)) is whole) in
      let at = ahead_stood y cut.0 cut.2 in
      let placed = stays_placed (reader_inner x) (reader_inner y) h.came h.ran s.place s.size in (
        subst (λ m. moves (logical x) l m) at.0 cut.1,
        record {
          buffered = subst (λ n. 0 < n) (sym h.capacity) s.buffered;
          behind = at.1;
          same = at.2;
          place = placed.0;
          size = subst (λ t. length (bytes t) < 2 ^ 64) (sym placed.1) s.size;
        },
      )
