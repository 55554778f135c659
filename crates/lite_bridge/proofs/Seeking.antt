-- A seek of a buffered reader over a cursor is one of the bare cursor.
use Rattle.std.specs.Prelude.{◌≡◌, ◌<◌, ◌^◌, ℕ, pos, ◌-◌, List, [], length, take, Option, Some, None, Ok}
use Rattle.std.proofs.Common.{◌-ℤ◌}
use Rattle.lite_bridge.specs.Uses.{◌∙◌, inl, inr, refl, sym, ap, subst, arith, SeekFrom, Start, End, Current, Ready}
use Rattle.lite_bridge.specs.Uses.{BufReader, bytes_ahead, reader_capacity, reader_inner, SeeksThrough}
use Rattle.lite_buffered.specs.BufReader.{AheadAfter, IsUnsuccessful, SeekAnswer, SeeksOnce}
use Rattle.lite_bridge.specs.declared.cursor.Cursor.{Cursor}
use Rattle.lite_bridge.specs.Cursor.{CursorSeeks, Lands, at_offset, at_place, bytes_left, cursor_inner as value_of, position_of, target}
use Rattle.lite_bridge.specs.Calls.{IsPlace}
use Rattle.lite_bridge.specs.Logical.{IsInStep, logical}
use Rattle.lite_bridge.proofs.Offsets.{at_offset_back, at_offset_less, at_offset_place}

same_some : (n m : ℕ) → ◌≡◌ {A = Option ℕ} (Some n) (Some m) → n ≡ m
same_some n m e = cc e

module _ {T : Type 0} (bytes : T → List ℕ) where
  -- with nothing ahead the logical position is the inner one
  fresh : (y : BufReader (Cursor T)) → bytes_ahead y ≡ [] → logical y ≡ reader_inner y
  fresh y none = ap (λ (k : ℕ). at_place (reader_inner y) k) (omega (arith, ap length none))

  fresh_in_step : (y : BufReader (Cursor T)) → bytes_ahead y ≡ [] → 0 < reader_capacity y
      → position_of (reader_inner y) < 2 ^ 64 → length (bytes (value_of (reader_inner y))) < 2 ^ 64 → IsInStep bytes y
  fresh_in_step y none buffered place size =
      record {
        buffered = buffered;
        behind = omega (arith, ap length none);
        same = none ∙ sym (ap (λ (l : List ℕ). take (length l) (bytes_left bytes (logical y))) none);
        place = place;
        size = size;
      }

  -- with the same inner cursor and the same bytes ahead all is as it was
  unmoved : (x y : BufReader (Cursor T)) → reader_inner y ≡ reader_inner x → bytes_ahead y ≡ bytes_ahead x → logical y ≡ logical x
  unmoved x y same kept = ap (λ (c : Cursor T). at_place c (position_of c - length (bytes_ahead y))) same
      ∙ ap (λ (l : List ℕ). at_place (reader_inner x) (position_of (reader_inner x) - length l)) kept

  unmoved_in_step : (x y : BufReader (Cursor T)) → reader_inner y ≡ reader_inner x → bytes_ahead y ≡ bytes_ahead x
      → reader_capacity y ≡ reader_capacity x → IsInStep bytes x → IsInStep bytes y
  unmoved_in_step x y same kept cap s =
      record {
        buffered = subst (λ n. 0 < n) (sym cap) s.buffered;
        behind = omega (arith, ap length kept, ap position_of same, s.behind);
        same = kept ∙ s.same ∙ sym (ap (λ (l : List ℕ). take (length l) (bytes_left bytes (logical x))) kept)
            ∙ sym (ap (λ c. take (length (bytes_ahead y)) (bytes_left bytes c)) (unmoved x y same kept));
        place = omega (arith, ap position_of same, s.place);
        size = subst (λ (c : Cursor T). length (bytes (value_of c)) < 2 ^ 64) (sym same) s.size;
      }

  -- a seek that goes to a place, or to none
  lands : (there : Option ℕ) → ((n : ℕ) → there ≡ Some n → n < 2 ^ 64) → (x y : BufReader (Cursor T)) (r : SeekAnswer)
      → IsInStep bytes x → reader_capacity y ≡ reader_capacity x → AheadAfter r (bytes_ahead x) (bytes_ahead y)
      → Lands there (reader_inner x) r (reader_inner y)
      → Lands there (logical x) r (logical y) × IsInStep bytes y
  lands (Some n) place x y r s cap after h =
      let none : bytes_ahead y ≡ [] = subst (λ (a : SeekAnswer). AheadAfter a (bytes_ahead x) (bytes_ahead y)) h.0 after in
      let same : value_of (reader_inner y) ≡ value_of (reader_inner x) = ap value_of h.1 in
      let at : position_of (reader_inner y) ≡ n = ap position_of h.1 in (
        (h.0, fresh y none ∙ h.1),
        fresh_in_step y none (subst (λ k. 0 < k) (sym cap) s.buffered) (omega (arith, at, place n refl))
            (subst (λ t. length (bytes t) < 2 ^ 64) (sym same) s.size),
      )
  lands None place x y r s cap after h =
      let kept : bytes_ahead y ≡ bytes_ahead x = subst (λ (a : SeekAnswer). AheadAfter a (bytes_ahead x) (bytes_ahead y)) h.0 after in
      ((h.0, unmoved x y h.1 kept), unmoved_in_step x y h.1 kept cap s)

  once : (x y : BufReader (Cursor T)) (to : SeekFrom) (r : SeekAnswer) (there : Option ℕ)
      → there ≡ target (length (bytes (value_of (reader_inner x)))) (position_of (reader_inner x)) to
      → ((n : ℕ) → there ≡ Some n → n < 2 ^ 64) → IsInStep bytes x → SeeksOnce (CursorSeeks bytes) x to r y
      → Lands there (logical x) r (logical y) × IsInStep bytes y
  once x y to r there is place s h =
      lands there place x y r s h.capacity h.after
      (subst (λ t. Lands t (reader_inner x) r (reader_inner y)) (sym is) h.sought)

  pub seeks_as_bare : (x y : BufReader (Cursor T)) (to : SeekFrom) (r : SeekAnswer) → IsInStep bytes x → IsPlace to
      → SeeksThrough (CursorSeeks bytes) x to r y → CursorSeeks bytes (logical x) to r (logical y) × IsInStep bytes y
  seeks_as_bare x y (Start n) r s place h =
      once x y (Start n) r (Some n) refl (λ m e. omega (arith, same_some n m e)) s h
  seeks_as_bare x y (End offset) r s place h =
      once x y (End offset) r (at_offset (length (bytes (value_of (reader_inner x)))) offset) refl
      (λ m e. at_offset_place (length (bytes (value_of (reader_inner x)))) offset m s.size e) s h
  seeks_as_bare x y (Current offset) r s place (inl h) =
      let k = length (bytes_ahead x) in
      let p = position_of (reader_inner x) in
      let is = at_offset_less p k offset s.behind s.place in
      once x y (Current (offset -ℤ pos k)) r (at_offset (p - k) offset) is
      (λ m e. at_offset_place (p - k) offset m (omega (arith, s.place)) e) s h.1
  seeks_as_bare x y (Current offset) r s place (inr (far, inl (n, m, first, second))) =
      let k = length (bytes_ahead x) in
      let p = position_of (reader_inner x) in
      let back = at_offset_back p k s.behind s.place in
      let one = once x m (Current (pos 0 -ℤ pos k)) (Ready (Ok n)) (Some (p - k)) (sym back)
      (λ i e. omega (arith, same_some (p - k) i e, s.place)) s first in
      let there : logical m ≡ logical x = one.0.1 in
      let none : bytes_ahead m ≡ [] = first.after in
      let is : at_offset (p - k) offset ≡ at_offset (position_of (reader_inner m)) offset =
      ap (λ (c : Cursor T). at_offset (position_of c) offset) (sym there ∙ fresh m none) in
      let two = once m y (Current offset) r (at_offset (p - k) offset) is
      (λ i e. at_offset_place (p - k) offset i (omega (arith, s.place)) e) one.1 second in
      (subst (λ (c : Cursor T). Lands (at_offset (p - k) offset) c r (logical y)) there two.0, two.1)
  seeks_as_bare x y (Current offset) r s place (inr (far, inr (first, refused))) =
      let k = length (bytes_ahead x) in
      let p = position_of (reader_inner x) in
      let back = at_offset_back p k s.behind s.place in
      let landed = subst (λ t. Lands t (reader_inner x) r (reader_inner y)) back first.sought in
      absurd (subst IsUnsuccessful landed.0 refused)
