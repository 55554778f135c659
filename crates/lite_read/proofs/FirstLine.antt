-- What is known of the first line from what was seen of it.
use Rattle.std.specs.Prelude.{◌≡◌, ◌≢◌, ℕ, ◌+◌, ◌-◌, ◌<◌, ◌≤◌, Bool, true, List, [], ◌∷◌, length, take, drop, position, Some}
use Rattle.std.proofs.Common.{◌&&◌}
use Rattle.lite_read.specs.Uses.{zero, suc, false, not, cond, get_or, leb, sym, ap, ◌∙◌, arith, le-leb, lt-leb, lt-ltb, length-drop, length-take}
use Rattle.lite_read.specs.Uses.{list_all-append, is_ascii, before_first, list_all, position_or_len, prefix_len}
use Rattle.std.proofs.Math.Dec.{leb-suc-suc}
use Rattle.std.proofs.Math.Seq.{take-add}
use Rattle.std.proofs.lemmas.List.Folds.{prefix_len-append}
use Rattle.std.proofs.lemmas.List.Sums.{prefix_len-le-length}
use Rattle.std.proofs.lemmas.Bool.{eq-eqb, and_from, cond-false, cond-true, ne_eqb}
use Rattle.std.proofs.lemmas.List.{length-take-le, drop_more, take-append-drop}
use Rattle.lite_read.specs.Scan.{IsPlain, LineGoesOn, is_newline}

module _ (p : ℕ → Bool) (d : List ℕ) where
  -- the front passes whole, and so more of the list passes by what follows
  pub run_on : (n m : ℕ) → n ≤ length d → prefix_len p (take n d) ≡ n
      → prefix_len p (take (n + m) d) ≡ n + prefix_len p (take m (drop n d))
  run_on n m room whole =
      let long = length-take-le n d room in
      ap (prefix_len p) (take-add n m d) ∙ prefix_len-append p (take n d) (take m (drop n d))
      ∙ cond-true _ _ _ (eq-eqb _ _ (whole ∙ sym long)) ∙ ap (λ k. k + prefix_len p (take m (drop n d))) long

  -- the front doesn't pass whole, and so no more of the list passes
  pub run_ends : (n : ℕ) → n ≤ length d → prefix_len p (take n d) < n → prefix_len p d ≡ prefix_len p (take n d)
  run_ends n room short =
      let long = length-take-le n d room in
      let less : prefix_len p (take n d) ≢ length (take n d) = λ e. absurd (omega (arith, e, long, short)) in
      ap (prefix_len p) (sym (take-append-drop n d)) ∙ prefix_len-append p (take n d) (drop n d)
      ∙ cond-false _ _ _ (ne_eqb _ _ less)

-- the first m pass where at least as many of the first k pass, from the front
pub all_below : (p : ℕ → Bool) (xs : List ℕ) (m k : ℕ) → m ≤ k → k ≤ length xs
    → list_all p (take m xs) ≡ leb m (prefix_len p (take k xs))
all_below p xs zero k less room = sym (le-leb 0 (prefix_len p (take k xs)) (omega arith))
all_below p [] (suc m) k less room = absurd (omega (arith, less, room))
all_below p (x ∷ xs) (suc m) zero less room = absurd (omega (arith, less))
all_below p (x ∷ xs) (suc m) (suc k) less room =
    by (p x) (all_below p xs m k (omega (arith, less)) (omega (arith, room)))
  where
    by : (b : Bool) → list_all p (take m xs) ≡ leb m (prefix_len p (take k xs))
        → (b && list_all p (take m xs)) ≡ leb (suc m) (cond b (1 + prefix_len p (take k xs)) 0)
    by true rest = rest ∙ sym (leb-suc-suc m (prefix_len p (take k xs))) ∙ ap (λ n. leb (suc m) n) (omega arith)
    by false rest = sym (lt-leb (suc m) 0 (omega arith))

-- the next byte alone
pub next_run : (p : ℕ → Bool) (d : List ℕ) (i : ℕ) → i < length d
    → prefix_len p (take 1 (drop i d)) ≡ cond (p (get_or d i 0)) 1 0
next_run p d i less = ap (λ l. prefix_len p (take 1 l)) (drop_more d i 0 less)

module _ (d : List ℕ) (at : ℕ) (seen : position_or_len is_newline (take at d) ≡ at) where
  -- the newline is the next byte but so many
  pub found : (line n : ℕ) → at + n ≤ length d → line < n → line ≡ position_or_len is_newline (take n (drop at d))
      → position_or_len is_newline d ≡ at + line
  found line n room less is =
      let on = run_on (λ b. not (is_newline b)) d at n (omega (arith, room)) seen ∙ ap (λ k. at + k) (sym is) in
      run_ends (λ b. not (is_newline b)) d (at + n) room (omega (arith, on, less)) ∙ on

  pub found_next : at < length d → get_or d at 0 ≡ 10 → position_or_len is_newline d ≡ at
  found_next less e =
      let none = next_run (λ b. not (is_newline b)) d at less ∙ ap (λ b. cond (not (is_newline b)) 1 0) e in
      found 0 1 (omega (arith, less)) (omega arith) (sym none) ∙ omega arith

  -- none of the next bytes is a newline
  pub seen_more : (line n : ℕ) → at + n ≤ length d → line ≡ position_or_len is_newline (take n (drop at d)) → n ≤ line
      → (line ≡ n) × (position_or_len is_newline (take (at + n) d) ≡ at + n)
  seen_more line n room is more =
      let most = prefix_len-le-length (λ b. not (is_newline b)) (take n (drop at d)) in
      let all : line ≡ n = omega (arith, is, more, most, length-take n (drop at d)) in
      (all, run_on (λ b. not (is_newline b)) d at n (omega (arith, room)) seen ∙ ap (λ k. at + k) (sym is ∙ all))

-- a newline stands at this place, and none before
pub newline_at : (d : List ℕ) (place : ℕ) → place < length d → position_or_len is_newline d ≡ place
    → Some place ≡ position is_newline d
newline_at d place within e =
    let less : position_or_len is_newline d < length d = omega (arith, e, within) in
    sym (cond-true _ _ _ (lt-ltb _ _ less) ∙ ap Some e)

-- the next m bytes of the k are ASCII too
pub ascii_on : (d : List ℕ) (at m k : ℕ) (ascii : Bool) → m ≤ k → at + k ≤ length d
    → ascii ≡ list_all is_ascii (take at d)
    → (ascii && leb m (prefix_len is_ascii (take k (drop at d)))) ≡ list_all is_ascii (take (at + m) d)
ascii_on d at m k ascii less room e =
    let rest = all_below is_ascii (drop at d) m k less (omega (arith, room, length-drop at d)) in
    ap (λ b. b && leb m (prefix_len is_ascii (take k (drop at d)))) e
    ∙ ap (λ b. list_all is_ascii (take at d) && b) (sym rest)
    ∙ sym (ap (list_all is_ascii) (take-add at m d) ∙ list_all-append is_ascii (take at d) (take m (drop at d)))

-- the line ends at this place
pub line_ascii : (d : List ℕ) (place : ℕ) → position_or_len is_newline d ≡ place
    → list_all is_ascii (take place d) ≡ list_all is_ascii (before_first is_newline d)
line_ascii d place e = ap (λ n. list_all is_ascii (take n d)) (sym e)

-- the next n bytes were looked at
module _ {d : List ℕ} {at n line run : ℕ} {ascii : Bool} (so_far : LineGoesOn at ascii d) (left : n ≤ length d - at)
    (line_is : line ≡ position_or_len is_newline (take n (drop at d)))
    (run_is : run ≡ prefix_len is_ascii (take n (drop at d))) where
  room : at + n ≤ length d
  room = omega (arith, left, so_far.within)

  -- and a newline is among them
  pub ends_on : line < n → (Some (at + line) ≡ position is_newline d)
      × ((ascii && leb line run) ≡ list_all is_ascii (before_first is_newline d))
  ends_on less =
      let ends = found d at so_far.line line n room less line_is in (
        newline_at d (at + line) (omega (arith, room, less)) ends,
        rw run_is (ascii_on d at line n ascii (omega (arith, less)) room so_far.known) ∙ line_ascii d _ ends,
      )

  -- and none of them is a newline
  pub goes_on : n ≤ line → LineGoesOn (at + n) (ascii && leb line run) d
  goes_on more =
      let whole = seen_more d at so_far.line line n room line_is more in
      record {
        within = room;
        line = whole.1;
        known = rw (whole.0, run_is) (ascii_on d at n n ascii (omega arith) room so_far.known);
      }

-- the next n bytes are plain too
pub plain_more : (d : List ℕ) (at n : ℕ) → IsPlain at d → IsPlain n (drop at d) → IsPlain (at + n) d
plain_more d at n front next =
    record {
      within = omega (arith, front.within, next.within, length-drop at d);
      line = run_on (λ b. not (is_newline b)) d at n front.within front.line ∙ ap (λ k. at + k) next.line;
      known = sym (ap (list_all is_ascii) (take-add at n d) ∙ list_all-append is_ascii (take at d) (take n (drop at d))
          ∙ and_from _ _ (sym front.known) (sym next.known));
    }
