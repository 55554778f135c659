-- A read into what is left of a buffer.
use Rattle.std.specs.Prelude.{◌≡◌, ◌≤◌, ◌<◌, ◌+◌, ◌-◌, ℕ, List, [], ◌∷◌, ◌++◌, Result, Ok, length, take, drop}
use Rattle.lite_read.specs.Uses.{◌∙◌, refl, ap, sym, subst, arith, append-nil, append_assoc, length-append}
use Rattle.lite_read.specs.Uses.{take-append-le, FoldsTo, with_items, Vec, Error, Poll, Ready, ReadMark, bytes}
use Rattle.lite_read.specs.Uses.{moved_marks, up_to_one, segment_alone, segments_one, Runs}
use Rattle.std.proofs.Math.Seq.{take-append-add}
use Rattle.std.proofs.lemmas.List.{length-take-le, take_at}
use borrow.Rule.Slice.PartMut.{mid_len, mid_of, post_of, put_mid, same_len_mid, take_put}
use Rattle.lite_read.specs.ReadExact.{ExactStays, filling_of, ReadsExactly, fills}
use Rattle.lite_read.specs.ReadFold.{AnswerMarks, LastMarks}
use Rattle.lite_read.specs.PollSteps.{ReadsMore}
use Rattle.lite_read.specs.declared.read_exact.ReadExactFuture.{ReadExactFuture}

pub moved_some : (room xs : List ℕ) → 0 < length xs → moved_marks room xs ≡ bytes xs
moved_some room [] some = absurd (omega (arith, some))
moved_some room (x ∷ xs) some = refl

-- all of them are taken in
fills_all : (g : List ℕ) (room : ℕ) (xs : List ℕ) → length g + length xs ≤ room
    → FoldsTo fills.takes (g, room) xs (g ++ xs, room)
fills_all g room [] h = ap (λ l. (l, room)) (sym (append-nil g))
fills_all g room (x ∷ xs) h =
    let longer : length (g ++ x ∷ []) + length xs ≤ room = omega (arith, h, length-append g (x ∷ [])) in (
      (g ++ x ∷ [], room),
      (omega (arith, h), refl),
      subst (λ l. FoldsTo fills.takes (g ++ x ∷ [], room) xs (l, room)) (append_assoc g (x ∷ []) xs)
          (fills_all (g ++ x ∷ []) room xs longer),
    )

-- the front behind a write of which the first n count
pub front : (at k n : ℕ) (old new : List ℕ) → at ≤ length old → n ≤ length new
    → take (at + n) (put_mid at k old new) ≡ take at old ++ take n new
front at k n old new room most =
    ap (λ m. take (m + n) (put_mid at k old new)) (sym (length-take-le at old room))
    ∙ take-append-add _ _ n
    ∙ ap (λ l. take at old ++ l) (take-append-le n new (post_of at k old) most)

moved_none : (room : List ℕ) → 0 < length room → moved_marks room [] ≡ ReadMark.end ∷ []
moved_none [] some = absurd (omega (arith, some))
moved_none (b ∷ room) some = refl

-- n bytes came, and no end
pub bytes_came : {R : Type 0} (reads : Runs ReadMark R) (s r : R) (new : List ℕ) (n : ℕ) → n ≤ length new → 0 < n
    → reads s (moved_marks new (take n new)) r → (0 < length (take n new)) × reads s (bytes (take n new)) r
bytes_came reads s r new n most some came =
    let any : 0 < length (take n new) = omega (arith, length-take-le n new most, some) in
    (any, rw (moved_some new _ any) at came)

-- there are as many new bytes as old ones behind the first
abbrev pub Behind : ℕ → List ℕ → List ℕ → Type 0
Behind at old new = length new ≡ length (mid_of at (length old - at) old)

pub how_long : (at : ℕ) (old new : List ℕ) → Behind at old new → length new ≡ length old - at
how_long at old new long = long ∙ mid_len at (length old) old (omega arith)

-- a read that gave nothing, where there was room, is at an end
pub ends_behind : (at : ℕ) (old new : List ℕ) {xs : List ℕ} → old ≡ xs → Behind at old new → at < length xs
    → moved_marks new [] ≡ ReadMark.end ∷ []
ends_behind at old new is long less = moved_none new (omega (arith, how_long at old new long, ap length is, less))

-- a vector into whose room, behind so many bytes, others were written
module _ {A : Type 0} (v : Vec ℕ A) (old new : List ℕ) (at : ℕ) (within : at ≤ length v.items) (is : old ≡ v.items)
    (long : Behind at old new) where
  abbrev written : List ℕ
  written = put_mid at (length old - at) old new

  inside : at ≤ length old
  inside = omega (arith, within, ap length is)

  put_long : length written ≡ length old
  put_long = same_len_mid at (length old - at) old new long

  put_items : (with_items v written).items ≡ written
  put_items = take_at written (drop _ v.items) v.len (put_long ∙ ap length is ∙ sym v.ok.0)

  pub put_len : length (with_items v written).items ≡ length v.items
  put_len = ap length put_items ∙ put_long ∙ ap length is

  -- of which the first n count
  pub put_front : (n : ℕ) → n ≤ length new → take (at + n) (with_items v written).items ≡ take at v.items ++ take n new
  put_front n most =
      ap (take _) put_items ∙ front at (length old - at) n old new inside most
      ∙ ap (λ l. take at l ++ take n new) is

  -- or none
  pub put_kept : take at (with_items v written).items ≡ take at v.items
  put_kept = ap (take at) put_items ∙ take_put at (length old - at) old new inside ∙ ap (take at) is

-- something is left to fill
pub some_left : (at : ℕ) (xs : List ℕ) → at ≤ length xs → (at ≡ length xs → ⊥) → length (take at xs) < length xs
some_left at xs within less = omega (arith, length-take-le at xs within, within, less)

-- a read of n bytes into what is left
pub read_more : {R : Type 0} (reads : Runs ReadMark R) (x : ReadExactFuture R) (r : R) (new : List ℕ) (n : ℕ)
    → x.filled ≤ length x.buf.now → Behind x.filled x.buf.now new → n ≤ length new → 0 < n
    → reads x.reader.now (moved_marks new (take n new)) r
    → ReadsMore reads x (record {
      reader = record x.reader { now = r };
      buf = record x.buf { now = put_mid x.filled (length x.buf.now - x.filled) x.buf.now new };
      filled = x.filled + n;
    })
read_more reads x r new n within long most some came =
    let old = x.buf.now in
    let at = x.filled in
    let got = length-take-le n new most in
    let all = bytes_came reads x.reader.now r new n most some came in
    let left = how_long at old new long in
    let same = same_len_mid at (length old - at) old new long in
    let whole = fills_all (take at old) (length old) (take n new)
    (omega (arith, length-take-le at old within, got, left, most)) in
    let after = ap (λ l. (l, length old)) (sym (front at (length old - at) n old new within most))
    ∙ ap (λ k. (take (at + n) (put_mid at (length old - at) old new), k)) (sym same) in
    record {
      taken = take n new;
      some = all.0;
      came = all.1;
      folds = subst (λ g. FoldsTo fills.takes (take at old, length old) (take n new) g) after whole;
      stays = record { reader = refl; buf = refl; within = λ w. omega (arith, same, left, most, within) };
    }

-- an answer, before which nothing is taken in
exact_one : {R : Type 0} (reads : Runs ReadMark R) (x y : ReadExactFuture R) (marks : List ReadMark)
    (a : Poll (Result (Unit {0}) Error))
    → LastMarks fills (filling_of x) marks a (filling_of y)
    → reads x.reader.now marks y.reader.now → ExactStays x y → ReadsExactly reads x (a ∷ []) y
exact_one reads x y marks a last came stays =
    record {
      folded = record {
        marks = marks;
        came = came;
        cut = segments_one (AnswerMarks fills) (filling_of x) _ marks a
            (segment_alone (filling_of x) (filling_of y) marks a last);
      };
      ends = up_to_one a;
      stays = stays;
      idle = λ e. absurd (cc e);
    }

-- nothing is left to fill
pub exact_full : {R : Type 0} (reads : Runs ReadMark R) (x : ReadExactFuture R) → reads x.reader.now [] x.reader.now
    → x.filled ≡ length x.buf.now → ReadsExactly reads x (Ready (Ok tt) ∷ []) x
exact_full reads x came full =
    let all = length-take-le x.filled x.buf.now (omega (arith, full)) in
    exact_one reads x x [] (Ready _) ((omega (arith, all, full), refl), refl) came
    (record { reader = refl; buf = refl; within = λ h. h })

-- a read that moved nothing into what is left
pub read_none : {R : Type 0} (reads : Runs ReadMark R) (x : ReadExactFuture R) (r : R) (new : List ℕ)
    (marks : List ReadMark) (a : Poll (Result (Unit {0}) Error))
    → x.filled ≤ length x.buf.now → Behind x.filled x.buf.now new
    → LastMarks fills (filling_of x) marks a (filling_of x) → reads x.reader.now marks r
    → ReadsExactly reads x (a ∷ []) (record {
      reader = record x.reader { now = r };
      buf = record x.buf { now = put_mid x.filled (length x.buf.now - x.filled) x.buf.now new };
      filled = x.filled;
    })
read_none reads x r new marks a within long last came =
    let old = x.buf.now in
    let at = x.filled in
    let put = put_mid at (length old - at) old new in
    let same : length put ≡ length old = same_len_mid at (length old - at) old new long in
    let after : (take at put, length put) ≡ (take at old, length old) =
    ap (λ l. (l, length put)) (take_put at (length old - at) old new within)
    ∙ ap (λ k. (take at old, k)) same in
    exact_one reads x _ marks a (subst (LastMarks fills _ marks a) (sym after) last) came
    (record { reader = refl; buf = refl; within = λ h. omega (arith, same, h) })
