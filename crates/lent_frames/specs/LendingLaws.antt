-- Laws of lent frames.
use Rattle.std.specs.Prelude.{◌≡◌, ◌≤◌, ◌-◌, ℕ, false, List, [], ◌∷◌, ◌++◌, drop, length, take}
use Rattle.std.specs.Prelude.{Some, None, Result, Ok, Err}
use Rattle.std.proofs.Common.{◌∙◌, ap, append-nil, append_assoc, arith, inl, inr, refl, subst, sym}
use Rattle.lite_base.specs.Ranks.{Ranks}
use Rattle.lite_base.specs.Chain.{Reaches}
use Rattle.lite_base.specs.Laws.Chain.{steps_answer}
use Rattle.lite_io_base.specs.Counting.{ReadCounting}
use Rattle.lite_io_base.specs.Laws.Counting.{GivenRun, given_of}
use Rattle.lent_frames.specs.Uses.{Answer, MarkLaws, Pending, ReadMark, Ready, Runs, bytes}
use Rattle.lent_frames.specs.Lending.{Advances, AdvancesInHand, Finds, FindsInHand, IsUnfinished, Lending, TookFrom, TookShown, WaitsForMore, kept, nowhere, untaken}
use Rattle.lent_frames.specs.declared.frames_error.FramesError.{FramesError}
use Rattle.lent_frames.specs.declared.frames_error.FramesError.TheVariants.{NoFrame, OutOfMemory, Reader}

-- Bytes taken one behind another are one list of bytes.
pub join_marks : (ys xs : List ℕ) (last : List ReadMark) → bytes ys ++ (bytes xs ++ last) ≡ bytes (ys ++ xs) ++ last
join_marks [] xs last = refl
join_marks (y ∷ ys) xs last = ap (λ l. ReadMark.byte y ∷ l) (join_marks ys xs last)

-- If no frame is lent, no bytes of one are left to take, and all bytes held are kept.
pub untaken_none : {T C : Type 0} (buffer_of : T → List ℕ) (x : Lending T C) → x.span ≡ nowhere → untaken buffer_of x ≡ []
untaken_none buffer_of x is =
    let none : x.span.size - length x.held ≡ 0 = omega (arith, ap (λ s. s.size) is) in
    ap (λ n. take n (buffer_of x.reader)) none

pub kept_all : {T C : Type 0} (x : Lending T C) → x.span ≡ nowhere → kept x ≡ x.held
kept_all x is = ap (λ s. drop s.size x.held) is

module _ {T C E : Type 0} (piece : C → List ℕ → List ℕ → Type 0) (refuses : C → List ℕ → E → Type 0) (cut_off : C → List ℕ → E → Type 0)
    (reads : Runs ReadMark T) (buffer_of : T → List ℕ) where
  -- What is found at `m` is found at `x`, which had no more room.
  pub finds_on : (x m z : Lending T C) (last : List ReadMark) (a : Answer (Result (Unit {0}) (FramesError E))) → x.room ≤ m.room
      → Finds piece refuses cut_off reads buffer_of m last a z → Finds piece refuses cut_off reads buffer_of x last a z
  finds_on x m z last Pending room k = k
  finds_on x m z last (Ready None) room k = k
  finds_on x m z last (Ready (Some (Ok u))) room k = k
  finds_on x m z last (Ready (Some (Err (NoFrame e)))) room k = k
  finds_on x m z last (Ready (Some (Err OutOfMemory))) room (over, (none, less)) = (over, (none, omega (arith, room, less)))
  finds_on x m z last (Ready (Some (Err (Reader kind)))) room k = k

  module _ (laws : MarkLaws reads) where
    -- Bytes were taken, and then more.
    pub took_on : (x m z : Lending T C) (ys xs : List ℕ) (last : List ReadMark) → m.span ≡ nowhere
        → TookFrom piece refuses cut_off reads buffer_of x ys [] m → TookFrom piece refuses cut_off reads buffer_of m xs last z
        → TookFrom piece refuses cut_off reads buffer_of x (ys ++ xs) last z
    took_on x m z ys xs last rest t k =
        record {
          ran =
              let u = untaken buffer_of x in
              let first = subst (λ l. reads x.reader l m.reader) (append-nil (bytes (u ++ ys))) t.ran in
              let second = subst (λ l. reads m.reader (bytes (l ++ xs) ++ last) z.reader) (untaken_none buffer_of m rest) k.ran in
              subst (λ l. reads x.reader l z.reader) (join_marks (u ++ ys) xs last ∙ ap (λ l. bytes l ++ last) (append_assoc u ys xs))
              (laws.follows _ _ _ _ _ first second);
          cutter = k.cutter ∙ t.cutter;
          held = k.held ∙ ap (λ l. l ++ xs) (kept_all m rest ∙ t.held) ∙ append_assoc (kept x) ys xs;
          room = omega (arith, t.room, k.room);
        }

    pub advances_on : (x m z : Lending T C) (ys : List ℕ) (a : Answer (Result (Unit {0}) (FramesError E))) → x.is_over ≡ false
        → TookFrom piece refuses cut_off reads buffer_of x ys [] m → IsUnfinished piece refuses cut_off reads buffer_of m
        → Advances piece refuses cut_off reads buffer_of m a z → Advances piece refuses cut_off reads buffer_of x a z
    advances_on x m z ys a was t waits (inl (over, _, _)) = let e = sym waits.0 ∙ over in cc e
    advances_on x m z ys a was t waits (inr (_, xs, last, k, found)) =
        inr (was, ys ++ xs, last, took_on x m z ys xs last waits.1 t k, finds_on x m z last a t.room found)

    -- What is in hand at `m` is in hand at `x`, if the bytes between were shown.
    pub in_hand_on : (x m z : Lending T C) (ys : List ℕ) (a : Answer (Result (Unit {0}) (FramesError E))) → x.is_over ≡ false
        → TookShown piece refuses cut_off reads buffer_of x ys m → m.is_over ≡ false → m.span ≡ nowhere
        → AdvancesInHand piece refuses cut_off reads buffer_of m a z → AdvancesInHand piece refuses cut_off reads buffer_of x a z
    in_hand_on x m z ys a was (t, cut) goes rest (inl (over, _, _)) = let e = sym goes ∙ over in cc e
    in_hand_on x m z ys a was (t, cut) goes rest (inr (_, xs, (k, more), found)) =
        inr (was, ys ++ xs, (took_on x m z ys xs [] rest t k, shown), by a found)
      where
        shown : buffer_of x.reader ≡ (untaken buffer_of x ++ (ys ++ xs)) ++ buffer_of z.reader
        shown =
            let u = untaken buffer_of x in
            cut ∙ ap (λ l. (u ++ ys) ++ l) (more ∙ ap (λ l. (l ++ xs) ++ buffer_of z.reader) (untaken_none buffer_of m rest))
            ∙ sym (append_assoc (u ++ ys) xs (buffer_of z.reader)) ∙ ap (λ l. l ++ buffer_of z.reader) (append_assoc u ys xs)

        by : (b : Answer (Result (Unit {0}) (FramesError E))) → FindsInHand piece refuses cut_off reads buffer_of m b z
            → FindsInHand piece refuses cut_off reads buffer_of x b z
        by Pending h = h
        by (Ready r) h = finds_on x m z [] (Ready r) t.room h

    step_before : (x m z : Lending T C) (a : Answer (Result (Unit {0}) (FramesError E))) → WaitsForMore piece refuses cut_off reads buffer_of x m
        → Advances piece refuses cut_off reads buffer_of m a z → Advances piece refuses cut_off reads buffer_of x a z
    step_before x m z a w h = advances_on x m z w.taken a w.was w.took w.waits h

    -- Steps that take bytes, followed by a poll result, are one step with that result.
    pub advances_ran : {x z : Lending T C} {a : Answer (Result (Unit {0}) (FramesError E))}
        → (y : Lending T C) × Reaches (WaitsForMore piece refuses cut_off reads buffer_of) x y × Advances piece refuses cut_off reads buffer_of y a z
        → Advances piece refuses cut_off reads buffer_of x a z
    advances_ran = steps_answer step_before

  -- Each call keeps a reader that counts.
  pub advance_counts : {r : Ranks T} → ReadCounting reads r → (x y : Lending T C) (a : Answer (Result (Unit {0}) (FramesError E)))
      → r.counts x.reader → Advances piece refuses cut_off reads buffer_of x a y → r.counts y.reader
  advance_counts counting x y a k (inl (_, _, is)) = rw is k
  advance_counts counting x y a k (inr (_, xs, last, t, _)) = counting.counts_on _ _ _ k t.ran

module _ {T C E : Type 0} {piece : C → List ℕ → List ℕ → Type 0} {refuses : C → List ℕ → E → Type 0} {cut_off : C → List ℕ → E → Type 0}
    {reads : Runs ReadMark T} {buffer_of : T → List ℕ} where
  -- A step that takes bytes lowers the reader's rank.
  pub takes_given : (x y : Lending T C) → WaitsForMore piece refuses cut_off reads buffer_of x y → GivenRun reads x.reader y.reader
  takes_given x y w =
      given_of reads _ _ (untaken buffer_of x ++ w.taken) w.some (subst (λ l. reads x.reader l y.reader) (append-nil _) w.took.ran)
