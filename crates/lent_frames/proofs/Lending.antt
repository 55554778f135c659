-- Steps of a reader of lent frames.
use Rattle.std.specs.Prelude.{◌≡◌, ◌≤◌, ◌<◌, ◌-◌, ◌+◌, ℕ, true, false, List, [], ◌∷◌, ◌++◌, drop, length, take}
use Rattle.std.specs.Prelude.{Option, Some, Result, Ok, Err}
use Rattle.std.specs.IoError.{error_kind}
use Rattle.std.specs.declared.io.Error.{Error}
use Rattle.std.proofs.Common.{◌∙◌, ap, append-nil, append_assoc, arith, inl, inr, length-append, length-take-le, refl, subst, sym, take-append-drop}
use Rattle.std.proofs.Math.Seq.{take-append-add}
use Rattle.std.proofs.lemmas.Bool.{cases_lt}
use Rattle.std.proofs.lemmas.List.{drop-take, take-append-le, take-take}
use Rattle.lent_frames.specs.Uses.{Answer, MarkLaws, Pending, Ready, ReadMark, Runs, bytes}
use Rattle.lent_frames.specs.Cutting.{BeginsNone, CutFound, IsWithin, OpenUntil, body_at, frame_at, Undecided}
use Rattle.lent_frames.specs.Lending.{Advances, AdvancesInHand, Ends, IsUnfinished, IsOver, IsResting, Lending, LooksBehind}
use Rattle.lent_frames.specs.Lending.{StopsLending, TookFrom, TookShown, WaitsForMore, ahead, kept, nowhere, untaken}
use Rattle.lent_frames.specs.LendingLaws.{advances_on, finds_on, in_hand_on, kept_all, took_on, untaken_none}
use Rattle.lent_frames.specs.declared.cut.Cut.TheVariants.{More, Whole}
use Rattle.lent_frames.specs.declared.cut.Span.{Span}
use Rattle.lent_frames.specs.declared.frames_error.FramesError.{FramesError}
use Rattle.lent_frames.specs.declared.frames_error.FramesError.TheVariants.{NoFrame, Reader}

-- A body is a part of its frame.
body_in : (s : Span) (xs : List ℕ) → s.from ≤ s.to → s.to ≤ s.size → body_at s xs ≡ drop s.from (take s.to (frame_at s xs))
body_in s xs low high =
    sym (drop-take s.from (s.to - s.from) xs) ∙ ap (λ n. drop s.from (take n xs)) (omega (arith, low))
    ∙ ap (drop s.from) (sym (take-take s.to s.size xs high))

pub same_body : (s : Span) (xs ys : List ℕ) → s.from ≤ s.to → s.to ≤ s.size → frame_at s xs ≡ frame_at s ys → body_at s xs ≡ body_at s ys
same_body s xs ys low high same =
    body_in s xs low high ∙ ap (λ l. drop s.from (take s.to l)) same ∙ sym (body_in s ys low high)

module _ {C E : Type 0} (piece : C → List ℕ → List ℕ → Type 0) (refuses : C → List ℕ → E → Type 0) (c : C) (whole rest : List ℕ) where
  -- What is found in a front of some bytes is found in them.
  pub found_front : (s : Span) → CutFound piece refuses c whole (Whole s)
      → IsWithin s (length (whole ++ rest)) × piece c (body_at s (whole ++ rest)) (frame_at s (whole ++ rest))
  found_front s ((low, high, there), is) =
      let same : frame_at s (whole ++ rest) ≡ frame_at s whole = take-append-le s.size whole rest there in (
        (low, high, omega (arith, there, length-append whole rest)),
        rw (same, same_body s (whole ++ rest) whole low high same) is,
      )

  pub refused_front : (e : E) → BeginsNone piece refuses c whole e → BeginsNone piece refuses c (whole ++ rest) e
  refused_front e (front, behind, is, bad) = (front, behind ++ rest, ap (λ l. l ++ rest) is ∙ append_assoc front behind rest, bad)

-- Bytes that are open until there are more are undecided.
pub open_now : {C E : Type 0} (piece : C → List ℕ → List ℕ → Type 0) (refuses : C → List ℕ → E → Type 0) (c : C) (least : ℕ) (xs : List ℕ)
    → length xs < least → OpenUntil piece refuses c least xs → Undecided piece refuses c xs
open_now piece refuses c least xs less h =
    subst (λ l. Undecided piece refuses c l) (append-nil xs) (h [] (rw (append-nil xs) less))

-- A frame that is found behind bytes in which none is whole is longer than they are.
pub size_behind : {C E : Type 0} (piece : C → List ℕ → List ℕ → Type 0) (refuses : C → List ℕ → E → Type 0) (c : C) (held more : List ℕ)
    (s : Span) → Undecided piece refuses c held → CutFound piece refuses c (held ++ more) (Whole s) → length held ≤ s.size
size_behind piece refuses c held more s none (_, is) = elim (cases_lt s.size (length held)) [ inr long ↦ long | inl short ↦ absurd (within short) ]
  where
    within : s.size < length held → ⊥
    within short =
        let same : frame_at s (held ++ more) ≡ take s.size held = take-append-le s.size held more (omega (arith, short)) in
        (none (take s.size held) (drop s.size held) (sym (take-append-drop s.size held))).0 _ (rw same at is)

module _ {T C E : Type 0} (piece : C → List ℕ → List ℕ → Type 0) (refuses : C → List ℕ → E → Type 0) (cut_off : C → List ℕ → E → Type 0)
    (reads : Runs ReadMark T) (buffer_of : T → List ℕ) where
  -- Some of the bytes shown were taken.
  pub took_shown : (x y : Lending T C) (xs : List ℕ) → x.span ≡ nowhere → reads x.reader (bytes xs) y.reader → y.cutter ≡ x.cutter
      → y.held ≡ x.held ++ xs → x.room ≤ y.room → buffer_of x.reader ≡ xs ++ buffer_of y.reader
      → TookShown piece refuses cut_off reads buffer_of x xs y
  took_shown x y xs rest came cutter held room shown =
      let none = untaken_none buffer_of x rest in (
        record {
          ran = subst (λ l. reads x.reader l y.reader) (sym (append-nil _) ∙ ap (λ u. bytes (u ++ xs) ++ []) (sym none)) came;
          cutter = cutter;
          held = held ∙ ap (λ l. l ++ xs) (sym (kept_all x rest));
          room = room;
        },
        shown ∙ ap (λ u. (u ++ xs) ++ buffer_of y.reader) (sym none),
      )

  module _ (laws : MarkLaws reads) where
    -- None were.
    pub took_none : (x y : Lending T C) → x.span ≡ nowhere → y.reader ≡ x.reader → y.cutter ≡ x.cutter → y.held ≡ x.held → x.room ≤ y.room
        → TookShown piece refuses cut_off reads buffer_of x [] y
    took_none x y rest reader cutter held room =
        took_shown x y [] rest (subst (λ r. reads x.reader [] r) (sym reader) (laws.rests x.reader)) cutter
        (held ∙ sym (append-nil x.held)) room (ap buffer_of (sym reader))

    -- Why no frame is lent, and no byte was taken.
    pub stopped : (x y : Lending T C) (why : FramesError E) → IsResting x → y.reader ≡ x.reader → y.cutter ≡ x.cutter → y.held ≡ x.held
        → x.room ≤ y.room → IsOver piece refuses cut_off reads buffer_of y → StopsLending piece refuses cut_off reads buffer_of x [] why y
        → AdvancesInHand piece refuses cut_off reads buffer_of x (Ready (Some (Err why))) y
    stopped x y why rest reader cutter held room over because =
        inr (rest.0, [], took_none x y rest.1 reader cutter held room, (over, because))

    -- A frame was found in the bytes held, or if none are held in those shown.
    pub found_held : (x y : Lending T C) (s : Span) → IsResting x → y ≡ record x { span = s }
        → CutFound piece refuses x.cutter x.held (Whole s) → AdvancesInHand piece refuses cut_off reads buffer_of x (Ready (Some (Ok tt))) y
    found_held x y s rest is cut =
        let f = found_front piece refuses x.cutter x.held (buffer_of x.reader) s cut in
        rw is (inr (rest.0, [], took_none x (record x { span = s }) rest.1 refl refl refl (omega arith), (refl, (rest.0, (f.0, inr cut.0.2), f.1))))

    pub found_shown : (x y : Lending T C) (s : Span) → IsResting x → x.held ≡ [] → y ≡ record x { span = s }
        → CutFound piece refuses x.cutter (buffer_of x.reader) (Whole s)
        → AdvancesInHand piece refuses cut_off reads buffer_of x (Ready (Some (Ok tt))) y
    found_shown x y s rest none is cut =
        let all : ahead buffer_of x ≡ buffer_of x.reader = ap (λ l. l ++ buffer_of x.reader) none in
        rw is (inr (
          rest.0,
          [],
          took_none x (record x { span = s }) rest.1 refl refl refl (omega arith),
          (refl, (rest.0, ((rw all cut.0), inl none), rw all cut.1)),
        ))

  -- All bytes shown were taken, and no frame is whole.
  pub took_all : (x y : Lending T C) (least : ℕ) → IsResting x → x.held ≡ [] → reads x.reader (bytes (buffer_of x.reader)) y.reader
      → buffer_of y.reader ≡ [] → y.cutter ≡ x.cutter → y.held ≡ x.held ++ buffer_of x.reader → x.room ≤ y.room → y.is_over ≡ false
      → y.span ≡ nowhere → length (buffer_of x.reader) < least → OpenUntil piece refuses x.cutter least (buffer_of x.reader)
      → AdvancesInHand piece refuses cut_off reads buffer_of x Pending y
  took_all x y least rest none came empty cutter held room goes lent less still =
      let all : y.held ≡ buffer_of x.reader = held ∙ ap (λ l. l ++ buffer_of x.reader) none in
      inr (
        rest.0,
        buffer_of x.reader,
        took_shown x y (buffer_of x.reader) rest.1 came cutter held room (rw empty (sym (append-nil _))),
        ((goes, lent, (rw (all, cutter) (open_now piece refuses x.cutter least (buffer_of x.reader) less still))), empty),
      )

  -- A look at the bytes held and then at the first `n` of those shown.
  module _ (x y : Lending T C) (n : ℕ) (fits : n ≤ length (buffer_of x.reader)) (waits : IsUnfinished piece refuses cut_off reads buffer_of x) where
    abbrev shown : List ℕ
    shown = buffer_of x.reader

    abbrev whole : List ℕ
    whole = x.held ++ take n shown

    all_ahead : ahead buffer_of x ≡ whole ++ drop n shown
    all_ahead = ap (λ l. x.held ++ l) (sym (take-append-drop n shown)) ∙ sym (append_assoc x.held (take n shown) (drop n shown))

    pub waits_behind : (least : ℕ) → 0 < n → reads x.reader (bytes (take n shown)) y.reader → buffer_of y.reader ≡ drop n shown
        → y.cutter ≡ x.cutter → y.held ≡ whole → x.room ≤ y.room → y.is_over ≡ false → y.span ≡ nowhere
        → CutFound piece refuses x.cutter whole (More least) → LooksBehind piece refuses cut_off reads buffer_of x Pending y
    waits_behind least some came left cutter held room goes lent (less, still) = (
      take n shown,
      omega (arith, some, length-take-le n shown fits),
      took_shown x y (take n shown) waits.1 came cutter held room (rw left (sym (take-append-drop n shown))),
      (goes, lent, rw (held, cutter) (open_now piece refuses x.cutter least whole less still)),
    )

    pub refused_behind : (e : E) → BeginsNone piece refuses x.cutter whole e → BeginsNone piece refuses x.cutter (ahead buffer_of x) e
    refused_behind e bad = rw all_ahead (refused_front piece refuses x.cutter whole (drop n shown) e bad)

    module _ (s : Span) (cut : CutFound piece refuses x.cutter whole (Whole s)) where
      long : length x.held ≤ s.size
      long = size_behind piece refuses x.cutter x.held (take n shown) s waits.2 cut

      whole_length : length whole ≡ length x.held + n
      whole_length = length-append x.held (take n shown) ∙ ap (λ k. length x.held + k) (length-take-le n shown fits)

      abbrev taken : ℕ
      taken = s.size - length x.held

      few : taken ≤ n
      few = omega (arith, long, whole_length, cut.0.2)

      pub held_behind : take s.size whole ≡ x.held ++ take taken shown
      held_behind =
          ap (λ k. take k whole) (omega (arith, long)) ∙ take-append-add x.held (take n shown) taken
          ∙ ap (λ l. x.held ++ l) (take-take taken n shown few)

      pub found_behind : reads x.reader (bytes (take taken shown)) y.reader → buffer_of y.reader ≡ drop taken shown
          → y.cutter ≡ x.cutter → y.held ≡ take s.size whole → x.room ≤ y.room → y.is_over ≡ false → y.span ≡ s
          → AdvancesInHand piece refuses cut_off reads buffer_of x (Ready (Some (Ok tt))) y
      found_behind came left cutter held room goes lent =
          inr (
            waits.0,
            take taken shown,
            took_shown x y (take taken shown) waits.1 came cutter (held ∙ held_behind) room (rw left (sym (take-append-drop taken shown))),
            (refl, (goes, (rw (lent, same) f.0, inr (rw lent held_long)), rw (lent, same, cutter) f.1)),
          )
        where
          same : y.held ++ buffer_of y.reader ≡ whole ++ drop n shown
          same =
              ap (λ l. l ++ buffer_of y.reader) (held ∙ held_behind) ∙ append_assoc x.held (take taken shown) (buffer_of y.reader)
              ∙ ap (λ l. x.held ++ l) (ap (λ l. take taken shown ++ l) left ∙ take-append-drop taken shown) ∙ all_ahead

          f : IsWithin s (length (whole ++ drop n shown)) × piece x.cutter (body_at s (whole ++ drop n shown)) (frame_at s (whole ++ drop n shown))
          f = found_front piece refuses x.cutter whole (drop n shown) s cut

          held_long : s.size ≤ length y.held
          held_long = omega (arith, ap length held, length-take-le s.size whole cut.0.2)

  -- The input ended.
  pub ended_within : (x y : Lending T C) (e : E) → IsUnfinished piece refuses cut_off reads buffer_of x → y ≡ record x { is_over = true } → 0 < length x.held
      → cut_off x.cutter x.held e → Ends piece refuses cut_off reads buffer_of x (Some (Err (NoFrame e))) y
  ended_within x y e waits is some cut = rw is (((refl, waits.1), inr (refl, some, waits.2, cut)), refl, refl, refl, refl)

  -- The reader left the marks `last`.
  took_mark : (m y : Lending T C) (last : List ReadMark) → m.span ≡ nowhere → reads m.reader last y.reader → y.cutter ≡ m.cutter
      → y.held ≡ m.held → m.room ≤ y.room → TookFrom piece refuses cut_off reads buffer_of m [] last y
  took_mark m y last rest came cutter held room =
      record {
        ran = subst (λ u. reads m.reader (bytes (u ++ []) ++ last) y.reader) (sym (untaken_none buffer_of m rest)) came;
        cutter = cutter;
        held = held ∙ sym (kept_all m rest) ∙ sym (append-nil (kept m));
        room = room;
      }

  module _ (laws : MarkLaws reads) where
    -- Nothing is shown, and no frame is whole.
    pub still_waits : (m : Lending T C) → IsUnfinished piece refuses cut_off reads buffer_of m → buffer_of m.reader ≡ [] → AdvancesInHand piece refuses cut_off reads buffer_of m Pending m
    still_waits m waits none = inr (waits.0, [], took_none laws m m waits.1 refl refl refl (omega arith), (waits, none))

    pub looked_on : (x m : Lending T C) → IsUnfinished piece refuses cut_off reads buffer_of x → LooksBehind piece refuses cut_off reads buffer_of x Pending m → (a : Answer (Result (Unit {0}) (FramesError E)))
        (z : Lending T C) → AdvancesInHand piece refuses cut_off reads buffer_of m a z → AdvancesInHand piece refuses cut_off reads buffer_of x a z
    looked_on x m waits (xs, some, took, goes) a z k =
        in_hand_on piece refuses cut_off reads buffer_of laws x m z xs a waits.0 took goes.0 goes.1 k

    -- The lent frame was let go first.
    pub let_go_first : (x m z : Lending T C) (a : Answer (Result (Unit {0}) (FramesError E))) → x.is_over ≡ false
        → m ≡ record x { reader = m.reader; held = m.held; span = nowhere } → m.held ≡ kept x
        → reads x.reader (bytes (untaken buffer_of x)) m.reader → buffer_of x.reader ≡ untaken buffer_of x ++ buffer_of m.reader
        → AdvancesInHand piece refuses cut_off reads buffer_of m a z → AdvancesInHand piece refuses cut_off reads buffer_of x a z
    let_go_first x m z a was is held came shown k =
        let u = untaken buffer_of x in
        let nil : u ++ [] ≡ u = append-nil u in
        let same : m.room ≡ x.room = ap (λ l. l.room) is in
        in_hand_on piece refuses cut_off reads buffer_of laws x m z [] a was (
          record {
            ran = subst (λ l. reads x.reader l m.reader) (sym (append-nil _ ∙ ap bytes nil)) came;
            cutter = ap (λ l. l.cutter) is;
            held = held ∙ sym (append-nil (kept x));
            room = omega (arith, same);
          },
          shown ∙ ap (λ l. l ++ buffer_of m.reader) (sym nil),
        ) (ap (λ l. l.is_over) is ∙ was) (ap (λ l. l.span) is) k

    -- No frame was in hand at `x`, which became `m`. Then the reader of `m` was filled.
    module _ (x m y : Lending T C) (h : AdvancesInHand piece refuses cut_off reads buffer_of x Pending m) where
      pub then_advances : (a : Answer (Result (Unit {0}) (FramesError E))) → Advances piece refuses cut_off reads buffer_of m a y → Advances piece refuses cut_off reads buffer_of x a y
      then_advances a k = by h
        where
          by : AdvancesInHand piece refuses cut_off reads buffer_of x Pending m → Advances piece refuses cut_off reads buffer_of x a y
          by (inl (_, wrong, _)) = cc wrong
          by (inr (was, xs, (took, _), (waits, _))) = advances_on piece refuses cut_off reads buffer_of laws x m y xs a was took waits k

      pub pended : reads m.reader (ReadMark.pending ∷ []) y.reader → buffer_of y.reader ≡ [] → y ≡ record m { reader = y.reader }
          → Advances piece refuses cut_off reads buffer_of x Pending y
      pended came none is = by h
        where
          by : AdvancesInHand piece refuses cut_off reads buffer_of x Pending m → Advances piece refuses cut_off reads buffer_of x Pending y
          by (inl (_, wrong, _)) = cc wrong
          by (inr (was, xs, (took, _), (waits, _))) =
              let goes : IsUnfinished piece refuses cut_off reads buffer_of y = rw is waits in
              advances_on piece refuses cut_off reads buffer_of laws x m y xs Pending was took waits (inr (
                waits.0,
                [],
                ReadMark.pending ∷ [],
                took_mark m y _ waits.1 came (ap (λ l. l.cutter) is) (ap (λ l. l.held) is) (omega (arith, ap (λ l. l.room) is)),
                (refl, goes, none),
              ))

      pub failed : (e : Error) → reads m.reader (ReadMark.fault (error_kind e) ∷ []) y.reader
          → y ≡ record m { reader = y.reader; is_over = true; error = Some e }
          → Advances piece refuses cut_off reads buffer_of x (Ready (Some (Err (Reader (error_kind e))))) y
      failed e came is = by h
        where
          by : AdvancesInHand piece refuses cut_off reads buffer_of x Pending m → Advances piece refuses cut_off reads buffer_of x (Ready (Some (Err (Reader (error_kind e))))) y
          by (inl (_, wrong, _)) = cc wrong
          by (inr (was, xs, (took, _), (waits, _))) =
              let open_still : Undecided piece refuses y.cutter y.held = rw is waits.2 in
              let error : y.error ≡ Some e = ap (λ l. l.error) is in
              advances_on piece refuses cut_off reads buffer_of laws x m y xs _ was took waits (inr (
                waits.0,
                [],
                ReadMark.fault (error_kind e) ∷ [],
                took_mark m y _ waits.1 came (ap (λ l. l.cutter) is) (ap (λ l. l.held) is) (omega (arith, ap (λ l. l.room) is)),
                ((ap (λ l. l.is_over) is, ap (λ l. l.span) is ∙ waits.1), (refl, open_still, rw error refl, rw error refl)),
              ))

      pub at_end : (s : T) (r : Option (Result (Unit {0}) (FramesError E))) → reads m.reader (ReadMark.end ∷ []) s
          → Ends piece refuses cut_off reads buffer_of (record m { reader = s }) r y → Advances piece refuses cut_off reads buffer_of x (Ready r) y
      at_end s r came ends = by h
        where
          by : AdvancesInHand piece refuses cut_off reads buffer_of x Pending m → Advances piece refuses cut_off reads buffer_of x (Ready r) y
          by (inl (_, wrong, _)) = cc wrong
          by (inr (was, xs, (took, _), (waits, _))) =
              let (found, reader, cutter, held, room) = ends in
              advances_on piece refuses cut_off reads buffer_of laws x m y xs (Ready r) was took waits (inr (
                waits.0,
                [],
                ReadMark.end ∷ [],
                took_mark m y _ waits.1 (rw reader came) cutter held (omega (arith, room)),
                finds_on piece refuses cut_off reads buffer_of m (record m { reader = s }) y _ (Ready r) (omega arith) found,
              ))

      -- The bytes that it showed were looked at.
      module _ (s : T) (came : reads m.reader [] s) where
        abbrev filled : Lending T C
        filled = record m { reader = s }

        took_filled : (xs : List ℕ) → TookFrom piece refuses cut_off reads buffer_of x xs [] m → TookFrom piece refuses cut_off reads buffer_of x xs [] filled
        took_filled xs t =
            record {
              ran = subst (λ l. reads x.reader l s) (append-nil _) (laws.follows _ _ _ _ _ t.ran came);
              cutter = t.cutter;
              held = t.held;
              room = t.room;
            }

        pub answered : (r : Option (Result (Unit {0}) (FramesError E))) → AdvancesInHand piece refuses cut_off reads buffer_of filled (Ready r) y → Advances piece refuses cut_off reads buffer_of x (Ready r) y
        answered r k = by h k
          where
            by : AdvancesInHand piece refuses cut_off reads buffer_of x Pending m → AdvancesInHand piece refuses cut_off reads buffer_of filled (Ready r) y → Advances piece refuses cut_off reads buffer_of x (Ready r) y
            by (inl (_, wrong, _)) k = cc wrong
            by (inr (was, xs, (took, _), (waits, _))) (inl (over, _, _)) = let e = sym waits.0 ∙ over in cc e
            by (inr (was, xs, (took, _), (waits, _))) (inr (goes, ys, (more, _), found)) =
                advances_on piece refuses cut_off reads buffer_of laws x filled y xs (Ready r) was (took_filled xs took) waits (inr (goes, ys, [], more, found))

        pub took_more : 0 < length (buffer_of s) → AdvancesInHand piece refuses cut_off reads buffer_of filled Pending y → WaitsForMore piece refuses cut_off reads buffer_of x y
        took_more some k = by h k
          where
            by : AdvancesInHand piece refuses cut_off reads buffer_of x Pending m → AdvancesInHand piece refuses cut_off reads buffer_of filled Pending y → WaitsForMore piece refuses cut_off reads buffer_of x y
            by (inl (_, wrong, _)) k = cc wrong
            by (inr h) (inl (_, wrong, _)) = cc wrong
            by (inr (was, xs, (took, _), (waits, _))) (inr (goes, ys, (more, shown), (still, none))) =
                record {
                  taken = xs ++ ys;
                  some = omega (
                    arith,
                    some,
                    ap length shown,
                    ap length none,
                    ap length (untaken_none buffer_of filled waits.1),
                    length-append (untaken buffer_of filled ++ ys) (buffer_of y.reader),
                    length-append (untaken buffer_of filled) ys,
                    length-append (untaken buffer_of x) (xs ++ ys),
                    length-append xs ys,
                  );
                  was = was;
                  took = took_on piece refuses cut_off reads buffer_of laws x filled y xs ys [] waits.1 (took_filled xs took) more;
                  waits = still;
                }
