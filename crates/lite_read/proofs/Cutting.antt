-- What a fill, a search and what was consumed say of the cuts.
use Rattle.std.specs.Prelude.{◌≡◌, ◌≢◌, ◌<◌, ◌≤◌, ◌+◌, ℕ, List, [], ◌∷◌, ◌++◌, Some, None, length, take, true}
use Rattle.lite_read.specs.Uses.{◌∙◌, All, refl, ap, sym, subst, arith, add-one, get_or, eqb-true, eq-eqb, append-nil, append_assoc, length-take-le}
use Rattle.lite_read.specs.Uses.{map-append, AllByRecursion, FoldsTo, Poll, Ready, Pending, IsFirstByte, is_byte, ReadMark, bytes, filled_marks, MarkLaws}
use Rattle.lite_read.specs.Uses.{segment_alone, segments_one, Runs}
use Rattle.std.proofs.Common.{get_or-take, zero-le}
use Rattle.std.proofs.Math.Seq.{take-suc}
use Rattle.std.proofs.lemmas.List.Elements.{All-from_get_or, recursion_from_All}
use Rattle.lite_read.specs.ReadFold.{AnswerMarks, ReadFold}
use Rattle.lite_read.specs.Pieces.{Cut, CutsPiece, pieces}
use Rattle.lite_read.specs.Segments.{Flows, StreamOver}

-- bytes other than the delimiter
abbrev pub Lacks : ℕ → List ℕ → Type 0
Lacks byte xs = All (λ b. b ≢ byte) xs

pub lacks_before : (byte : ℕ) (shown : List ℕ) (k : ℕ) → k ≤ length shown
    → ((i : ℕ) → 0 ≤ i → i < k → ¬ is_byte byte (get_or shown i 0) ≡ true) → Lacks byte (take k shown)
lacks_before byte shown k within none =
    All-from_get_or (λ x. x ≢ byte) _ 0 (λ i below e.
    let small : i < k = omega (arith, length-take-le k shown within, below) in
    none i zero-le small (eq-eqb _ _ (sym (get_or-take k shown i 0 small) ∙ e)))

-- the delimiter was found: what stands before it, and what is taken
pub found_at : (byte : ℕ) (shown : List ℕ) (k : ℕ) → IsFirstByte (is_byte byte) shown (Some k)
    → (k < length shown) × Lacks byte (take k shown) × (take (k + 1) shown ≡ take k shown ++ byte ∷ [])
found_at byte shown k first =
    let inside : k < length shown = first.0.high in
    let at : get_or shown k 0 ≡ byte = eqb-true _ _ first.1 in (
      inside,
      lacks_before byte shown k (omega (arith, inside)) first.0.before,
      rw add-one (take-suc shown k 0 inside ∙ ap (λ y. take k shown ++ y ∷ []) at),
    )

pub take_whole : (shown : List ℕ) → take (length shown) shown ≡ shown
take_whole [] = refl
take_whole (x ∷ shown) = ap (λ l. x ∷ l) (take_whole shown)

-- it was not
pub found_none : (byte : ℕ) (shown : List ℕ) → IsFirstByte (is_byte byte) shown None → Lacks byte shown
found_none byte shown first =
    subst (Lacks byte) (take_whole shown) (lacks_before byte shown _ (omega arith) first)

-- a fill that lent something left no mark
pub fill_then : {S : Type 0} {reads : Runs ReadMark S} → MarkLaws reads
    → {a b c : S} (shown : List ℕ) {l : List ReadMark} → 0 < length shown → reads a (filled_marks shown) b → reads b l c
    → reads a l c
fill_then laws [] some fills took = absurd (omega (arith, some))
fill_then laws {a} {b} {c} (x ∷ shown) {l} some fills took = laws.follows a b c [] l fills took

module _ {R : Type 0} (byte : ℕ) (may_refuse : List ℕ → Type 0) (becomes : Cut → List ℕ → R → List ℕ → Type 0) where
  -- bytes before the delimiter are held
  takes_each : (held xs : List ℕ) → AllByRecursion (λ b. b ≢ byte) xs
      → FoldsTo (pieces byte may_refuse becomes).takes held xs (held ++ xs)
  takes_each held [] none = sym (append-nil held)
  takes_each held (x ∷ xs) none = (
    held ++ x ∷ [],
    (none.0, refl),
    subst (λ l. FoldsTo (pieces byte may_refuse becomes).takes (held ++ x ∷ []) xs l)
        (append_assoc held (x ∷ []) xs) (takes_each (held ++ x ∷ []) xs none.1),
  )

  pub takes_all : (held xs : List ℕ) → Lacks byte xs
      → FoldsTo (pieces byte may_refuse becomes).takes held xs (held ++ xs)
  takes_all held xs none = takes_each held xs (recursion_from_All (λ b. b ≢ byte) xs none)

  -- a cut of what is held
  pub concludes_at : (held : List ℕ) (last : List ReadMark) (cut : Cut) (r : R) (after : List ℕ)
      → CutsPiece byte (may_refuse held) held last cut → becomes cut held r after
      → AnswerMarks (pieces byte may_refuse becomes) held last (Ready r) after
  concludes_at held last cut r after is becomes_so =
      segment_alone held after last _ (cut, is, becomes_so)

  -- more bytes and the delimiter
  pub concludes_piece : (held xs : List ℕ) (r : R) (after : List ℕ) → Lacks byte xs
      → becomes (Cut.piece (held ++ xs)) (held ++ xs) r after
      → AnswerMarks (pieces byte may_refuse becomes) held (bytes (xs ++ byte ∷ [])) (Ready r) after
  concludes_piece held xs r after none becomes_so =
      record {
        taken = xs;
        last = ReadMark.byte byte ∷ [];
        cut = map-append ReadMark.byte xs (byte ∷ []);
        between = held ++ xs;
        folds = takes_all held xs none;
        given = (Cut.piece _, (refl, refl), becomes_so);
      }

  pub waits_here : (held after : List ℕ) → after ≡ held
      → AnswerMarks (pieces byte may_refuse becomes) held (ReadMark.pending ∷ []) Pending after
  waits_here held after same = segment_alone held after (ReadMark.pending ∷ []) Pending (refl, tt, same)

module _ {X S M K R : Type 0} {over : StreamOver X S M K} {fold : K → ReadFold M R} {reads : Runs ReadMark S} where
  -- one answer
  pub flow_one : {x y : X} {marks : List ReadMark} {a : Poll R} → reads (over.reader x) marks (over.reader y)
      → AnswerMarks (fold (over.kept x)) (over.held x) marks a (over.held y)
      → over.kept y ≡ over.kept x → Flows over fold reads x (a ∷ []) y
  flow_one {marks} {a} came answers same =
      record {
        segmented = record {
          marks = marks;
          came = came;
          cut = segments_one (AnswerMarks (fold _)) _ _ marks a answers;
        };
        stays = same;
        idle = λ e. absurd (cc e);
      }
