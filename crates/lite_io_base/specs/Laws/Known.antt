-- Laws of the bytes that are known to come.
use Rattle.std.specs.Prelude.{◌≡◌, ℕ, List, [], ◌∷◌, ◌++◌, refl, ⊤, zero, suc, min, take, drop, length}
use Rattle.lite_io_base.specs.Uses.{◌∙◌, ap, sym, MutBor, Lent, Runs, subst, inl, arith, append-nil, take-append-drop, Comparable}
use Rattle.lite_io_base.specs.Known.{Known, ReadsKnown, Knows, ReadsScript}
use Rattle.lite_io_base.specs.Marks.{ReadMark, bytes, given_count, moved_marks}
use Rattle.lite_base.specs.Laws.Ranks.{Below-one}
use Rattle.std.proofs.lemmas.List.{map-append}
use Rattle.lite_io_base.specs.Counting.{Falls}
use Rattle.lite_io_base.specs.Laws.Counting.{falls_at_most, falls_of_below}
use Rattle.lite_io_base.specs.Laws.Marks.{length-bytes}
use Rattle.lite_io_base.specs.Runs.{MarkLaws}

-- Each run from a value whose bytes are known consumes these bytes from the front.
pub knows_spends : {S : Type 0} (reads : Runs ReadMark S) (known : Known S) (x y : S) (l : List ReadMark)
    → Knows reads known x → reads x l y
    → ReadsKnown (known.left x) l (known.left y)
knows_spends reads known x y l k h = (known.tells x y l k.0 (k.1 l y h)).1

pub spends_both : (xs ys zs : List ℕ) (l m : List ReadMark) → ReadsKnown xs l ys → ReadsKnown ys m zs
    → ReadsKnown xs (l ++ m) zs
spends_both xs ys zs [] m h k = rw (← h) k
spends_both xs ys zs (ReadMark.byte b ∷ l) m h k = (h.0, h.1, spends_both h.0 ys zs l m h.2 k)
spends_both xs ys zs (ReadMark.pending ∷ l) m h k = spends_both xs ys zs l m h k
spends_both xs ys zs (ReadMark.fault kind ∷ l) m h k = absurd h
spends_both xs ys zs (ReadMark.end ∷ l) m h k = (h.0, spends_both xs ys zs l m h.1 k)

pub spends_split : (xs zs : List ℕ) (l m : List ReadMark) → ReadsKnown xs (l ++ m) zs → (ys : List ℕ)
    × ReadsKnown xs l ys × ReadsKnown ys m zs
spends_split xs zs [] m h = (xs, refl, h)
spends_split xs zs (ReadMark.byte b ∷ l) m h = let r = spends_split h.0 zs l m h.2 in (r.0, (h.0, h.1, r.1), r.2)
spends_split xs zs (ReadMark.pending ∷ l) m h = spends_split xs zs l m h
spends_split xs zs (ReadMark.fault kind ∷ l) m h = absurd h
spends_split xs zs (ReadMark.end ∷ l) m h = let r = spends_split xs zs l m h.1 in (r.0, (h.0, r.1), r.2)

-- Bytes come from the front.
pub spends_front : (xs ys : List ℕ) → ReadsKnown (xs ++ ys) (bytes xs) ys
spends_front [] ys = refl
spends_front (x ∷ xs) ys = (xs ++ ys, refl, spends_front xs ys)

-- Marks that are all bytes are a prefix of the bytes to come.
pub spends_bytes : (bs xs ys : List ℕ) → ReadsKnown xs (bytes bs) ys → xs ≡ bs ++ ys
spends_bytes [] xs ys h = sym h
spends_bytes (b ∷ bs) xs ys h = h.1 ∙ ap (λ v. b ∷ v) (spends_bytes bs h.0 ys h.2)

same_bytes : (xs ys : List ℕ) → bytes ys ≡ bytes xs → ys ≡ xs
same_bytes [] [] e = refl
same_bytes (x ∷ xs) (y ∷ ys) e = let first : y ≡ x = cc e in let rest = same_bytes xs ys (cc e) in cc
same_bytes _ _ e = cc

pub told_spends : (xs ys : List ℕ) (l : List ReadMark) → ReadsScript (bytes xs) l (bytes ys) → ReadsKnown xs l ys
told_spends xs ys [] h = same_bytes xs ys h
told_spends [] ys (ReadMark.end ∷ l) h = (refl, told_spends [] ys l h.1)
told_spends (x ∷ xs) ys (ReadMark.byte b ∷ l) h = let e = h.0 in (xs, cc, told_spends xs ys l h.1)
told_spends _ ys (_ ∷ l) h = cc

-- What is known of a value that produces the bytes it holds, and then end of file forever.
abbrev pub told_known : {S : Type 0} (held : S → List ℕ) → Known S
told_known held = record {
  told = λ x l y. ReadsScript (bytes (held x)) l (bytes (held y));
  knows = λ x. ⊤;
  left = held;
  tells = λ x y l k h. (tt, told_spends (held x) (held y) l h);
}

-- What is known of a mutable reference to a reader: the same as of the reader.
abbrev pub lent_known : {S : Type 0} → Known S → Known (MutBor S)
lent_known {S} k = record {
  told = Lent k.told;
  knows = λ x. k.knows x.now;
  left = λ x. k.left x.now;
  tells = λ x y l know h. k.tells x.now y.now l know h.0;
}

-- Laws of readers whose marks are fixed in advance.

pub told_follows : (x y z l m : List ReadMark) → ReadsScript x l y → ReadsScript y m z → ReadsScript x (l ++ m) z
told_follows x y z [] m h k = rw (← h) k
told_follows [] y z (a ∷ l) m h k = (h.0, told_follows [] y z l m h.1 k)
told_follows (b ∷ x) y z (a ∷ l) m h k = (h.0, told_follows x y z l m h.1 k)

-- A value whose marks are fixed in advance meets the laws of runs.
pub told_laws : {S : Type 0} (marks : S → List ReadMark) → MarkLaws (λ x l y. ReadsScript (marks x) l (marks y))
told_laws marks = record { rests = λ x. refl; follows = λ x y z. told_follows _ _ _ }

-- Any first part of the marks is a run.
pub told_front : (x y : List ReadMark) → ReadsScript (x ++ y) x y
told_front [] y = refl
told_front (a ∷ x) y = (refl, told_front x y)

-- The first part of the marks is what comes first.
pub told_shows : (x y z l : List ReadMark) → ReadsScript (x ++ y) l z → Comparable x l
told_shows (a ∷ x) y z (b ∷ l) h = (cc h.0, told_shows x y z l h.1)
told_shows _ y z _ h = tt

-- The number of marks left is a rank.
pub told_falls : (x y l : List ReadMark) → ReadsScript x l y → Falls (given_count l) (length y ∷ []) (length x ∷ [])
told_falls x y [] h = inl (rw h)
told_falls [] y (ReadMark.end ∷ l) h = told_falls [] y l h.1
told_falls (t ∷ x) y (a ∷ l) h =
    falls_of_below (given_count (a ∷ l)) _ _ (Below-one (falls_at_most (given_count l) _ _ (told_falls x y l h.1)) (omega arith))
told_falls [] y _ h = cc

-- The bytes left are what comes first.
pub bytes_shows : (x y : List ℕ) (l : List ReadMark) → ReadsScript (bytes x) l (bytes y) → Comparable (bytes x) l
bytes_shows x y l h = told_shows _ [] (bytes y) l (rw append-nil h)

-- The first `n` bytes can be consumed.
pub bytes_taken : (n : ℕ) (xs : List ℕ) → ReadsScript (bytes xs) (bytes (take n xs)) (bytes (drop n xs))
bytes_taken n xs =
    subst (λ t. ReadsScript (bytes t) (bytes (take n xs)) (bytes (drop n xs))) (take-append-drop n xs)
    (rw map-append (told_front _ _))

-- One read of as many bytes as fit into the room.
pub bytes_read : (n : ℕ) (xs room : List ℕ) → n ≡ min (length xs) (length room)
    → ReadsScript (bytes xs) (moved_marks room (take n xs)) (bytes (drop n xs))
bytes_read n [] (r ∷ room) is = let none : n ≡ 0 = omega arith in rw none (refl, refl)
bytes_read zero (x ∷ xs) (r ∷ room) is = absurd (omega arith)
bytes_read (suc n) (x ∷ xs) (r ∷ room) is = bytes_taken (suc n) (x ∷ xs)
bytes_read n _ [] is = let none : n ≡ 0 = omega arith in rw none

-- The number of bytes left is a rank.
pub bytes_lower : (xs ys : List ℕ) (l : List ReadMark) → ReadsScript (bytes xs) l (bytes ys)
    → Falls (given_count l) (length ys ∷ []) (length xs ∷ [])
bytes_lower xs ys l h = rw (← length-bytes, ← length-bytes) (told_falls _ _ l h)

-- A read of the first bytes to come, which moves none only if it has no room.
pub told_moved : (x rest : List ReadMark) (room xs : List ℕ) → x ≡ bytes xs ++ rest → (length xs ≡ 0 → length room ≡ 0)
    → ReadsScript x (moved_marks room xs) rest
told_moved x rest room (b ∷ xs) is none = rw is (told_front (bytes (b ∷ xs)) rest)
told_moved x rest [] [] is none = sym is
told_moved x rest (r ∷ room) [] is none = absurd (omega (arith, none refl))
