-- How a stream over a reader lowers a rank, as `split` and `lines` do.
use Rattle.std.specs.Prelude.{◌≡◌, ◌<◌, ◌+◌, ℕ, List, [], ◌∷◌, ◌++◌, length, Option, Some, None, Result, Ok}
use Rattle.lite_read.specs.Uses.{◌∙◌, zero, suc, ap, sym, arith, length-append, FoldsTo, Error, Ready, Pending, Answer}
use Rattle.lite_read.specs.Uses.{items, Below, Lowers, Ranks, Runs, ReadCounting, Falls, ReadMark, bytes, given_count}
use Rattle.lite_read.specs.Uses.{MarkLaws}
use Rattle.lite_base.specs.Ranks.{OkCounting, all_ok}
use Rattle.lite_io_base.specs.Laws.Counting.{falls_held}
use Rattle.lite_io_base.specs.Laws.Marks.{given_count-append, given_count-bytes}
use Rattle.lite_read.specs.Pieces.{Cut, CutsPiece, Itemised, pieces}
use Rattle.lite_read.specs.Laws.Segments.{flow_keeps}
use Rattle.lite_read.specs.ReadFold.{AnswerMarks, ReadFold}
use Rattle.lite_read.specs.Segments.{Flows, PieceSegments, StreamOver}

below_some : (n : ℕ) (xs ys : List ℕ) → 0 < n → Falls n xs ys → Below xs ys
below_some zero xs ys some h = absurd (omega (arith, some))
below_some (suc n) xs ys some h = h

-- A fold that holds each byte that it consumes, until an item gives bytes out. An `Ok` item gives out at least one, and an
-- end gives out none.
pub record GivesOut {A E : Type 0} (fold : ReadFold (List ℕ) (Option (Result A E))) : Type 0 where
  pub holds : (p q : List ℕ) (b : ℕ) → fold.takes p b q → length q ≡ length p + 1
  pub item_out : (p q : List ℕ) (last : List ReadMark) (x : A) → fold.gives p last (Some (Ok x)) q
      → (n : ℕ) × (0 < n) × (given_count last + length p ≡ n + length q)
  pub end_out : (p q : List ℕ) (last : List ReadMark) → fold.gives p last None q → given_count last + length p ≡ length q

module _ {A E : Type 0} {fold : ReadFold (List ℕ) (Option (Result A E))} (out : GivesOut fold) where
  grown : (p q xs : List ℕ) → FoldsTo fold.takes p xs q → length q ≡ length p + length xs
  grown p q [] h = omega (arith, ap length (sym h))
  grown p q (x ∷ xs) h = omega (arith, grown h.0 q xs h.2, out.holds p h.0 x h.1)

  came_in : {p q : List ℕ} {marks : List ReadMark} {b : Answer (Result A E)} (s : AnswerMarks fold p marks b q)
      → given_count marks + length p ≡ given_count s.last + length s.between
  came_in {p} s =
      omega (
        arith,
        ap given_count s.cut,
        given_count-append (bytes s.taken) s.last,
        given_count-bytes s.taken,
        grown p s.between s.taken s.folds,
      )

  -- From `p` bytes held to `q`, the items `l` account for `n` of the bytes and errors among `marks` and of the bytes
  -- held. A rank that falls by `n` is lowered by these items.
  abbrev Accounts : List ℕ → List ReadMark → List (Answer A) → List ℕ → Type 0
  Accounts p marks l q = (n : ℕ) × (given_count marks + length p ≡ n + length q)
      × ((xs ys : List ℕ) → Falls n xs ys → Lowers l xs ys)

  segments_out : (p q : List ℕ) (marks : List ReadMark) (l : List (Answer A)) → PieceSegments fold p marks (all_ok l) q
      → Accounts p marks l q
  segments_out p q marks [] h = (0, omega (arith, ap given_count h.0, ap length h.1), λ xs ys f. f)
  segments_out p q marks (Pending ∷ l) (first, rest, m, cut, a, more) =
      let r = segments_out m q rest l more in
      let came = ap given_count cut ∙ given_count-append first rest in
      (r.0, omega (arith, r.1, came, came_in a, ap given_count a.given.0, ap length a.given.2), r.2)
  segments_out p q marks (Ready None ∷ l) (first, rest, m, cut, a, more) =
      let r = segments_out m q rest l more in
      let came = ap given_count cut ∙ given_count-append first rest in
      (r.0, omega (arith, r.1, came, came_in a, out.end_out a.between m a.last a.given), r.2)
  segments_out p q marks (Ready (Some x) ∷ l) (first, rest, m, cut, a, more) =
      let r = segments_out m q rest l more in
      let came = ap given_count cut ∙ given_count-append first rest in
      let e = out.item_out a.between m a.last x a.given in (
        e.0 + r.0,
        omega (arith, r.1, came, came_in a, e.2),
        λ xs ys f. below_some _ xs ys (omega (arith, e.1)) f,
      )

-- The rank of a stream over a reader, over its `Ok` items: the reader's rank, followed by the number of bytes held.
abbrev pub flow_ranks : {X S K : Type 0} → StreamOver X S (List ℕ) K → Ranks S → Ranks X
flow_ranks over r =
    record {
      width = r.width + 1;
      rank = λ x. r.rank (over.reader x) ++ length (over.held x) ∷ [];
      counts = λ x. r.firm (over.reader x);
      firm = λ x. r.firm (over.reader x);
    }

module _ {X S K A E : Type 0} (over : StreamOver X S (List ℕ) K) {fold : K → ReadFold (List ℕ) (Option (Result A E))}
    (out : (k : K) → GivesOut (fold k)) {reads : Runs ReadMark S} (laws : MarkLaws reads) {r : Ranks S}
    (counting : ReadCounting reads r) where
  flow_lowers : (x y : X) (l : List (Answer A)) → r.firm (over.reader x) → Flows over fold reads x (all_ok l) y
      → Lowers l (r.rank (over.reader y) ++ length (over.held y) ∷ [])
      (r.rank (over.reader x) ++ length (over.held x) ∷ [])
  flow_lowers x y l f h =
      let s = h.segmented in
      let gone = segments_out (out (over.kept x)) _ _ s.marks l s.cut in
      gone.2 _ _ (falls_held _ gone.0 (length _) (length _) (r.rank _)
      (r.rank _) (counting.lowers _ _ s.marks f s.came) gone.1)

  firm_still : (x y : X) (l : List (Answer (Result A E))) → r.firm (over.reader x) → Flows over fold reads x l y
      → r.firm (over.reader y)
  firm_still = flow_keeps over fold laws r.firm counting.firm_on

  pub flow_counting : OkCounting (Flows over fold reads) (flow_ranks over r)
  flow_counting =
      record {
        sized = λ x. length-append _ (length _ ∷ [])
            ∙ ap (λ n. n + 1) (counting.sized _);
        counts_on = firm_still;
        firm_on = firm_still;
        falls = λ x y a more f h. flow_lowers x y (items (a ∷ more)) f h;
        lowers = flow_lowers;
      }

-- Pieces give out the bytes that are cut off.
module _ {A : Type 0} (byte : ℕ) (may_refuse : Type 0) (whole final : List ℕ → Result A Error → Type 0) where
  piece_out : (held after : List ℕ) (last : List ReadMark) (cut : Cut) (x : A) → CutsPiece byte may_refuse held last cut
      → Itemised whole final cut held (Some (Ok x)) after → (n : ℕ) × (0 < n)
      × (given_count last + length held ≡ n + length after)
  piece_out held after last (Cut.piece xs) x c i =
      (length held + 1, omega arith, omega (arith, ap length i.1, ap given_count c.0))
  piece_out held after last (Cut.last xs) x c i = (length held, c.1, omega (arith, ap length i.1, ap given_count c.0))
  piece_out held after last Cut.nothing x c i = absurd i
  piece_out held after last (Cut.failed e) x c i = cc

  nothing_out : (held after : List ℕ) (last : List ReadMark) (cut : Cut) → CutsPiece byte may_refuse held last cut
      → Itemised whole final cut held None after → given_count last + length held ≡ length after
  nothing_out held after last Cut.nothing c i = omega (arith, ap length i, ap given_count c.0, ap length c.1)
  nothing_out held after last _ c i = absurd i

  pub pieces_out : GivesOut (pieces byte (λ held. may_refuse) (Itemised whole final))
  pieces_out =
      record {
        holds = λ p q b h. ap length h.1 ∙ length-append p (b ∷ []);
        item_out = λ p q last x h. piece_out p q last h.0 x h.1 h.2;
        end_out = λ p q last h. nothing_out p q last h.0 h.1 h.2;
      }
