-- Laws of readers behind a mutable reference, and of readers of which a part runs.
use Rattle.std.specs.Prelude.{List, refl}
use Rattle.lite_io_base.specs.Uses.{Lent, Ranks, ranks_of, Runs, MutBor}
pub use Rattle.lite_base.specs.Laws.Lent.{lent_still}
use Rattle.lite_io_base.specs.Counting.{ReadCounting}
use Rattle.lite_io_base.specs.Marks.{ReadMark}
use Rattle.lite_io_base.specs.Runs.{MarkLaws}

pub lent_laws : {A S : Type 0} {run : Runs A S} → MarkLaws run → MarkLaws (Lent run)
lent_laws laws = record {
  rests = λ x. (laws.rests x.now, refl);
  follows = λ x y z l m h k. (laws.follows x.now y.now z.now l m h.0 k.0, lent_still x y z h.1 k.1);
}

-- A reader that runs as a part of it does is counted by that part's rank.
pub counting_part : {S X : Type 0} {reads : Runs ReadMark S} {outer : Runs ReadMark X} {r : Ranks S} (part : X → S)
    → ((x y : X) (l : List ReadMark) → outer x l y → reads (part x) l (part y)) → ReadCounting reads r
    → ReadCounting outer (ranks_of part r)
counting_part part ran c = record {
  sized = λ x. c.sized _;
  counts_on = λ x y l k h. c.counts_on _ _ l k (ran x y l h);
  firm_on = λ x y l k h. c.firm_on _ _ l k (ran x y l h);
  falls = λ x y l k g h. c.falls _ _ l k g (ran x y l h);
  lowers = λ x y l k h. c.lowers _ _ l k (ran x y l h);
}

pub lent_counting : {S : Type 0} {reads : Runs ReadMark S} {r : Ranks S} → ReadCounting reads r
    → ReadCounting (Lent reads) (ranks_of (λ (m : MutBor S). m.now) r)
lent_counting = counting_part (λ m. m.now) (λ x y l h. h.0)
