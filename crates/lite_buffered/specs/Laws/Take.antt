-- Laws of `take`.
use Rattle.std.specs.Prelude.{Bool, true, false, ◌≡◌, ℕ, zero, suc, List, [], ◌∷◌, ◌++◌, take}
use Rattle.futures.specs.Task.{Lasting}
use Rattle.lite_io_base.specs.Armed.{ArmsRead, is_read_pending, last_is}
use Rattle.lite_io_base.specs.Laws.Armed.{last_join}
use Rattle.lite_buffered.specs.Uses.{◌∙◌, refl, sym, ap, subst, arith, append_assoc, append-nil, Comparable, Ranks}
use Rattle.lite_buffered.specs.Uses.{ranks_of, Runs, ReadCounting, given_count-append, given_parts, comparable_none}
use Rattle.lite_buffered.specs.Uses.{AllGiven, ReadMark, bytes, given_count, MarkLaws, Shows, no_wait_both}
use Rattle.lite_buffered.specs.Uses.{strip_marks-append, CalmReadLaws, NoPendingRead, SteadyReadLaws, strip_marks}
use Rattle.lite_buffered.specs.declared.take.Take.{Take}
use Rattle.lite_buffered.specs.Take.{LimitEnds, ReadsWithin, WithinLimit}

fits_follow : (a b c : ℕ) (l m : List ReadMark) → WithinLimit a l b → WithinLimit b m c → WithinLimit a (l ++ m) c
fits_follow a b c [] m h k = rw (← h) k
fits_follow zero b c (e ∷ l) m h k = absurd h
fits_follow (suc a) b c (ReadMark.byte x ∷ l) m h k = fits_follow a b c l m h k
fits_follow (suc a) b c (e ∷ l) m h k = fits_follow _ b c l m h k

fits_none : (b c : ℕ) (m : List ReadMark) → b ≡ 0 → WithinLimit b m c → (m ≡ []) × (c ≡ 0)
fits_none b c [] z h = (refl, h ∙ z)
fits_none zero c (e ∷ m) z h = absurd h
fits_none (suc b) c (e ∷ m) z h = absurd (omega (arith, z))

ends_both : (c : ℕ) (l m : List ReadMark) → LimitEnds c l → LimitEnds c m → LimitEnds c (l ++ m)
ends_both c [] m h k = k
ends_both c (e ∷ l) m h k = (h.0, h.1, ends_both c l m h.2 k)

ends_given : (c : ℕ) (l : List ReadMark) → LimitEnds c l → given_count l ≡ 0
ends_given c [] h = refl
ends_given c (e ∷ l) h = rw h.1 (ends_given c l h.2)

-- Ends of file that are only bytes and errors are none.
ends_gone : (c : ℕ) (l : List ReadMark) → LimitEnds c l → AllGiven l → l ≡ []
ends_gone c [] h g = refl
ends_gone c (e ∷ l) h g = absurd (subst (λ m. AllGiven (m ∷ [])) h.1 (g.0, tt)).0

-- Bytes shown of the inner reader's agree with its marks through the limit and the ends behind them.
fits_show : (limit rest : ℕ) (shown : List ℕ) (front ends : List ReadMark) → WithinLimit limit front rest
    → LimitEnds rest ends → Comparable (bytes shown) front → Comparable (bytes (take limit shown)) (front ++ ends)
fits_show limit rest shown [] [] f e h = comparable_none (bytes _)
fits_show limit rest shown [] (m ∷ ends) f e h = let none : limit ≡ 0 = omega (arith, f, e.0) in rw none tt
fits_show zero rest shown (m ∷ front) ends f e h = absurd f
fits_show (suc n) rest [] (m ∷ front) ends f e h = tt
fits_show (suc n) rest (b ∷ shown) (ReadMark.byte c ∷ front) ends f e h = (h.0, fits_show n rest shown front ends f e h.1)
fits_show (suc n) rest (b ∷ shown) (m ∷ front) ends f e h = absurd (cc h.0)

module _ {R : Type 0} {reads : Runs ReadMark R} where
  still : (x y z : Take R) (l m : List ReadMark) → ReadsWithin reads x l y → ReadsWithin reads y m z → x.limit ≡ 0 → z ≡ x
  still x y z l m a b none = b.still (ap (λ (t : Take R). t.limit) (a.still none) ∙ none) ∙ a.still none

  -- Ends of file come once the limit is used up, so none of the inner reader's marks follows them.
  joined : (x y z : Take R) (l m : List ReadMark) (a : ReadsWithin reads x l y) (b : ReadsWithin reads y m z)
      (e : List ReadMark) → a.ends ≡ e
      → (l ++ m ≡ (a.front ++ b.front) ++ (a.ends ++ b.ends)) × LimitEnds z.limit (a.ends ++ b.ends)
  joined x y z l m a b [] is = rw is (rw (a.cut, is, append-nil, b.cut, append_assoc), b.used_up)
  joined x y z l m a b (e ∷ es) is =
      let after = rw is at a.used_up in
      let none = fits_none y.limit z.limit b.front after.0 b.fits in
      let same : y.limit ≡ z.limit = after.0 ∙ sym none.1 in (
        rw (a.cut, b.cut, none.0, append-nil, append_assoc),
        ends_both z.limit a.ends b.ends (rw (← same) a.used_up) b.used_up,
      )

  pub takes_laws : MarkLaws reads → MarkLaws (ReadsWithin reads)
  takes_laws laws = record {
    rests = λ x. record {
      front = [];
      ends = [];
      cut = refl;
      ran = laws.rests x.inner;
      fits = refl;
      used_up = tt;
      still = λ none. refl;
    };
    follows = λ x y z l m a b.
        let both = joined x y z l m a b a.ends refl in
        record {
          front = a.front ++ b.front;
          ends = a.ends ++ b.ends;
          cut = both.0;
          ran = laws.follows x.inner y.inner z.inner a.front b.front a.ran b.ran;
          fits = fits_follow x.limit y.limit z.limit a.front b.front a.fits b.fits;
          used_up = both.1;
          still = still x y z l m a b;
        };
  }

  pub takes_show : (buffer_of : R → List ℕ) → Shows reads buffer_of → Shows (ReadsWithin reads) (λ x. take x.limit (buffer_of x.inner))
  takes_show buffer_of shows x y l h =
      rw h.cut (fits_show x.limit y.limit _ h.front h.ends h.fits h.used_up (shows x.inner y.inner h.front h.ran))

  module _ {r : Ranks R} (c : ReadCounting reads r) where
    pub takes_counting : ReadCounting (ReadsWithin reads) (ranks_of (λ (x : Take R). x.inner) r)
    takes_counting = record {
      sized = λ x. c.sized x.inner;
      counts_on = λ x y l k h. c.counts_on x.inner y.inner h.front k h.ran;
      firm_on = λ x y l k h. c.firm_on x.inner y.inner h.front k h.ran;
      falls = λ x y l k g h.
          let parts = given_parts h.front h.ends (rw (← h.cut) g) in
          let same : h.front ≡ l = rw (h.cut, ends_gone y.limit h.ends h.used_up parts.1, append-nil) in
          rw (← same) (c.falls _ _ h.front k parts.0 h.ran);
      lowers = λ x y l k h.
          let same : given_count h.front ≡ given_count l =
          omega (arith, ap given_count h.cut, given_count-append h.front h.ends, ends_given y.limit h.ends h.used_up) in
          rw (← same) (c.lowers _ _ h.front k h.ran);
    }

-- `take` is steady over a steady reader, and calm over a calm one.

fits_stripped : (n rest : ℕ) (l : List ReadMark) → WithinLimit n l rest → WithinLimit n (strip_marks l) rest
fits_stripped n rest [] h = h
fits_stripped zero rest (m ∷ l) h = absurd h
fits_stripped (suc n) rest (ReadMark.byte b ∷ l) h = fits_stripped n rest l h
fits_stripped (suc n) rest (m ∷ l) h = fits_stripped _ rest l h

ends_stripped : (rest : ℕ) (l : List ReadMark) → LimitEnds rest l → LimitEnds rest (strip_marks l)
ends_stripped rest [] h = tt
ends_stripped rest (m ∷ l) h = rw h.1 (h.0, refl, ends_stripped rest l h.2)

ends_alike : (r s : ℕ) (e d : List ReadMark) → LimitEnds r e → LimitEnds s d → Comparable e d
ends_alike r s (a ∷ e) (b ∷ d) h k = (h.1 ∙ sym k.1, ends_alike r s e d h.2 k.2)
ends_alike r s e d h k = tt

-- Marks that agree through one limit still agree with the ends of file behind them.
fronts_alike : (n r s : ℕ) (p q e d : List ReadMark) → WithinLimit n p r → WithinLimit n q s → LimitEnds r e
    → LimitEnds s d → Comparable p q → Comparable (p ++ e) (q ++ d)
fronts_alike n r s [] [] e d f g h k c = ends_alike r s e d h k
fronts_alike n r s [] (b ∷ q) [] d f g h k c = tt
fronts_alike (suc n) r s [] (b ∷ q) (x ∷ e) d f g h k c =
    let none : suc n ≡ 0 = sym f ∙ h.0 in absurd (omega (arith, none))
fronts_alike n r s (a ∷ p) [] e [] f g h k c = comparable_none ((a ∷ p) ++ e)
fronts_alike (suc n) r s (a ∷ p) [] e (x ∷ d) f g h k c =
    let none : suc n ≡ 0 = sym g ∙ k.0 in absurd (omega (arith, none))
fronts_alike (suc n) r s (ReadMark.byte x ∷ p) (b ∷ q) e d f g h k c =
    let same : WithinLimit n q s = subst (λ t. WithinLimit (suc n) (t ∷ q) s) (sym c.0) g in
    (c.0, fronts_alike n r s p q e d f same h k c.1)
fronts_alike (suc n) r s (a ∷ p) (b ∷ q) e d f g h k c =
    let same : WithinLimit (suc n) q s = subst (λ t. WithinLimit (suc n) (t ∷ q) s) (sym c.0) g in
    (c.0, fronts_alike _ r s p q e d f same h k c.1)
fronts_alike zero r s [] (b ∷ q) (x ∷ e) d f g h k c = absurd g
fronts_alike zero r s (a ∷ p) q e d f g h k c = absurd f

ends_no_wait : (rest : ℕ) (l : List ReadMark) → LimitEnds rest l → NoPendingRead l
ends_no_wait rest [] h = tt
ends_no_wait rest (m ∷ l) h = rw h.1 (ends_no_wait rest l h.2)

-- Two `take`s have one limit left, over readers that are alike.
abbrev pub LimitAlike : {R : Type 0} → (R → R → Type 0) → Take R → Take R → Type 0
LimitAlike alike x y = alike x.inner y.inner × (x.limit ≡ y.limit)

module _ {R : Type 0} {reads : Runs ReadMark R} where
  module _ {ample : Runs ReadMark R} {needs_none : Type 0} {alike : R → R → Type 0}
      (s : SteadyReadLaws reads ample needs_none alike) where
    marks_agree : (x y x' y' : Take R) (l m : List ReadMark) → LimitAlike alike x y → ReadsWithin ample x l x'
        → ReadsWithin ample y m y'
        → Comparable (strip_marks l) (strip_marks m)
    marks_agree x y x' y' l m e h k =
        let fits = fits_stripped x.limit x'.limit h.front h.fits in
        let fits2 = rw (← e.1) at (fits_stripped y.limit y'.limit k.front k.fits) in
        let ends = ends_stripped x'.limit h.ends h.used_up in
        let ends2 = ends_stripped y'.limit k.ends k.used_up in
        let inner = s.steady x.inner y.inner x'.inner y'.inner h.front k.front e.0 h.ran k.ran in
        let both = fronts_alike x.limit x'.limit y'.limit _ _ _ _ fits fits2 ends ends2 inner in
        rw (h.cut, strip_marks-append, k.cut, strip_marks-append) both

    pub take_steady : SteadyReadLaws (ReadsWithin reads) (ReadsWithin ample) needs_none (LimitAlike alike)
    take_steady = record {
      laws = takes_laws s.laws;
      steady = marks_agree;
      found = λ n x y l h. record {
        front = h.front;
        ends = h.ends;
        cut = h.cut;
        ran = s.found n _ _ _ h.ran;
        fits = h.fits;
        used_up = h.used_up;
        still = h.still;
      };
    }

  pub take_calm : {is_calm : R → Type 0} → CalmReadLaws reads is_calm
      → CalmReadLaws (ReadsWithin reads) (λ (x : Take R). is_calm x.inner)
  take_calm c =
      record {
        no_pending = λ x y l k h.
            rw h.cut (no_wait_both h.front h.ends (c.no_pending x.inner y.inner h.front k h.ran)
            (ends_no_wait y.limit h.ends h.used_up));
        calm_on = λ x y l k h. c.calm_on x.inner y.inner h.front k h.ran;
      }

-- Ends of file are no `Pending`.
limit_ends_last : (b : Bool) (rest : ℕ) (ms : List ReadMark) → LimitEnds rest ms → last_is is_read_pending b ms ≡ true
    → b ≡ true
limit_ends_last b rest [] h e = e
limit_ends_last b rest (m ∷ ms) h e =
    let all : last_is is_read_pending (is_read_pending m) ms ≡ true = e in
    let none = rw h.1 at (limit_ends_last (is_read_pending m) rest ms h.2 all) in cc none

-- A `take` is armed if its reader is.
pub take_arms : {R : Type 0} {reads : Runs ReadMark R} {registers : R → Lasting → Type 0} → ArmsRead reads registers
    → ArmsRead (ReadsWithin reads) (λ (x : Take R). registers x.inner)
take_arms a =
    record {
      at = λ x y l e h.
          let all = sym (last_join is_read_pending false h.front h.ends) ∙ (rw h.cut at e) in
          a.at x.inner y.inner h.front (limit_ends_last _ y.limit h.ends h.used_up all) h.ran;
    }
