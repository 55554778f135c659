-- The bytes known to come from a `BufReader`, a `take` and a `chain`.
use Rattle.std.specs.Prelude.{◌≡◌, ◌<◌, ℕ, zero, suc, Bool, true, false, List, [], ◌∷◌, ◌++◌, take}
use Rattle.lite_buffered.specs.Uses.{◌∙◌, ap, refl, Known, ReadsKnown, ReadMark, bytes}
use Rattle.lite_io_base.specs.Laws.Known.{spends_both, spends_bytes, spends_front, spends_split}
use Rattle.lite_buffered.specs.Laws.BufReader.{passes_some}
use Rattle.lite_buffered.specs.BufReader.{ThroughBuffer, bytes_ahead, reader_capacity, reader_inner}
use Rattle.lite_buffered.specs.Chain.{ChainsReaders, EndlessMarks, JoinsReaders}
use Rattle.lite_buffered.specs.Take.{LimitEnds, ReadsWithin, WithinLimit}
use Rattle.lite_buffered.specs.declared.buf_reader.BufReader.{BufReader}
use Rattle.lite_buffered.specs.declared.chain.Chain.{Chain}
use Rattle.lite_buffered.specs.declared.take.Take.{Take}

pub through_spends : {R : Type 0} (k : Known R) (x y : BufReader R) (l : List ReadMark) → (0 < reader_capacity x)
    × k.knows x.inner → ThroughBuffer k.told x l y
    → ((0 < reader_capacity y) × k.knows y.inner) × ReadsKnown (bytes_ahead x ++ k.left x.inner) l (bytes_ahead y ++ k.left y.inner)
through_spends k x y l know h =
    let on = k.tells x.inner y.inner h.came know.1 h.ran in
    let all = spends_both _ _ _ (bytes (bytes_ahead x)) h.came (spends_front (bytes_ahead x) _) on.1 in
    let cut = spends_split _ _ l (bytes (bytes_ahead y)) (rw (passes_some _ _ h.came l _ know.0 h.passes) at all) in
    ((rw h.capacity know.0, on.0), rw (← (spends_bytes (bytes_ahead y) cut.0 _ cut.2)) cut.1)

-- What is known of a `BufReader` with some capacity: the bytes ahead, followed by those known of the inner reader.
abbrev pub through_known : {R : Type 0} → Known R → Known (BufReader R)
through_known k = record {
  told = ThroughBuffer k.told;
  knows = λ x. (0 < reader_capacity x) × k.knows (reader_inner x);
  left = λ x. bytes_ahead x ++ k.left (reader_inner x);
  tells = through_spends k;
}

fits_spends : (limit rest : ℕ) (l : List ReadMark) (xs ys : List ℕ) → WithinLimit limit l rest → ReadsKnown xs l ys
    → ReadsKnown (take limit xs) l (take rest ys)
fits_spends limit rest [] xs ys f h = rw (f, h)
fits_spends (suc n) rest (ReadMark.byte b ∷ l) xs ys f h =
    (take n h.0, ap (take (suc n)) h.1, fits_spends n rest l h.0 ys f h.2)
fits_spends (suc n) rest (ReadMark.pending ∷ l) xs ys f h = fits_spends _ rest l xs ys f h
fits_spends (suc n) rest (ReadMark.end ∷ l) xs ys f h = (ap (take (suc n)) h.0, fits_spends _ rest l xs ys f h.1)
fits_spends zero rest (m ∷ l) xs ys f h = absurd f
fits_spends (suc n) rest (ReadMark.fault kind ∷ l) xs ys f h = absurd h

ends_spends : (rest : ℕ) (l : List ReadMark) (ys : List ℕ) → LimitEnds rest l
    → ReadsKnown (take rest ys) l (take rest ys)
ends_spends rest [] ys e = refl
ends_spends rest (m ∷ l) ys e =
    let none : take rest ys ≡ [] = ap (λ n. take n ys) e.0 in
    rw e.1 (none, ends_spends rest l ys e.2)

pub takes_spends : {R : Type 0} (k : Known R) (x y : Take R) (l : List ReadMark) → k.knows x.inner
    → ReadsWithin k.told x l y
    → k.knows y.inner × ReadsKnown (take x.limit (k.left x.inner)) l (take y.limit (k.left y.inner))
takes_spends k x y l know h =
    let on = k.tells x.inner y.inner h.front know h.ran in
    let front = fits_spends x.limit y.limit h.front _ _ h.fits on.1 in
    let whole = spends_both _ _ _ h.front h.ends front (ends_spends y.limit h.ends _ h.used_up) in
    (on.0, rw h.cut whole)

-- What is known of a `take`: the first of the inner reader's known bytes, up to the limit.
abbrev pub takes_known : {R : Type 0} → Known R → Known (Take R)
takes_known k = record {
  told = ReadsWithin k.told;
  knows = λ x. k.knows x.inner;
  left = λ x. take x.limit (k.left x.inner);
  tells = takes_spends k;
}

before_end : (l : List ReadMark) (xs ys zs : List ℕ) → EndlessMarks l → ReadsKnown xs l ys
    → ReadsKnown (xs ++ zs) l (ys ++ zs)
before_end [] xs ys zs n h = ap (λ v. v ++ zs) h
before_end (ReadMark.byte b ∷ l) xs ys zs n h = (h.0 ++ zs, ap (λ v. v ++ zs) h.1, before_end l h.0 ys zs n.1 h.2)
before_end (ReadMark.pending ∷ l) xs ys zs n h = before_end l xs ys zs n.1 h
before_end (ReadMark.fault kind ∷ l) xs ys zs n h = absurd h
before_end (ReadMark.end ∷ l) xs ys zs n h = absurd (n.0 refl)

module _ {R S : Type 0} (k : Known R) (j : Known S) where
  -- The bytes of both readers are known, and if the first has ended, none of its bytes is left.
  abbrev pub ChainKnows : Chain R S → Type 0
  ChainKnows x = k.knows x.first × j.knows x.second × (x.has_ended ≡ true → k.left x.first ≡ [])

  -- The bytes to come from a chain: those of the first reader, followed by those of the second.
  abbrev pub chain_left : Chain R S → List ℕ
  chain_left x = k.left x.first ++ j.left x.second

  joins_spends : (a b : Bool) (x y : Chain R S) (l : List ReadMark) → x.has_ended ≡ a → y.has_ended ≡ b → ChainKnows x
      → JoinsReaders k.told j.told a b x l y
      → ChainKnows y × ReadsKnown (chain_left x) l (chain_left y)
  joins_spends false false x y l at to know h =
      let on = k.tells x.first y.first l know.0 h.0 in (
        (on.0, rw h.2 know.1, λ e. absurd (cc (e, to))),
        rw (ap j.left h.2) (before_end l _ _ _ h.1 on.1),
      )
  joins_spends false true x y l at to know h =
      let one = k.tells x.first h.between h.before know.0 h.first_ran in
      let ended = k.tells h.between y.first (ReadMark.end ∷ []) one.0 h.first_ended in
      let two = j.tells x.second y.second h.after know.1 h.second_ran in
      let gone : k.left y.first ≡ [] = ended.1.1 ∙ ended.1.0 in
      let front = rw ended.1.0 at (before_end h.before _ _ (j.left x.second) h.no_end one.1) in
      ((ended.0, two.0, λ e. gone), rw (gone, h.cut) (spends_both _ _ _ h.before h.after front two.1))
  joins_spends true true x y l at to know h =
      let two = j.tells x.second y.second l know.1 h.0 in
      let gone : k.left y.first ≡ [] = ap k.left h.1 ∙ know.2 at in
      ((rw h.1 know.0, two.0, λ e. gone), rw (gone, know.2 at) two.1)
  joins_spends true false x y l at to know h = absurd h

  pub chains_spends : (x y : Chain R S) (l : List ReadMark) → ChainKnows x → ChainsReaders k.told j.told x l y
      → ChainKnows y × ReadsKnown (chain_left x) l (chain_left y)
  chains_spends x y l know h = joins_spends x.has_ended y.has_ended x y l refl refl know h

  -- What is known of a chain: the bytes of the first reader, followed by those of the second.
  abbrev pub chains_known : Known (Chain R S)
  chains_known =
      record {
        told = ChainsReaders k.told j.told;
        knows = ChainKnows;
        left = chain_left;
        tells = chains_spends;
      }
