-- What follows from the laws of a counted reader's rank.
use Rattle.std.specs.Prelude.{◌≡◌, ◌<◌, ℕ, zero, suc, ◌+◌, List, [], ◌∷◌, ◌++◌, length, refl}
use Rattle.lite_io_base.specs.Uses.{inl, arith, ap, replicate, length-replicate, Terminates, AtMost, Below, Runs, Ranks, number_ranks}
use Rattle.lite_base.specs.Laws.Ranks.{AtMost-both, AtMost-length, Below-after, Below-first, Below-trans, at_most_one, ranked_ends}
use Rattle.std.proofs.Common.{inr, zero-add}
use Rattle.lite_io_base.specs.Counting.{Falls, ReadCounting}
use Rattle.lite_io_base.specs.Marks.{AllGiven, ReadMark, bytes, given_count}
use Rattle.lite_io_base.specs.Laws.Marks.{bytes_given, given_all}

-- What follows if reading lowers a rank.

pub falls_at_most : (n : ℕ) (xs ys : List ℕ) → Falls n xs ys → AtMost xs ys
falls_at_most zero xs ys h = h
falls_at_most (suc n) xs ys h = inr h

pub falls_of_below : (n : ℕ) (xs ys : List ℕ) → Below xs ys → Falls n xs ys
falls_of_below zero xs ys h = inr h
falls_of_below (suc n) xs ys h = h

-- A run of at least one byte or error, and of no other marks.
abbrev pub GivenRun : {S : Type 0} → Runs ReadMark S → S → S → Type 0
GivenRun run x y = (m : ReadMark) × (more : List ReadMark) × AllGiven (m ∷ more) × run x (m ∷ more) y

-- A step that consumes at least one byte is a run of bytes.
pub given_of : {S : Type 0} (reads : Runs ReadMark S) (s t : S) (xs : List ℕ) → 0 < length xs → reads s (bytes xs) t
    → GivenRun reads s t
given_of reads s t [] some h = absurd (omega (arith, some))
given_of reads s t (x ∷ xs) some h = (ReadMark.byte x, bytes xs, bytes_given (x ∷ xs), h)

module _ {S : Type 0} (run : Runs ReadMark S) (counts : S → Type 0) (rank : S → List ℕ)
    (kept : (x y : S) (l : List ReadMark) → counts x → run x l y → counts y)
    (falls : (x y : S) (l : List ReadMark) → counts x → AllGiven l → run x l y
    → Falls (length l) (rank y) (rank x)) where
  -- From a value that counts, no chain of runs of bytes and errors is endless.
  pub counted_ends : (x : S) → counts x → Terminates (GivenRun run) x
  counted_ends =
      ranked_ends _ counts rank (λ x y c h. kept x y _ c h.3) (λ x y c h. falls x y _ c h.2 h.3)

-- The rank of a reader that holds some bytes of another one: the inner rank, followed by the number of bytes held. It
-- falls by `n` if the inner rank falls by `k`, when `k` bytes and errors came in, `n` were passed on, and the bytes
-- held went from `p` to `q`.
pub falls_held : (k n p q : ℕ) (xs ys : List ℕ) → Falls k xs ys → k + p ≡ n + q → Falls n (xs ++ q ∷ []) (ys ++ p ∷ [])
falls_held (suc k) n p q xs ys h e = falls_of_below n _ _ (Below-first _ _ _ _ h refl)
falls_held zero zero p q xs ys h e = AtMost-both xs ys (q ∷ []) (p ∷ []) h (at_most_one q p (omega arith))
falls_held zero (suc n) p q xs ys h e = Below-after xs ys (q ∷ []) (p ∷ []) h (inl (omega arith, refl))

falls_after : (n : ℕ) (xs ys us vs : List ℕ) → AtMost xs ys → Falls n us vs → Falls n (xs ++ us) (ys ++ vs)
falls_after zero xs ys us vs = AtMost-both xs ys us vs
falls_after (suc n) xs ys us vs = Below-after xs ys us vs

at_most_trans : (xs ys zs : List ℕ) → AtMost xs ys → AtMost ys zs → AtMost xs zs
at_most_trans xs ys zs h k =
    elim h [
      | inl e ↦ rw e k
      | inr p ↦ elim k [ inl e ↦ inr (rw (← e) p) | inr q ↦ inr (Below-trans xs ys zs p q) ]
    ]

-- Two ranks, one appended to the other, fall by the sum of their falls.
pub falls_both : (m n : ℕ) (xs ys us vs : List ℕ) → Falls m xs ys → Falls n us vs → Falls (m + n) (xs ++ us) (ys ++ vs)
falls_both zero n xs ys us vs h k = rw zero-add (falls_after n xs ys us vs h k)
falls_both (suc m) n xs ys us vs h k =
    falls_of_below _ _ _ (Below-first xs ys us vs h (AtMost-length us vs (falls_at_most n us vs k)))

-- No rank is below zeros.
pub zeros_least : (xs : List ℕ) → AtMost (replicate (length xs) 0) xs
zeros_least [] = inl refl
zeros_least (zero ∷ xs) = elim (zeros_least xs) [ inl e ↦ inl (ap (λ l. 0 ∷ l) e) | inr p ↦ inr (inr (refl, p)) ]
zeros_least (suc x ∷ xs) = inr (inl (omega arith, length-replicate _ 0))

pub falls_to_zeros : (n : ℕ) (xs ys : List ℕ) → Falls n xs ys → Falls n (replicate (length xs) 0) ys
falls_to_zeros zero xs ys h = at_most_trans (replicate _ 0) xs ys (zeros_least xs) h
falls_to_zeros (suc n) xs ys h =
    elim (zeros_least xs) [
      | inl e ↦ rw e h
      | inr p ↦ Below-trans
          (replicate _ 0) xs ys p h
    ]

module _ {S : Type 0} {reads : Runs ReadMark S} where
  -- From a value whose rank counts, no chain of runs of bytes and errors is endless.
  pub counting_ends : {r : Ranks S} → ReadCounting reads r → (x : S) → r.counts x → Terminates (GivenRun reads) x
  counting_ends {r} c = counted_ends reads r.counts r.rank c.counts_on c.falls

  -- A reader is counted if each byte and each error lowers a number, and nothing raises it.
  pub number_counting : {number : S → ℕ}
      → ((x y : S) (l : List ReadMark) → reads x l y → Falls (given_count l) (number y ∷ []) (number x ∷ []))
      → ReadCounting reads (number_ranks number)
  number_counting lowers = record {
    sized = λ x. refl;
    counts_on = λ x y l c h. tt;
    firm_on = λ x y l c h. tt;
    falls = λ x y l c g h. rw (← (given_all l g)) (lowers x y l h);
    lowers = λ x y l c h. lowers x y l h;
  }
