-- `zip`: each item of the first stream makes a pair with the second's next item. It is held while the second is
-- pending.
use Rattle.std.specs.Prelude.{◌≡◌, ◌⊎◌, ℕ, zero, suc, ◌+◌, List, [], ◌∷◌, Option, Some, None}
use Rattle.lite_merge.specs.Uses.{Poll, Ready, Pending, Lasting, Answer, end, item, Ranks, held_rank, Runs}
use Rattle.lite_merge.specs.declared.zip.Zip.{Zip}

-- The list `l` with `n` `Pending`s before it.
abbrev pub pendings : {A : Type 0} → ℕ → List (Poll A) → List (Poll A)
pendings zero l = l
pendings (suc n) l = Pending ∷ pendings n l

module _ {A B : Type 0} where
  -- What the first's item `x` and the second's next result make: a pair, or the end of the stream. With the end `x` is
  -- dropped.
  abbrev pub pair_with : A → Option B → Answer (A × B)
  pair_with x None = end
  pair_with x (Some y) = item (x, y)

  -- The second stream was pending to the end of the run, and the item `x` is held.
  abbrev pub SecondPending : A → List (Answer A) → List (Answer B) → List (Answer (A × B)) → Option A → Type 0
  SecondPending x is js out last = (n : ℕ) × (is ≡ []) × (js ≡ pendings n []) × (out ≡ pendings n []) × (last ≡ Some x)

  -- The second stream's `Pending`s, then the pair with its item or the end of the stream, and then what follows.
  abbrev pub Paired : A → (List (Answer B) → List (Answer (A × B)) → Option A → Type 0) → List (Answer B)
      → List (Answer (A × B)) → Option A → Type 0
  Paired x follows js out last =
      (n : ℕ) × (b : Option B) × (more : List (Answer B)) × (rest : List (Answer (A × B)))
      × (js ≡ pendings n (Ready b ∷ more)) × (out ≡ pendings n (pair_with x b ∷ rest)) × follows more rest last

  -- The results while the item `x` is held: `Pending`s, or the pair and what follows.
  abbrev pub WithHeld : A → List (Answer A) → (List (Answer B) → List (Answer (A × B)) → Option A → Type 0)
      → List (Answer B) → List (Answer (A × B)) → Option A → Type 0
  WithHeld x is follows js out last = SecondPending x is js out last ⊎ Paired x follows js out last

  -- The results of the first stream's list and the second's, with nothing held at first. `Pending` and the end of the
  -- first stream are passed on. An item of the first has no result of its own, because the same poll polls the second.
  abbrev pub Pairs : List (Answer A) → List (Answer B) → List (Answer (A × B)) → Option A → Type 0
  Pairs [] js out last = (js ≡ []) × (out ≡ []) × (last ≡ None)
  Pairs (a ∷ is) js [] last = ⊥
  Pairs (Pending ∷ is) js (c ∷ out) last = (c ≡ Pending) × Pairs is js out last
  Pairs (Ready None ∷ is) js (c ∷ out) last = (c ≡ end) × Pairs is js out last
  Pairs (Ready (Some x) ∷ is) js (c ∷ out) last = WithHeld x is (Pairs is) js (c ∷ out) last

  -- The results, if an item may be held at first. A held item comes before the first stream's list.
  abbrev pub Pairing : Option A → List (Answer A) → List (Answer B) → List (Answer (A × B)) → Option A → Type 0
  Pairing None is js out last = Pairs is js out last
  Pairing (Some x) is js out last = WithHeld x is (Pairs is) js out last

-- Both streams return some results, and the adapter's results are made of them. The first stream's `Pending` and end
-- are passed on. Each of its items is replaced by the second's `Pending`s, and then by the pair with the second's item
-- or by the end of the stream.
pub record Zips {S U A B : Type 0} (run : Runs (Answer A) S) (run' : Runs (Answer B) U)
    (x : Zip S U A) (out : List (Answer (A × B))) (y : Zip S U A) : Type 0 where
  pub firsts : List (Answer A)
  pub seconds : List (Answer B)
  pub came : run x.first firsts y.first
  pub then_came : run' x.second seconds y.second
  pub paired : Pairing x.item_slot firsts seconds out y.item_slot

-- What a poll that returns `Pending` registers: what the second stream registers while an item is held, and what the
-- first registers otherwise.
abbrev pub ZipRegisters : {S U A : Type 0} → (S → Lasting → Type 0) → (U → Lasting → Type 0) → Option A → S → U
    → Lasting → Type 0
ZipRegisters registers registers' None s u fact = registers s fact
ZipRegisters registers registers' (Some x) s u fact = registers' u fact

-- The rank of the first stream, followed by one number that counts the item held.
abbrev pub zip_ranks : {S U A : Type 0} → Ranks S → Ranks (Zip S U A)
zip_ranks r =
    record {
      width = r.width + 1;
      rank = λ m. held_rank (r.rank m.first) m.item_slot;
      counts = λ m. r.counts m.first;
      firm = λ m. r.firm m.first;
    }
