-- Two streams that are merged row by row. Each row makes one result: it polls one stream first, and the other if that
-- one yields no item.
use Rattle.std.specs.Prelude.{◌≡◌, ◌⊎◌, ◌+◌, List, ◌∷◌, ◌++◌, Bool, false, Some, None}
use Rattle.lite_merge.specs.Uses.{Ready, Pending, Lasting, Answer, item, Ranks, Runs, Fuses, Fuse}
use Rattle.lite_base.specs.Segments.{Rows}

-- A stream, and whether it has ended.
abbrev pub fused : {S : Type 0} → S → Bool → Fuse S
fused s d = record { stream = s; done = d }

-- What a contract sees of an `or`: its streams, each with whether it has ended.
pub record BothFused (S U : Type 0) : Type 0 where
  pub stream1 : Fuse S
  pub stream2 : Fuse U

-- What a contract sees of a `race`: its streams, each with whether it has ended, and its generator.
pub record BothRaced (S U R : Type 0) : Type 0 where
  pub stream1 : Fuse S
  pub stream2 : Fuse U
  pub rng : R

-- The result of a row in which one stream is pending and the other returns this: its item, or `Pending`, also if it has
-- ended.
abbrev pub beside_pending : {A : Type 0} → Answer A → Answer A
beside_pending Pending = Pending
beside_pending (Ready None) = Pending
beside_pending (Ready (Some y)) = item y

-- One row of two lists, and what is left of them. If the first stream yields an item, that is the result, and the
-- second is not polled. Otherwise the second's item is the result, or the end of the stream if both have ended, or
-- `Pending`.
abbrev pub MergeRow : {A : Type 0} (i j : List (Answer A)) (c : Answer A) (i' j' : List (Answer A)) → Type 0
MergeRow (Ready (Some x) ∷ i) j c i' j' = (c ≡ item x) × (i' ≡ i) × (j' ≡ j)
MergeRow (Ready None ∷ i) (b ∷ j) c i' j' = (c ≡ b) × (i' ≡ i) × (j' ≡ j)
MergeRow (Pending ∷ i) (b ∷ j) c i' j' = (c ≡ beside_pending b) × (i' ≡ i) × (j' ≡ j)
MergeRow i j c i' j' = ⊥

-- The two lists are read row by row. For each row `order` says whether the first stream is polled first.
abbrev pub MergeRows : {A : Type 0} (order : List Bool) (i j out : List (Answer A)) → Type 0
MergeRows = Rows MergeRow

-- Two streams are merged. Each is fused: it is not polled after its first end, and counts as ended from there on.
-- `order` says for each row which stream is polled first.
pub record Merges {S U A : Type 0} (run : Runs (Answer A) S) (run' : Runs (Answer A) U)
    (order : List Bool) (s : Fuse S) (u : Fuse U) (out : List (Answer A)) (t : Fuse S) (v : Fuse U) : Type 0 where
  pub firsts : List (Answer A)
  pub seconds : List (Answer A)
  pub came : Fuses run s firsts t
  pub then_came : Fuses run' u seconds v
  pub rows : MergeRows order firsts seconds out

-- What a poll that returns `Pending` registers with one stream: what the stream registers, if it has not ended.
abbrev pub OpenRegisters : {S : Type 0} → (S → Lasting → Type 0) → Fuse S → Lasting → Type 0
OpenRegisters registers s fact = (s.done ≡ false) × registers s.stream fact

-- What a poll that returns `Pending` registers: what each of the two streams registers that has not ended.
abbrev pub MergeRegisters : {S U : Type 0} → (S → Lasting → Type 0) → (U → Lasting → Type 0) → Fuse S → Fuse U → Lasting
    → Type 0
MergeRegisters registers registers' s u fact = OpenRegisters registers s fact ⊎ OpenRegisters registers' u fact

-- The second stream's rank followed by the first's. It counts if `counts` holds of the first stream and `counts'` of
-- the second. It is firm if both are.
abbrev pub merge_ranks : {M S U : Type 0} → (M → Fuse S) → (M → Fuse U) → (r : Ranks S) → (r' : Ranks U) → (S → Type 0)
    → (U → Type 0) → Ranks M
merge_ranks first second r r' counts counts' =
    record {
      width = r'.width + r.width;
      rank = λ m. r'.rank (second m).stream ++ r.rank (first m).stream;
      counts = λ m. counts (first m).stream × counts' (second m).stream;
      firm = λ m. r.firm (first m).stream × r'.firm (second m).stream;
    }
