-- `or`: two streams are merged, and the first is polled first in each row.
use Rattle.std.specs.Prelude.{map, true}
use Rattle.lite_merge.specs.Uses.{Answer, Ranks, Runs}
use Rattle.lite_merge.specs.Merge.{Merges, merge_ranks}
use Rattle.lite_merge.specs.declared.or.Or.{Or}

-- Both streams' results, each through its first end, merged row by row. The first stream is polled first, and the
-- second only if the first yields no item.
abbrev pub Ors : {S U A : Type 0} → Runs (Answer A) S → Runs (Answer A) U → Runs (Answer A) (Or S U)
Ors run run' x out y = Merges run run' (map (λ _. true) out) x.stream1 x.stream2 out y.stream1 y.stream2

-- The rank of an `or` over two streams with ranks. It counts if both do.
abbrev pub or_ranks : {S U : Type 0} → Ranks S → Ranks U → Ranks (Or S U)
or_ranks r r' = merge_ranks (λ m. m.stream1) (λ m. m.stream2) r r' r.counts r'.counts
