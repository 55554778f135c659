-- Laws about `or`.
use Rattle.std.specs.Prelude.{[], None}
use Rattle.futures.specs.Task.{Lasting}
use Rattle.lite_base.specs.Armed.{Arms}
use Rattle.lite_merge.specs.Uses.{refl, map-append, Answer, CalmLaws, calm_both, same_hint, Counting, Ranks, StreamLaws, Hints, NoHint, Runs}
use Rattle.lite_base.specs.Laws.Segments.{rows_empty}
use Rattle.lite_merge.specs.Laws.Merge.{merges_arms, first_falls, fused_laws, merges_calm, merges_follow, merges_keep, merges_lower, merges_sized}
use Rattle.lite_merge.specs.Merge.{MergeRegisters, MergeRow}
use Rattle.lite_merge.specs.Or.{Ors, or_ranks}
use Rattle.lite_merge.specs.declared.or.Or.{Or}

module _ {S U A : Type 0} {run : Runs (Answer A) S} {run' : Runs (Answer A) U} where
  pub or_laws : {can_poll : S → Type 0} {hints : Hints S} {can_poll' : U → Type 0} {hints' : Hints U} → StreamLaws can_poll run hints → StreamLaws can_poll' run' hints'
      → StreamLaws (λ m. can_poll m.stream1.stream × can_poll' m.stream2.stream) (Ors run run') NoHint
  or_laws s u =
      record {
        rests = λ x. record {
          firsts = [];
          seconds = [];
          came = (fused_laws s).rests x.stream1;
          then_came = (fused_laws u).rests x.stream2;
          rows = (refl, refl, refl);
        };
        stays = λ x y h.
            let e = rows_empty MergeRow [] h.firsts h.seconds h.rows in
            λ i. record {
              stream1 = ((fused_laws s).stays x.stream1 y.stream1 (rw e.0 at h.came)) i;
              stream2 = ((fused_laws u).stays x.stream2 y.stream2 (rw e.1 at h.then_came)) i;
            };
        follows = λ x y z l m h k. rw map-append (merges_follow s u h k);
        bounded = λ x y hint l e h. same_hint hint (0, None) l e tt;
        polls_on = λ x y l. merges_keep s.polls_on u.polls_on;
      }

  -- An `or` of two calm streams is calm.
  pub or_calm : {is_calm : S → Type 0} {is_calm' : U → Type 0} → CalmLaws run is_calm → CalmLaws run' is_calm'
      → CalmLaws (Ors run run') (λ (x : Or S U). is_calm x.stream1.stream × is_calm' x.stream2.stream)
  or_calm c d = calm_both (λ x y l. merges_calm c d)

  pub or_counting : {can_poll' : U → Type 0} {hints' : Hints U} {r : Ranks S} {r' : Ranks U} → StreamLaws can_poll' run' hints' → Counting run r
      → Counting run' r' → Counting (Ors run run') (or_ranks r r')
  or_counting u c d =
      record {
        sized = λ x. merges_sized c d x.stream1.stream x.stream2.stream;
        counts_on = λ x y l. merges_keep c.counts_on d.counts_on;
        firm_on = λ x y l. merges_keep c.firm_on d.firm_on;
        falls = λ x y. first_falls c d u;
        lowers = λ x y l. merges_lower c d;
      }

  -- An `or` of two armed streams is armed.
  pub or_arms : {registers : S → Lasting → Type 0} {registers' : U → Lasting → Type 0} → Arms run registers
      → Arms run' registers'
      → Arms (Ors run run') (λ (x : Or S U). MergeRegisters registers registers' x.stream1 x.stream2)
  or_arms a b = record { at = λ x y l e h. merges_arms a b e h }
