-- Laws about `race`.
use Rattle.std.specs.Prelude.{◌≡◌, List, [], ◌∷◌, ◌++◌, None}
use Rattle.futures.specs.Task.{Lasting}
use Rattle.lite_base.specs.Armed.{Arms, EndsPending}
use Rattle.lite_merge.specs.Uses.{refl, inl, map-append, Stream, Answer, items, CalmLaws, NoPending, calm_both}
use Rattle.lite_merge.specs.Uses.{same_hint, Lowers, Counting, PollsOn, Ranks, StreamLaws, Hints, NoHint, Runs}
use Rattle.lite_base.specs.Laws.Calling.{folds_follow}
use Rattle.rand_core.specs.Stream.{next_u32}
use Rattle.std.proofs.Common.{append-nil}
use Rattle.lite_merge.specs.Laws.Merge.{merges_arms, merges_calm, merges_follow, merges_keep, merges_lower, merges_sized}
use Rattle.lite_merge.specs.Merge.{MergeRegisters}
use Rattle.lite_merge.specs.Race.{RacesOn, race_ranks}
use Rattle.lite_merge.specs.declared.race.Race.{Race}

module _ {S U R A : Type 0} {run : Runs (Answer A) S} {run' : Runs (Answer A) U} (stream : R → Stream) where
  race_on : {can_first : S → Type 0} {can_second : U → Type 0} → PollsOn can_first run → PollsOn can_second run'
      → PollsOn (λ (x : Race S U R). can_first x.stream1.stream × can_second x.stream2.stream)
      (RacesOn run run' stream)
  race_on on also x y [] c h = rw h c
  race_on on also x y (a ∷ l) c h = merges_keep on also c h.merges

  module _ {can_poll : S → Type 0} {hints : Hints S} {can_poll' : U → Type 0} {hints' : Hints U} (s : StreamLaws can_poll run hints) (u : StreamLaws can_poll' run' hints') where
    module _ (x y z : Race S U R) where
      races_follow : (l m : List (Answer A)) → RacesOn run run' stream x l y → RacesOn run run' stream y m z
          → RacesOn run run' stream x (l ++ m) z
      races_follow [] m h k = rw h at k
      races_follow (c ∷ l) [] h k = rw (append-nil (c ∷ l)) (rw k h)
      races_follow (c ∷ l) (d ∷ m) h k =
          record {
            words = h.words ++ k.words;
            drawn =
                folds_follow (λ s word left. (word, left) ≡ next_u32 s) (stream x.rng) (stream y.rng) (stream z.rng)
                h.words k.words h.drawn k.drawn;
            merges = rw map-append (merges_follow s u h.merges k.merges);
          }

    pub race_laws : StreamLaws (λ m. can_poll m.stream1.stream × can_poll' m.stream2.stream)
        (RacesOn run run' stream) NoHint
    race_laws = record {
      rests = λ x. refl;
      stays = λ x y h. h;
      follows = races_follow;
      bounded = λ x y hint l e h. same_hint hint (0, None) l e tt;
      polls_on = race_on s.polls_on u.polls_on;
    }

  module _ {is_calm : S → Type 0} {is_calm' : U → Type 0} (c : CalmLaws run is_calm) (d : CalmLaws run' is_calm') where
    calm_run : (x y : Race S U R) (l : List (Answer A)) → is_calm x.stream1.stream × is_calm' x.stream2.stream
        → RacesOn run run' stream x l y → NoPending l × (is_calm y.stream1.stream × is_calm' y.stream2.stream)
    calm_run x y [] k h = rw h (tt, k)
    calm_run x y (a ∷ l) k h = merges_calm c d k h.merges

    -- A `race` of two calm streams is calm.
    pub race_calm : CalmLaws (RacesOn run run' stream)
        (λ (x : Race S U R). is_calm x.stream1.stream × is_calm' x.stream2.stream)
    race_calm = calm_both calm_run

  module _ {registers : S → Lasting → Type 0} {registers' : U → Lasting → Type 0} (a : Arms run registers)
      (b : Arms run' registers') where
    arms_run : (x y : Race S U R) (l : List (Answer A)) → EndsPending l → RacesOn run run' stream x l y
        → MergeRegisters registers registers' y.stream1 y.stream2 Lasting.armed
    arms_run x y [] e h = absurd (cc e)
    arms_run x y (c ∷ l) e h = merges_arms a b e h.merges

    -- A `race` of two armed streams is armed.
    pub race_arms : Arms (RacesOn run run' stream)
        (λ (x : Race S U R). MergeRegisters registers registers' x.stream1 x.stream2)
    race_arms = record { at = arms_run }

  module _ {r : Ranks S} {r' : Ranks U} (c : Counting run r) (d : Counting run' r') where
    firm_run : (x y : Race S U R) (l : List (Answer A)) → r.firm x.stream1.stream × r'.firm x.stream2.stream
        → RacesOn run run' stream x l y → r.firm y.stream1.stream × r'.firm y.stream2.stream
    firm_run x y [] k h = rw h k
    firm_run x y (a ∷ l) k h = merges_keep c.firm_on d.firm_on k h.merges

    lower_run : (x y : Race S U R) (l : List (Answer A)) → r.firm x.stream1.stream × r'.firm x.stream2.stream
        → RacesOn run run' stream x l y → Lowers l ((race_ranks r r').rank y) ((race_ranks r r').rank x)
    lower_run x y [] k h = rw h (inl refl)
    lower_run x y (a ∷ l) k h = merges_lower c d k h.merges

    pub race_counting : Counting (RacesOn run run' stream) (race_ranks r r')
    race_counting =
        record {
          sized = λ x. merges_sized c d x.stream1.stream x.stream2.stream;
          counts_on = firm_run;
          firm_on = firm_run;
          falls = λ x y a more k h. lower_run x y (items (a ∷ more)) k h;
          lowers = lower_run;
        }
