-- `filter_map`: what the function returns for the items, without those for which it returns `None`.
use Rattle.std.specs.Prelude.{Option}
use Rattle.lite_reshape.specs.Uses.{Answer, Ranks, Question, Runs, AdapterParts, Through, parts_of}
use Rattle.lite_reshape.specs.Leaving.{LeavesOut}
use Rattle.lite_reshape.specs.declared.filter_map.FilterMap.{FilterMap}

-- The stream may be polled: the source may be polled, its rank counts, and the function may be called with each of its
-- items.
abbrev pub CanFilterMap : {S F : Type 0} → (S → Type 0) → Ranks S → (S → F → Type 0) → FilterMap S F → Type 0
CanFilterMap can_poll ranks asks x = can_poll x.stream × ranks.counts x.stream × asks x.stream x.f

-- The source's results, each item replaced by the content of the `Some` that the function returns, or left out if it
-- returns `None`.
abbrev pub FilterMaps : {S F A B : Type 0} → Runs (Answer A) S → Question F A (Option B)
    → Runs (Answer B) (FilterMap S F)
FilterMaps run call x l y = Through run (LeavesOut call) x.stream x.f l y.stream y.f

-- A `FilterMap` consists of its source and its function.
abbrev pub filter_map_parts : {S F : Type 0} → AdapterParts (FilterMap S F) S F
filter_map_parts = parts_of (λ m. m.stream) (λ m. m.f) (λ s h. record { stream = s; f = h }) (λ x y p. p)
