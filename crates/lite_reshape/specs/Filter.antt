-- `filter`: the items that the predicate rejects are left out.
use Rattle.std.specs.Prelude.{Bool}
use Rattle.lite_reshape.specs.Uses.{Answer, Ranks, Accepts, Question, Runs, AdapterParts, Through, parts_of}
use Rattle.lite_reshape.specs.Leaving.{LeavesOut}
use Rattle.lite_reshape.specs.declared.filter.Filter.{Filter}

-- The stream may be polled: the source may be polled, its rank counts, and the predicate may be called with each of its
-- items.
abbrev pub CanFilter : {S F : Type 0} → (S → Type 0) → Ranks S → (S → F → Type 0) → Filter S F → Type 0
CanFilter can_poll ranks asks x = can_poll x.stream × ranks.counts x.stream × asks x.stream x.predicate

-- The source's results without the items that the predicate rejects.
abbrev pub Filters : {S F A : Type 0} → Runs (Answer A) S → Question F A Bool → Runs (Answer A) (Filter S F)
Filters run test x l y = Through run (LeavesOut (Accepts test)) x.stream x.predicate l y.stream y.predicate

-- A `Filter` consists of its source and its predicate.
abbrev pub filter_parts : {S F : Type 0} → AdapterParts (Filter S F) S F
filter_parts = parts_of (λ m. m.stream) (λ m. m.predicate) (λ s h. record { stream = s; predicate = h }) (λ x y p. p)
