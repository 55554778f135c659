-- `flat_map`: the function makes a stream of each item, and these streams are flattened.
use Rattle.std.specs.Prelude.{◌+◌, ◌++◌, Option, IfSome}
use Rattle.lite_reshape.specs.Uses.{Mut, Answer, Ranks, Calls, MakesAlways, Runs, Maps, AdapterParts, Through, parts_of, Map}
use Rattle.lite_reshape.specs.Flatten.{Flattening}
use Rattle.lite_reshape.specs.Inner.{CanStepFlat, FlatSteps, inner_rank}
use Rattle.lite_reshape.specs.declared.flat_map.FlatMap.{FlatMap}

-- The results of the streams that the function makes of the source's items, flattened as `Flattening` says.
abbrev pub FlatMaps : {S F V A B : Type 0} → Runs (Answer A) S → Mut F (A × Unit {0}) V → Runs (Answer B) V
    → Runs (Answer B) (FlatMap S V F)
FlatMaps run g run' x l y =
    Through (Maps run (Calls g)) (Flattening run') x.stream x.inner_stream l y.stream y.inner_stream

-- `Fact` holds of the value that is held, if any, and of each value that the function makes.
abbrev pub EachMade : {F X V : Type 0} → Mut F X V → (V → Type 0) → F → Option V → Type 0
EachMade g Fact f held = IfSome held Fact × MakesAlways g Fact f

-- A `FlatMap` consists of a `map` that yields streams, and of the stream that it holds.
abbrev pub flat_map_parts : {S V F : Type 0} → AdapterParts (FlatMap S V F) (Map S F) (Option V)
flat_map_parts =
    parts_of (λ m. m.stream) (λ m. m.inner_stream) (λ s h. record { stream = s; inner_stream = h }) (λ x y p. p)

-- The stream may be polled: the `map` may be polled, its source counts, and each stream that the function makes or that
-- is held may be polled.
abbrev pub CanFlatMap : {S V F X : Type 0} → Mut F X V → (Map S F → Type 0) → (S → Type 0) → (V → Type 0)
    → FlatMap S V F → Type 0
CanFlatMap g can_poll counts can_poll' x =
    can_poll x.stream × counts x.stream.stream × EachMade g can_poll' x.stream.f x.inner_stream

-- A step of a poll may be made: the `map` may be polled, its source counts, and each inner stream may be polled.
abbrev pub CanStepMap : {S V F A : Type 0} → Runs (Answer A) S → Mut F (A × Unit {0}) V
    → (Map S F → Type 0) → (S → Type 0) → (V → Type 0) → FlatMap S V F → Type 0
CanStepMap run g can_poll counts can_poll' =
    CanStepFlat flat_map_parts (Maps run (Calls g)) can_poll (λ m. counts m.stream) can_poll'

-- One step of a poll of a `flat_map`, after which another step may be made.
abbrev pub FlatMapSteps : {S F V A B : Type 0} → Runs (Answer A) S → Mut F (A × Unit {0}) V → Runs (Answer B) V
    → (FlatMap S V F → Type 0) → FlatMap S V F → Option (Answer B) → FlatMap S V F → Type 0
FlatMapSteps run g run' can_step = FlatSteps run' (Maps run (Calls g)) flat_map_parts can_step

-- The rank of the source, followed by that of the inner stream that is held. Each stream that the function makes has to
-- count.
abbrev pub flat_map_ranks : {S V F X : Type 0} → Mut F X V → Ranks S → Ranks V → Ranks (FlatMap S V F)
flat_map_ranks g r r' =
    record {
      width = r.width + r'.width;
      rank = λ m. r.rank m.stream.stream ++ inner_rank r'.width r'.rank m.inner_stream;
      counts = λ m. r.counts m.stream.stream × EachMade g r'.counts m.stream.f m.inner_stream;
      firm = λ m. r.firm m.stream.stream × EachMade g r'.firm m.stream.f m.inner_stream;
    }
