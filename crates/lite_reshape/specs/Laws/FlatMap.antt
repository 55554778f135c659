-- Laws about `flat_map`, whose function makes streams.
use Rattle.std.specs.Prelude.{◌≡◌, List, Option, Some, None}
use Rattle.lite_reshape.specs.Uses.{Mut, AllByRecursion, refl, subst, Ready, OptionBy, SameItem, Sameness, Answer, CalmLaws, calm_both, Terminates}
use Rattle.lite_reshape.specs.Uses.{ItemRun, Counting, Ranks, ranks_of, SteadyLawsBy, StreamLaws, runs_of, AgreeFrom, Calls, MakesAlways, all_split}
use Rattle.lite_reshape.specs.Uses.{OfItem, agree_from_matches, makes_on, Hints, NoHint, Runs, through_alike, through_steady_over, through_calm}
use Rattle.lite_reshape.specs.Uses.{laws_following, MayCallEach, PollsOn, through_counting, Maps, Map}
use Rattle.lite_base.specs.Calling.{Always}
use Rattle.lite_base.specs.Laws.Ranks.{counting_ends}
use Rattle.lite_stream.specs.Laws.Pointwise.{asks_always, exchanges_on, exchanges_steps, replaces_agreeing, replaces_answering, replaces_calming}
use Rattle.lite_stream.specs.Laws.Pointwise.{replaces_relating}
use Rattle.lite_stream.specs.Laws.Through.{laws_hinted}
use Rattle.lite_stream.specs.Map.{map_parts}
use Rattle.lite_stream.specs.Pointwise.{Replaces}
use Rattle.lite_reshape.specs.FlatMap.{CanFlatMap, EachMade, FlatMaps, flat_map_parts, flat_map_ranks}
use Rattle.lite_reshape.specs.Inner.{EachInner}
use Rattle.lite_reshape.specs.Laws.Calming.{flattening_calm}
use Rattle.lite_reshape.specs.Laws.Flatten.{each_inner_on, flattening, flattening_counting}
use Rattle.lite_reshape.specs.Laws.SteadyFlatten.{flattening_steady}
use Rattle.lite_reshape.specs.declared.flat_map.FlatMap.{FlatMap}

module _ {F A V : Type 0} (g : Mut F (A × Unit {0}) V) (Fact : V → Type 0) where
  made_here : (f q : F) (x : A) (y : Option V) → Always (Calls g) f x y q → MakesAlways g Fact f
      → OfItem Fact (Ready y) × MakesAlways g Fact q
  made_here f q x None called always = absurd called
  made_here f q x (Some w) called always =
      let on = makes_on g Fact f (x, tt) w q always called in
      (λ v e. let same : w ≡ v = cc e in subst Fact same on.0, on.1)

  -- A fact about each value that the function makes holds of each stream that it yields, and the function goes on to
  -- make such values.
  made_has : (f h : F) (i : List (Answer A)) (o : List (Answer V)) → Replaces (Calls g) f i o h → MakesAlways g Fact f
      → AllByRecursion (OfItem Fact) o × MakesAlways g Fact h
  made_has f h =
      exchanges_steps _ h
      (λ f i o. MakesAlways g Fact f → AllByRecursion (OfItem Fact) o × MakesAlways g Fact h) (λ k. (tt, k))
      (λ f i o k always. let r = k always in ((λ v e. cc e, r.0), r.1))
      (λ f i o k always. let r = k always in ((λ v e. cc e, r.0), r.1))
      (λ f q x y i o c k always. let here = made_here f q x y c always in let r = k here.1 in ((here.0, r.0), r.1)) f

  module _ {S B : Type 0} (run : Runs (Answer A) S) (run' : Runs (Answer B) V) where
    pub each_made : (x : Map S F) (held : Option V) → EachMade g Fact x.f held
        → EachInner (Maps run (Calls g)) Fact x held
    each_made x held each = (
      each.0,
      λ y before after v h.
          let made = (made_has x.f y.f h.ins _ h.related each.1).0 in
          (all_split _ before _ made).1.0 v refl,
    )

    pub made_promises : (x y : FlatMap S V F) (l : List (Answer B)) → EachMade g Fact x.stream.f x.inner_stream
        → FlatMaps run g run' x l y
        → MakesAlways g Fact y.stream.f
    made_promises x y l each h = (made_has x.stream.f y.stream.f h.came.ins h.ins h.came.related each.1).1

    each_made_on : ((b c : V) (l : List (Answer B)) → Fact b → run' b l c → Fact c)
        → {can_poll : Map S F → Type 0} {hints : Hints (Map S F)} → StreamLaws can_poll (Maps run (Calls g)) hints
        → (x y : FlatMap S V F) (l : List (Answer B)) → EachMade g Fact x.stream.f x.inner_stream
        → FlatMaps run g run' x l y
        → EachMade g Fact y.stream.f y.inner_stream
    each_made_on kept laws x y l each h =
        let made = each_made x.stream x.inner_stream each in
        let inner = each_inner_on run' _ Fact kept laws _ _ _ _ l made h in
        (inner.0, made_promises x y l each h)

module _ {S F A V : Type 0} (g : Mut F (A × Unit {0}) V) {run : Runs (Answer A) S} where
  -- The laws of the `map` that makes the inner streams.
  pub outer_laws : {can_poll : S → Type 0} {hints : Hints S} → StreamLaws can_poll run hints
      → StreamLaws (λ m. can_poll m.stream × MayCallEach run g m.stream m.f) (Maps run (Calls g))
      (λ (m : Map S F) hint. hints m.stream hint)
  outer_laws laws =
      laws_hinted map_parts laws (replaces_relating _) (exchanges_on _ (Calls g) (asks_always _) map_parts laws)

  module _ {r : Ranks S} (c : Counting run r) where
    outer_counting : Counting (Maps run (Calls g)) (ranks_of (λ (m : Map S F). m.stream) r)
    outer_counting = through_counting map_parts c (replaces_relating _)

    -- No chain of streams that are made of items is endless.
    pub made_end : (x : Map S F) → r.counts x.stream → Terminates (ItemRun (Maps run (Calls g))) x
    made_end = counting_ends (outer_counting)

  module _ {B : Type 0} {run' : Runs (Answer B) V} {can_poll : S → Type 0} {hints : Hints S} where
    -- A `flat_map` may be polled after any run.
    flat_map_on : {r : Ranks S} {can_poll' : V → Type 0} → StreamLaws can_poll run hints → Counting run r
        → PollsOn can_poll' run'
        → PollsOn (CanFlatMap g (λ m. can_poll m.stream × MayCallEach run g m.stream m.f) r.counts can_poll')
        (FlatMaps run g run')
    flat_map_on {can_poll'} laws c on x y l k h =
        let outer = outer_laws laws in (
          outer.polls_on x.stream y.stream h.ins k.0 h.came,
          c.counts_on x.stream.stream y.stream.stream h.came.ins k.1 h.came.came,
          each_made_on g can_poll' run run' on outer x y l k.2 h,
        )

    pub flat_map_laws : {r : Ranks S} {can_poll' : V → Type 0} {hints' : Hints V} → StreamLaws can_poll run hints
        → Counting run r → StreamLaws can_poll' run' hints'
        → StreamLaws (CanFlatMap g (λ m. can_poll m.stream × MayCallEach run g m.stream m.f) r.counts can_poll')
        (FlatMaps run g run') NoHint
    flat_map_laws laws c laws' =
        laws_following flat_map_parts (outer_laws laws) (flattening (runs_of laws'))
        (flat_map_on laws c laws'.polls_on)

    pub flat_map_counting : {r : Ranks S} {r' : Ranks V} → StreamLaws can_poll run hints → Counting run r → Counting run' r'
        → Counting (FlatMaps run g run') (flat_map_ranks g r r')
    flat_map_counting {r} {r'} laws c c' =
        let outer = outer_laws laws in
        let all = flattening_counting flat_map_parts outer (outer_counting c) c' in
        record {
          sized = all.sized;
          counts_on = λ x y l k h.
              let made = each_made_on g r'.counts run run' c'.counts_on outer x y l k.1 h in
              (c.counts_on x.stream.stream y.stream.stream h.came.ins k.0 h.came.came, made);
          firm_on = λ x y l k h.
              let made = each_made_on g r'.firm run run' c'.firm_on outer x y l k.1 h in
              (c.firm_on x.stream.stream y.stream.stream h.came.ins k.0 h.came.came, made);
          falls = λ x y a more k h. all.falls x y a more
              (k.0, each_made g r'.counts run run' x.stream x.inner_stream k.1) h;
          lowers = λ x y l k h. all.lowers x y l (k.0, each_made g r'.firm run run' x.stream x.inner_stream k.1) h;
        }

module _ {S F A V B : Type 0} (g : Mut F (A × Unit {0}) V) {run ample : Runs (Answer A) S}
    {run' found : Runs (Answer B) V}
    {none none' : Type 0} {alike : S → S → Type 0} {alike' : V → V → Type 0} where
  -- The steadiness of `flat_map`: the functions make streams that are alike of items that are the same.
  pub flat_map_steady : (like : Sameness A) (same : Sameness B) → SteadyLawsBy like run ample none alike
      → SteadyLawsBy same run' found none' alike'
      → SteadyLawsBy same (FlatMaps run g run') (FlatMaps ample g found) (none × none')
      (λ (x y : FlatMap S V F).
      alike x.stream.stream y.stream.stream × AgreeFrom (SameItem like) alike' (Calls g) x.stream.f y.stream.f
      × OptionBy alike' x.inner_stream y.inner_stream)
  flat_map_steady like same s =
      let outer = through_steady_over map_parts like _ s
      (replaces_relating _).following (replaces_answering _ like) in
      let made = replaces_agreeing _ like (Sameness.by alike')
      (agree_from_matches _ alike' _) in
      flattening_steady flat_map_parts same
      (λ x y e. (
        through_alike map_parts x.stream y.stream (s.steady x.stream.stream y.stream.stream e.0) e.1 made,
        e.2,
      )) outer.laws outer.found

-- A `flat_map` is calm, if its source is and its function makes calm streams.
pub flat_map_calm : {S F A V B : Type 0} (g : Mut F (A × Unit {0}) V) {run : Runs (Answer A) S}
    {run' : Runs (Answer B) V}
    {can_poll : S → Type 0} {hints : Hints S} {is_calm : S → Type 0} {calm : V → Type 0}
    → StreamLaws can_poll run hints → CalmLaws run is_calm → CalmLaws run' calm
    → CalmLaws (FlatMaps run g run')
    (λ (m : FlatMap S V F). is_calm m.stream.stream × EachMade g calm m.stream.f m.inner_stream)
flat_map_calm g {run} {run'} {calm} laws c d =
    let outer = outer_laws g laws in
    let all =
    flattening_calm d flat_map_parts outer (through_calm map_parts c (replaces_calming _)) in
    calm_both
    (λ x y l k h. (
      all.no_pending x y l (k.0, each_made g calm run run' x.stream x.inner_stream k.1) h,
      (c.calm_on _ _ h.came.ins k.0 h.came.came, each_made_on g calm run run' d.calm_on outer x y l k.1 h),
    ))
