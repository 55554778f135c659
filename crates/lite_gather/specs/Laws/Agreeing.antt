-- Laws of collections: they gather the same of items that are the same, if no allocation failed.
use Rattle.std.specs.Prelude.{Result, Ok, Err, Bool, true, false, map, IfSome, IsSome, ◌≡◌, List, [], ◌∷◌, ◌++◌, Option, Some, None}
use Rattle.lite_gather.specs.Uses.{subst, sym, OptionBy, SameErr, SameItem, SameOk, Sameness, AgreeFrom, Question}
use Rattle.lite_base.specs.Laws.Alike.{option_by}
use Rattle.lite_consume.specs.Agreeing.{FoldSteadyLaws}
use Rattle.lite_consume.specs.Laws.Matching.{SameAsked, matched}
use Rattle.std.proofs.lemmas.List.{map-append}
use Rattle.std.proofs.lemmas.List.Elements.{AllZip-push}
use Rattle.lite_gather.specs.Agreeing.{HoldsParts, HoldsSame, HoldsSameBoth, HoldsSameParts, SameCollected}
use Rattle.lite_gather.specs.Agreeing.{TrySameCollected, Unmixed}
use Rattle.lite_gather.specs.Collect.{collects}
use Rattle.lite_gather.specs.Gathering.{NeverRefuses, Took}
use Rattle.lite_gather.specs.Partition.{Sorted, Unsorted, partitions}
use Rattle.lite_gather.specs.TryCollect.{tries_collect}
use Rattle.lite_gather.specs.Unzip.{RefusedOne, unzips}
use Rattle.lite_gather.specs.declared.refused.UnzipRefused.{UnzipRefused}
use Rattle.lite_gather.specs.declared.refused.UnzipRefused.TheVariants.{Left, Right}

-- Two collections that are there are the same.
some_by : {C : Type 0} (same : C → C → Type 0) {q l : Option C} {c d : C} → q ≡ Some c → l ≡ Some d → same c d
    → OptionBy same q l
some_by same e f h = rw (e, f) h

there : {C : Type 0} (same : C → C → Type 0) {p k : Option C} {c d : C} → OptionBy same p k → p ≡ Some c
    → k ≡ Some d → same c d
there same = option_by same _ _ _ _

ok_by : {C E : Type 0} (same : C → C → Type 0) {r t : Result C E} {c d : C} → r ≡ Ok c → t ≡ Ok d → same c d
    → SameCollected same r t
ok_by same e f h = rw (e, f) h

took_same : {C T : Type 0} (like : Sameness T) (holds : C → List T → Type 0) {c d c' d' : C} (x w : T)
    → HoldsSame like holds c d → SameItem like x w → Took holds c x c' → Took holds d w d' → HoldsSame like holds c' d'
took_same Sameness.equal holds {d' = d'} x w h e k g =
    (h.0 ++ x ∷ [], k h.0 h.1, subst (λ v. holds d' (h.0 ++ v ∷ [])) (sym e) (g h.0 h.2))
took_same (Sameness.by same) holds x w h e k g =
    (h.0 ++ x ∷ [], h.1 ++ w ∷ [], k h.0 h.2, g h.1 h.3, AllZip-push same h.0 h.1 x w h.4 e)

-- Collections that hold nothing are the same.
pub none_held : {C T : Type 0} (like : Sameness T) (holds : C → List T → Type 0) (c d : C) → holds c [] → holds d []
    → HoldsSame like holds c d
none_held Sameness.equal holds c d h k = ([], h, k)
none_held (Sameness.by same) holds c d h k = ([], [], h, k, tt)

-- Two collections that are there and hold nothing are the same.
pub both_there : {C : Type 0} {same : C → C → Type 0} {empty : C → Type 0} → ((c d : C) → empty c → empty d → same c d)
    → (p k : Option C) → IsSome p → IsSome k → IfSome p empty → IfSome k empty
    → OptionBy same p k
both_there none None k h g e d = cc
both_there none (Some c) None h g e d = cc
both_there none (Some c) (Some b) h g e d = none c b e d

module _ {C T : Type 0} (like : Sameness T) (holds : C → List T → Type 0) where
  -- The two collections hold items that are the same.
  abbrev HoldsLike : C → C → Type 0
  HoldsLike = HoldsSame like holds

  collect_asked : SameAsked (SameItem like) (SameCollected HoldsLike) (collects NeverRefuses holds)
      (OptionBy HoldsLike)
  collect_asked p k q l x w None None a e h g =
      some_by HoldsLike h.4 g.4 (took_same like holds x w (there HoldsLike a h.2 g.2) e h.3 g.3)
  collect_asked p k q l x w None (Some t) a e h g = g.3
  collect_asked p k q l x w (Some r) u a e h g = absurd h.3

  pub collect_steady : (may_refuse : C → T → Type 0) → FoldSteadyLaws (SameItem like) (collects may_refuse holds)
      (collects NeverRefuses holds) ⊥ (OptionBy HoldsLike) (SameCollected HoldsLike)
  collect_steady may_refuse =
      record {
        asks = collect_asked;
        closes = λ p k q l r t a h g. ok_by HoldsLike h.2 g.2 (there HoldsLike a h.1 g.1);
        found = absurd;
      }

-- Items that are `Ok`, and items that are errors.
module _ {A E : Type 0} where
  oks_same : (like : Sameness (Result A E)) (x w : A) → SameItem like (Ok x) (Ok w) → SameItem (SameOk like) x w
  oks_same Sameness.equal x w e = cc
  oks_same (Sameness.by same) x w e = e

  errs_same : (like : Sameness (Result A E)) (e f : E) → SameItem like (Err e) (Err f) → SameItem (SameErr like) e f
  errs_same Sameness.equal e f h = cc
  errs_same (Sameness.by same) e f h = h

  pub unmixed_holds : (like : Sameness (Result A E)) (P : Type 0) → Unmixed like P → P
  unmixed_holds Sameness.equal P u = u
  unmixed_holds (Sameness.by same) P u = u.0

  pub unmixed_on : (like : Sameness (Result A E)) (P Q : Type 0) → Unmixed like P → Q → Unmixed like Q
  unmixed_on Sameness.equal P Q u h = h
  unmixed_on (Sameness.by same) P Q u h = (h, u.1)

  not_err : (like : Sameness (Result A E)) (P : Type 0) (x : A) (e : E) → Unmixed like P → SameItem like (Ok x) (Err e)
      → ⊥
  not_err Sameness.equal P x e u h = cc
  not_err (Sameness.by same) P x e u h = (u.1 x e).0 h

  not_ok : (like : Sameness (Result A E)) (P : Type 0) (x : A) (e : E) → Unmixed like P → SameItem like (Err e) (Ok x)
      → ⊥
  not_ok Sameness.equal P x e u h = cc
  not_ok (Sameness.by same) P x e u h = (u.1 x e).1 h

module _ {C T E : Type 0} (like : Sameness (Result T E)) (holds : C → List T → Type 0) where
  -- The two collections hold what items hold that are `Ok` and the same.
  abbrev HoldsAlike : C → C → Type 0
  HoldsAlike = HoldsSame (SameOk like) holds

  -- Two states of `try_collect` agree: both have collections that hold the same, or neither has one.
  abbrev Tries : Option C → Option C → Type 0
  Tries p k = Unmixed like (OptionBy HoldsAlike p k)

  try_collect_asked : SameAsked (SameItem like) (TrySameCollected HoldsAlike (SameItem (SameErr like)))
      (tries_collect NeverRefuses holds) Tries
  try_collect_asked p k q l (Ok x) (Ok w) None None a e h g =
      let same = there HoldsAlike (unmixed_holds like (OptionBy HoldsAlike p k) a) h.2 g.2 in
      unmixed_on like (OptionBy HoldsAlike p k) (OptionBy HoldsAlike q l) a
      (some_by HoldsAlike h.4 g.4 (took_same (SameOk like) holds x w same (oks_same like x w e) h.3 g.3))
  try_collect_asked p k q l (Ok x) (Ok w) None (Some t) a e h g = g.3
  try_collect_asked p k q l (Ok x) (Ok w) (Some r) u a e h g = absurd h.3
  try_collect_asked p k q l (Ok x) (Err f) o u a e h g = absurd (not_err like (OptionBy HoldsAlike p k) x f a e)
  try_collect_asked p k q l (Err f) (Ok w) o u a e h g = absurd (not_ok like (OptionBy HoldsAlike p k) w f a e)
  try_collect_asked p k q l (Err f) (Err d) None u a e h g = absurd h
  try_collect_asked p k q l (Err f) (Err d) (Some r) None a e h g = g
  try_collect_asked p k q l (Err f) (Err d) (Some r) (Some t) a e h g = rw (h.0, g.0) (errs_same like f d e)

  pub try_collect_steady : (may_refuse : C → T → Type 0)
      → FoldSteadyLaws (SameItem like) (tries_collect may_refuse holds) (tries_collect NeverRefuses holds) ⊥ Tries
      (TrySameCollected HoldsAlike (SameItem (SameErr like)))
  try_collect_steady may_refuse =
      record {
        asks = try_collect_asked;
        closes = λ p k q l r t a h g. rw (h.2, g.2)
            (there HoldsAlike (unmixed_holds like (OptionBy HoldsAlike p k) a) h.1 g.1);
        found = absurd;
      }

none_unsorted : {B T : Type 0} (holds : B → List T → Type 0) (b : Bool) (c d : B × B) (x : T)
    → Unsorted holds NeverRefuses b c x d → ⊥
none_unsorted holds true c d x u = u.0
none_unsorted holds false c d x u = u.0

-- By tests that agree.
module _ {B T P : Type 0} (like : Sameness T) (holds : B → List T → Type 0) (test : Question P T Bool) where
  -- The first collections of the two pairs hold items that are the same, and the second ones do.
  abbrev HoldBoth : B × B → B × B → Type 0
  HoldBoth = HoldsSameBoth like like holds holds

  -- Two states of `partition` agree: their tests agree, and both have collections that hold the same, or neither has
  -- any.
  abbrev Sorts : P × Option (B × B) → P × Option (B × B) → Type 0
  Sorts p k = AgreeFrom (SameItem like) (λ y z. y ≡ z) test p.0 k.0 × OptionBy HoldBoth p.1 k.1

  sorted_same : (b : Bool) (c d c' d' : B × B) (x w : T) → HoldBoth c d → SameItem like x w → Sorted holds b c x c'
      → Sorted holds b d w d' → HoldBoth c' d'
  sorted_same true c d c' d' x w s e h g = (took_same like holds x w s.0 e h.0 g.0, rw (h.1, g.1) s.1)
  sorted_same false c d c' d' x w s e h g = (rw (h.1, g.1) s.0, took_same like holds x w s.1 e h.0 g.0)

  partition_asked : SameAsked (SameItem like) (SameCollected HoldBoth) (partitions holds test NeverRefuses) Sorts
  partition_asked p k q l x w None None a e h g =
      let t = matched a.0 e h.3 g.3 in
      let both = sorted_same h.0 h.1 g.1 h.2 g.2 x w (there HoldBoth a.1 h.4 g.4) e h.5 (rw t.0 g.5) in
      (t.1, some_by HoldBoth h.6 g.6 both)
  partition_asked p k q l x w None (Some t) a e h g = none_unsorted holds g.0 g.1 g.2 w g.5
  partition_asked p k q l x w (Some r) u a e h g = absurd (none_unsorted holds h.0 h.1 h.2 x h.5)

  pub partition_steady : (may_refuse : B → T → Type 0) → FoldSteadyLaws (SameItem like)
      (partitions holds test may_refuse) (partitions holds test NeverRefuses) ⊥ Sorts (SameCollected HoldBoth)
  partition_steady may_refuse =
      record {
        asks = partition_asked;
        closes = λ p k q l r t a h g. ok_by HoldBoth h.2 g.2 (there HoldBoth a.1 h.1 g.1);
        found = absurd;
      }

-- The parts of pairs.
module _ {C D A B : Type 0} (holds_first : C → List A → Type 0) (holds_second : D → List B → Type 0) where
  took_parts : (c c' : C × D) (x : A × B) → Took holds_first c.0 x.0 c'.0 → Took holds_second c.1 x.1 c'.1
      → Took (HoldsParts holds_first holds_second) c x c'
  took_parts c c' x h k l held = (
    subst (holds_first c'.0) (sym (map-append (λ p. p.0) l (x ∷ []))) (h (map (λ p. p.0) l) held.0),
    subst (holds_second c'.1) (sym (map-append (λ p. p.1) l (x ∷ []))) (k (map (λ p. p.1) l) held.1),
  )

  parts_same : (like : Sameness (A × B)) (c d c' d' : C × D) (x w : A × B)
      → HoldsSameParts like holds_first holds_second c d → SameItem like x w
      → Took holds_first c.0 x.0 c'.0 → Took holds_second c.1 x.1 c'.1 → Took holds_first d.0 w.0 d'.0
      → Took holds_second d.1 w.1 d'.1 → HoldsSameParts like holds_first holds_second c' d'
  parts_same Sameness.equal c d c' d' x w s e h k g j = (
    took_same Sameness.equal holds_first x.0 w.0 s.0 (λ i. (e i).0) h g,
    took_same Sameness.equal holds_second x.1 w.1 s.1 (λ i. (e i).1) k j,
  )
  parts_same (Sameness.by same) c d c' d' x w s e h k g j =
      took_same (Sameness.by same) (HoldsParts holds_first holds_second) x w s e (took_parts c c' x h k)
      (took_parts d d' w g j)

  pub no_parts : (like : Sameness (A × B)) (c d : C × D) → holds_first c.0 [] → holds_second c.1 [] → holds_first d.0 []
      → holds_second d.1 [] → HoldsSameParts like holds_first holds_second c d
  no_parts Sameness.equal c d h k g j = (([], h, g), ([], k, j))
  no_parts (Sameness.by same) c d h k g j = ([], [], (h, k), (g, j), tt)

  none_refused : (c : C × D) (x : A × B) (r : UnzipRefused C D A B)
      → RefusedOne holds_first holds_second NeverRefuses NeverRefuses c x r → ⊥
  none_refused c x (Left d y) h = h.0
  none_refused c x (Right d y) h = h.0

  module _ (like : Sameness (A × B)) where
    -- The two pairs of collections hold the parts of pairs that are the same.
    abbrev SamePairs : C × D → C × D → Type 0
    SamePairs = HoldsSameParts like holds_first holds_second

    unzip_asked : SameAsked (SameItem like) (SameCollected SamePairs)
        (unzips holds_first holds_second NeverRefuses NeverRefuses) (OptionBy SamePairs)
    unzip_asked p k q l x w None None a e h g =
        some_by SamePairs h.5 g.5
        (parts_same like h.0 g.0 h.1 g.1 x w (there SamePairs a h.2 g.2) e h.3 h.4 g.3 g.4)
    unzip_asked p k q l x w None (Some t) a e h g = none_refused g.0 w g.1 g.3
    unzip_asked p k q l x w (Some r) u a e h g = absurd (none_refused h.0 x h.1 h.3)

    pub unzip_steady : (first_refuses : C → A → Type 0) (second_refuses : D → B → Type 0)
        → FoldSteadyLaws (SameItem like) (unzips holds_first holds_second first_refuses second_refuses)
        (unzips holds_first holds_second NeverRefuses NeverRefuses) ⊥ (OptionBy SamePairs) (SameCollected SamePairs)
    unzip_steady first_refuses second_refuses =
        record {
          asks = unzip_asked;
          closes = λ p k q l r t a h g. ok_by SamePairs h.2 g.2 (there SamePairs a h.1 g.1);
          found = absurd;
        }
