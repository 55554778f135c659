-- The steadiness of streams that are flattened.
use Rattle.std.specs.Prelude.{⊤, ◌≡◌, ◌⊎◌, List, [], ◌∷◌, ◌++◌, Option, Some, None}
use Rattle.lite_reshape.specs.Uses.{inl, inr, refl, Ready, AlikeBy, OptionBy, SameAnswer, SameItem, Sameness, Answer}
use Rattle.lite_reshape.specs.Uses.{ComparableBy, Endless, end, strip, SteadinessBy, SteadyLawsBy, TakesNone}
use Rattle.lite_reshape.specs.Uses.{PlacedFrom, placed_from_same, strip_join, both_items, comparable_as, comparable_nil}
use Rattle.lite_reshape.specs.Uses.{answer_items, RunLaws, Runs, Entails, through_runs, AdapterParts, Adapts}
use Rattle.lite_reshape.specs.Cloned.{Refers}
use Rattle.lite_reshape.specs.Flatten.{Flattening}
use Rattle.lite_reshape.specs.Inner.{EachInner}
use Rattle.lite_reshape.specs.Laws.Agreeing.{items_same, refers_match}
use Rattle.lite_reshape.specs.Laws.Flatten.{flattening, flattening_by, have_come}

module _ {A : Type 0} where
  -- Each result, `Pending`s left out, is an item.
  abbrev AllItems : List (Option A) → Type 0
  AllItems [] = ⊤
  AllItems (None ∷ l) = ⊥
  AllItems (Some x ∷ l) = AllItems l

  no_end : (l : List (Answer A)) → Endless l → AllItems (strip l)
  no_end [] e = tt
  no_end (Ready None ∷ l) e = cc
  no_end (_ ∷ l) e = no_end l (cc)

  module _ (same : Sameness A) where
    before_left : (l m k : List (Option A)) → AllItems l → ComparableBy (SameAnswer same) l (m ++ None ∷ [])
        → ComparableBy (SameAnswer same) l (m ++ k)
    before_left [] m k n c = tt
    before_left (None ∷ l) m k n c = absurd n
    before_left (Some x ∷ l) [] k n c = absurd (both_items same _ None c.0)
    before_left (Some x ∷ l) (y ∷ m) k n c = (c.0, before_left l m k n c.1)

    before_right : (l m k : List (Option A)) → AllItems m → ComparableBy (SameAnswer same) (l ++ None ∷ []) m
        → ComparableBy (SameAnswer same) (l ++ k) m
    before_right l [] k n c = comparable_nil _ _
    before_right l (None ∷ m) k n c = absurd n
    before_right [] (Some y ∷ m) k n c = absurd (both_items same None _ c.0)
    before_right (x ∷ l) (Some y ∷ m) k n c = (c.0, before_right l m k n c.1)

    both_end : (l m k h : List (Option A)) → AllItems l → AllItems m
        → ComparableBy (SameAnswer same) (l ++ None ∷ []) (m ++ None ∷ [])
        → ComparableBy (SameAnswer same) k h
        → ComparableBy (SameAnswer same) (l ++ k) (m ++ h)
    both_end [] [] k h n o c d = d
    both_end [] (Some y ∷ m) k h n o c d = absurd (both_items same None _ c.0)
    both_end (None ∷ l) m k h n o c d = absurd n
    both_end (Some x ∷ l) [] k h n o c d = absurd (both_items same _ None c.0)
    both_end (Some x ∷ l) (Some y ∷ m) k h n o c d = (c.0, both_end l m k h n o c.1 d)
    both_end _ (None ∷ m) k h n o c d = absurd o

module _ {B A : Type 0} (run : Runs (Answer A) B) where
  -- The inner stream `b` goes on, or it has ended and other results follow.
  abbrev OwnInPlace : B → (List (Option A) → Type 0) → List (Option A) → Type 0
  OwnInPlace b follows out =
      ((l : List (Answer A)) × (c : B) × run b l c × Endless l × (out ≡ strip l))
      ⊎ ((own : List (Answer A)) × (c : B) × run b (own ++ end ∷ []) c × Endless own × (more : List (Option A))
      × (out ≡ strip own ++ more) × follows more)

  placed_from : Entails (Flattening run) (λ f i l g. PlacedFrom Refers OwnInPlace tt f (strip i) (strip l))
  placed_from held last =
      flattening_by run last (λ f i l. PlacedFrom Refers OwnInPlace tt f _ _) (λ e. refl)
      (λ b c l n ran e. inl (l, c, ran, n, refl))
      (λ b c i own a rest n ran k. inr (own, c, ran, n, strip (a ∷ rest), strip_join own _, k)) (λ i l k. k)
      (λ i l k. (strip l, refl, k)) (λ b i a l k. (b, tt, refl, k)) held

  module _ (same : Sameness A) {alike : B → B → Type 0} (steady : SteadinessBy (SameAnswer same) run alike) where
    -- Two lists of results, `Pending`s left out, are the same as far as both go.
    abbrev Go : List (Option A) → List (Option A) → Type 0
    Go = ComparableBy (SameAnswer same)

    module _ (b c : B) (P Q : List (Option A) → Type 0) (o p : List (Option A)) (a : alike b c) where
      places : OwnInPlace b P o → OwnInPlace c Q p → ((o' p' : List (Option A)) → P o' → Q p' → Go o' p') → Go o p
      places (inl r) (inl q) rest = rw (r.4, q.4) (steady b c a r.0 q.0 r.1 q.1 r.2 q.2)
      places (inl r) (inr q) rest =
          let both = steady b c a r.0 _ r.1 q.1 r.2 q.2 in
          rw (r.4, q.5) (before_left same _ _ q.4 (no_end r.0 r.3) (rw strip_join at both))
      places (inr r) (inl q) rest =
          let both = steady b c a _ q.0 r.1 q.1 r.2 q.2 in
          rw (r.5, q.4) (before_right same _ _ r.4 (no_end q.0 q.3) (rw strip_join at both))
      places (inr r) (inr q) rest =
          let both = steady b c a _ _ r.1 q.1 r.2 q.2 in
          let ends = rw strip_join at (rw strip_join at both) in
          rw (r.5, q.5)
          (both_end same _ _ r.4 q.4 (no_end r.0 r.3) (no_end q.0 q.3) ends (rest r.4 q.4 r.6 q.6))

    -- Two flattened streams are alike, if the items of their outer streams are.
    flattening_alike : {M S : Type 0} (p : AdapterParts M S (Option B)) (outer : Runs (Answer B) S) (x y : M)
        → AlikeBy (OptionBy alike) outer (p.source x) (p.source y)
        → OptionBy alike (p.held x) (p.held y) → AlikeBy (SameAnswer same) (Adapts p outer (Flattening run)) x y
    flattening_alike p outer x y a e l m x' y' h k =
        placed_from_same Refers OwnInPlace same (refers_match alike) places
        tt tt _ _ _ _ _ _ tt e
        (a h.ins k.ins _ _ h.came k.came)
        (placed_from _ _ h.ins l h.related) (placed_from _ _ k.ins m k.related)

-- The relation that allows no allocation failure holds, if no poll of an inner stream allocates memory.
flattening_found : {B A : Type 0} {run ample : Runs (Answer A) B} → TakesNone run ample
    → Entails (Flattening run) (Flattening ample)
flattening_found {run} {ample} t held last =
    flattening_by run last (λ f i l. Flattening ample f i l last) (λ e. e)
    (λ b c l n ran e. inl (refl, n, c, t b c l ran, e))
    (λ b c i own a rest n ran k. inr (own, a, rest, refl, n, c, t b c _ ran, k)) (λ i l k. (refl, k))
    (λ i l k. (refl, k)) (λ b i a l k. k) held

module _ {M S B A : Type 0} (p : AdapterParts M S (Option B)) {outer ample : Runs (Answer B) S}
    {run found : Runs (Answer A) B}
    {none none' : Type 0} {alike : M → M → Type 0} {alike' : B → B → Type 0} where
  -- The steadiness of an adapter, if its outer streams' items are alike.
  pub flattening_steady : (same : Sameness A)
      → ((x y : M) → alike x y → AlikeBy (OptionBy alike') ample (p.source x) (p.source y)
      × OptionBy alike' (p.held x) (p.held y))
      → RunLaws ample → (none → TakesNone outer ample) → SteadyLawsBy same run found none' alike'
      → SteadyLawsBy same (Adapts p outer (Flattening run)) (Adapts p ample (Flattening found)) (none × none') alike
  flattening_steady same items laws takes s =
      record {
        laws = through_runs p laws (flattening s.laws);
        steady = λ x y e. flattening_alike found same s.steady p ample x y (items x y e).0 (items x y e).1;
        found = λ n x y l h.
            record {
              ins = h.ins;
              came = takes n.0 _ _ h.ins h.came;
              related = flattening_found (s.found n.1) _ _ h.ins l h.related;
            };
      }

-- Outer streams that are alike have items that are alike, if each item is alike to those that it is the same as.
pub inner_alike : {S B : Type 0} (same : Sameness B) (outer : Runs (Answer B) S) (alike : B → B → Type 0) (s t : S)
    (held : Option B)
    → AlikeBy (SameAnswer same) outer s t
    → EachInner outer (λ b. (c : B) → SameItem same b c → alike b c) s held → AlikeBy (OptionBy alike) outer s t
inner_alike {B} same outer alike s t held a each l m s' t' h k =
    items_same _ alike l _
    (have_come outer _ s s' held l each h)
    (comparable_as _ _ (answer_items same) _ _
    (a l m s' t' h k))
