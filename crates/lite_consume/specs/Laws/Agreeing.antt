-- Laws of futures that consume a stream: their values do not depend on when the stream was pending.
use Rattle.std.specs.Prelude.{◌≡◌, ◌⊎◌, List, [], ◌∷◌, Option, Some, None, refl, ⊤}
use Rattle.lite_consume.specs.Uses.{inl, inr, subst, Poll, Ready, SameAnswer, SameItem, Sameness, Answer, Gives, both_items, Runs}
use Rattle.lite_base.specs.Answers.{ComparableBy, strip}
use Rattle.lite_base.specs.Spent.{Finishes}
use Rattle.lite_base.specs.Laws.Alike.{comparable_nil, gives_strip, item_same}
use Rattle.lite_base.specs.Steady.{FutureSteadyLawsBy, SteadyLawsBy, TakesNone}
use Rattle.lite_consume.specs.Agreeing.{FoldSteadyLaws, Within, WithinWhere}
use Rattle.lite_consume.specs.Consume.{Folds}
use Rattle.lite_consume.specs.Consuming.{Consumes, Decides, Fold, fold_of}
use Rattle.lite_consume.specs.Laws.Consuming.{consumed_runs, consumes_by, consumes_steps}
use Rattle.lite_consume.specs.declared.consume.Consume.{Consume}

module _ {M A R : Type 0} (fold : Fold M A R) where
  -- As `Consumes`, for results without `Pending`s.
  abbrev ConsumesStripped : M → List (Option A) → List R → Type 0
  ConsumesStripped p [] out = out ≡ []
  ConsumesStripped p (None ∷ ins) out = (r : R) × (q : M) × fold.closes p r q × (out ≡ r ∷ [])
  ConsumesStripped p (Some x ∷ ins) out = ((q : M) × fold.asks p x None q × ConsumesStripped q ins out)
      ⊎ ((r : R) × (q : M) × fold.asks p x (Some r) q × (out ≡ r ∷ []))

  decided : (p q : M) (o : Option A) (r : R) → Decides fold p (Ready o) (Ready r) q
      → ConsumesStripped p (o ∷ []) (r ∷ [])
  decided p q None r h = (r, q, h, refl)
  decided p q (Some x) r h = inr (r, q, h, refl)

  stripped : (p q : M) (i : List (Answer A)) (l : List (Poll R)) → Consumes fold p i l q
      → ConsumesStripped p (strip i) (strip l)
  stripped p q i l =
      consumes_steps fold (λ p i l. ConsumesStripped p (strip i) (strip l)) (λ p m x i b l t h. inl (m, t, h))
      (λ p i l h. h) q (λ p. decided p q) p i l refl

-- The stream's items are compared by `like`.
module _ {M A R : Type 0} (like : Sameness A) {fold ample : Fold M A R} {none : Type 0} {agree : M → M → Type 0}
    {same : R → R → Type 0} (f : FoldSteadyLaws (SameItem like) fold ample none agree same) where
  made_same : (p k : M) (i j : List (Option A)) (o u : List R) → agree p k → ComparableBy (SameAnswer like) i j
      → ConsumesStripped ample p i o → ConsumesStripped ample k j u → ComparableBy same o u
  made_same p k [] j o u a c h g = rw h tt
  made_same p k (x ∷ i) [] o u a c h g = rw g (comparable_nil same o)
  made_same p k (None ∷ i) (None ∷ j) o u a c h g = rw (h.3, g.3) (f.closes p k h.1 g.1 h.0 g.0 a h.2 g.2, tt)
  made_same p k (None ∷ i) (Some y ∷ j) o u a c h g = absurd (both_items like None (Some y) c.0)
  made_same p k (Some x ∷ i) (None ∷ j) o u a c h g = absurd (both_items like (Some x) None c.0)
  made_same p k (Some x ∷ i) (Some y ∷ j) o u a c (inl h) (inl g) =
      made_same h.0 g.0 i j o u (f.asks p k h.0 g.0 x y None None a (item_same like x y c.0) h.1 g.1) c.1 h.2 g.2
  made_same p k (Some x ∷ i) (Some y ∷ j) o u a c (inl h) (inr g) =
      absurd (f.asks p k h.0 g.1 x y None (Some g.0) a (item_same like x y c.0) h.1 g.2)
  made_same p k (Some x ∷ i) (Some y ∷ j) o u a c (inr h) (inl g) =
      absurd (f.asks p k h.1 g.0 x y (Some h.0) None a (item_same like x y c.0) h.2 g.1)
  made_same p k (Some x ∷ i) (Some y ∷ j) o u a c (inr h) (inr g) =
      rw (h.3, g.3) (f.asks p k h.1 g.1 x y (Some h.0) (Some g.0) a (item_same like x y c.0) h.2 g.2, tt)

-- A run in which no allocation failed: if none failed in the steps, except those that return another kind of value, and
-- none in the stream's run, for results that may come before such a value.
module _ {S M A R : Type 0} {run found : Runs (Answer A) S} {fold ample : Fold M A R} {may : R → Type 0}
    (Such : List (Answer A) → Type 0)
    (told : (s t : S) (i : List (Answer A)) → Such i → run s i t → found s i t)
    (within : WithinWhere may fold ample) where
  pub consumed_ample : (x y : Consume S M) (l : List (Poll R)) → ((r : R) → Gives l r → may r)
      → ((i : List (Answer A)) → Consumes fold x.folder i l y.folder → Such i)
      → Folds run fold x l y → Folds found ample x l y
  consumed_ample x y l m such h =
      record {
        ins = h.ins;
        came = told x.stream y.stream h.ins (such h.ins h.consumed) h.came;
        consumed = consumes_by (λ p. p) fold ample within x.folder y.folder h.ins l m h.consumed;
      }

  -- The run of a future that was polled until its value.
  pub finished_ample : (x : Consume S M) (l : List (Poll R)) (value : R) → may value
      → ((q : M) (i : List (Answer A)) → Consumes fold x.folder i l q → Such i)
      → Finishes (Folds run fold) x l value → Finishes (Folds found ample) x l value
  finished_ample x l value m such f =
      record {
        gives = f.gives;
        last = f.last;
        came = consumed_ample x f.last l
            (λ r g. let same : value ≡ r = cc (gives_strip l value f.gives, gives_strip l r g) in subst may same m)
            (such f.last.folder) f.came;
      }

-- No poll of the stream needs memory.
module _ {S M A R : Type 0} {run found : Runs (Answer A) S} {fold ample : Fold M A R} where
  pub finished_taking_none : {may : R → Type 0} → TakesNone run found → WithinWhere may fold ample → (x : Consume S M)
      (l : List (Poll R)) (value : R) → may value → Finishes (Folds run fold) x l value
      → Finishes (Folds found ample) x l value
  finished_taking_none takes within x l value m =
      finished_ample (λ i. ⊤) (λ s t i u. takes s t i) within x l value m (λ q i h. tt)

  -- A future is steady over a steady stream, if the values of its fold agree.
  pub consumed_steady : {none none' : Type 0} {alike : S → S → Type 0} {agree : M → M → Type 0} (like : Sameness A)
      (same : Sameness R) → SteadyLawsBy like run found none alike
      → FoldSteadyLaws (SameItem like) fold ample none' agree (SameItem same)
      → FutureSteadyLawsBy same (Folds run fold) (Folds found ample)
      (none × none') (λ (x y : Consume S M). alike x.stream y.stream × agree x.folder y.folder)
  consumed_steady like same s f =
      record {
        laws = consumed_runs ample s.laws;
        steady = λ x y e l m x' y' h k.
            made_same like f x.folder y.folder (strip h.ins) (strip k.ins) (strip l) (strip m) e.1
            (s.steady x.stream y.stream e.0 h.ins k.ins x'.stream y'.stream h.came k.came)
            (stripped ample x.folder x'.folder h.ins l h.consumed)
            (stripped ample y.folder y'.folder k.ins m k.consumed);
        found = λ n x y l h.
            consumed_ample (λ i. ⊤) (λ v w i u. s.found n.0 v w i) (f.found n.1) x y l (λ r g. tt) (λ i c. tt) h;
      }

-- The fold of one part of a state.
module _ {N M A R : Type 0} (part : N → M) where
  pub part_within : {may : R → Type 0} {fold ample : Fold M A R} → WithinWhere may fold ample
      → WithinWhere may (fold_of part fold) (fold_of part ample)
  part_within w = record { asks = λ p q. w.asks (part p) (part q); closes = λ p q. w.closes (part p) (part q) }

  pub part_steady : {fold ample : Fold M A R} {none : Type 0} {agree : M → M → Type 0} {like : A → A → Type 0}
      {same : R → R → Type 0} → FoldSteadyLaws like fold ample none agree same
      → FoldSteadyLaws like (fold_of part fold) (fold_of part ample) none (λ x y. agree (part x) (part y)) same
  part_steady f =
      record {
        asks = λ p k q l. f.asks (part p) (part k) (part q) (part l);
        closes = λ p k q l. f.closes (part p) (part k) (part q) (part l);
        found = λ n. part_within (f.found n);
      }

-- Each step of a fold is one of its own steps.
pub within_itself : {M A R : Type 0} (fold : Fold M A R) → ⊤ → Within fold fold
within_itself fold n = record { asks = λ p q x o m h. h; closes = λ p q r m h. h }
