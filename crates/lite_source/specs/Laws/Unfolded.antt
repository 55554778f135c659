-- The results of `unfold` and `try_unfold`, `Pending`s aside: the same for futures that are alike.
use Rattle.std.specs.Prelude.{Bool, true, false, ⊤, ◌≡◌, ◌⊎◌, List, [], ◌∷◌, ◌++◌, map, flat_map, Option, Some, None}
use Rattle.lite_source.specs.Uses.{inl, inr, ◌∙◌, refl, ap, sym, append-nil, Mut, AllByRecursion, FoldsTo, Poll}
use Rattle.lite_source.specs.Uses.{OptionBy, SameAnswer, SameItem, Sameness, Answer, ComparableBy, Waiting, end, strip}
use Rattle.lite_source.specs.Uses.{CalmLaws, NoPending, AgreeFrom, Calls, MakesAlways, Finishes, handed, FutureRunLaws}
use Rattle.lite_source.specs.Uses.{alike_agrees, calm_both, no_pending_join, handed_gives, handed_no_pending}
use Rattle.lite_source.specs.Uses.{handed_waits, FutureSteadyLawsBy, SteadinessBy, SteadyLawsBy, RunLaws, Question}
use Rattle.lite_source.specs.Uses.{Runs, makes_on}
use Rattle.futures.specs.Task.{Lasting}
use Rattle.lite_base.specs.Armed.{Arms, EndsPending, pends_last}
use Rattle.lite_base.specs.Laws.Armed.{gives_pends, no_pends, pends_anew, pends_handed, pends_join}
use Rattle.lite_base.specs.Laws.Alike.{equal_options}
use Rattle.lite_base.specs.Laws.Answers.{strip_join}
use Rattle.lite_base.specs.Laws.Calling.{agree_from_matches}
use Rattle.lite_base.specs.Laws.Spent.{finishes_found, finishes_later}
use Rattle.lite_base.specs.Steady.{TakesNone}
use Rattle.lite_source.specs.Laws.Always.{answers_no_pending}
use Rattle.lite_source.specs.Unfolding.{BothHave, Holding, HoldingsBy, IfHeldFuture, IsCurrent, Leads, PartOf, UnfoldAlike, UnfoldPart, UnfoldRegisters, Unfolds, comes}

module _ {F S V O B : Type 0} (call : Mut F (S × Unit {0}) V) (gives : Runs (Poll O) V) (after : O → Option S)
    (shown : O → Option B) where
  -- The values of futures one after the other, and ends of stream after the last.
  abbrev FutureValues : F → Holding S V → List (Option B) → Type 0
  FutureValues p x [] = ⊤
  FutureValues p x (b ∷ out) =
      ((v : V) × (q : F) × (ins : List (Poll O)) × (o : O) × IsCurrent call p x q v × Finishes gives v ins o
      × (b ≡ shown o) × FutureValues q (comes (after o)) out)
      ⊎ ((x ≡ Holding.Over) × (b ≡ None) × FutureValues p Holding.Over out)

  -- A `Pending` of a future leaves the list of values as it was.
  module _ (laws : FutureRunLaws gives) (p q : F) (x : Holding S V) (v w : V) (ins : List (Poll O)) where
    waited : (out : List (Option B)) → IsCurrent call p x q v → Waiting ins → gives v ins w
        → FutureValues q (Holding.Asked w) out → FutureValues p x out
    waited [] c i g h = tt
    waited (b ∷ out) c i g (inr h) = cc
    waited (b ∷ out) c i g (inl h) =
        inl (
          v,
          q,
          ins ++ h.2,
          h.3,
          c,
          finishes_later laws v w ins h.2 h.3 i g (rw h.4.0 at h.5),
          h.6,
          rw h.4.1 at h.7,
        )

  over : (p : F) (l : List (Answer B)) (out : List (Option B)) → AllByRecursion (λ a. a ≡ end) l
      → FutureValues p Holding.Over out → FutureValues p Holding.Over (strip l ++ out)
  over p [] out h k = k
  over p (a ∷ l) out h k = rw h.0 (inr (refl, refl, over p l out h.1 k))

  module _ (laws : FutureRunLaws gives) (p q : F) (x y : Holding S V) (l : List (Answer B)) (out : List (Option B)) where
    part_values : UnfoldPart call gives after shown p x l q y → FutureValues q y out → FutureValues p x (strip l ++ out)
    part_values (inr h) k = rw h.0 (over p l out h.2.0 (rw h.1 at (rw h.2.1 at k)))
    part_values (inl h) k = leading h.0 h.1 h.2 h.3 h.4
      where
        leading : (v : V) (ins : List (Poll O)) → IsCurrent call p x q v → Leads call gives after shown v ins y
            → l ≡ map (handed shown) ins → FutureValues p x (strip l ++ out)
        leading v ins c (inl d) e =
            rw (e, handed_waits shown ins d.1)
            (waited laws p q x v d.0 ins out c d.1 d.2 (rw d.3 at k))
        leading v ins c (inr d) e =
            let one : strip l ≡ shown d.0 ∷ [] = ap strip (e ∙ sym (append-nil _))
            ∙ handed_gives shown ins [] d.0 d.1.gives in
            rw one (inl (v, q, ins, d.0, c, d.1, refl, rw d.2 at k))

  unfolds_values : FutureRunLaws gives → (x y : F × Holding S V) (parts : List (Answer B × List (Answer B)))
      → FoldsTo (λ s part t. UnfoldPart call gives after shown s.0 s.1 (part.0 ∷ part.1) t.0 t.1) x parts y
      → FutureValues x.0 x.1 (strip (flat_map (λ part. part.0 ∷ part.1) parts))
  unfolds_values laws x y [] h = tt
  unfolds_values laws x y (part ∷ parts) h =
      let rest = flat_map (λ part. part.0 ∷ part.1) parts in
      rw strip_join
      (part_values laws x.0 h.0.0 x.1 h.0.1 _ _ h.1 (unfolds_values laws h.0 y parts h.2))

-- The functions make futures that are alike. `same` compares the values, `like` the seeds, and `shows` the results.
module _ {F S V O B : Type 0} (call : Mut F (S × Unit {0}) V) (ample : Runs (Poll O) V) {alike : V → V → Type 0}
    {same : O → O → Type 0}
    (like : S → S → Type 0) (shows : Option B → Option B → Type 0) (s : SteadinessBy same ample alike)
    (after : O → Option S) (shown : O → Option B) where
  module _ (p k q l : F) where
    current_alike : (x y : Holding S V) (v w : V) → AgreeFrom like alike (Calls call) p k → HoldingsBy like alike x y
        → IsCurrent call p x q v → IsCurrent call k y l w → alike v w × AgreeFrom like alike (Calls call) q l
    current_alike (Holding.Seed r) (Holding.Seed t) v w a e c d =
        agree_from_matches like alike _ p k q l r t v w a e c d
    current_alike (Holding.Asked r) (Holding.Asked t) v w a e c d = rw (c.0, d.0, c.1, d.1) (e, a)
    current_alike Holding.Over y v w a e c d = absurd c
    current_alike x y v w a e c d = absurd e

  -- A stream that is over has no current future.
  module _ (p q : F) where
    not_over : (x : Holding S V) (v : V) → HoldingsBy like alike x Holding.Over → IsCurrent call p x q v → ⊥
    not_over Holding.Over v e c = c
    not_over x v e c = e

    over_not : (x : Holding S V) (v : V) → HoldingsBy like alike Holding.Over x → IsCurrent call p x q v → ⊥
    over_not Holding.Over v e c = c
    over_not x v e c = e

  comes_alike : (m n : Option S) → OptionBy like m n → HoldingsBy like alike (comes m) (comes n)
  comes_alike None None e = tt
  comes_alike (Some r) (Some t) e = e
  comes_alike m n e = absurd e

  module _ (goes : (o p : O) → same o p → OptionBy like (after o) (after p))
      (gives : (o p : O) → same o p → shows (shown o) (shown p))
      (ends : shows None None) where
    values_same : (p k : F) (x y : Holding S V) (o o' : List (Option B)) → AgreeFrom like alike (Calls call) p k
        → HoldingsBy like alike x y
        → FutureValues call ample after shown p x o
        → FutureValues call ample after shown k y o' → ComparableBy shows o o'
    values_same p k x y (b ∷ o) (c ∷ o') a e (inl h) (inl g) =
        let f = current_alike p k h.1 g.1 x y h.0 g.0 a e h.4 g.4 in
        let value : same h.3 g.3 = alike_agrees ample h.0 g.0 (s h.0 g.0 f.0) h.2 g.2 h.3 g.3 h.5 g.5 in
        rw (h.6, g.6) (
          gives h.3 g.3 value,
          values_same h.1 g.1 _ _ o o' f.1
              (comes_alike _ _ (goes h.3 g.3 value)) h.7 g.7,
        )
    values_same p k x y (b ∷ o) (c ∷ o') a e (inl h) (inr g) = absurd (not_over p h.1 x h.0 (rw g.0 at e) h.4)
    values_same p k x y (b ∷ o) (c ∷ o') a e (inr h) (inl g) = absurd (over_not k g.1 y g.0 (rw h.0 at e) g.4)
    values_same p k x y (b ∷ o) (c ∷ o') a e (inr h) (inr g) =
        rw (h.1, g.1) (ends, values_same p k Holding.Over Holding.Over o o' a tt h.2 g.2)
    values_same p k x y o o' a e h g = tt

-- Parts of values that are the same are the same too, if both values have the part or neither does.
module _ {O B : Type 0} (same : O → O → Type 0) (part : O → Option B) where
  standing : (o p : O) (x y : Option B) → same o p → part o ≡ x → part p ≡ y → OptionBy (λ _ _. ⊤) x y
      → OptionBy (SameItem (PartOf (Sameness.by same) part)) x y
  standing o p None None r e d both = tt
  standing o p (Some x) (Some y) r e d both = (o, p, r, e, d)
  standing o p x y r e d both = absurd both

  parts_same : BothHave same part → (o p : O) → same o p
      → OptionBy (SameItem (PartOf (Sameness.by same) part)) (part o) (part p)
  parts_same both o p r = standing o p (part o) (part p) r refl refl (both o p r)

-- Two streams that unfold are alike, from seeds that are the same, if their functions agree from such seeds on. Values
-- that are the same both have an item or neither does, and the same holds of a seed.
pub unfold_alike : {F S V O B : Type 0} (same : Sameness O) (alike : V → V → Type 0) (call : Question F S V)
    (after : O → Option S)
    (shown : O → Option B) (x y : F × Holding S V)
    → AgreeFrom (SameItem (PartOf same after)) alike call x.0 y.0
    → HoldingsBy (SameItem (PartOf same after)) alike x.1 y.1
    → BothHave (SameItem same) shown → BothHave (SameItem same) after
    → UnfoldAlike same alike call after shown x y
unfold_alike Sameness.equal alike call after shown x y a h p q = (a, h)
unfold_alike (Sameness.by same) alike call after shown x y a h p q = (a, h, p, q)

module _ {F S V O B : Type 0} (call : Mut F (S × Unit {0}) V) (ample : Runs (Poll O) V) {alike : V → V → Type 0}
    (after : O → Option S)
    (shown : O → Option B) where
  -- The case of values that are compared by equality or by a relation.
  unfolds_same : (same : Sameness O) → SteadinessBy (SameItem same) ample alike
      → (x y : F × Holding S V) (o p : List (Option B))
      → UnfoldAlike same alike (Calls call) after shown x y
      → FutureValues call ample after shown x.0 x.1 o → FutureValues call ample after shown y.0 y.1 p
      → ComparableBy (SameAnswer (PartOf same shown)) o p
  unfolds_same Sameness.equal s x y o p e h k =
      values_same call ample _ _ s after shown
      (λ v w d. equal_options _ _ (ap after d)) (λ v w. ap shown) refl x.0 y.0 x.1 y.1 o p e.0 e.1 h k
  unfolds_same (Sameness.by same) s x y o p e h k =
      values_same call ample _
      _ s after shown
      (parts_same same after e.3) (parts_same same shown e.2) tt
      x.0 y.0 x.1 y.1 o p e.0 e.1 h k

-- The case in which no poll allocates memory.
module _ {F S V O B : Type 0} (call : Mut F (S × Unit {0}) V) {run ample : Runs (Poll O) V}
    (takes : TakesNone run ample) (after : O → Option S) (shown : O → Option B) where
  leads_found : (v : V) (ins : List (Poll O)) (next : Holding S V) → Leads call run after shown v ins next
      → Leads call ample after shown v ins next
  leads_found v ins next (inl h) = inl (h.0, h.1, takes v h.0 ins h.2, h.3)
  leads_found v ins next (inr h) = inr (h.0, finishes_found takes v ins h.0 h.1, h.2)

  module _ (p q : F) (x y : Holding S V) (l : List (Answer B)) where
    part_found : UnfoldPart call run after shown p x l q y → UnfoldPart call ample after shown p x l q y
    part_found (inl h) = inl (h.0, h.1, h.2, leads_found h.0 h.1 y h.3, h.4)
    part_found (inr h) = inr h

  parts_found : (x y : F × Holding S V) (parts : List (Answer B × List (Answer B)))
      → FoldsTo (λ s part t. UnfoldPart call run after shown s.0 s.1 (part.0 ∷ part.1) t.0 t.1) x parts y
      → FoldsTo (λ s part t. UnfoldPart call ample after shown s.0 s.1 (part.0 ∷ part.1) t.0 t.1) x parts y
  parts_found x y [] h = h
  parts_found x y (part ∷ parts) h =
      (h.0, part_found x.0 h.0.0 x.1 h.0.1 _ h.1, parts_found h.0 y parts h.2)

module _ {F S V O B : Type 0} (call : Mut F (S × Unit {0}) V) {run ample : Runs (Poll O) V} {none : Type 0}
    {alike : V → V → Type 0} (after : O → Option S) (shown : O → Option B) where
  -- The steadiness of a source that holds such a pair of function and state.
  pub unfolds_steady : (same : Sameness O) {X : Type 0} (pair : X → F × Holding S V)
      → RunLaws (λ x l y. Unfolds call ample after shown (pair x) l (pair y))
      → FutureSteadyLawsBy same run ample none alike
      → SteadyLawsBy (PartOf same shown) (λ x l y. Unfolds call run after shown (pair x) l (pair y))
      (λ x l y. Unfolds call ample after shown (pair x) l (pair y)) none
      (λ x y. UnfoldAlike same alike (Calls call) after shown (pair x) (pair y))
  unfolds_steady same pair laws s =
      record {
        laws = laws;
        steady = λ x y e l m x' y' h k.
            rw (ap strip h.2, ap strip k.2)
            (unfolds_same call ample after shown same s.steady (pair x) (pair y) _ _ e
            (unfolds_values call ample after shown s.laws (pair x) (pair x') h.0 h.1)
            (unfolds_values call ample after shown s.laws (pair y) (pair y') k.0 k.1));
        found = λ n x y l h. (h.0, parts_found call (s.found n) after shown (pair x) (pair y) h.0 h.1, h.2);
      }

-- A function that makes calm futures makes a calm source.
module _ {F S V O B : Type 0} (call : Mut F (S × Unit {0}) V) {run : Runs (Poll O) V} {calm : V → Type 0}
    (c : CalmLaws run calm) (after : O → Option S) (shown : O → Option B) where
  -- The function makes calm futures, and one that is held is calm.
  abbrev Calmly : F → Holding S V → Type 0
  Calmly p x = MakesAlways call calm p × IfHeldFuture x calm

  current_calm : (p q : F) (x : Holding S V) (v : V) → Calmly p x → IsCurrent call p x q v → calm v
      × MakesAlways call calm q
  current_calm p q (Holding.Seed s) v k h = makes_on call calm p (s, tt) v q k.0 h
  current_calm p q (Holding.Asked w) v k h = rw (h.0, h.1) (k.1, k.0)
  current_calm p q Holding.Over v k h = absurd h

  comes_calm : (m : Option S) → IfHeldFuture (comes m) calm
  comes_calm None = tt
  comes_calm (Some s) = tt

  leads_calm : (v : V) (ins : List (Poll O)) (next : Holding S V) → calm v → Leads call run after shown v ins next
      → NoPending ins × IfHeldFuture next calm
  leads_calm v ins next k (inl h) = (c.no_pending v h.0 ins k h.2, rw h.3 (c.calm_on v h.0 ins k h.2))
  leads_calm v ins next k (inr h) = (c.no_pending v h.1.last ins k h.1.came, rw h.2 (comes_calm _))

  module _ (p q : F) (x y : Holding S V) (l : List (Answer B)) (k : Calmly p x) where
    part_calm : UnfoldPart call run after shown p x l q y → NoPending l × Calmly q y
    part_calm (inl h) =
        let made = current_calm p q x h.0 k h.2 in
        let led = leads_calm h.0 h.1 y made.0 h.3 in
        (rw h.4 (handed_no_pending shown h.1 led.0), (made.1, led.1))
    part_calm (inr h) = (answers_no_pending None l h.2.0, (rw h.1 k.0, rw h.2.1 tt))

  parts_calm : (x y : F × Holding S V) (parts : List (Answer B × List (Answer B))) → Calmly x.0 x.1
      → FoldsTo (λ s part t. UnfoldPart call run after shown s.0 s.1 (part.0 ∷ part.1) t.0 t.1) x parts y
      → NoPending (flat_map (λ part. part.0 ∷ part.1) parts) × Calmly y.0 y.1
  parts_calm x y [] k h = (tt, rw h at k)
  parts_calm x y (part ∷ parts) k h =
      let one = part_calm x.0 h.0.0 x.1 h.0.1 _ k h.1 in
      let more = parts_calm h.0 y parts one.1 h.2 in
      (no_pending_join (part.0 ∷ part.1) (flat_map (λ part. part.0 ∷ part.1) parts) one.0 more.0, more.1)

  pub unfolds_calm : {X : Type 0} (pair : X → F × Holding S V)
      → CalmLaws (λ x l y. Unfolds call run after shown (pair x) l (pair y))
      (λ x. MakesAlways call calm (pair x).0 × IfHeldFuture (pair x).1 calm)
  unfolds_calm pair = calm_both (λ x y l k h. rw h.2 (parts_calm (pair x) (pair y) h.0 k h.1))

-- A function that makes armed futures makes an armed source.
module _ {F S V O B : Type 0} (call : Mut F (S × Unit {0}) V) {run : Runs (Poll O) V}
    {registers : V → Lasting → Type 0} (a : Arms run registers) (after : O → Option S) (shown : O → Option B) where
  leads_arms : (v : V) (ins : List (Poll O)) (next : Holding S V) → EndsPending ins
      → Leads call run after shown v ins next → UnfoldRegisters registers next Lasting.armed
  leads_arms v ins next e (inl h) = rw h.3 (a.at v h.0 ins e h.2)
  leads_arms v ins next e (inr h) = absurd (gives_pends false ins h.0 h.1.gives e)

  module _ (p q : F) (x y : Holding S V) (l : List (Answer B)) (e : EndsPending l) where
    part_arms : UnfoldPart call run after shown p x l q y → UnfoldRegisters registers y Lasting.armed
    part_arms (inl h) = leads_arms h.0 h.1 y (sym (pends_handed shown false h.1) ∙ (rw h.4 at e)) h.3
    part_arms (inr h) = absurd (cc (no_pends false l (answers_no_pending None l h.2.0) e))

  parts_arms : (b : Bool) (x y : F × Holding S V) (parts : List (Answer B × List (Answer B)))
      → (b ≡ true → UnfoldRegisters registers x.1 Lasting.armed)
      → FoldsTo (λ s part t. UnfoldPart call run after shown s.0 s.1 (part.0 ∷ part.1) t.0 t.1) x parts y
      → pends_last b (flat_map (λ part. part.0 ∷ part.1) parts) ≡ true
      → UnfoldRegisters registers y.1 Lasting.armed
  parts_arms b x y [] k h e = rw h at (k e)
  parts_arms b x y (part ∷ parts) k h e =
      let own = part.0 ∷ part.1 in
      let more = flat_map (λ part. part.0 ∷ part.1) parts in
      parts_arms (pends_last b own) h.0 y parts
      (λ d. part_arms x.0 h.0.0 x.1 h.0.1 own (pends_anew false b part.0 part.1 ∙ d) h.1) h.2
      (sym (pends_join b own more) ∙ e)

  pub unfolds_arms : {X : Type 0} (pair : X → F × Holding S V)
      → Arms (λ x l y. Unfolds call run after shown (pair x) l (pair y)) (λ x. UnfoldRegisters registers (pair x).1)
  unfolds_arms pair =
      record { at = λ x y l e h. parts_arms false (pair x) (pair y) h.0 (λ d. cc d) h.1 (rw h.2 at e) }
