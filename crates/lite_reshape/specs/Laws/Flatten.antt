-- Laws about a stream of streams that is flattened.
use Rattle.std.specs.Prelude.{IfSome, replicate, ◌≡◌, ℕ, List, [], ◌∷◌, ◌++◌, length, Option, Some, None}
use Rattle.lite_reshape.specs.Uses.{◌∙◌, inl, inr, refl, ap, sym, arith, length-append, append_assoc, length-replicate}
use Rattle.lite_reshape.specs.Uses.{AllByRecursion, Ready, Pending, Answer, Endless, end, item, items, NextStep}
use Rattle.lite_reshape.specs.Uses.{Reaches, all_split, Reaches-back, Terminates, Terminates-map, ItemRun, AtMost-both}
use Rattle.lite_reshape.specs.Uses.{Below-after, Below-first, Lowers-at_most, Lowers-below, endless_join, IsItem}
use Rattle.lite_reshape.specs.Uses.{OfItem, items_each, Below, Lowers, Counting, Ranks, RunLaws, StreamLaws, Hints}
use Rattle.lite_reshape.specs.Uses.{Runs, AtMost-then_below, Lowers-after, Entails, Following, AdapterParts, Adapts}
use Rattle.lite_reshape.specs.Uses.{PollsOn, Through}
use Rattle.lite_base.specs.Laws.Ranks.{Below-then, Lowers-then_at_most}
use Rattle.lite_base.specs.Laws.Answers.{each_items, each_of}
use Rattle.lite_reshape.specs.Flatten.{Flat, Flattening}
use Rattle.lite_reshape.specs.Inner.{CanStepFlat, EachInner, FlatStep, FlatSteps, GivesOne, TakesNext, flattening_ranks, inner_rank}
use Rattle.lite_reshape.specs.Uses.{not_empty, own_lowers, zeros_least}

-- Induction on the outer stream's results and on the inner stream that is held. That one goes on, or it is done.
module _ {B A : Type 0} (run : Runs (Answer A) B) (last : Option B)
    (P : Option B → List (Answer B) → List (Answer A) → Type 0)
    (nothing : last ≡ None → P None [] [])
    (still : (b c : B) (l : List (Answer A)) → Endless l → run b l c → last ≡ Some c → P (Some b) [] l)
    (done : (b c : B) (i : List (Answer B)) (own : List (Answer A)) (a : Answer A) (rest : List (Answer A))
    → Endless own → run b (own ++ end ∷ []) c → P None i (a ∷ rest) → P (Some b) i (own ++ a ∷ rest))
    (waits : (i : List (Answer B)) (l : List (Answer A)) → P None i l → P None (Pending ∷ i) (Pending ∷ l))
    (ended : (i : List (Answer B)) (l : List (Answer A)) → P None i l → P None (end ∷ i) (end ∷ l))
    (taken : (b : B) (i : List (Answer B)) (a : Answer A) (l : List (Answer A)) → P (Some b) i (a ∷ l)
    → P None (item b ∷ i) (a ∷ l)) where
  module _ (b : B) (i : List (Answer B)) (l : List (Answer A))
      (rest : (m : List (Answer A)) → Flat run i m last → P None i m) where
    inner_by : Flattening run (Some b) i l last → P (Some b) i l
    inner_by (inl h) = rw h.0 (still b h.2 l h.1 h.3 h.4)
    inner_by (inr h) = rw h.3 (done b h.5 i h.0 h.1 h.2 h.4 h.6 (rest _ h.7))

  flat_by : (i : List (Answer B)) (l : List (Answer A)) → Flat run i l last → P None i l
  flat_by [] [] h = nothing h
  flat_by (Pending ∷ i) (a ∷ l) h = rw h.0 (waits i l (flat_by i l h.1))
  flat_by (Ready None ∷ i) (a ∷ l) h = rw h.0 (ended i l (flat_by i l h.1))
  flat_by (Ready (Some b) ∷ i) (a ∷ l) h = taken b i a l (inner_by b i _ (flat_by i) h)
  flat_by _ _ h = absurd h

  pub flattening_by : (held : Option B) (i : List (Answer B)) (l : List (Answer A)) → Flattening run held i l last
      → P held i l
  flattening_by None i l h = flat_by i l h
  flattening_by (Some b) i l h = inner_by b i l (flat_by i) h

module _ {B A : Type 0} {run : Runs (Answer A) B} (laws : RunLaws run) where
  -- The results of an inner stream may be cut in two while it is held.
  module _ (b c : B) (h : Option B) (j : List (Answer B)) (l m : List (Answer A)) (endless : Endless l)
      (ran : run b l c) where
    begun : Flattening run (Some c) j m h → Flattening run (Some b) j (l ++ m) h
    begun (inl k) =
        inl (k.0, endless_join l m endless k.1, k.2, laws.follows b c k.2 l m ran k.3, k.4)
    begun (inr k) =
        inr (
          l ++ k.0,
          k.1,
          k.2,
          ap (λ n. l ++ n) k.3 ∙ sym (append_assoc l k.0 _),
          endless_join l k.0 endless k.4,
          k.5,
          rw append_assoc (laws.follows b c k.5 l _ ran k.6),
          k.7,
        )

  joins : (f g h : Option B) (i j : List (Answer B)) (l m : List (Answer A)) → Flattening run f i l g
      → Flattening run g j m h → Flattening run f (i ++ j) (l ++ m) h
  joins f g h i j l m c d =
      flattening_by run g (λ f i l. Flattening run f (i ++ j) (l ++ m) h)
      (λ e. rw e at d)
      (λ b c l n ran e. begun b c h j l m n ran (rw e at d))
      (λ b c i own a rest n ran k. inr (own, a, rest ++ m, append_assoc own (a ∷ rest) m, n, c, ran, k))
      (λ i l k. (refl, k)) (λ i l k. (refl, k)) (λ b i a l k. k) f i l c

  empty : (f g : Option B) (i : List (Answer B)) → Flattening run f i [] g → (i ≡ []) × (g ≡ f)
  empty None g [] c = (refl, c)
  empty None g (a ∷ i) c = absurd c
  empty (Some b) g i (inl k) = (k.0, k.4 ∙ ap Some (laws.stays b k.2 k.3))
  empty (Some b) g i (inr k) = absurd (not_empty k.0 k.1 k.2 k.3)

  starts : (f : Option B) → Flattening run f [] [] f
  starts None = refl
  starts (Some b) = inl (refl, refl, b, laws.rests b, refl)

  pub flattening : Following (Flattening run)
  flattening = record { starts = starts; empty = empty; joins = joins }

module _ {S B A : Type 0} (run : Runs (Answer A) B) (outer : Runs (Answer B) S) where
  -- An inner stream that has ended may be put before a step at which none is held.
  module _ (s : S) (b c : B) where
    pub ended_step : (r : Option (Answer A)) (y : S × Option B) → run b (end ∷ []) c
        → FlatStep run outer (s, None) r y → FlatStep run outer (s, Some b) r y
    ended_step None y ended h = record { ended = (c, ended); next = h.next; gave = h.gave; held = h.held }
    ended_step (Some a) y ended (inl h) = absurd h.1
    ended_step (Some a) y ended (inr h) = inr (h.0, h.1, inr ([], a, [], refl, refl, c, ended, h.2), h.3)

  module _ (laws : RunLaws outer) where
    module _ (x y : S × Option B) (a : Answer A) where
      step_answers : GivesOne run outer x a y → Through outer (Flattening run) x.0 x.1 (a ∷ []) y.0 y.1
      step_answers (inl h) = record { ins = []; came = rw h.0 (laws.rests x.0); related = h.1 }
      step_answers (inr h) = record { ins = h.0 ∷ []; came = h.1; related = h.2 }

    -- An inner stream that has ended may be put before the one that is taken next.
    before_taken : (held last : Option B) (b : B) (ins : List (Answer B)) (a : Answer A)
        → IfSome held (λ d. (c : B) × run d (end ∷ []) c)
        → Flattening run (Some b) ins (a ∷ []) last → Flattening run held (item b ∷ ins) (a ∷ []) last
    before_taken None last b ins a ended h = h
    before_taken (Some d) last b ins a ended h = inr ([], a, [], refl, refl, ended.0, ended.1, h)

    step_before : (x y z : S × Option B) (a : Answer A) → TakesNext run outer x y
        → Through outer (Flattening run) y.0 y.1 (a ∷ []) z.0 z.1
        → Through outer (Flattening run) x.0 x.1 (a ∷ []) z.0 z.1
    step_before x y z a h m =
        record {
          ins = item h.next ∷ m.ins;
          came = laws.follows x.0 y.0 z.0 _ m.ins h.gave m.came;
          related = before_taken x.1 z.1 h.next m.ins a h.ended
              (rw h.held at m.related);
        }

    -- The steps of one poll of an adapter lead to its result.
    pub flat_answer : {M : Type 0} (p : AdapterParts M S (Option B)) (can_step : M → Type 0) (x y z : M) (a : Answer A)
        → Reaches (NextStep (FlatSteps run outer p can_step)) x y → FlatSteps run outer p can_step y (Some a) z
        → Adapts p outer (Flattening run) x (a ∷ []) z
    flat_answer p can_step x y z a goes last =
        Reaches-back _
        (λ v w t. step_before (p.source v, p.held v) (p.source w, p.held w) (p.source z, p.held z) a t.1)
        x y goes (step_answers (p.source y, p.held y) (p.source z, p.held z) a last.1)

-- A fact about each inner stream that may follow holds of each that may follow later.
pub to_come : {S B : Type 0} {outer : Runs (Answer B) S} {Fact : B → Type 0} {can_poll : S → Type 0} {hints : Hints S}
    → StreamLaws can_poll outer hints → (s t : S) (held : Option B) (i : List (Answer B)) → EachInner outer Fact s held
    → outer s i t
    → (u : S) (before after : List (Answer B)) (b : B)
    → outer t (before ++ item b ∷ after) u → Fact b
to_come laws s t held i each came u before after b h =
    each.1 u (i ++ before) after b (rw append_assoc (laws.follows s t u i _ came h))

-- The same fact holds of each inner stream that the outer stream has yielded.
pub have_come : {S B : Type 0} (outer : Runs (Answer B) S) (Fact : B → Type 0) (s t : S) (held : Option B)
    (i : List (Answer B)) → EachInner outer Fact s held → outer s i t → AllByRecursion (OfItem Fact) i
have_come outer Fact s t held i each came =
    each_of Fact i (λ before after b e. each.1 t before after b (rw e at came))

module _ {S B A : Type 0} (run : Runs (Answer A) B) (outer : Runs (Answer B) S) where
  -- No chain of steps is endless, if no chain of items of the outer stream is.
  pub flat_ends : {M : Type 0} (p : AdapterParts M S (Option B)) {can_step : M → Type 0}
      → ((x : M) → can_step x → Terminates (ItemRun outer) (p.source x))
      → (x : M) → can_step x → Terminates (NextStep (FlatSteps run outer p can_step)) x
  flat_ends p ends x c = Terminates-map p.source (λ m n t. (t.1.next, [], t.1.gave)) x (ends x c)

  module _ (Fact : B → Type 0) (kept : (b c : B) (l : List (Answer A)) → Fact b → run b l c → Fact c) where
    -- A fact that runs keep holds of the inner stream that is held at last.
    last_has : Entails (Flattening run) (λ f i l g. IfSome f Fact → AllByRecursion (OfItem Fact) i → IfSome g Fact)
    last_has held last =
        flattening_by run last (λ f i l. IfSome f Fact → AllByRecursion (OfItem Fact) i → IfSome last Fact)
        (λ e k each. rw e tt) (λ b c l n ran e k each. rw e (kept b c l k ran)) (λ b c i own a rest n ran h k. h tt)
        (λ i l h k each. h tt each.1) (λ i l h k each. h tt each.1) (λ b i a l h k each. h (each.0 b refl) each.1)
        held

    pub each_inner_on : {can_poll : S → Type 0} {hints : Hints S} → StreamLaws can_poll outer hints
        → (s t : S) (held last : Option B) (l : List (Answer A)) → EachInner outer Fact s held
        → Through outer (Flattening run) s held l t last
        → EachInner outer Fact t last
    each_inner_on laws s t held last l each h = (
      last_has held last h.ins l h.related each.0 (have_come outer Fact s t held h.ins each h.came),
      to_come laws s t held h.ins each h.came,
    )

-- Laws about ranks.

module _ {B A : Type 0} (run : Runs (Answer A) B) (n : ℕ) (rank : B → List ℕ)
    (sized : (b : B) → length (rank b) ≡ n) where
  -- The rank of the inner stream that is held, or zeros if none is.
  abbrev Inner : Option B → List ℕ
  Inner = inner_rank n rank

  inner_sized : (held : Option B) → length (Inner held) ≡ n
  inner_sized None = length-replicate n 0
  inner_sized (Some b) = sized b

  same_size : (g f : Option B) → length (Inner g) ≡ length (Inner f)
  same_size g f = inner_sized g ∙ sym (inner_sized f)

  -- If all results are items, so are the outer stream's results.
  flattening_items : Entails (Flattening run) (λ f i l g. AllByRecursion IsItem l → AllByRecursion IsItem i)
  flattening_items f g =
      flattening_by run g (λ f i l. AllByRecursion IsItem l → AllByRecursion IsItem i) (λ e h. tt)
      (λ b c l n ran e h. tt) (λ b c i own a rest n ran k h. k (all_split IsItem own _ h).1)
      (λ i l k h. let e = h.0.1 in cc) (λ i l k h. let e = h.0.1 in cc)
      (λ b i a l k h. ((b, refl), k h)) f

  module _ (f g : Option B) where
    flat_falls : (i : List (Answer B)) (y : A) (l : List A) (xs us : List ℕ)
        → ((b : B) (before : List B) → i ≡ items (b ∷ before) → Below xs us) → (i ≡ [] → xs ≡ us)
        → ((b c : B) → f ≡ Some b → run b (items (y ∷ l)) c → Below (rank c) (rank b))
        → Flattening run f i (items (y ∷ l)) g → Below (xs ++ Inner g) (us ++ Inner f)
    flat_falls i y l xs us falls same inner h =
        at_start (each_items i (flattening_items f g i (items (y ∷ l)) h (items_each (y ∷ l))))
      where
        alone : (f : Option B) → i ≡ [] → ((b c : B) → f ≡ Some b → run b (items (y ∷ l)) c → Below (rank c) (rank b))
            → Flattening run f [] (items (y ∷ l)) g → Below (xs ++ Inner g) (us ++ Inner f)
        alone None e inner h = absurd h
        alone (Some b) e inner (inl h) =
            rw h.4 (Below-after xs us (rank h.2) (rank b) (inl (same e)) (inner b h.2 refl h.3))
        alone (Some b) e inner (inr h) = absurd h.7

        at_start : (before : List B) × (i ≡ items before) → Below (xs ++ Inner g) (us ++ Inner f)
        at_start ([], e) = alone f e inner (rw e at h)
        at_start (b ∷ before, e) = Below-first xs us (Inner g) (Inner f) (falls b before e) (same_size g f)

  -- The rank after an inner stream that has ended and the results that follow.
  ended_lowers : (b c : B) (own rest : List (Answer A)) (xs us : List ℕ) → Lowers (own ++ end ∷ []) (rank c) (rank b)
      → Lowers rest xs (us ++ replicate n 0) → Lowers (own ++ rest) xs (us ++ rank b)
  ended_lowers b c own rest xs us low h =
      own_lowers own _ rest _ _ xs _ low
      (λ _.
      let least = AtMost-both us us _ _ (inl refl) (zeros_least n _ (sized b)) in
      Lowers-then_at_most rest xs _ _ h least)
      (λ below.
      let gone = AtMost-then_below _ _ _ (zeros_least n _ (sized c)) below in
      AtMost-then_below xs (us ++ replicate n 0) _ (Lowers-at_most rest xs _ h)
      (Below-then us _ _ gone))

  flat_lowers : (firm : B → Type 0) (f g : Option B) (i : List (Answer B)) (l : List (Answer A)) (xs us : List ℕ)
      → ((b c : B) (m : List (Answer A)) → firm b → run b m c → Lowers m (rank c) (rank b)) → Flattening run f i l g
      → IfSome f firm → Lowers i xs us → Lowers l (xs ++ Inner g) (us ++ Inner f)
  flat_lowers firm f g i l xs us inner =
      flattening_by run g (λ f i l. IfSome f firm → Lowers i xs us → Lowers l (xs ++ Inner g) (us ++ Inner f))
      (λ e k h. rw e (AtMost-both xs us (replicate n 0) (replicate n 0) h (inl refl)))
      (λ b c l m ran e k h. rw e (Lowers-after l xs us (rank c) (rank b) h (inner b c l k ran)))
      (λ b c i own a rest m ran k d h.
      ended_lowers b c own (a ∷ rest) (xs ++ Inner g) us (inner b c _ d ran) (k tt h))
      (λ i l k d. k tt) (λ i l k d. k tt)
      (λ b i a l k d h. Lowers-below (a ∷ l) _ _ (Below-first xs us _ _ h (same_size g None))) f
      i l

held_has : {B : Type 0} (Fact : B → Type 0) {held : Option B} {b : B} → IfSome held Fact → held ≡ Some b → Fact b
held_has Fact h e = rw e at h

module _ {B A : Type 0} {run : Runs (Answer A) B} where
  -- Such an adapter may be polled after any run.
  pub flattening_on : {M S : Type 0} (p : AdapterParts M S (Option B)) {outer : Runs (Answer B) S} {can_poll : S → Type 0}
      {hints : Hints S} {r : Ranks S} {can_inner : B → Type 0} → StreamLaws can_poll outer hints → Counting outer r
      → PollsOn can_inner run → PollsOn (CanStepFlat p outer can_poll r.counts can_inner) (Adapts p outer (Flattening run))
  flattening_on p {outer} {can_inner} laws c on x y l k h = (
    laws.polls_on _ _ h.ins k.0 h.came,
    c.counts_on _ _ h.ins k.1 h.came,
    each_inner_on run outer can_inner on laws _ _ _ _ l k.2 h,
  )

  pub flattening_counting : {M S : Type 0} (p : AdapterParts M S (Option B)) {outer : Runs (Answer B) S}
      {can_poll : S → Type 0} {hints : Hints S} {r : Ranks S} {r' : Ranks B} → StreamLaws can_poll outer hints → Counting outer r → Counting run r'
      → Counting (Adapts p outer (Flattening run)) (flattening_ranks p outer r r')
  flattening_counting p {outer} {r} {r'} laws c c' =
      record {
        sized = λ x.
            length-append (r.rank _) _
            ∙ omega (arith, c.sized (p.source x), inner_sized run r'.width r'.rank c'.sized (p.held x));
        counts_on = λ x y l k h. (
          c.counts_on _ _ h.ins k.0 h.came,
          each_inner_on run outer r'.counts c'.counts_on laws _ _ _ _ l k.1 h,
        );
        firm_on = λ x y l k h. (
          c.firm_on _ _ h.ins k.0 h.came,
          each_inner_on run outer r'.firm c'.firm_on laws _ _ _ _ l k.1 h,
        );
        falls = λ x y a more k h.
            let came = λ (i : List (Answer _)) (e : h.ins ≡ i). rw e at h.came in
            flat_falls run r'.width r'.rank c'.sized _ _ h.ins a more _ _
            (λ b before e. c.falls _ _ b before k.0 (came _ e))
            (λ e. ap r.rank (laws.stays _ _ (came [] e)))
            (λ b d e. c'.falls b d a more (held_has r'.counts k.1.0 e)) h.related;
        lowers = λ x y l k h.
            flat_lowers run r'.width r'.rank c'.sized r'.firm _ _ h.ins l _ _
            c'.lowers h.related k.1.0 (c.lowers _ _ h.ins k.0 h.came);
      }
