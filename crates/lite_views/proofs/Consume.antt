-- What the futures that consume a stream share: their value, by the items of the stream, and what they leave of it.
use Rattle.std.specs.Prelude.{◌≡◌, List, [], ◌∷◌, ◌++◌, refl, Option, Some, None}
use Rattle.std.proofs.Common.{◌⊎◌}
use Rattle.lite_views.specs.Uses.{inl, inr, sym, Poll, Ready, Answer, Gives, item, Question, Runs, Folds, Consumes}
use Rattle.lite_views.specs.Uses.{Decides, Fold, TakesIn, consumes_steps, Consume, Hints, Lent, MutBor, StreamLaws, ap}
use Rattle.lite_views.specs.Futures.{RestIfFound}
use Rattle.lite_views.specs.Answering.{WhenLeft}
use Rattle.lite_views.proofs.Futures.{when_left}
use Rattle.lite_views.proofs.Views.{AnswersAs, answered, listed, value_holds}
use Rattle.lite_views.specs.Views.{Fits, Lists, ValueHolds, ValueIs}

module _ {M A R : Type 0} (fold : Fold M A R) where
  -- of these items, and then an end, or of those up to one that decides, the value r is made
  abbrev pub MakesOf : M → List A → R → Type 0
  MakesOf p [] r = (q : M) × fold.closes p r q
  MakesOf p (x ∷ xs) r = ((q : M) × fold.asks p x None q × MakesOf q xs r) ⊎ ((q : M) × fold.asks p x (Some r) q)

  -- of these items no value but v is made
  abbrev pub MakesOnly : M → List A → R → Type 0
  MakesOnly p xs v = (r : R) → MakesOf p xs r → r ≡ v

  module _ (p m : M) (x : A) (i : List (Answer A)) (r : R) (h : TakesIn fold p x m)
      (k : (xs : List A) → Fits i xs → MakesOf m xs r) where
    taken_makes : (xs : List A) → Fits (item x ∷ i) xs → MakesOf p xs r
    taken_makes [] e = absurd e
    taken_makes (y ∷ xs) e = inl (m, rw (← e.0) h, k xs e.1)

  decided_makes : (p q : M) (o : Option A) (xs : List A) (r : R) → Fits (Ready o ∷ []) xs
      → Decides fold p (Ready o) (Ready r) q → MakesOf p xs r
  decided_makes p q None xs r e h = rw e (q, h)
  decided_makes p q (Some x) [] r e h = absurd e
  decided_makes p q (Some x) (y ∷ xs) r e h = inr (q, rw (← e.0) h)

  pub settles : (p q : M) (i : List (Answer A)) (l : List (Poll R)) (xs : List A) (r : R) → Fits i xs → Gives l r
      → Consumes fold p i l q → MakesOf p xs r
  settles p q i l xs r e g h =
      consumes_steps fold (λ p i l. Gives l r → (xs : List A) → Fits i xs → MakesOf p xs r)
      (λ p m x i b l t k g. taken_makes p m x i r t (k g)) (λ p i l k. k) q
      (λ p o v d g xs e. rw (← g.0) (decided_makes p q o xs v e d)) p i l absurd h g xs e

  module _ {S : Type 0} (run : Runs (Answer A) S) (x : Consume S M) (xs : List A) where
    -- what holds of each value that is made of the items holds of the future's
    pub value_made : {E : Type 0} (P : R → Type 0) → Lists run x.stream xs
        → ((r : R) → MakesOf x.folder xs r → P r) → ValueHolds E (Folds run fold) x P
    unfolding Lists
    value_made P lists made =
        value_holds (Folds run fold) x P
        (λ ins v f. made v (settles x.folder f.last.folder f.came.ins ins xs v
        (lists f.came.ins f.last.stream f.came.came) f.gives f.came.consumed))

    pub only_made : (v : R) → Lists run x.stream xs → MakesOnly x.folder xs v → ValueIs (Folds run fold) x v
    only_made v lists made = (refl, value_made (λ r. r ≡ v) lists made)

-- What is left of a stream behind a future that borrowed it.
module _ {M A R : Type 0} (fold : Fold M A R) (later : List (Answer A)) where
  -- of these items, and then an end, or of those up to one that decides, the value r is made; what comes later is the
  -- items behind that one
  abbrev pub LeavesOf : M → List A → R → Type 0
  LeavesOf p [] r = (q : M) × fold.closes p r q
  LeavesOf p (x ∷ xs) r =
      ((q : M) × fold.asks p x None q × LeavesOf q xs r) ⊎ ((q : M) × fold.asks p x (Some r) q × Fits later xs)

  module _ (p m : M) (x : A) (i : List (Answer A)) (r : R) (h : TakesIn fold p x m)
      (k : (xs : List A) → Fits (i ++ later) xs → LeavesOf m xs r) where
    taken_leaves : (xs : List A) → Fits (item x ∷ (i ++ later)) xs → LeavesOf p xs r
    taken_leaves [] e = absurd e
    taken_leaves (y ∷ xs) e = inl (m, rw (← e.0) h, k xs e.1)

  decided_leaves : (p q : M) (o : Option A) (xs : List A) (r : R) → Fits (Ready o ∷ later) xs
      → Decides fold p (Ready o) (Ready r) q → LeavesOf p xs r
  decided_leaves p q None xs r e h = rw e (q, h)
  decided_leaves p q (Some x) [] r e h = absurd e
  decided_leaves p q (Some x) (y ∷ xs) r e h = inr (q, rw (← e.0) h, e.1)

  pub leaves : (p q : M) (i : List (Answer A)) (l : List (Poll R)) (xs : List A) (r : R) → Fits (i ++ later) xs
      → Gives l r → Consumes fold p i l q → LeavesOf p xs r
  leaves p q i l xs r e g h =
      consumes_steps fold (λ p i l. Gives l r → (xs : List A) → Fits (i ++ later) xs → LeavesOf p xs r)
      (λ p m x i b l t k g. taken_leaves p m x i r t (k g)) (λ p i l k. k) q
      (λ p o v d g xs e. rw (← g.0) (decided_leaves p q o xs v e d)) p i l absurd h g xs e

-- A fold that asks a closure about each item, and goes on or decides by its answer: `made` is what comes of the items.
module _ {M F A O R : Type 0} (fold : Fold M A R) (f_of : M → F) (call : Question F A O) (f : F) (h : A → O)
    (acts : AnswersAs call f h) (made : List A → R)
    (none : (p q : M) (r : R) → fold.closes p r q → r ≡ made [])
    (goes : (p q : M) (x : A) (xs : List A) → fold.asks p x None q
    → (o : O) × call (f_of p) x o (f_of q) × (h x ≡ o → made (x ∷ xs) ≡ made xs))
    (stops : (p q : M) (x : A) (r : R) (xs : List A) → fold.asks p x (Some r) q
    → (o : O) × call (f_of p) x o (f_of q) × (h x ≡ o → made (x ∷ xs) ≡ r)) where
  pub asked_made : (p : M) (xs : List A) → f_of p ≡ f → MakesOnly fold p xs (made xs)
  asked_made p [] e v (q, s) = none p q v s
  asked_made p (x ∷ xs) e v (inl (q, s, more)) =
      let g = goes p q x xs s in
      let a = answered call f h acts (f_of p) (f_of q) x g.0 e g.1 in rw (g.2 a.1) (asked_made q xs a.0 v more)
  asked_made p (x ∷ xs) e v (inr (q, s)) =
      let g = stops p q x v xs s in
      let a = answered call f h acts (f_of p) (f_of q) x g.0 e g.1 in sym (g.2 a.1)

-- Of such a fold that decides by an item: what comes later is the items behind that one, `behind`.
module _ {M F A O B : Type 0} (fold : Fold M A (Option B)) (f_of : M → F) (call : Question F A O) (f : F) (h : A → O)
    (acts : AnswersAs call f h) (behind : List A → List A)
    (none : (p q : M) (r : Option B) → fold.closes p r q → r ≡ None)
    (goes : (p q : M) (x : A) (xs : List A) → fold.asks p x None q
    → (o : O) × call (f_of p) x o (f_of q) × (h x ≡ o → behind (x ∷ xs) ≡ behind xs))
    (stops : (p q : M) (x : A) (r : Option B) (xs : List A) → fold.asks p x (Some r) q
    → (o : O) × call (f_of p) x o (f_of q) × (h x ≡ o → behind (x ∷ xs) ≡ xs)) where
  asked_behind : (later : List (Answer A)) (p : M) (xs : List A) (found : B) → f_of p ≡ f
      → LeavesOf fold later p xs (Some found) → Fits later (behind xs)
  asked_behind later p [] found e (q, s) = let k = none p q (Some found) s in cc
  asked_behind later p (x ∷ xs) found e (inl (q, s, more)) =
      let g = goes p q x xs s in
      let a = answered call f h acts (f_of p) (f_of q) x g.0 e g.1 in
      rw (g.2 a.1) (asked_behind later q xs found a.0 more)
  asked_behind later p (x ∷ xs) found e (inr (q, s, fits)) =
      let g = stops p q x (Some found) xs s in
      let a = answered call f h acts (f_of p) (f_of q) x g.0 e g.1 in rw (g.2 a.1) fits

  -- where such a future borrowed a stream: its value, and what is left of the stream
  module _ {S : Type 0} {run : Runs (Answer A) S} {can_poll : S → Type 0} {hints : Hints S} (laws : StreamLaws can_poll run hints)
      (x : Consume (MutBor S) M) (xs : List A) (lists : Lists run x.stream.now xs) (from : f_of x.folder ≡ f)
      (v : Option B) (made : MakesOnly fold x.folder xs v) where
    rest : (ins : List (Poll (Option B))) (y : Consume (MutBor S) M) (o : Option B) → Gives ins o
        → Folds (Lent run) fold x ins y → RestIfFound run y.stream.now o (behind xs)
    unfolding Lists
    rest ins y None gives ran = tt
    rest ins y (Some found) gives ran =
        listed run y.stream.now (behind xs)
        (λ l t h.
        asked_behind l x.folder xs found from
        (leaves fold l x.folder y.folder ran.ins ins xs (Some found)
        (lists (ran.ins ++ l) t (laws.follows x.stream.now y.stream.now t ran.ins l ran.came.0 h)) gives ran.consumed))

    pub asked_left : {E : Type 0} → WhenLeft E (Folds (Lent run) fold) x (λ y. y.stream.ghost_name ≡ x.stream.ghost_name)
        (λ y o. (o ≡ v) × RestIfFound run y.stream.now o (behind xs))
    unfolding Lists
    asked_left =
        when_left (Folds (Lent run) fold) x (λ y. y.stream.ghost_name ≡ x.stream.ghost_name)
        (λ y o. (o ≡ v) × RestIfFound run y.stream.now o (behind xs)) refl
        (λ ins y ran. ap (λ r. r.ghost_name) ran.came.1)
        (λ ins y o gives ran. (
          made o
              (settles fold x.folder y.folder ran.ins ins xs o (lists ran.ins y.stream.now ran.came.0) gives ran.consumed),
          rest ins y o gives ran,
        ))
