-- The value of `try_collect`, by what the Ok items of the stream hold.
use Rattle.std.specs.Prelude.{List, ◌≡◌, [], ◌∷◌, ◌++◌, Option, Some, None, IfSome, map, Result, Ok, Err, IfOk}
use Rattle.lite_views.specs.Trying.{OkSeen, AllTaken, OkFits, OkLists}
use Rattle.lite_views.specs.Uses.{inl, inr, append_assoc, append-nil, Fold, TryCollect, sym, Poll, Ready, Answer, Gives}
use Rattle.lite_views.specs.Uses.{item, Runs, Folds, Consumes, Decides, TakesIn, fold_of, consumes_steps, Consume}
use Rattle.lite_views.specs.Uses.{tries_collect, TryCollectError}
use Rattle.lite_views.proofs.Consume.{MakesOf}
use Rattle.lite_views.specs.Views.{ValueHolds}
use Rattle.lite_views.proofs.Views.{value_holds}

-- What the Ok items of a stream hold, up to its first error.

pub ok_seen : {S T Y : Type 0} (s : S) (f : T → Y) (xs : List Y) → OkSeen s f xs
unfolding OkSeen
ok_seen s f xs = tt

-- What the futures that gather items share: `collect`, `partition`, `unzip` and `try_collect`.

-- A future that gathers: `Has p l` says that of the items l were taken in, `Good r l` what is true of the value r that
-- is made of the items l.
module _ {N T R : Type 0} (fold : Fold N T R) (Has : N → List T → Type 0) (Good : R → List T → Type 0)
    (takes : (p q : N) (x : T) (l : List T) → fold.asks p x None q → Has p l → Has q (l ++ x ∷ []))
    (decides : (p q : N) (x : T) (r : R) (l xs : List T) → fold.asks p x (Some r) q → Has p l → Good r (l ++ x ∷ xs))
    (closes : (p q : N) (r : R) (l : List T) → fold.closes p r q → Has p l → Good r l) where
  pub gathered : (p : N) (l xs : List T) (r : R) → Has p l → MakesOf fold p xs r → Good r (l ++ xs)
  gathered p l [] r h (q, s) = rw append-nil (closes p q r l s h)
  gathered p l (x ∷ xs) r h (inl (q, s, more)) =
      rw (← append_assoc l (x ∷ []) xs) (gathered q (l ++ x ∷ []) xs r (takes p q x l s h) more)
  gathered p l (x ∷ xs) r h (inr (q, s)) = decides p q x r l xs s h

-- what is there, if it is, has the fact
abbrev pub WhereSome : {C : Type 0} → Option C → (C → Type 0) → Type 0
WhereSome {C} o P = (c : C) → o ≡ Some c → P c

pub where_some : {C : Type 0} (P : C → Type 0) (o : Option C) → IfSome o P → WhereSome o P
where_some P None h c e = cc
where_some P (Some d) h c e = let same : d ≡ c = cc e in rw (← same) h

module _ {C T E Y : Type 0} (may_refuse : C → T → Type 0) (holds : C → List T → Type 0) (f : T → Y) where
  -- the fold of `try_collect`
  abbrev the_fold : Fold (TryCollect C) (Result T E) (Result C (TryCollectError C T E))
  the_fold = fold_of (λ (m : TryCollect C). m.items) (tries_collect may_refuse holds)

  -- of what is still to come, where the collection has ts
  abbrev Collects : Result C (TryCollectError C T E) → TryCollect C → List (Answer (Result T E)) → Type 0
  Collects v p i =
      (ts : List T) (xs : List Y) → WhereSome p.items (λ c. holds c ts) → OkFits f i xs
      → IfOk v (λ c. (more : List T) × holds c (ts ++ more) × (map f more ≡ xs))

  module _ (v : Result C (TryCollectError C T E)) (p : TryCollect C) where
    one_taken : (m : TryCollect C) (x : Result T E) (i : List (Answer (Result T E))) → TakesIn the_fold p x m
        → Collects v m i → Collects v p (item x ∷ i)
    one_taken m (Err x) i t k ts xs h e = absurd t
    one_taken m (Ok x) i t k ts [] h e = absurd e
    one_taken m (Ok x) i t k ts (y ∷ xs) h e =
        let now : WhereSome m.items (λ c. holds c (ts ++ x ∷ [])) =
        λ c k. let same : t.1 ≡ c = (let d = t.4 in cc) in rw (← same) (t.3 ts (h t.0 t.2)) in
        onward v (k (ts ++ x ∷ []) xs now e.1)
      where
        onward : (v : Result C (TryCollectError C T E))
            → IfOk v (λ c. (more : List T) × holds c ((ts ++ x ∷ []) ++ more) × (map f more ≡ xs))
            → IfOk v (λ c. (more : List T) × holds c (ts ++ more) × (map f more ≡ y ∷ xs))
        onward (Ok c) r = (x ∷ r.0, rw (← append_assoc ts (x ∷ []) r.0) r.1, (let a = e.0 in let b = r.2 in cc))
        onward (Err d) r = tt

    decided_held : (q : TryCollect C) (o : Option (Result T E)) → Decides the_fold p (Ready o) (Ready v) q
        → Collects v p (Ready o ∷ [])
    decided_held q None d ts xs h e = rw d.2 ([], rw append-nil (h d.0 d.1), sym e)
    decided_held q (Some (Ok x)) d ts xs h e = cc
    decided_held q (Some (Err x)) d ts xs h e = cc

  collected : (l : List (Poll (Result C (TryCollectError C T E)))) (p q : TryCollect C) (i : List (Answer (Result T E)))
      (v : Result C (TryCollectError C T E)) → Gives l v → Consumes the_fold p i l q → Collects v p i
  collected l p q i v g h =
      consumes_steps the_fold (λ p i l. Gives l v → Collects v p i) (λ p m x i b l t k g. one_taken v p m x i t (k g))
      (λ p i l k. k) q (λ p o r d g. rw (← g.0) (decided_held r p q o d)) p i l absurd h g

  pub all_collected : {S X : Type 0} (run : Runs (Answer (Result T E)) S) (x : Consume S (TryCollect C)) (xs : List Y)
      → IfSome x.folder.items (λ c. holds c []) → OkLists run x.stream f xs
      → ValueHolds X (Folds run the_fold) x (AllTaken holds f xs)
  unfolding OkLists
  all_collected run x xs none lists =
      value_holds (Folds run the_fold) x (AllTaken holds f xs)
      (λ ins v fin. collected ins x.folder fin.last.folder fin.came.ins v fin.gives fin.came.consumed [] xs
      (where_some (λ c. holds c []) x.folder.items none) (lists fin.came.ins fin.last.stream fin.came.came))
