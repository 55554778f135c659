-- The value of `partition`, by the items of the stream.
use Rattle.std.specs.Prelude.{◌≡◌, List, [], ◌∷◌, ◌++◌, Bool, true, false, cond, not, None, Result, IfOk, IfSome}
use Rattle.lite_views.specs.Uses.{filter-append, ◌∙◌, ap, append-nil, filter, Question, fold_of, Refused}
use Rattle.lite_gather.specs.Partition.{Partitioned, Sorted, partitions}
use Rattle.lite_gather.specs.declared.partition.Partition.{Partition}
use Rattle.std.proofs.Math.Bool.{not-not}
use Rattle.lite_views.proofs.Views.{AnswersAs}
use Rattle.lite_views.proofs.Consume.{MakesOf}
use Rattle.lite_views.proofs.Collecting.{WhereSome, gathered, where_some}

-- of the one collection or of the other
module _ {B F T : Type 0} (may_refuse : B → T → Type 0) (holds : B → List T → Type 0)
    (asked : Question F T Bool) (f : F) where
  -- the collection `of`, which takes the items in at which the predicate answers `mine`
  module _ (of : B × B → B) (mine : Bool → Bool) (test : T → Bool)
      (acts : (x : T) (b : Bool) (g : F) → asked f x b g → (g ≡ f) × (mine b ≡ test x))
      (goes : (b : Bool) (x : T) (c d : B × B) (l : List T) → Sorted holds b c x d → holds (of c) l
      → holds (of d) (l ++ cond (mine b) (x ∷ []) [])) where
    sorted_made : (p : Partition F B) (xs : List T) → p.predicate ≡ f → WhereSome p.res (λ c. holds (of c) [])
        → (v : Result (B × B) (Refused (B × B) T))
        → MakesOf (fold_of (λ (m : Partition F B). (m.predicate, m.res)) (partitions holds asked may_refuse)) p xs v
        → IfOk v (λ d. holds (of d) (filter test xs))
    sorted_made p xs e none v =
        gathered (fold_of (λ (m : Partition F B). (m.predicate, m.res)) (partitions holds asked may_refuse))
        (λ p l. (p.predicate ≡ f) × WhereSome p.res (λ c. holds (of c) (filter test l)))
        (λ v l. IfOk v (λ d. holds (of d) (filter test l))) taken (λ p q x r l xs s h. rw s.6 tt)
        (λ p q r l s h. rw s.2 (h.1 s.0 s.1)) p [] xs v (e, none)
      where
        taken : (p q : Partition F B) (x : T) (l : List T)
            → Partitioned holds asked may_refuse (p.predicate, p.res) x None
            (q.predicate, q.res)
            → (p.predicate ≡ f) × WhereSome p.res (λ c. holds (of c) (filter test l))
            → (q.predicate ≡ f) × WhereSome q.res (λ c. holds (of c) (filter test (l ++ x ∷ [])))
        taken p q x l s h =
            let a = acts x s.0 q.predicate (rw (← h.0) s.3) in (
              a.0,
              λ c e. let same : s.2 ≡ c = (let k = s.6 in cc) in
                  rw (filter-append test l (x ∷ []), ← a.1, ← same)
                  (goes s.0 x s.1 s.2 (filter test l) s.5 (h.1 s.1 s.4)),
            )

  kept_same : (c d : B) (l : List T) → d ≡ c → holds c l → holds d (l ++ [])
  kept_same c d l e h = rw (append-nil, e) h

  -- the items that are accepted
  pub accepted_made : (test : T → Bool) → AnswersAs asked f test → (p : Partition F B) (xs : List T) → p.predicate ≡ f
      → IfSome p.res (λ c. holds c.0 [] × holds c.1 []) → (v : Result (B × B) (Refused (B × B) T))
      → MakesOf (fold_of (λ (m : Partition F B). (m.predicate, m.res)) (partitions holds asked may_refuse)) p xs v
      → IfOk v (λ d. holds d.0 (filter test xs))
  accepted_made test acts p xs e none =
      sorted_made (λ c. c.0) (λ b. b) test acts goes p xs e (λ c k. (where_some _ p.res none c k).0)
    where
      goes : (b : Bool) (x : T) (c d : B × B) (l : List T) → Sorted holds b c x d → holds c.0 l
          → holds d.0 (l ++ cond b (x ∷ []) [])
      goes true x c d l s h = s.0 l h
      goes false x c d l s h = kept_same c.0 d.0 l s.1 h

  -- and the others, each of which `rest` accepts
  pub others_made : (rest : T → Bool) → AnswersAs asked f (λ x. not (rest x)) → (p : Partition F B) (xs : List T)
      → p.predicate ≡ f
      → IfSome p.res (λ c. holds c.0 [] × holds c.1 []) → (v : Result (B × B) (Refused (B × B) T))
      → MakesOf (fold_of (λ (m : Partition F B). (m.predicate, m.res)) (partitions holds asked may_refuse)) p xs v
      → IfOk v (λ d. holds d.1 (filter rest xs))
  others_made rest acts p xs e none =
      sorted_made (λ c. c.1) not rest
      (λ x b g c. let a = acts x b g c in (a.0, ap not a.1 ∙ not-not (rest x))) goes p xs e
      (λ c k. (where_some _ p.res none c k).1)
    where
      goes : (b : Bool) (x : T) (c d : B × B) (l : List T) → Sorted holds b c x d → holds c.1 l
          → holds d.1 (l ++ cond (not b) (x ∷ []) [])
      goes true x c d l s h = kept_same c.1 d.1 l s.1 h
      goes false x c d l s h = s.0 l h
