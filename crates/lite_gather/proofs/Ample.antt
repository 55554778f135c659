-- The steps of those that collect in which nothing was refused are those in which memory was found.
use Rattle.std.specs.Prelude.{◌≡◌, ⊤, List, [], ◌∷◌, ◌++◌, Option, Some, None, Result, Ok, Err, Bool, IfSome, IsOk}
use Rattle.lite_gather.specs.Uses.{subst, Question}
use Rattle.futures.specs.declared.task.Poll.{Poll}
use Rattle.futures.specs.declared.task.Poll.TheVariants.{Pending, Ready}
use Rattle.lite_base.specs.Answers.{Answer, Gives, end, item}
use Rattle.lite_consume.specs.Agreeing.{WithinWhere}
use Rattle.lite_consume.specs.Consuming.{Consumes, Decides}
use Rattle.lite_consume.specs.Laws.Consuming.{each_consumed}
use Rattle.std.specs.List.{AllByRecursion}
use Rattle.lite_gather.specs.Collect.{Collected, collects}
use Rattle.lite_gather.specs.Gathering.{NeverRefuses}
use Rattle.lite_gather.specs.Partition.{partitions}
use Rattle.lite_gather.specs.TryCollect.{HasMemory, TryCollected, tries_collect}
use Rattle.lite_gather.specs.Unzip.{unzips}
use Rattle.lite_gather.specs.declared.refused.Refused.{Refused}
use Rattle.lite_gather.specs.declared.refused.TryCollectError.{TryCollectError}
use Rattle.lite_gather.specs.declared.refused.TryCollectError.TheVariants.{Source, Memory}
use Rattle.lite_gather.specs.declared.refused.UnzipRefused.{UnzipRefused}

-- what is Ok is no Err
not_ok : {C E : Type 0} (r : Result C E) (e : E) → r ≡ Err e → IsOk r → ⊥
not_ok (Ok c) e h ok = cc
not_ok (Err d) e h ok = cc

module _ {C T : Type 0} (may_refuse : C → T → Type 0) (holds : C → List T → Type 0) where
  pub collect_within : WithinWhere IsOk (collects may_refuse holds) (collects NeverRefuses holds)
  collect_within = record { asks = asked; closes = λ p q r m h. h }
    where
      asked : (p q : Option C) (x : T) (o : Option (Result C (Refused C T))) → IfSome o IsOk
          → (collects may_refuse holds).asks p x o q → (collects NeverRefuses holds).asks p x o q
      asked p q x None m h = h
      asked p q x (Some r) m h = absurd (not_ok r _ h.5 m)

  pub try_collect_within : {E : Type 0}
      → WithinWhere HasMemory (tries_collect {E = E} may_refuse holds) (tries_collect NeverRefuses holds)
  try_collect_within {E} = record { asks = asked; closes = λ p q r m h. h }
    where
      refused : (r : Result C (TryCollectError C T E)) (e : Refused C T) → r ≡ Err (Memory e) → HasMemory r → ⊥
      refused (Ok c) e h m = cc h
      refused (Err (Source d)) e h m = cc h
      refused (Err (Memory d)) e h m = m

      asked : (p q : Option C) (x : Result T E) (o : Option (Result C (TryCollectError C T E))) → IfSome o HasMemory
          → (tries_collect may_refuse holds).asks p x o q → (tries_collect NeverRefuses holds).asks p x o q
      asked p q (Ok x) None m h = h
      asked p q (Ok x) (Some r) m h = absurd (refused r _ h.5 m)
      asked p q (Err e) None m h = h
      asked p q (Err e) (Some r) m h = h

  pub partition_within : {P : Type 0} (test : Question P T Bool)
      → WithinWhere IsOk (partitions holds test may_refuse) (partitions holds test NeverRefuses)
  partition_within {P} test = record { asks = asked; closes = λ p q r m h. h }
    where
      asked : (p q : P × Option (C × C)) (x : T) (o : Option (Result (C × C) (Refused (C × C) T))) → IfSome o IsOk
          → (partitions holds test may_refuse).asks p x o q → (partitions holds test NeverRefuses).asks p x o q
      asked p q x None m h = h
      asked p q x (Some r) m h = absurd (not_ok r _ h.6 m)

module _ {C D A B : Type 0} (first_refuses : C → A → Type 0) (second_refuses : D → B → Type 0)
    (holds_first : C → List A → Type 0) (holds_second : D → List B → Type 0) where
  pub unzip_within : WithinWhere IsOk (unzips holds_first holds_second first_refuses second_refuses)
      (unzips holds_first holds_second NeverRefuses NeverRefuses)
  unzip_within = record { asks = asked; closes = λ p q r m h. h }
    where
      asked : (p q : Option (C × D)) (x : A × B) (o : Option (Result (C × D) (UnzipRefused C D A B))) → IfSome o IsOk
          → (unzips holds_first holds_second first_refuses second_refuses).asks p x o q
          → (unzips holds_first holds_second NeverRefuses NeverRefuses).asks p x o q
      asked p q x None m h = h
      asked p q x (Some r) m h = absurd (not_ok r _ h.4 m)

module _ {C T : Type 0} (may_refuse : C → T → Type 0) (holds : C → List T → Type 0) where
  -- what holds of Ok items holds of each answer that came before a value that is no refusal, if it holds of the error
  -- that it is
  module _ {E : Type 0} (P : Answer (Result T E) → Type 0) where
    abbrev pub FitsTried : Result C (TryCollectError C T E) → Type 0
    FitsTried (Ok c) = ⊤
    FitsTried (Err (Source e)) = P (item (Err e))
    FitsTried (Err (Memory m)) = ⊥

    tried_taken : ((x : T) → P (item (Ok x))) → (p q : Option C) (x : Result T E) → ⊤ → TryCollected may_refuse holds p x None q
        → ⊤ × P (item x)
    tried_taken oks p q (Ok x) k h = (tt, oks x)
    tried_taken oks p q (Err e) k h = absurd h

    tried_decided : P end → (p q : Option C) (o : Option (Result T E)) (r : Result C (TryCollectError C T E))
        → FitsTried r → Decides (tries_collect may_refuse holds) p (Ready o) (Ready r) q → ⊤ × P (Ready o)
    tried_decided ends p q None r m h = (tt, ends)
    tried_decided ends p q (Some (Ok x)) r m h = absurd (subst FitsTried h.5 m)
    tried_decided ends p q (Some (Err e)) r m h = (tt, subst FitsTried h.0 m)

    pub try_collect_each : P Pending → P end → ((x : T) → P (item (Ok x)))
        → (p q : Option C) (i : List (Answer (Result T E))) (l : List (Poll (Result C (TryCollectError C T E))))
        (v : Result C (TryCollectError C T E)) → FitsTried v → Gives l v → Consumes (tries_collect may_refuse holds) p i l q
        → AllByRecursion P i
    try_collect_each waits ends oks p q i l v m g h =
        (each_consumed (tries_collect may_refuse holds) P (λ p. ⊤) FitsTried waits (tried_taken oks)
        (tried_decided ends) p q i l v m g h).1

  -- what holds of each item that the collection holds does
  module _ (P : Answer T → Type 0) where
    abbrev pub FitsAll : C → Type 0
    FitsAll c = (l : List T) → holds c l → AllByRecursion (λ x. P (item x)) l

    abbrev pub FitsGathered : Result C (Refused C T) → Type 0
    FitsGathered (Ok c) = FitsAll c
    FitsGathered (Err r) = ⊥

    abbrev Keeps : Option C → Type 0
    Keeps p = (c : C) → p ≡ Some c → FitsAll c

    all_before : (l : List T) (x : T) → AllByRecursion (λ y. P (item y)) (l ++ x ∷ [])
        → AllByRecursion (λ y. P (item y)) l × P (item x)
    all_before [] x a = (tt, a.0)
    all_before (y ∷ l) x a = let rest = all_before l x a.1 in ((a.0, rest.0), rest.1)

    collected_taken : ((c : C) → (l : List T) × holds c l) → (p q : Option C) (x : T) → Keeps q
        → Collected may_refuse holds p x None q → Keeps p × P (item x)
    collected_taken some p q x k h =
        let all : (l : List T) → holds h.0 l → AllByRecursion (λ y. P (item y)) l × P (item x) =
        λ l held. all_before l x (k h.1 h.4 (l ++ x ∷ []) (h.3 l held)) in
        let held = some h.0 in
        (λ c e l held'. (all l (subst (λ d. holds d l) (let f = h.2 in cc) held')).0, (all held.0 held.1).1)

    collected_decided : P end → (p q : Option C) (o : Option T) (r : Result C (Refused C T)) → FitsGathered r
        → Decides (collects may_refuse holds) p (Ready o) (Ready r) q → Keeps p × P (Ready o)
    collected_decided ends p q None r m h =
        (λ c e. subst FitsAll (let f = h.1 in cc) (subst FitsGathered h.2 m), ends)
    collected_decided ends p q (Some x) r m h = absurd (subst FitsGathered h.5 m)

    pub collect_each : P Pending → P end → ((c : C) → (l : List T) × holds c l)
        → (p q : Option C) (i : List (Answer T)) (l : List (Poll (Result C (Refused C T)))) (v : Result C (Refused C T))
        → FitsGathered v → Gives l v → Consumes (collects may_refuse holds) p i l q → AllByRecursion P i
    collect_each waits ends some p q i l v m g h =
        (each_consumed (collects may_refuse holds) P Keeps FitsGathered waits (collected_taken some)
        (collected_decided ends) p q i l v m g h).1
