-- The value of `try_collect`, by the items of the stream.
use Rattle.std.specs.Prelude.{◌≡◌, List, [], ◌∷◌, ◌++◌, map, refl, Some, None, Result, Ok, Err, IfSome}
use Rattle.lite_views.specs.Uses.{TryCollect, map-append, sym, ok_prefix, fold_of, tries_collect, TryCollectError}
use Rattle.lite_gather.specs.TryCollect.{TryCollected}
use Rattle.lite_views.specs.Trying.{first_error, TriesCollect}
use Rattle.lite_views.proofs.Consume.{MakesOf}
use Rattle.lite_views.proofs.Collecting.{WhereSome, gathered, where_some}

values_of : {T : Type 0} (E : Type 0) (ys : List T) → ok_prefix {E = E} (map Ok ys) ≡ ys
values_of E [] = refl
values_of E (y ∷ ys) = rw (values_of E ys)

error_behind : {T E : Type 0} (ys : List T) (xs : List (Result T E)) → first_error (map Ok ys ++ xs) ≡ first_error xs
error_behind [] xs = refl
error_behind (y ∷ ys) xs = error_behind ys xs

pub try_collect_made : {C T E : Type 0} (may_refuse : C → T → Type 0) (holds : C → List T → Type 0)
    (p : TryCollect C) (xs : List (Result T E)) (none : IfSome p.items (λ c. holds c []))
    (v : Result C (TryCollectError C T E))
    → MakesOf (fold_of (λ (m : TryCollect C). m.items) (tries_collect may_refuse holds)) p xs v
    → TriesCollect holds xs v
try_collect_made {C} {T} {E} may_refuse holds p xs none v =
    gathered (fold_of (λ (m : TryCollect C). m.items) (tries_collect may_refuse holds)) Has
    (λ v l. TriesCollect holds l v) takes decides closes p [] xs v
    ([], refl, where_some (λ c. holds c []) p.items none)
  where
    Has : TryCollect C → List (Result T E) → Type 0
    Has p l = (ys : List T) × (l ≡ map Ok ys) × WhereSome p.items (λ c. holds c ys)

    takes : (p q : TryCollect C) (x : Result T E) (l : List (Result T E))
        → TryCollected may_refuse holds p.items x None q.items → Has p l → Has q (l ++ x ∷ [])
    takes p q (Err w) l s h = absurd s
    takes p q (Ok x) l s (ys, e, had) = (
      ys ++ x ∷ [],
      rw (e, map-append {B = Result T E} Ok ys (x ∷ [])),
      λ c k. let same : s.1 ≡ c = (let d = s.4 in cc) in rw (← same) (s.3 ys (had s.0 s.2)),
    )

    decides : (p q : TryCollect C) (x : Result T E) (r : Result C (TryCollectError C T E)) (l xs : List (Result T E))
        → TryCollected may_refuse holds p.items x (Some r) q.items → Has p l → TriesCollect holds (l ++ x ∷ xs) r
    decides p q (Ok x) r l xs s h = rw s.5 (tt, tt)
    decides p q (Err w) r l xs s (ys, e, had) = rw (s.0, e) (tt, error_behind ys (Err w ∷ xs))

    closes : (p q : TryCollect C) (r : Result C (TryCollectError C T E)) (l : List (Result T E))
        → (tries_collect may_refuse holds).closes p.items r q.items → Has p l → TriesCollect holds l r
    closes p q r l s (ys, e, had) =
        let whole : ok_prefix l ≡ ys = rw e (values_of E ys) in
        rw (s.2, whole) ((had s.0 s.1, sym e), tt)
