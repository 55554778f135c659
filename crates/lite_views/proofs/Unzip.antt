-- The value of `unzip`, by the items of the stream.
use Rattle.std.specs.Prelude.{◌≡◌, List, [], map, Result, IfOk, IfSome}
use Rattle.lite_views.specs.Uses.{map-append, fold_of}
use Rattle.lite_gather.specs.Unzip.{unzips}
use Rattle.lite_gather.specs.declared.refused.UnzipRefused.{UnzipRefused}
use Rattle.lite_gather.specs.declared.unzip.Unzip.{Unzip}
use Rattle.lite_views.proofs.Consume.{MakesOf}
use Rattle.lite_views.proofs.Collecting.{WhereSome, gathered, where_some}

pub unzip_made : {C D A B : Type 0} (first_refuses : C → A → Type 0) (second_refuses : D → B → Type 0)
    (first : C → List A → Type 0) (second : D → List B → Type 0) (p : Unzip C D) (xs : List (A × B))
    (none : IfSome p.res (λ c. first c.0 [] × second c.1 []))
    (v : Result (C × D) (UnzipRefused C D A B))
    → MakesOf (fold_of (λ (m : Unzip C D). m.res) (unzips first second first_refuses second_refuses)) p xs v
    → IfOk v (λ d. first d.0 (map (λ x. x.0) xs) × second d.1 (map (λ x. x.1) xs))
unzip_made {C} {D} {A} {B} first_refuses second_refuses first second p xs none v =
    gathered (fold_of (λ (m : Unzip C D). m.res) (unzips first second first_refuses second_refuses))
    (λ p l. WhereSome p.res (both l))
    (λ v l. IfOk v (both l))
    (λ p q x l s h c e.
    let same : s.1 ≡ c = (let k = s.5 in cc) in
    let had = h s.0 s.2 in
    rw (map-append, map-append, ← same) (s.3 (map (λ z. z.0) l) had.0, s.4 (map (λ z. z.1) l) had.1))
    (λ p q x r l xs s h. rw s.4 tt) (λ p q r l s h. rw s.2 (h s.0 s.1)) p [] xs v (where_some (both []) p.res none)
  where
    both : List (A × B) → C × D → Type 0
    both l c = first c.0 (map (λ x. x.0) l) × second c.1 (map (λ x. x.1) l)
