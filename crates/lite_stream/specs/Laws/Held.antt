-- Ranks of adapters that hold a value: the source's rank, followed by one number that counts the value held.
use Rattle.std.specs.Prelude.{ℕ, List, [], ◌∷◌, Some, ◌≡◌, ◌+◌, Option, None}
use Rattle.lite_stream.specs.Uses.{inl, Answer, ◌∙◌, refl, ap, arith, AllByRecursion, items, IsItem}
use Rattle.lite_base.specs.Laws.Ranks.{AtMost-both, AtMost-then_below, Below-after, Below-first}
use Rattle.lite_base.specs.Laws.Answers.{each_items}
use Rattle.lite_base.specs.Ranks.{count_held, held_rank, AtMost, Below}
use Rattle.std.proofs.Common.{length, length-append}

module _ {V : Type 0} where
  pub held_sized : (xs : List ℕ) (held : Option V) {n : ℕ} → length xs ≡ n → length (held_rank xs held) ≡ n + 1
  held_sized xs held e = length-append xs _ ∙ ap (λ k. k + 1) e

  -- The rank is lower once the held value is gone.
  held_below : (xs us : List ℕ) (v : V) → AtMost xs us → Below (held_rank {V = V} xs None) (held_rank us (Some v))
  held_below xs us v h = Below-after xs us _ _ h (inl (omega arith, refl))

  pub held_less : (zs us : List ℕ) (v : V) → AtMost zs (held_rank {V = V} us None) → Below zs (held_rank us (Some v))
  held_less zs us v h =
      AtMost-then_below zs _ _ h (held_below us us v (inl refl))

  -- The rank is lower if the source's rank is.
  module _ (xs us : List ℕ) where
    pub held_first : (g f : Option V) → Below xs us → Below (held_rank xs g) (held_rank us f)
    held_first g f h = Below-first xs us _ _ h refl

    pub held_level : (v w : Option V) → AtMost xs us → count_held w ≡ count_held v
        → AtMost (held_rank xs w) (held_rank us v)
    held_level v w h e = AtMost-both xs us _ _ h (inl (rw e))

  -- The rank is lower after items of the source, or if the source was not polled and the held value is gone.
  pub held_falls : {A : Type 0} (i : List (Answer A)) (xs us : List ℕ) (g f : Option V)
      → ((a : A) (before : List A) → i ≡ items (a ∷ before) → Below xs us) → (i ≡ [] → xs ≡ us)
      → (i ≡ [] → (g ≡ None) × (v : V) × (f ≡ Some v)) → AllByRecursion IsItem i
      → Below (held_rank xs g) (held_rank us f)
  held_falls {A} i xs us g f falls same alone h = at_start (each_items i h)
    where
      at_start : (l : List A) × (i ≡ items l) → Below (held_rank xs g) (held_rank us f)
      at_start ([], e) = let a = alone e in rw (a.0, a.2) (held_below xs us a.1 (inl (same e)))
      at_start (x ∷ before, e) = held_first xs us g f (falls x before e)
