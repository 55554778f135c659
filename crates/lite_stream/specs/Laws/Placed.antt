-- Adapters that replace each item by a list of results. Alike states and sources lead to the same results, `Pending`s
-- aside.
use Rattle.std.specs.Prelude.{◌≡◌, List, [], ◌∷◌, Option, Some, None}
use Rattle.lite_stream.specs.Uses.{OptionBy, SameAnswer, SameItem, Sameness, ComparableBy, strip, ends_same, MatchesFrom, Question}
use Rattle.lite_base.specs.Laws.Alike.{answer_items, comparable_as, comparable_nil}
use Rattle.lite_stream.specs.Laws.Agreeing.{AgreeingOver}
use Rattle.lite_stream.specs.Laws.Through.{Entails}
use Rattle.lite_stream.specs.Through.{Relates}

-- `InPlace v follows out`: the results `out` begin with those made of `v`, and `follows` holds of the rest.
module _ {F A V B : Type 0} (call : Question F A V)
    (InPlace : V → (List (Option B) → Type 0) → List (Option B) → Type 0) where
  -- The results without `Pending`s: an end of stream is passed on, and each item is replaced by what is made of it.
  abbrev pub Placed : F → List (Option A) → List (Option B) → Type 0
  Placed f [] out = out ≡ []
  Placed f (None ∷ ins) out = (more : List (Option B)) × (out ≡ None ∷ more) × Placed f ins more
  Placed f (Some x ∷ ins) out = (v : V) × (g : F) × call f x v g × InPlace v (Placed g ins) out

  -- The same as `Placed` with a value that the adapter may hold at first: what is made of it comes first.
  abbrev pub PlacedFrom : F → Option V → List (Option A) → List (Option B) → Type 0
  PlacedFrom f None ins out = Placed f ins out
  PlacedFrom f (Some v) ins out = InPlace v (Placed f ins) out

  -- Values that are alike lead to results that are the same, as long as the results after them are the same.
  abbrev pub AlikeInPlace : Sameness B → (V → V → Type 0) → Type 1
  AlikeInPlace same alike =
      (v w : V) (P Q : List (Option B) → Type 0) (o p : List (Option B)) → alike v w → InPlace v P o → InPlace w Q p
      → ((o' p' : List (Option B)) → P o' → Q p' → ComparableBy (SameAnswer same) o' p')
      → ComparableBy (SameAnswer same) o p

  -- Source items that correspond lead to adapter results that are the same, from states that agree.
  module _ {like : A → A → Type 0} {alike : V → V → Type 0} {agree : F → F → Type 0} (same : Sameness B)
      (made : MatchesFrom like alike call agree) (places : AlikeInPlace same alike) where
    placed_same : (f k : F) (i j : List (Option A)) (o p : List (Option B)) → agree f k
        → ComparableBy (OptionBy like) i j → Placed f i o → Placed k j p → ComparableBy (SameAnswer same) o p
    placed_same f k [] j o p a c r q = rw r tt
    placed_same f k (x ∷ i) [] o p a c r q = rw q (comparable_nil _ o)
    placed_same f k (None ∷ i) (None ∷ j) o p a c r q =
        rw (r.1, q.1) (ends_same same, placed_same f k i j r.0 q.0 a c.1 r.2 q.2)
    placed_same f k (Some x ∷ i) (Some y ∷ j) o p a c r q =
        let e = made f k r.1 q.1 x y r.0 q.0 a c.0 r.2 q.2 in
        places r.0 q.0 _ _ o p e.0 r.3 q.3 (λ o' p'. placed_same r.1 q.1 i j o' p' e.1 c.1)
    placed_same f k (_ ∷ i) (_ ∷ j) o p a c r q = absurd c.0

    pub placed_from_same : (f k : F) (v w : Option V) (i j : List (Option A)) (o p : List (Option B)) → agree f k
        → OptionBy alike v w → ComparableBy (OptionBy like) i j → PlacedFrom f v i o → PlacedFrom k w j p
        → ComparableBy (SameAnswer same) o p
    placed_from_same f k None None i j o p a e c r q = placed_same f k i j o p a c r q
    placed_from_same f k (Some v) (Some w) i j o p a e c r q =
        places v w _ _ o p e r q (λ o' p'. placed_same f k i j o' p' a c)
    placed_from_same f k _ _ i j o p a h c r q = absurd h

  -- An adapter that replaces each item by a list of results agrees from states that agree.
  pub placed_agreeing : (like : Sameness A) (same : Sameness B) {alike : V → V → Type 0} {agree : F → F → Type 0}
      {relates : Relates F A B} → MatchesFrom (SameItem like) alike call agree
      → AlikeInPlace same alike
      → Entails relates (λ f i o g. Placed f (strip i) (strip o))
      → AgreeingOver like same relates agree
  placed_agreeing like same m places placed f k g l i j o p a r q c =
      placed_same same m places f k _ _ _ _ a
      (comparable_as _ _ (answer_items like) _ _ c)
      (placed f g i o r) (placed k l j p q)
