-- What `unfold` and `try_unfold` share: a function makes a future of each seed. The future's value says what is
-- yielded, and which seed comes next.
use Rattle.std.specs.Prelude.{◌≡◌, ◌⊎◌, ⊤, List, [], ◌∷◌, map, flat_map, Option, Some, None}
use Rattle.lite_source.specs.Uses.{Mut, Called, FoldsTo, Poll, Ready, Pending, OptionBy, SameItem, Sameness, Answer, Waiting, AgreeFrom, Finishes}
use Rattle.lite_source.specs.Uses.{handed, Question, Runs}
use Rattle.futures.specs.Task.{Lasting}
use Rattle.lite_base.specs.Alike.{MadeOf}
use Rattle.lite_base.specs.Calling.{AgreeBy}
use Rattle.lite_source.specs.Empty.{GivesEnds}

-- What the stream holds between polls: the seed of the next future, or a future that is pending, or nothing, when it is
-- over.
pub data Holding (S V : Type 0) : Type 0 where
  Seed : S → Holding S V
  Asked : V → Holding S V
  Over : Holding S V

module _ {S V : Type 0} where
  -- What is held, from the two options that hold it.
  abbrev pub holding : Option S → Option V → Holding S V
  holding (Some s) future = Holding.Seed s
  holding None (Some v) = Holding.Asked v
  holding None None = Holding.Over

  -- `P` holds of the future that is held, if one is.
  abbrev pub IfHeldFuture : Holding S V → (V → Type 0) → Type 0
  IfHeldFuture (Holding.Asked v) P = P v
  IfHeldFuture (Holding.Seed s) P = ⊤
  IfHeldFuture Holding.Over P = ⊤

  -- No future is left to be made: one is held, or it is over.
  abbrev pub IsMade : Holding S V → Type 0
  IsMade (Holding.Seed s) = ⊥
  IsMade x = ⊤

  -- Both hold seeds that are the same, or both hold futures that are alike, or both hold nothing.
  abbrev pub HoldingsBy : (S → S → Type 0) → (V → V → Type 0) → Holding S V → Holding S V → Type 0
  HoldingsBy same alike (Holding.Seed s) (Holding.Seed t) = same s t
  HoldingsBy same alike (Holding.Asked v) (Holding.Asked w) = alike v w
  HoldingsBy same alike Holding.Over Holding.Over = ⊤
  HoldingsBy same alike x y = ⊥

-- Two parts of values, such as items or seeds, are the same if they are parts of values that are the same. If `same` is
-- equality, this is equality too.
abbrev pub PartOf : {O B : Type 0} → Sameness O → (O → Option B) → Sameness B
PartOf same part = MadeOf same (λ o b. part o ≡ Some b)

-- Of two values that are the same, either both hold this part or neither does.
abbrev pub BothHave : {O B : Type 0} → (O → O → Type 0) → (O → Option B) → Type 0
BothHave {O} same part = (o p : O) → same o p → OptionBy (λ _ _. ⊤) (part o) (part p)

-- What makes two of these streams alike. Seeds that are the same make futures that are alike, and what they hold
-- corresponds. If values are compared by a relation, two values in it both have an item or neither does, and the same
-- holds of their next seeds.
abbrev pub UnfoldAlike : {F S V O B : Type 0} → Sameness O → (V → V → Type 0) → Question F S V → (O → Option S)
    → (O → Option B)
    → F × Holding S V → F × Holding S V → Type 0
UnfoldAlike Sameness.equal alike call after shown x y =
    AgreeBy alike call x.0 y.0 × HoldingsBy (λ s t. s ≡ t) alike x.1 y.1
UnfoldAlike (Sameness.by same) alike call after shown x y =
    AgreeFrom (SameItem (PartOf (Sameness.by same) after)) alike call x.0 y.0
    × HoldingsBy (SameItem (PartOf (Sameness.by same) after)) alike x.1 y.1
    × BothHave same shown × BothHave same after

-- What a poll that returns `Pending` registers: what the held future registers.
abbrev pub UnfoldRegisters : {S V : Type 0} → (V → Lasting → Type 0) → Holding S V → Lasting → Type 0
UnfoldRegisters registers (Holding.Asked v) fact = registers v fact
UnfoldRegisters registers (Holding.Seed s) fact = ⊥
UnfoldRegisters registers Holding.Over fact = ⊥

module _ {F S V : Type 0} (call : Mut F (S × Unit {0}) V) where
  -- The future `v` is the one that is held, or the one that the function makes of the seed.
  abbrev pub IsCurrent : F → Holding S V → F → V → Type 0
  IsCurrent p (Holding.Seed s) q v = Called call p (s, tt) v q
  IsCurrent p (Holding.Asked w) q v = (v ≡ w) × (q ≡ p)
  IsCurrent p Holding.Over q v = ⊥

  -- What is held once a seed has been turned into a future.
  abbrev pub Current : F → Holding S V → F → Holding S V → Type 0
  Current p x q (Holding.Asked v) = IsCurrent p x q v
  Current p x q (Holding.Seed s) = ⊥
  Current p x q Holding.Over = (x ≡ Holding.Over) × (q ≡ p)

-- What is held after a value: the next seed, or nothing.
abbrev pub comes : {S V : Type 0} → Option S → Holding S V
comes None = Holding.Over
comes (Some s) = Holding.Seed s

module _ {S V O : Type 0} (gives : Runs (Poll O) V) where
  -- One poll of the future that is held. After a value nothing is held. If it is over, the result is `Ready(None)`.
  abbrev pub HeldStep : Holding S V → Poll (Option O) → Holding S V → Type 0
  HeldStep (Holding.Asked v) Pending next = (w : V) × gives v (Pending ∷ []) w × (next ≡ Holding.Asked w)
  HeldStep (Holding.Asked v) (Ready (Some o)) next = Finishes gives v (Ready o ∷ []) o × (next ≡ Holding.Over)
  HeldStep Holding.Over (Ready None) next = next ≡ Holding.Over
  HeldStep x a next = ⊥

module _ {F S V O : Type 0} (call : Mut F (S × Unit {0}) V) (gives : Runs (Poll O) V) where
  -- One poll of the future, which is made of the seed first if none is held. After a value nothing is held. If it is
  -- over, the result is `Ready(None)`.
  abbrev pub UnfoldStep : F → Holding S V → Poll (Option O) → F → Holding S V → Type 0
  UnfoldStep p x Pending q next =
      (v w : V) × IsCurrent call p x q v × gives v (Pending ∷ []) w × (next ≡ Holding.Asked w)
  UnfoldStep p x (Ready (Some o)) q next =
      (v : V) × IsCurrent call p x q v × Finishes gives v (Ready o ∷ []) o × (next ≡ Holding.Over)
  UnfoldStep p x (Ready None) q next = (x ≡ Holding.Over) × (q ≡ p) × (next ≡ Holding.Over)

  -- `shown o` is the item of the future's value `o`, and `after o` is the next seed.
  module _ {B : Type 0} (after : O → Option S) (shown : O → Option B) where
    -- The future `v` returned the poll results `ins`. It is still pending, or its value says what comes next.
    abbrev pub Leads : V → List (Poll O) → Holding S V → Type 0
    Leads v ins next = ((w : V) × Waiting ins × gives v ins w × (next ≡ Holding.Asked w))
        ⊎ ((o : O) × Finishes gives v ins o × (next ≡ comes (after o)))

    -- The poll results of one future, or the end of the stream if it is over.
    abbrev pub UnfoldPart : F → Holding S V → List (Answer B) → F → Holding S V → Type 0
    UnfoldPart p x out q next =
        ((v : V) × (ins : List (Poll O)) × IsCurrent call p x q v × Leads v ins next × (out ≡ map (handed shown) ins))
        ⊎ ((x ≡ Holding.Over) × (q ≡ p) × GivesEnds Holding.Over out next)

    -- The poll results of the futures one after the other, each with at least one result: the items of their values,
    -- and finally the ends of the stream.
    abbrev pub Unfolds : F × Holding S V → List (Answer B) → F × Holding S V → Type 0
    Unfolds x out y = (parts : List (Answer B × List (Answer B)))
        × FoldsTo (λ s part t. UnfoldPart s.0 s.1 (part.0 ∷ part.1) t.0 t.1) x parts y
        × (out ≡ flat_map (λ part. part.0 ∷ part.1) parts)
