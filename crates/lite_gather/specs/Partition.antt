-- `partition`: the items that the predicate accepts are put into one collection, and those that it rejects into
-- another.
use Rattle.std.specs.Prelude.{◌≡◌, List, Option, Some, None, Result, Ok, Err, IsSome, Bool, true, false, refl}
use Rattle.lite_gather.specs.Uses.{Fold, Question}
use Rattle.lite_gather.specs.Gathering.{Kept, Took}
use Rattle.lite_gather.specs.declared.refused.Refused.{Refused}

module _ {B T : Type 0} (holds : B → List T → Type 0) where
  -- An item that the predicate accepted is put into the first collection, another item into the second.
  abbrev pub Sorted : Bool → B × B → T → B × B → Type 0
  Sorted true c x d = Took holds c.0 x d.0 × (d.1 ≡ c.1)
  Sorted false c x d = Took holds c.1 x d.1 × (d.0 ≡ c.0)

  -- `may_refuse c x` says that the collection `c` may refuse the item `x`.
  module _ (may_refuse : B → T → Type 0) where
    -- The first collection refuses an item that the predicate accepted, or the second refuses another item. Both stay
    -- as they are.
    abbrev pub Unsorted : Bool → B × B → T → B × B → Type 0
    Unsorted true c x d = may_refuse c.0 x × Kept holds c.0 d.0 × (d.1 ≡ c.1)
    Unsorted false c x d = may_refuse c.1 x × Kept holds c.1 d.1 × (d.0 ≡ c.0)

  -- The state is the predicate and the collections, which are `None` once they were returned.
  module _ {P : Type 0} (test : Question P T Bool) (may_refuse : B → T → Type 0) where
    -- An item is put into the collection that the predicate names and consumed. Or that collection refuses it, and the
    -- value is both collections and the item, in `Err`.
    abbrev pub Partitioned : P × Option (B × B) → T → Option (Result (B × B) (Refused (B × B) T)) → P × Option (B × B)
        → Type 0
    Partitioned p x None q = (is_accepted : Bool) × (c d : B × B) × test p.0 x is_accepted q.0 × (p.1 ≡ Some c)
        × Sorted is_accepted c x d × (q.1 ≡ Some d)
    Partitioned p x (Some r) q = (is_accepted : Bool) × (c d : B × B) × test p.0 x is_accepted q.0 × (p.1 ≡ Some c)
        × Unsorted may_refuse is_accepted c x d × (r ≡ Err (record { collected = d; item = x })) × (q.1 ≡ None)

    -- The value is both collections at the end of the stream, in `Ok`, or a refused item with them, in `Err`.
    abbrev pub partitions : Fold (P × Option (B × B)) T (Result (B × B) (Refused (B × B) T))
    partitions = record {
      asks = Partitioned;
      closes = λ p r q. (c : B × B) × (p.1 ≡ Some c) × (r ≡ Ok c) × (q ≡ (p.0, None));
    }

    -- After an item that is consumed there are collections.
    pub partitions_open : (p q : P × Option (B × B)) (x : T) → Partitioned p x None q → IsSome q.1
    partitions_open p q x h = rw h.6 refl
