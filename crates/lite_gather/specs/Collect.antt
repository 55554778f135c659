-- `collect`: the items are put into a collection, which is the value. An item that the collection refuses ends it.
use Rattle.std.specs.Prelude.{◌≡◌, List, Option, Some, None, Result, Ok, Err, IsSome, refl}
use Rattle.lite_gather.specs.Uses.{Fold}
use Rattle.lite_gather.specs.Gathering.{Kept, Took}
use Rattle.lite_gather.specs.declared.refused.Refused.{Refused}

-- `may_refuse c x` says that the collection `c` may refuse the item `x`. The state is the collection, or `None` once it
-- was returned.
module _ {C T : Type 0} (may_refuse : C → T → Type 0) (holds : C → List T → Type 0) where
  -- An item is put into the collection and consumed. Or a collection that may refuse it does, and the value is the
  -- collection as it was and the item, in `Err`.
  abbrev pub Collected : Option C → T → Option (Result C (Refused C T)) → Option C → Type 0
  Collected p x None q = (c d : C) × (p ≡ Some c) × Took holds c x d × (q ≡ Some d)
  Collected p x (Some r) q = (c d : C) × (p ≡ Some c) × may_refuse c x × Kept holds c d
      × (r ≡ Err (record { collected = d; item = x })) × (q ≡ None)

  -- The value is the collection at the end of the stream, in `Ok`, or a refused item with the collection, in `Err`.
  abbrev pub collects : Fold (Option C) T (Result C (Refused C T))
  collects = record { asks = Collected; closes = λ p r q. (c : C) × (p ≡ Some c) × (r ≡ Ok c) × (q ≡ None) }

  -- After an item that is consumed there is a collection.
  pub collects_open : (p q : Option C) (x : T) → Collected p x None q → IsSome q
  collects_open p q x h = rw h.4 refl
