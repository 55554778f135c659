-- `unzip`: the first parts of the items are put into one collection, and the second parts into another.
use Rattle.std.specs.Prelude.{◌≡◌, List, Option, Some, None, Result, Ok, Err, IsSome, refl}
use Rattle.lite_gather.specs.Uses.{Fold}
use Rattle.lite_gather.specs.Gathering.{Kept, Took}
use Rattle.lite_gather.specs.declared.refused.UnzipRefused.{UnzipRefused}
use Rattle.lite_gather.specs.declared.refused.UnzipRefused.TheVariants.{Left, Right}
use Rattle.lite_gather.specs.declared.unzip.Part.{Part}
use Rattle.lite_gather.specs.declared.unzip.Part.TheVariants.{Both, Second}

module _ {C D A B : Type 0} (holds_first : C → List A → Type 0) (holds_second : D → List B → Type 0) where
  -- `first_refuses c x` and `second_refuses d y` say that the collection may refuse this part. The state is both
  -- collections, or `None` once they were returned.
  module _ (first_refuses : C → A → Type 0) (second_refuses : D → B → Type 0) where
    -- The first collection refuses its part, and nothing is put in. Or the second refuses its part, after the first
    -- part was put in.
    abbrev pub RefusedOne : C × D → A × B → UnzipRefused C D A B → Type 0
    RefusedOne c x (Left d y) = first_refuses c.0 x.0 × Kept holds_first c.0 d.0 × (d.1 ≡ c.1) × (y ≡ x)
    RefusedOne c x (Right d y) =
        second_refuses c.1 x.1 × Took holds_first c.0 x.0 d.0 × Kept holds_second c.1 d.1 × (y ≡ x.1)

    -- Both parts of an item are put in, and it is consumed. Or one part is refused, and the value is both collections
    -- and what was not put in, in `Err`.
    abbrev pub Unzipped : Option (C × D) → A × B → Option (Result (C × D) (UnzipRefused C D A B)) → Option (C × D)
        → Type 0
    Unzipped p x None q =
        (c d : C × D) × (p ≡ Some c) × Took holds_first c.0 x.0 d.0 × Took holds_second c.1 x.1 d.1 × (q ≡ Some d)
    Unzipped p x (Some r) q = (c : C × D) × (refused : UnzipRefused C D A B) × (p ≡ Some c)
        × RefusedOne c x refused × (r ≡ Err refused) × (q ≡ None)

    -- The value is both collections at the end of the stream, in `Ok`, or what was refused with them, in `Err`.
    abbrev pub unzips : Fold (Option (C × D)) (A × B) (Result (C × D) (UnzipRefused C D A B))
    unzips = record { asks = Unzipped; closes = λ p r q. (c : C × D) × (p ≡ Some c) × (r ≡ Ok c) × (q ≡ None) }

    -- After an item that is consumed there are collections.
    pub unzips_open : (p q : Option (C × D)) (x : A × B) → Unzipped p x None q → IsSome q
    unzips_open p q x h = rw h.5 refl

-- What `unzip` returns if a part of an item was refused.

-- The error with the collections and what was not put in: the whole pair if its first part was refused, and only its
-- second part if that was.
abbrev pub refused_of : {C D A B : Type 0} → Part A B → C × D → UnzipRefused C D A B
refused_of (Both a b) c = Left c (a, b)
refused_of (Second b) c = Right c b
