-- `try_unfold`: like `unfold`, for futures that return a `Result`. An `Err` is yielded as an item, and then the stream
-- ends for good.
use Rattle.std.specs.Prelude.{Option, Some, None, Result, Ok, Err}
use Rattle.lite_source.specs.Uses.{Mut, Poll, Answer, Runs}
use Rattle.lite_source.specs.Unfold.{seed_of}
use Rattle.lite_source.specs.Unfolding.{Unfolds}
use Rattle.lite_source.specs.declared.try_unfold.TryUnfold.{TryUnfold}

-- The item that a future's value holds, if any: of `Ok(Some((item, seed)))` the item as `Ok`, and of an `Err` the
-- error.
abbrev pub try_item_of : {A S E : Type 0} → Result (Option (A × S)) E → Option (Result A E)
try_item_of (Ok None) = None
try_item_of (Ok (Some o)) = Some (Ok o.0)
try_item_of (Err e) = Some (Err e)

-- The next seed that a future's value holds, if any: only `Ok(Some((item, seed)))` does.
abbrev pub try_seed_of : {A S E : Type 0} → Result (Option (A × S)) E → Option S
try_seed_of (Ok o) = seed_of o
try_seed_of (Err e) = None

-- The poll results of the futures that `try_unfold` makes, one after the other. A value `Ok(Some((item, seed)))` is
-- yielded as `Ok(item)`, and the next future is made of the seed. `Ok(None)` ends the stream for good. An `Err` is
-- yielded as an item, and then the stream ends for good.
abbrev pub TryUnfoldsBy : {F S V A E : Type 0} → Mut F (S × Unit {0}) V → Runs (Poll (Result (Option (A × S)) E)) V
    → Runs (Answer (Result A E)) (TryUnfold S F V)
TryUnfoldsBy call gives x out y = Unfolds call gives try_seed_of try_item_of (x.f, x.state) out (y.f, y.state)
