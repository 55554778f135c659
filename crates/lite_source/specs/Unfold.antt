-- `unfold`: the poll results of its futures. A value `Some((item, seed))` is yielded as the item, and the next future
-- is made of the seed. `None` ends the stream for good.
use Rattle.std.specs.Prelude.{Option, Some, None}
use Rattle.lite_source.specs.Uses.{Mut, Poll, Answer, Runs}
use Rattle.lite_source.specs.Unfolding.{Unfolds}
use Rattle.lite_source.specs.declared.unfold.Unfold.{Unfold}

-- The item that a future's value holds, if any.
abbrev pub item_of : {A S : Type 0} → Option (A × S) → Option A
item_of None = None
item_of (Some o) = Some o.0

-- The next seed that a future's value holds, if any.
abbrev pub seed_of : {A S : Type 0} → Option (A × S) → Option S
seed_of None = None
seed_of (Some o) = Some o.1

-- The poll results of the futures that `unfold` makes, one after the other. A value `Some((item, seed))` is yielded as
-- the item, and the next future is made of the seed. `None` is the end of the stream, and so is every later result.
abbrev pub UnfoldsBy : {F S V A : Type 0} → Mut F (S × Unit {0}) V → Runs (Poll (Option (A × S))) V
    → Runs (Answer A) (Unfold S F V)
UnfoldsBy call gives x out y = Unfolds call gives seed_of item_of (x.f, x.state) out (y.f, y.state)
