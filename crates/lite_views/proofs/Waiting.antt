-- What a future that was lent to a wait has become.
use Rattle.lite_views.specs.Answering.{LeftSeen}

pub left_seen : {F R : Type 0} (f : F) (r : R) (g : F) → LeftSeen f r g
unfolding LeftSeen
left_seen f r g = tt
