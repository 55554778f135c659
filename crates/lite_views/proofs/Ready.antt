-- The value of `ready`, and that its first poll returns it.
use Rattle.lite_future.specs.declared.ready.Ready.{Ready as ReadyFuture}
use Rattle.std.specs.Prelude.{◌≡◌, List, [], ◌∷◌, Option, Some, None}
use Rattle.lite_views.specs.Uses.{Poll, Ready, Pending, Gives}
use Rattle.lite_future.specs.Ready.{GivesHeld}
use Rattle.lite_views.specs.Answering.{AtOnce}
use Rattle.lite_views.specs.Views.{HasValue}

held_value : {A : Type 0} (x w : A) (ins : List (Poll A)) (left : Option A) → Gives ins w
    → GivesHeld (Some x) ins left → w ≡ x
held_value x w [] left g h = absurd g
held_value x w (Pending ∷ ins) left g h = cc
held_value x w (Ready y ∷ ins) left g h = cc

pub ready_value : {A : Type 0} (x : ReadyFuture A) (v : A) → x.value ≡ Some v
    → HasValue (λ (y : ReadyFuture A) l z. GivesHeld y.value l z.value) x v
unfolding HasValue
ready_value x v e ins w f = held_value v w ins f.last.value f.gives (rw e at f.came)

at_once_held : {A : Type 0} (x : A) (a : Poll A) (l : List (Poll A)) (held left : Option A) → held ≡ Some x
    → GivesHeld held (a ∷ l) left → a ≡ Ready x
at_once_held x a l None left e h = absurd h
at_once_held x a l (Some y) left e h = let k = h.0 in cc

pub ready_at_once : {A : Type 0} (x : ReadyFuture A) (v : A) → x.value ≡ Some v
    → AtOnce (λ (y : ReadyFuture A) l z. GivesHeld y.value l z.value) x v
unfolding AtOnce
ready_at_once x v e a l y h = at_once_held v a l x.value y.value e h
