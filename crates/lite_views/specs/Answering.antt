-- When a future returns its value, and which value that is if two futures are waited for together.
use Rattle.std.specs.Prelude.{◌≡◌, ◌⊎◌, List, ◌∷◌, Result, Ok, ⊤, IfOk, IfErr}
use Rattle.lite_views.specs.Uses.{AllocError, Called, Context, MutBor, Poll, Poller, Ready, Runs, Waiting, Gives}
use Rattle.lite_views.specs.Views.{HasValue, ValueHolds, ValueIs}

-- The first poll of the future `f` returns the value `v`. Of a stream, `v` is `Some` of an item, or `None` at an end.
unfoldable pub AtOnce : {F A : Type 0} → Runs (Poll A) F → F → A → Type 0
AtOnce {F} {A} run f v = (a : Poll A) (ins : List (Poll A)) (g : F) → run f (a ∷ ins) g → a ≡ Ready v

-- A call of a closure, with some context and in some state, returned the value `v`.
abbrev pub ReturnedBy : {F A : Type 0} → Poller F A → A → Type 0
ReturnedBy {F} g v =
    (p : F) × (q : F) × (cx : MutBor Context) × (left : MutBor Context)
    × Called g p (cx, tt) (Ready v, (left, tt)) q

-- Every poll of the future or stream `f` returns `Pending`.
unfoldable pub NeverReady : {F A : Type 0} → Runs (Poll A) F → F → Type 0
NeverReady {F} {A} run f = (ins : List (Poll A)) (g : F) → run f ins g → Waiting ins

-- There is one value that is `Ok`. If the future `f` is polled until its value, that is the one.
abbrev pub HasOk : {F A E : Type 0} → Runs (Poll (Result A E)) F → F → Type 0
HasOk {A = A} run f = (a : A) × HasValue run f (Ok a)

-- If the future `f` is polled until its value, or waited for as `block_on` does, the value is `v`.
abbrev pub HasValueAs : {F A : Type 0} → Runs (Poll A) F → F → A → Type 0
HasValueAs run f v = ValueIs run f v × HasValue run f v

-- The value of the future `x` is that of `f` or that of `g`. If one of these two is never ready, it is the other's. If
-- the values of both are known and equal, it is that value. If they are known and differ, it is one of the two.
abbrev pub PickedValue : {F G X A : Type 0} → Runs (Poll A) F → F → Runs (Poll A) G → G → Runs (Poll A) X → X → Type 0
PickedValue {A = A} run_first f run_second g run x =
    ((v : A) → NeverReady run_first f → HasValue run_second g v → HasValueAs run x v)
    × ((v : A) → NeverReady run_second g → HasValue run_first f v → HasValueAs run x v)
    × ((v : A) → HasValue run_first f v → HasValue run_second g v → HasValueAs run x v)
    × ((v w : A) → HasValue run_first f v → HasValue run_second g w
    → ValueHolds AllocError run x (λ u. (u ≡ v) ⊎ (u ≡ w)))

-- What became of a future that a wait borrowed.

-- The future `f` was waited for and is now `g`: it was polled until its value if `r` is `Ok`, and not at all if `r` is
-- an error.
unfoldable pub LeftAs : {F A E : Type 0} → Runs (Poll A) F → F → Result A E → F → Type 0
LeftAs {F} {A} run f r g = IfOk r (λ v. (ins : List (Poll A)) × Gives ins v × run f ins g) × IfErr r (λ e. g ≡ f)

-- Always true. It marks `f`, `r` and `g` for the search for proofs.
unfoldable pub LeftSeen : {F R : Type 0} → F → R → F → Type 0
LeftSeen f r g = ⊤

-- Whenever a wait borrowed the future `f` and left it as `g`, `P` holds of `g`. If the wait returned a value, `Q` holds
-- of `g` and that value. `E` is the type of the wait's error.
abbrev pub WhenLeft : {F A : Type 0} (E : Type 0) → Runs (Poll A) F → F → (F → Type 0) → (F → A → Type 0) → Type 0
WhenLeft {F} {A} E run f P Q = (r : Result A E) (g : F) → LeftAs run f r g → LeftSeen f r g × P g × IfOk r (Q g)
