-- What a method of the blocking stream returns: the value of a future that consumes the stream.
use Rattle.std.specs.Prelude.{◌≡◌, List, Option, Some}
use Rattle.lite_consume.specs.Uses.{Mut, Poll, Answer, Gives, Runs}
use Rattle.lite_consume.specs.Consuming.{Consumed, Fold}

-- With the stream `s` and the fold's state `p`, the future is pending some times and then returns `value`. The stream
-- `t` is left.
abbrev pub BlockGives : {S M A R : Type 0} → Fold M A R → Runs (Answer A) S → S → M → R → S → Type 0
BlockGives {M = M} {R = R} fold run s p value t =
    (out : List (Poll R)) × (q : M) × Gives out value × Consumed fold run s p out t q

-- The state of a fold that has none.
abbrev pub nothing : Unit {0}
nothing = tt

-- The function may be called with the item `x`.
abbrev pub MayCall : {F A B : Type 0} → Mut F (A × Unit {0}) B → F → A → Type 0
MayCall g p x = g.pre p (x, tt)

-- The function may be called with the accumulator and the item `x`.
abbrev pub MayFold : {F T A B : Type 0} → Mut F (T × (A × Unit {0})) B → F × Option T → A → Type 0
MayFold {T = T} g p x = (a : T) → p.1 ≡ Some a → g.pre p.0 (a, (x, tt))
