-- Laws of the steps of a poll that loops.
use Rattle.lite_base.specs.Chain.{Reaches}

pub Reaches-on : {S : Type 0} {next : S → S → Type 0} {x y z : S} → Reaches next x y → Reaches next y z
    → Reaches next x z
Reaches-on p Reaches.stay = p
Reaches-on p (Reaches.more q s) = Reaches.more (Reaches-on p q) s

-- Some steps and then one more are one step and then some.
pub Reaches-then : {S : Type 0} {next : S → S → Type 0} (x y z : S) → Reaches next x y → next y z → (m : S) × next x m
    × Reaches next m z
Reaches-then x y z Reaches.stay s = (z, s, Reaches.stay)
Reaches-then x y z (Reaches.more {y = w} p r) s =
    let h = Reaches-then x w y p r in
    (h.0, h.1, Reaches.more h.2 s)

-- A fact that holds at the end of some steps, and before each step if after it, holds at the start.
pub Reaches-back : {S : Type 0} {next : S → S → Type 0} (P : S → Type 0) → ((x y : S) → next x y → P y → P x)
    → (x y : S) → Reaches next x y → P y → P x
Reaches-back P law x y Reaches.stay p = p
Reaches-back P law x y (Reaches.more {y = w} q s) p = Reaches-back P law x w q (law w y s p)

-- If one step before a poll result can be merged into it, then any number of steps can.
pub steps_answer : {X A : Type 0} {steps : X → X → Type 0} {answers : X → A → X → Type 0}
    → ((x y z : X) (a : A) → steps x y → answers y a z → answers x a z)
    → {x z : X} {a : A} → (y : X) × Reaches steps x y × answers y a z → answers x a z
steps_answer {answers} before {x} {z} {a} (y, goes, last) =
    Reaches-back (λ v. answers v a z) (λ v w. before v w z a) x y goes last
