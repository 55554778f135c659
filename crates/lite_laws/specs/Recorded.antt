-- What a run leaves in the list to which its results are appended.
use Rattle.std.specs.Prelude.{◌≡◌, ◌<◌, ℕ, List, ◌++◌, length, Result, IfOk, IfErr}
use Rattle.lite_laws.specs.Uses.{Answer}
use Rattle.std.proofs.Common.{Global}
use Rattle.std.specs.declared.vec.Vec.{Vec}

-- A run appended the list `l` of its results to `before`. If the value is `Ok`, `l` has as many results as `polls`
-- says, and otherwise fewer. `P` holds of `l`.
abbrev pub Recorded : {A R E : Type 0} → (before after : Vec (Answer A) Global) → ℕ → Result R E
    → (List (Answer A) → Type 0) → Type 0
Recorded {A} before after polls result P = (l : List (Answer A)) × (after.items ≡ before.items ++ l)
    × IfOk result (λ _. length l ≡ polls) × IfErr result (λ _. length l < polls) × P l
