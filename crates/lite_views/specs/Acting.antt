-- What closures do, if std has no definition for it.
use Rattle.std.specs.Prelude.{◌≡◌}
use Rattle.lite_views.specs.Uses.{Mut}
use Rattle.std.specs.Fn.{CalledWithState}
use denote.Ref.{MutBor}

-- Each call of the closure with a state and an item returns what `h` says, leaves the state that `h` says, and leaves
-- the closure as it was.
abbrev pub ActsAsOnState : {F V A R : Type 0} → Mut F (MutBor V × (A × Unit {0})) (R × (MutBor V × Unit {0})) → F
    → (V → A → V × R) → Type 0
ActsAsOnState {F} {V} {A} {R} g f h = (s : V) (x : A) (r : R) (f' : F) (t : V) → CalledWithState g f s x r f' t
    → (f' ≡ f) × (t ≡ (h s x).0) × (r ≡ (h s x).1)
