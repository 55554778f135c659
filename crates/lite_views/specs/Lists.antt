-- Functions of lists that std does not have.
use Rattle.std.specs.Prelude.{◌==◌, ◌%◌, ℕ, List, [], ◌∷◌, Option, Some, None, map, ◌≡◌, ◌++◌}
use Rattle.lite_views.specs.Uses.{enumerate_from, filter}

-- The item in front of the list, or the empty list if there is no item.
abbrev pub cons_while : {X : Type 0} → Option X → List X → List X
cons_while None xs = []
cons_while (Some x) xs = x ∷ xs

-- What `h` returns of the items, up to the first for which it returns `None`.
abbrev pub map_while : {X Y : Type 0} → (X → Option Y) → List X → List Y
map_while h [] = []
map_while h (x ∷ xs) = cons_while (h x) (map_while h xs)

-- The items whose numbers, counted from `n`, are multiples of the step.
abbrev pub step_from : {X : Type 0} → ℕ → ℕ → List X → List X
step_from step n xs = map (λ p. p.1) (filter (λ p. p.0 % step == 0) (enumerate_from n xs))

-- What `h` returns of a state and each item, up to the first `None`. It also returns the state for the next item.
abbrev pub scan : {V X Y : Type 0} → (V → X → V × Option Y) → V → List X → List Y
scan h s [] = []
scan h s (x ∷ xs) = cons_while (h s x).1 (scan h (h s x).0 xs)

-- Prefixes of lists.

-- `xs` is a prefix of `ys`.
abbrev pub Front : {A : Type 0} → List A → List A → Type 0
Front {A} xs ys = (rest : List A) × (ys ≡ xs ++ rest)
