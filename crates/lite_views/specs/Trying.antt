-- What becomes of a list of Results, up to the first error.
use Rattle.std.specs.Prelude.{◌≡◌, ⊤, List, [], ◌∷◌, Result, Ok, Err, IfOk, IfErr, map, Some, None}
use Rattle.lite_views.specs.Uses.{ok_prefix, TryCollectError, Ready, Pending, Answer, Runs}
use Rattle.lite_gather.specs.declared.refused.TryCollectError.TheVariants.{Memory, Source}

-- What `k` returns of the value, or the error.
abbrev pub and_then : {T U E : Type 0} → Result T E → (T → Result U E) → Result U E
and_then (Ok x) k = k x
and_then (Err e) k = Err e

-- If the error is one of the stream, `P` holds of it.
abbrev pub IfSource : {C T E : Type 0} → TryCollectError C T E → (E → Type 0) → Type 0
IfSource (Source e) P = P e
IfSource (Memory m) P = ⊤

-- What `h` makes of the accumulator `a` and the items, from the first on, up to the first error: an item's or one that
-- `h` returns.
abbrev pub try_fold : {A T E : Type 0} → (A → T → Result A E) → A → List (Result T E) → Result A E
try_fold h a [] = Ok a
try_fold h a (x ∷ xs) = and_then (and_then x (h a)) (λ b. try_fold h b xs)

-- The first error of the list, or `Ok` if it has none.
abbrev pub first_error : {T E : Type 0} → List (Result T E) → Result (Unit {0}) E
first_error [] = Ok tt
first_error (x ∷ xs) = and_then x (λ _. first_error xs)

-- If the value is `Ok`, the collection holds what the items of `xs` hold, which are all `Ok`. If it is an error of the
-- stream, that is the first error of `xs`. Of an allocation failure nothing is said.
abbrev pub TriesCollect : {C T E : Type 0} → (C → List T → Type 0) → List (Result T E)
    → Result C (TryCollectError C T E) → Type 0
TriesCollect holds xs v = IfOk v (λ c. holds c (ok_prefix xs) × (map Ok (ok_prefix xs) ≡ xs))
    × IfErr v (λ r. IfSource r (λ e. first_error xs ≡ Err e))

-- What the `Ok` items of a stream hold, up to its first error.

-- `f` of what the `Ok` items hold is a prefix of `xs`, and all of `xs` if the end of the stream comes. Nothing is said
-- from the first error on.
abbrev pub OkFits : {T E Y : Type 0} → (T → Y) → List (Answer (Result T E)) → List Y → Type 0
OkFits f [] xs = ⊤
OkFits f (Pending ∷ l) xs = OkFits f l xs
OkFits f (Ready None ∷ l) xs = xs ≡ []
OkFits f (Ready (Some (Err e)) ∷ l) xs = ⊤
OkFits f (Ready (Some (Ok x)) ∷ l) [] = ⊥
OkFits f (Ready (Some (Ok x)) ∷ l) (y ∷ xs) = (f x ≡ y) × OkFits f l xs

-- `f` of what the `Ok` items of `s` hold is `xs`, up to an error: every run from `s` fits `xs` (`OkFits`).
unfoldable pub OkLists : {S T E Y : Type 0} → Runs (Answer (Result T E)) S → S → (T → Y) → List Y → Type 0
OkLists {S} {T} {E} run s f xs = (l : List (Answer (Result T E))) (t : S) → run s l t → OkFits f l xs

-- Always true. It marks `s`, `f` and `xs` for the search for proofs.
unfoldable pub OkSeen : {S T Y : Type 0} → S → (T → Y) → List Y → Type 0
OkSeen s f xs = ⊤

-- `f` of what the `Ok` items of `s` hold is `xs`, up to an error.
abbrev pub OkListsAs : {S T E Y : Type 0} → Runs (Answer (Result T E)) S → S → (T → Y) → List Y → Type 0
OkListsAs run s f xs = OkSeen s f xs × OkLists run s f xs

-- If all was collected, `f` of what the collection holds is `xs`.
abbrev pub AllTaken : {C T R Y : Type 0} → (C → List T → Type 0) → (T → Y) → List Y → Result C R → Type 0
AllTaken {T = T} holds f xs v = IfOk v (λ c. (ts : List T) × holds c ts × (map f ts ≡ xs))
