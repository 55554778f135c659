-- The list of the items of a stream, and the value of a future. Some definitions say `x ≡ x`, or one thing twice: the
-- search for proofs goes by it.
use Rattle.std.specs.Prelude.{◌≡◌, ⊤, List, [], ◌∷◌, Some, None, Result, IfOk}
use Rattle.lite_views.specs.Uses.{AllocError, Poll, Ready, Pending, Answer, Finishes, Runs, items_in}
use Rattle.lite_views.specs.Lists.{Front}

-- The items before the first end of the stream are a prefix of the list, and all of it if the stream ends. `Pending`s
-- do not count.
abbrev pub Fits : {A : Type 0} → List (Answer A) → List A → Type 0
Fits [] xs = ⊤
Fits (Pending ∷ l) xs = Fits l xs
Fits (Ready None ∷ l) xs = xs ≡ []
Fits (Ready (Some x) ∷ l) [] = ⊥
Fits (Ready (Some x) ∷ l) (y ∷ xs) = (x ≡ y) × Fits l xs

-- The items of `s` are `xs`: every run from `s` yields a prefix of `xs`, and all of `xs` before the end of the stream.
-- This does not say that the stream ends, nor that all items come.
unfoldable pub Lists : {S A : Type 0} → Runs (Answer A) S → S → List A → Type 0
Lists {S} {A} run s xs = (l : List (Answer A)) (t : S) → run s l t → Fits l xs

-- What one poll leaves of a list of items, if it returned `a` and left `y`: `Pending` leaves the list, an item is its
-- first one and leaves the others, and an end comes only if the list is empty. `Left y rest` says that `rest` is left.
abbrev pub ItemsAfter : {S A : Type 0} → (S → List A → Type 0) → Answer A → S → List A → Type 0
ItemsAfter Left Pending y xs = Left y xs
ItemsAfter Left (Ready None) y xs = xs ≡ []
ItemsAfter {A = A} Left (Ready (Some x)) y xs = (rest : List A) × (xs ≡ x ∷ rest) × Left y rest

-- Each result is `Pending` or the item `x`, so the stream does not end.
abbrev pub EachIs : {A : Type 0} → A → List (Answer A) → Type 0
EachIs x [] = ⊤
EachIs x (Pending ∷ l) = EachIs x l
EachIs x (Ready None ∷ l) = ⊥
EachIs x (Ready (Some y) ∷ l) = (y ≡ x) × EachIs x l

-- The stream `s` yields the item `x` over and over: each result of each run from `s` is `Pending` or `Ready(Some(x))`.
unfoldable pub GoesOn : {S A : Type 0} → Runs (Answer A) S → S → A → Type 0
GoesOn {S} {A} run s x = (l : List (Answer A)) (t : S) → run s l t → EachIs x l

-- The future `f` was waited for: if `r` is `Ok`, `f` was polled until that value.
unfoldable pub Waited : {F A E : Type 0} → Runs (Poll A) F → F → Result A E → Type 0
Waited {F} {A} run f r = IfOk r (λ v. (ins : List (Poll A)) × Finishes run f ins v)

-- If the future `f` is polled until its value, that is `v`.
unfoldable pub HasValue : {F A : Type 0} → Runs (Poll A) F → F → A → Type 0
HasValue {F} {A} run f v = (ins : List (Poll A)) (w : A) → Finishes run f ins w → w ≡ v

-- Always true. It marks `x` and `y` for the search for proofs.
unfoldable pub Seen : {X Y : Type 0} → X → Y → Type 0
Seen x y = ⊤

-- If the future `f` was waited for, as `block_on` does, and the wait returned `Ok`, `P` holds of the value. `E` is the
-- type of the wait's error.
abbrev pub ValueHolds : {F A : Type 0} (E : Type 0) → Runs (Poll A) F → F → (A → Type 0) → Type 0
ValueHolds {F} {A} E run f P = (r : Result A E) → Waited run f r → Seen f r × IfOk r P

-- If the future `f` was waited for, as `block_on` does, and the wait returned `Ok`, the value is `v`.
abbrev pub ValueIs : {F A : Type 0} → Runs (Poll A) F → F → A → Type 0
ValueIs run f v = (v ≡ v) × ValueHolds AllocError run f (λ w. w ≡ v)

-- The items of `s` are `xs`, as `Lists` says it: every run from `s` yields a prefix of `xs`, and all of `xs` before the
-- end of the stream.
abbrev pub ListsAs : {S A : Type 0} → Runs (Answer A) S → S → List A → Type 0
ListsAs {S} {A} run s xs = (xs ≡ xs) × Seen s xs × Lists run s xs

-- If the items of `s` are a list (`Lists`), `P` holds of that list.
abbrev pub OfItems : {S A : Type 0} → Runs (Answer A) S → S → (List A → Type 0) → Type 0
OfItems {A = A} run s P =
    ((xs : List A) → Lists run s xs → P xs) × ((xs : List A) → Lists run s xs → Seen s xs × P xs)

-- The same as its last argument, `C`. The others, `t`, `s` and `x`, serve the search for proofs alone.
abbrev pub FoundBy : {T S X : Type 0} → T → S → X → Type 0 → Type 0
FoundBy t s x C = (t ≡ t) × Seen s x × C

-- The items of `s` are those of the list without the first one. Nothing is said of an empty list.
abbrev pub RestIs : {S A : Type 0} → Runs (Answer A) S → S → List A → Type 0
RestIs run s [] = ⊤
RestIs run s (x ∷ xs) = ListsAs run s xs

-- If `P` holds of a list, that is the list of the items of `s`.
abbrev pub ListsIf : {S A : Type 0} → Runs (Answer A) S → S → (List A → Type 0) → Type 0
ListsIf {A = A} run s P = ((x : A) (xs : List A) → P (x ∷ xs) → ListsAs run s (x ∷ xs)) × (P [] → ListsAs run s [])

-- Every run from `s` yields a prefix of `xs`, also with items that come after an end of the stream.
unfoldable pub Fronts : {S A : Type 0} → Runs (Answer A) S → S → List A → Type 0
Fronts {S} {A} run s xs = (l : List (Answer A)) (t : S) → run s l t → Front (items_in l) xs

-- Every run from `s` yields a prefix of `xs`, also with items that come after an end of the stream.
abbrev pub FrontsAs : {S A : Type 0} → Runs (Answer A) S → S → List A → Type 0
FrontsAs {S} {A} run s xs = (xs ≡ xs) × Fronts run s xs
