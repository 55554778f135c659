-- `cloned`: every reference is replaced by a clone. Each allocation failure while cloning is an `Err` item before it.
use Rattle.std.specs.Prelude.{◌≡◌, ⊤, List, [], ◌∷◌, ◌++◌, Option, Some, None, Result, Ok, Err}
use Rattle.lite_reshape.specs.Uses.{AllByRecursion, Bor, OptionBy, Sameness, Answer, item, Runs, AdapterParts, Through, parts_of}
use Rattle.lite_base.specs.Alike.{MadeOf}
use Rattle.lite_reshape.specs.Expanding.{Expanding}
use Rattle.lite_reshape.specs.declared.cloned.Cloned.{Cloned}

-- The reference that the source yields is the one that is held.
abbrev pub Refers : {R : Type 0} → Unit {0} → R → R → Unit {0} → Type 0
Refers p x v q = v ≡ x

module _ {T E : Type 0} (is_clone : T → T → Type 0) (is_infallible : T → Type 0) where
  -- The result is an allocation failure, as an `Err` item. It occurs only if cloning the value that `x` refers to may
  -- fail.
  abbrev pub IsCloneRefusal : Bor T → Answer (Result T E) → Type 0
  IsCloneRefusal x a = (is_infallible x.now → ⊥) × (e : E) × (a ≡ item (Err e))

  -- Every result in the list is an allocation failure while cloning the value that `x` refers to.
  abbrev pub Refuses : Bor T → List (Answer (Result T E)) → Type 0
  Refuses x out = AllByRecursion (IsCloneRefusal x) out

  -- The results made of one reference: allocation failures, and finally a clone as an `Ok` item. While the reference is
  -- still held only allocation failures have been returned. `is_clone` says what a clone may be.
  abbrev pub Clones : Bor T → List (Answer (Result T E)) → Option (Bor T) → Type 0
  Clones x out (Some y) = Refuses x out × (y ≡ x)
  Clones x out None = (refused : List (Answer (Result T E))) × (copy : T) × Refuses x refused × is_clone x.now copy
      × (out ≡ refused ++ item (Ok copy) ∷ [])

  -- The source's results, each reference replaced by the allocation failures of its clone, each an `Err` item, and then
  -- by the clone as an `Ok` item.
  abbrev pub ClonesAll : {S : Type 0} → Runs (Answer (Bor T)) S → Runs (Answer (Result T E)) (Cloned S (Bor T))
  ClonesAll run x l y = Through run (Expanding Refers Clones) x.stream (tt, x.held) l y.stream (tt, y.held)

-- The same as `ClonesAll` without allocation failures: each reference is replaced by its clone.
abbrev pub ClonesUnrefused : {T E S : Type 0} → (T → T → Type 0) → Runs (Answer (Bor T)) S
    → Runs (Answer (Result T E)) (Cloned S (Bor T))
ClonesUnrefused is_clone = ClonesAll is_clone (λ x. ⊤)

module _ {T E : Type 0} where
  -- The result is no allocation failure of a clone.
  abbrev pub NotCloneRefused : Answer (Result T E) → Type 0
  NotCloneRefused a = (e : E) → a ≡ item (Err e) → ⊥

  -- No result in the list is an allocation failure of a clone.
  abbrev pub NoCloneRefused : List (Answer (Result T E)) → Type 0
  NoCloneRefused = AllByRecursion NotCloneRefused

-- All clones of one value are equal.
abbrev pub EqualClones : {T : Type 0} → (T → T → Type 0) → Type 0
EqualClones {T} is_clone = (x y z : T) → is_clone x y → is_clone x z → y ≡ z

-- Two `Ok` items of `cloned` are the same if they are clones of what two references that are the same by `like` refer
-- to. If `like` is equality, this is equality too.
abbrev pub ClonedFrom : {T E : Type 0} → Sameness (Bor T) → (T → T → Type 0) → Sameness (Result T E)
ClonedFrom {T} like is_clone = MadeOf like (λ r v. (copy : T) × is_clone r.now copy × (v ≡ Ok copy))

-- What makes two streams of clones alike. Their sources are alike, they hold the same reference, and all clones of one
-- value are equal. If references are compared by a relation, the references they hold are the same by it, and nothing
-- is required of clones.
abbrev pub AlikeCloned : {S T : Type 0} → Sameness (Bor T) → (S → S → Type 0) → (T → T → Type 0) → Cloned S (Bor T)
    → Cloned S (Bor T) → Type 0
AlikeCloned Sameness.equal alike is_clone x y = alike x.stream y.stream × (y.held ≡ x.held) × EqualClones is_clone
AlikeCloned (Sameness.by same) alike is_clone x y = alike x.stream y.stream × OptionBy same x.held y.held

-- A `Cloned` consists of its source and the reference that it holds.
abbrev pub cloned_parts : {S R : Type 0} → AdapterParts (Cloned S R) S (Unit {0} × Option R)
cloned_parts = parts_of (λ m. m.stream) (λ m. (tt, m.held)) (λ s h. record { stream = s; held = h.1 }) (λ x y p. p)
