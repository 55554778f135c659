-- When two collections, or two values of the futures that collect, are the same: if they hold one list, or lists that
-- are the same item by item.
use Rattle.std.specs.Prelude.{List, map, Result, Ok, Err}
use Rattle.lite_gather.specs.Uses.{Sameness}
use Rattle.std.specs.List.{AllZip}
use Rattle.lite_gather.specs.declared.refused.TryCollectError.{TryCollectError}
use Rattle.lite_gather.specs.declared.refused.TryCollectError.TheVariants.{Source}

-- The two collections hold one list of items. If items are compared by a relation, they hold lists that are the same
-- item by item.
abbrev pub HoldsSame : {C T : Type 0} → Sameness T → (C → List T → Type 0) → C → C → Type 0
HoldsSame {T = T} Sameness.equal holds c d = (l : List T) × holds c l × holds d l
HoldsSame {T = T} (Sameness.by same) holds c d = (l : List T) × (m : List T) × holds c l × holds d m × AllZip same l m

-- The first collections of the two pairs hold the same, and the second ones do.
abbrev pub HoldsSameBoth : {C D A B : Type 0} → Sameness A → Sameness B → (C → List A → Type 0) → (D → List B → Type 0)
    → C × D → C × D → Type 0
HoldsSameBoth same other holds_first holds_second c d =
    HoldsSame same holds_first c.0 d.0 × HoldsSame other holds_second c.1 d.1

-- The two collections hold the parts of these pairs: one holds the first parts, and the other the second parts.
abbrev pub HoldsParts : {C D A B : Type 0} → (C → List A → Type 0) → (D → List B → Type 0) → C × D → List (A × B)
    → Type 0
HoldsParts holds_first holds_second c l = holds_first c.0 (map (λ p. p.0) l) × holds_second c.1 (map (λ p. p.1) l)

-- The two pairs of collections hold the same parts. If pairs are compared by a relation, they hold the parts of lists
-- of pairs that are the same one by one.
abbrev pub HoldsSameParts : {C D A B : Type 0} → Sameness (A × B) → (C → List A → Type 0) → (D → List B → Type 0) → C
    × D → C × D → Type 0
HoldsSameParts Sameness.equal holds_first holds_second c d =
    HoldsSameBoth Sameness.equal Sameness.equal holds_first holds_second c d
HoldsSameParts (Sameness.by same) holds_first holds_second c d =
    HoldsSame (Sameness.by same) (HoldsParts holds_first holds_second) c d

-- Two values of `collect`, `partition` or `unzip` are the same: both are `Ok`, with collections that are the same. A
-- value that is an allocation failure is not the same as any.
abbrev pub SameCollected : {C E : Type 0} → (C → C → Type 0) → Result C E → Result C E → Type 0
SameCollected same (Ok c) (Ok d) = same c d
SameCollected same r t = ⊥

-- Two values of `try_collect` are the same: both are `Ok`, with collections that are the same, or both are errors of
-- the stream that are the same. A value that is an allocation failure is not the same as any.
abbrev pub TrySameCollected : {C T E : Type 0} → (C → C → Type 0) → (E → E → Type 0) → Result C (TryCollectError C T E)
    → Result C (TryCollectError C T E) → Type 0
TrySameCollected same fails (Ok c) (Ok d) = same c d
TrySameCollected same fails (Err (Source e)) (Err (Source f)) = fails e f
TrySameCollected same fails r t = ⊥

-- An item that is `Ok` is never the same as an item that is an error.
abbrev pub NeverMixed : {A E : Type 0} → (Result A E → Result A E → Type 0) → Type 0
NeverMixed {A} {E} same = (x : A) (e : E) → (same (Ok x) (Err e) → ⊥) × (same (Err e) (Ok x) → ⊥)

-- `P` holds, and if items are compared by a relation, `Ok` is never the same as an error.
abbrev pub Unmixed : {A E : Type 0} → Sameness (Result A E) → Type 0 → Type 0
Unmixed Sameness.equal P = P
Unmixed (Sameness.by same) P = P × NeverMixed same
