-- When two futures that consume streams return the same, for items that are the same.
use Rattle.std.specs.Prelude.{⊤, Option, Some, None, IfSome, ◌≡◌, ◌⊎◌}
use Rattle.lite_consume.specs.Consuming.{Fold}
use Rattle.lite_consume.specs.Uses.{Sameness, AgreeKeeping, Kin, KinAnswers}

-- Two folds consumed an item each and `holds` is true, or both returned values, and these are the same.
abbrev pub SameDecision : {R : Type 0} → (R → R → Type 0) → Type 0 → Option R → Option R → Type 0
SameDecision same holds None None = holds
SameDecision same holds None (Some t) = ⊥
SameDecision same holds (Some r) None = ⊥
SameDecision same holds (Some r) (Some t) = same r t

-- Each step of `fold` is a step of `other`, if `may` holds of the value that it returns, or if it returns none.
pub record WithinWhere {M A R : Type 0} (may : R → Type 0) (fold other : Fold M A R) : Type 0 where
  pub asks : (p q : M) (x : A) (o : Option R) → IfSome o may → fold.asks p x o q → other.asks p x o q
  pub closes : (p q : M) (r : R) → may r → fold.closes p r q → other.closes p r q

-- Each step of the one fold is a step of the other, whatever value it returns.
abbrev pub Within : {M A R : Type 0} → Fold M A R → Fold M A R → Type 0
Within = WithinWhere (λ _. ⊤)

-- Two folds that agree do the same, if no allocation fails. For items that are the same, both consume them and agree
-- again, or both return values that are the same. At the end of the stream both return values that are the same. If no
-- step needs memory, each is one in which no allocation failed.
pub record FoldSteadyLaws {M A R : Type 0} (like : A → A → Type 0) (fold ample : Fold M A R) (needs_none : Type 0)
    (agree : M → M → Type 0) (same : R → R → Type 0) : Type 0 where
  -- With items that are the same, after which the folds agree again.
  pub asks : (p k q l : M) (x w : A) (o u : Option R) → agree p k → like x w → ample.asks p x o q → ample.asks k w u l
      → SameDecision same (agree q l) o u
  -- At the end of the stream.
  pub closes : (p k q l : M) (r t : R) → agree p k → ample.closes p r q → ample.closes k t l → same r t
  pub found : needs_none → Within fold ample

-- The values of folds when items are compared by a relation: those that folds return which were equal before any item
-- came.

-- Folds that are kin return the values `r` and `t`: at the end of the stream, or for items that are alike. Folds are
-- kin if they are equal, or were asked as kin about items that are alike.
abbrev pub KinGive : {M A R : Type 0} → (A → A → Type 0) → Fold M A R → R → R → Type 0
KinGive {M} like fold r t =
    ((p : M) × (k : M) × (q : M) × (l : M) × Kin like fold.asks p k × fold.closes p r q × fold.closes k t l)
    ⊎ KinAnswers like fold.asks (Some r) (Some t)

-- When the values of a fold are the same: they are equal if the stream's items are compared by equality, and folds that
-- are kin return them otherwise.
abbrev pub Giving : {M A R : Type 0} → Sameness A → Fold M A R → Sameness R
Giving Sameness.equal fold = Sameness.equal
Giving (Sameness.by like) fold = Sameness.by (KinGive like fold)

-- What `fold` requires of two of its states so that its runs are alike: they agree if items are compared by equality,
-- and they are kin otherwise.
abbrev pub AgreeOrKin : {M A R : Type 0} → Sameness A → (M → M → Type 0) → Fold M A R → M → M → Type 0
AgreeOrKin Sameness.equal agree fold p k = agree p k
AgreeOrKin (Sameness.by like) agree fold p k = Kin like fold.asks p k

-- What `try_fold` and `try_for_each` require: as `AgreeOrKin`, and if items are compared by a relation, both states
-- have to decide at items that are alike, or none.
abbrev pub AgreeDeciding : {M A R : Type 0} → Sameness A → (M → M → Type 0) → Fold M A R → M → M → Type 0
AgreeDeciding Sameness.equal agree fold p k = agree p k
AgreeDeciding (Sameness.by like) agree fold p k = AgreeKeeping (Sameness.by like) fold.asks p k

-- The closures agree, and the other parts of the two states are equal.
abbrev pub AgreeBeside : {F B : Type 0} → (F → F → Type 0) → F × B → F × B → Type 0
AgreeBeside agree p k = agree p.0 k.0 × (k.1 ≡ p.1)
