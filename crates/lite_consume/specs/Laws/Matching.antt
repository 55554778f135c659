-- Which states of each fold agree: closures that agree, and numbers and items that are the same.
use Rattle.std.specs.Prelude.{⊤, Result, Ok, Err, IsErr, IsSome, Bool, true, false, ◌≡◌, Option, Some, None, refl}
use Rattle.lite_consume.specs.Uses.{inl, inr, subst, arith, OptionBy, Optional, SameAnswer, SameHeld, SameItem}
use Rattle.lite_consume.specs.Uses.{Sameness, Agree, AgreeFrom, AgreeKeeping, Keeping, Kin, KinAnswers, both_items}
use Rattle.lite_consume.specs.Uses.{Question}
use Rattle.lite_base.specs.Laws.Alike.{ends_same, held_same, optional_same, same_answer, same_held}
use Rattle.lite_base.specs.Laws.Calling.{agree_from_matches, keeping_from, keeping_matches, kin_matches}
use Rattle.std.proofs.Common.{ap, sym, ◌∙◌}
use Rattle.lite_consume.specs.Agreeing.{FoldSteadyLaws, SameDecision, AgreeBeside, AgreeDeciding, AgreeOrKin, Giving, KinGive}
use Rattle.lite_consume.specs.All.{all_fold}
use Rattle.lite_consume.specs.Any.{any_fold}
use Rattle.lite_consume.specs.Consuming.{Fold}
use Rattle.lite_consume.specs.Count.{counts}
use Rattle.lite_consume.specs.Find.{finds}
use Rattle.lite_consume.specs.FindMap.{finds_map}
use Rattle.lite_consume.specs.Fold.{folds}
use Rattle.lite_consume.specs.ForEach.{calls_each}
use Rattle.lite_consume.specs.Last.{lasts}
use Rattle.lite_consume.specs.Laws.Agreeing.{within_itself}
use Rattle.lite_consume.specs.Next.{nexts}
use Rattle.lite_consume.specs.Nth.{nths}
use Rattle.lite_consume.specs.Position.{positions}
use Rattle.lite_consume.specs.TestedUntil.{tested_until}
use Rattle.lite_consume.specs.TryFold.{try_fold_steps}
use Rattle.lite_consume.specs.TryForEach.{try_each_fold}
use Rattle.lite_consume.specs.TryNext.{SameNext, TryNextItem, next_item_of, tries_next}

-- The fold needs no memory and meets `FoldSteadyLaws`.
abbrev Steady : {M A R : Type 0} → (A → A → Type 0) → (R → R → Type 0) → Fold M A R → (M → M → Type 0) → Type 0
Steady like same fold agree = FoldSteadyLaws like fold fold ⊤ agree same

module _ {M A R : Type 0} (like : A → A → Type 0) (same : R → R → Type 0) (fold : Fold M A R)
    (agree : M → M → Type 0) where
  -- Folds that agree, asked about items that are alike, both consume them and agree again, or both return values that
  -- are the same.
  abbrev pub SameAsked : Type 0
  SameAsked = (p k q l : M) (x w : A) (o u : Option R) → agree p k → like x w → fold.asks p x o q → fold.asks k w u l
      → SameDecision same (agree q l) o u

  -- At the end of the stream, folds that agree return values that are the same.
  abbrev SameClosed : Type 0
  SameClosed = (p k q l : M) (r t : R) → agree p k → fold.closes p r q → fold.closes k t l → same r t

steady : {M A R : Type 0} {like : A → A → Type 0} {same : R → R → Type 0} {fold : Fold M A R}
    {agree : M → M → Type 0} → SameAsked like same fold agree → SameClosed like same fold agree
    → Steady like same fold agree
steady {fold = fold} asks closes = record { asks = asks; closes = closes; found = within_itself fold }

-- The two are equal.
abbrev Equal : {R : Type 0} → R → R → Type 0
Equal r t = r ≡ t

-- Closures that agree, called with items that are alike, return the same and agree again.
pub matched : {F A B : Type 0} {like : A → A → Type 0} {same : B → B → Type 0} {call : Question F A B} {f k g l : F}
    {x w : A} {y z : B} → AgreeFrom like same call f k → like x w → call f x y g → call k w z l
    → same y z × AgreeFrom like same call g l
matched {like = like} {same = same} {call = call} = agree_from_matches like same call _ _ _ _ _ _ _ _

-- By tests that agree.
module _ {F A : Type 0} (like : A → A → Type 0) (test : Question F A Bool) where
  -- The tests agree on items that are alike.
  abbrev Tests : F → F → Type 0
  Tests = AgreeFrom like Equal test

  module _ (goes_on decides : Bool) (other : goes_on ≡ decides → ⊥) where
    tested_asked : SameAsked like Equal (tested_until test goes_on decides) Tests
    tested_asked p k q l x w None None a e c d = (matched a e c d).1
    tested_asked p k q l x w None (Some t) a e c d = other (matched a e c d.1).0
    tested_asked p k q l x w (Some r) None a e c d = other (sym (matched a e c.1 d).0)
    tested_asked p k q l x w (Some r) (Some t) a e c d = c.0 ∙ sym d.0

    tested_steady : Steady like Equal (tested_until test goes_on decides) Tests
    tested_steady = steady tested_asked (λ p k q l r t a c d. c.0 ∙ sym d.0)

  pub all_steady : Steady like Equal (all_fold test) Tests
  all_steady = tested_steady true false (λ e. cc)

  pub any_steady : Steady like Equal (any_fold test) Tests
  any_steady = tested_steady false true (λ e. cc)

  position_asked : SameAsked like Equal (positions test) (AgreeBeside Tests)
  position_asked p k q l x w None None a e c d = ((matched a.0 e c.0 d.0).1, rw (c.1, d.1, a.1))
  position_asked p k q l x w None (Some t) a e c d = cc (matched a.0 e c.0 d.1).0
  position_asked p k q l x w (Some r) None a e c d = cc (matched a.0 e c.1 d.0).0
  position_asked p k q l x w (Some r) (Some t) a e c d = rw (c.0, d.0, a.1)

  pub position_steady : Steady like Equal (positions test) (AgreeBeside Tests)
  position_steady = steady position_asked (λ p k q l r t a c d. c.0 ∙ sym d.0)

-- Items that are the same, or `None`, as values.
module _ {A : Type 0} (like : Sameness A) where
  both_none : {r t : Option A} → r ≡ None → t ≡ None → SameItem (Optional like) r t
  both_none c d = rw (c, d) (optional_same like None None (ends_same like))

  both_some : {x w : A} {r t : Option A} → SameItem like x w → r ≡ Some x → t ≡ Some w → SameItem (Optional like) r t
  both_some {x} {w} e c d = rw (c, d) (optional_same like (Some x) (Some w) (same_answer like x w e))

  -- As `SameAsked`, for a fold whose value is an item or `None`.
  abbrev ItemAsked : {M : Type 0} → Fold M A (Option A) → (M → M → Type 0) → Type 0
  ItemAsked = SameAsked (SameItem like) (SameItem (Optional like))

  -- As `Steady`, for a fold whose value is an item or `None`.
  abbrev ItemSteady : {M : Type 0} → Fold M A (Option A) → (M → M → Type 0) → Type 0
  ItemSteady = Steady (SameItem like) (SameItem (Optional like))

  module _ {F : Type 0} (test : Question F A Bool) where
    find_asked : ItemAsked (finds test) (AgreeFrom (SameItem like) Equal test)
    find_asked p k q l x w None None a e c d = (matched a e c d).1
    find_asked p k q l x w None (Some t) a e c d = cc (matched a e c d.1).0
    find_asked p k q l x w (Some r) None a e c d = cc (matched a e c.1 d).0
    find_asked p k q l x w (Some r) (Some t) a e c d = both_some e c.0 d.0

    pub find_steady : ItemSteady (finds test) (AgreeFrom (SameItem like) Equal test)
    find_steady = steady find_asked (λ p k q l r t a c d. both_none c.0 d.0)

  next_asked : {M : Type 0} → ItemAsked (nexts {M = M}) (λ p k. ⊤)
  next_asked p k q l x w (Some r) (Some t) a e c d = both_some e c d
  next_asked p k q l x w None u a e c d = absurd c
  next_asked p k q l x w o None a e c d = absurd d

  pub next_steady : {M : Type 0} → ItemSteady (nexts {M = M}) (λ p k. ⊤)
  next_steady = steady next_asked (λ p k q l r t a. both_none)

  nth_asked : ItemAsked nths (λ n m. m ≡ n)
  nth_asked p k q l x w (Some r) (Some t) a e c d = both_some e c.1 d.1
  nth_asked p k q l x w None None a e c d = omega arith
  nth_asked p k q l x w o u a e c d = omega arith

  pub nth_steady : ItemSteady nths (λ n m. m ≡ n)
  nth_steady = steady nth_asked (λ p k q l r t a c d. both_none c.0 d.0)

  last_asked : ItemAsked lasts (SameHeld like)
  last_asked p k q l x w None None a e c d = rw (c.1, d.1) (same_held like (Some x) (Some w) (same_answer like x w e))
  last_asked p k q l x w o u a e c d = cc

  pub last_steady : ItemSteady lasts (SameHeld like)
  last_steady =
      steady {same = SameItem (Optional like)} {fold = lasts} last_asked
      (λ p k q l r t a c d. rw (c, d) (optional_same like p k (held_same like p k a)))

  -- By counts that are equal.
  count_asked : SameAsked (SameItem like) Equal counts (λ n m. m ≡ n)
  count_asked p k q l x w None None a e c d = rw (c.1, d.1, a)
  count_asked p k q l x w o u a e c d = cc

  pub count_steady : Steady (SameItem like) Equal counts (λ n m. m ≡ n)
  count_steady = steady count_asked (λ p k q l r t a c d. c.0 ∙ sym a ∙ sym d.0)

module _ {T E : Type 0} where
  given_items : (x : Result T E) (r : Result (Option T) E) → TryNextItem x (Some r) → next_item_of r ≡ Some x
  given_items (Ok x) r h = ap next_item_of h
  given_items (Err e) r h = ap next_item_of h

  same_items : (like : Sameness (Result T E)) (r t : Result (Option T) E)
      → SameAnswer like (next_item_of r) (next_item_of t) → SameItem (SameNext like) r t
  same_items Sameness.equal (Ok None) (Ok None) e = refl
  same_items Sameness.equal (Ok (Some x)) (Ok (Some y)) e = ap (λ v. Ok (Some v)) cc
  same_items Sameness.equal (Err d) (Ok None) e = cc
  same_items Sameness.equal (Err d) (Err f) e = ap Err cc
  same_items (Sameness.by like) r t e = e
  same_items Sameness.equal _ _ e = cc

  module _ {M : Type 0} (like : Sameness (Result T E)) where
    try_next_asked : SameAsked (SameItem like) (SameItem (SameNext like)) (tries_next {M = M}) (λ p k. ⊤)
    try_next_asked p k q l x w None u a e c d = absurd c
    try_next_asked p k q l x w (Some r) None a e c d = absurd d
    try_next_asked p k q l x w (Some r) (Some t) a e c d =
        same_items like r t (rw (given_items x r c, given_items w t d) (same_answer like x w e))

    pub try_next_steady : Steady (SameItem like) (SameItem (SameNext like)) (tries_next {M = M}) (λ p k. ⊤)
    try_next_steady =
        steady {same = SameItem (SameNext like)} {fold = tries_next} try_next_asked
        (λ p k q l r t a c d. rw (c, d) (same_items like (Ok None) (Ok None) (ends_same like)))

-- By functions that agree.
module _ {F A B : Type 0} (like : Sameness A) (call : Question F A (Option B)) where
  -- `None` is not the same as `Some`.
  not_none : (t : Option B) → SameAnswer (Keeping like call) None t → IsSome t → ⊥
  not_none None e h = cc
  not_none (Some y) e h = both_items (Keeping like call) None (Some y) e

  not_some : (r : Option B) → SameAnswer (Keeping like call) r None → IsSome r → ⊥
  not_some None e h = cc
  not_some (Some y) e h = both_items (Keeping like call) (Some y) None e

  kept : {p k q l : F} {x w : A} {r t : Option B} → AgreeKeeping like call p k → SameItem like x w → call p x r q
      → call k w t l → SameAnswer (Keeping like call) r t × AgreeKeeping like call q l
  kept = keeping_matches like call _ _ _ _ _ _ _ _

  find_map_asked : SameAsked (SameItem like) (SameItem (Optional (Keeping like call))) (finds_map call)
      (AgreeKeeping like call)
  find_map_asked p k q l x w None None a e c d = (kept a e c d).1
  find_map_asked p k q l x w None (Some t) a e c d = not_none t (kept a e c d.1).0 d.0
  find_map_asked p k q l x w (Some r) None a e c d = not_some r (kept a e c.1 d).0 c.0
  find_map_asked p k q l x w (Some r) (Some t) a e c d = optional_same (Keeping like call) r t (kept a e c.1 d.1).0

  pub find_map_steady : Steady (SameItem like) (SameItem (Optional (Keeping like call))) (finds_map call)
      (AgreeKeeping like call)
  find_map_steady = steady find_map_asked (λ p k q l r t a c d. both_none (Keeping like call) c.0 d.0)

module _ {F A : Type 0} (like : A → A → Type 0) (call : Question F A (Unit {0})) where
  for_each_asked : SameAsked like Equal (calls_each call) (AgreeFrom like Equal call)
  for_each_asked p k q l x w None None a e c d = (matched a e c.1 d.1).1
  for_each_asked p k q l x w o u a e c d = cc

  pub for_each_steady : Steady like Equal (calls_each call) (AgreeFrom like Equal call)
  for_each_steady = steady for_each_asked (λ p k q l r t a c d. refl)

-- If items are compared by a relation, any fold agrees from states that are kin, if both decide at an item or none
-- does.
module _ {M A R : Type 0} (like : A → A → Type 0) (fold : Fold M A R) where
  -- The folds are kin, and at an item both decide or none does.
  abbrev Deciding : M → M → Type 0
  Deciding p k = AgreeDeciding (Sameness.by like) Equal fold p k

  decision : (holds : Type 0) (o u : Option R) → OptionBy (λ y z. KinAnswers like fold.asks (Some y) (Some z)) o u
      → holds → SameDecision (KinGive like fold) holds o u
  decision holds None None s h = h
  decision holds (Some r) (Some t) s h = inr s
  decision holds o u s h = absurd s

  deciding_steady : Steady like (KinGive like fold) fold Deciding
  deciding_steady =
      steady (λ p k q l x w o u a e c d.
      let s = keeping_from like fold.asks p k q l x w o u a e c d in decision (Deciding q l) o u s.0 s.1)
      (λ p k q l r t a c d. inl (p, k, q, l, a.0, c, d))

module _ {F A E : Type 0} (call : Question F A (Result (Unit {0}) E)) where
  try_for_each_asked : SameAsked Equal Equal (try_each_fold call) (Agree call)
  try_for_each_asked p k q l x w None None a e c d = (matched a e c d).1
  try_for_each_asked p k q l x w None (Some t) a e c d =
      absurd (let b = subst IsErr (sym (matched a e c d.1).0) d.0 in cc)
  try_for_each_asked p k q l x w (Some r) None a e c d = absurd (let b = subst IsErr (matched a e c.1 d).0 c.0 in cc)
  try_for_each_asked p k q l x w (Some r) (Some t) a e c d = (matched a e c.1 d.1).0

  pub try_for_each_steady : (like : Sameness A)
      → Steady (SameItem like) (SameItem (Giving like (try_each_fold call))) (try_each_fold call)
      (AgreeDeciding like (Agree call) (try_each_fold call))
  try_for_each_steady Sameness.equal = steady try_for_each_asked (λ p k q l r t a c d. c.0 ∙ sym d.0)
  try_for_each_steady (Sameness.by like) = deciding_steady like (try_each_fold call)

-- By accumulators that are equal.
folded_same : {F B T R : Type 0} {call : Question F (B × T) R} {p k q l : F} {held kept : Option B} {x w : T} {b c : B}
    {r t : R} → Agree call p k → kept ≡ held → x ≡ w → held ≡ Some b → kept ≡ Some c → call p (b, x) r q
    → call k (c, w) t l → (r ≡ t) × Agree call q l
folded_same a f i e d h g = matched a (let same = sym e ∙ sym f ∙ d in cc) h g

module _ {F T A : Type 0} (call : F → T × A → T → F → Type 0) where
  fold_asked : SameAsked Equal Equal (folds call) (AgreeBeside (Agree call))
  fold_asked p k q l x w None None a e c d =
      let s = folded_same a.0 a.1 e c.2 d.2 c.3 d.3 in (s.1, rw (c.4, d.4, s.0))
  fold_asked p k q l x w None (Some t) a e c d = absurd d
  fold_asked p k q l x w (Some r) u a e c d = absurd c

  module _ (like : A → A → Type 0) where
    kin_fold_asked : SameAsked like (KinGive like (folds call)) (folds call) (Kin like (folds call).asks)
    kin_fold_asked p k q l x w None None a e c d = (kin_matches like (folds call).asks p k q l x w None None a e c d).1
    kin_fold_asked p k q l x w None (Some t) a e c d = absurd d
    kin_fold_asked p k q l x w (Some r) u a e c d = absurd c

  pub fold_steady : (like : Sameness A)
      → Steady (SameItem like) (SameItem (Giving like (folds call))) (folds call)
      (AgreeOrKin like (AgreeBeside (Agree call)) (folds call))
  fold_steady Sameness.equal =
      steady fold_asked (λ p k q l r t a c d. let e = a.1 in let h = c.0 in let g = d.0 in cc)
  fold_steady (Sameness.by like) = steady (kin_fold_asked like) (λ p k q l r t a c d. inl (p, k, q, l, a, c, d))

module _ {F B T E : Type 0} (call : F → B × T → Result B E → F → Type 0) where
  try_fold_asked : SameAsked Equal Equal (try_fold_steps call) (AgreeBeside (Agree call))
  try_fold_asked p k q l (Ok x) (Ok w) None None a e c d =
      let s = folded_same a.0 a.1 (cc e) c.2 d.2 c.3 d.3 in
      (s.1, let e' = s.0 in let h = c.4 in let g = d.4 in cc)
  try_fold_asked p k q l (Ok x) (Ok w) None (Some t) a e c d =
      cc (folded_same a.0 a.1 (let y : x ≡ w = cc e in y) c.2 d.2 c.3 d.3).0
  try_fold_asked p k q l (Ok x) (Ok w) (Some r) None a e c d =
      cc (folded_same a.0 a.1 (let y : x ≡ w = cc e in y) c.2 d.2 c.3 d.3).0
  try_fold_asked p k q l (Ok x) (Ok w) (Some r) (Some t) a e c d =
      c.4 ∙ (folded_same a.0 a.1 (cc e) c.2 d.2 c.3 d.3).0 ∙ sym d.4
  try_fold_asked p k q l (Err f) (Err g) None u a e c d = absurd c
  try_fold_asked p k q l (Err f) (Err g) (Some r) None a e c d = absurd d
  try_fold_asked p k q l (Err f) (Err g) (Some r) (Some t) a e c d = c.0 ∙ (ap Err cc) ∙ sym d.0
  try_fold_asked p k q l _ _ o u a e c d = cc

  pub try_fold_steady : (like : Sameness (Result T E))
      → Steady (SameItem like) (SameItem (Giving like (try_fold_steps call))) (try_fold_steps call)
      (AgreeDeciding like (AgreeBeside (Agree call)) (try_fold_steps call))
  try_fold_steady Sameness.equal =
      steady try_fold_asked
      (λ p k q l r t a c d. let e = a.1 in let h = c.1 in let g = d.1 in let v = c.2 in let w = d.2 in cc)
  try_fold_steady (Sameness.by like) = deciding_steady like (try_fold_steps call)
