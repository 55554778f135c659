-- Laws of closures that agree.
use Rattle.std.specs.Prelude.{⊤, Bool, true, false, ◌≡◌, List, [], ◌∷◌, Option, Some, None, refl, ◌++◌}
use Rattle.lite_base.specs.Uses.{◌∙◌, subst, sym, FoldsTo, Mut, Called}
use Rattle.lite_base.specs.Alike.{OptionBy, SameAnswer, SameItem, Sameness}
use Rattle.lite_base.specs.Answers.{ComparableBy}
use Rattle.lite_base.specs.Laws.Alike.{comparable_as, ends_same, same_answer}
use Rattle.lite_base.specs.Calling.{Accepts, Agree, AgreeBy, AgreeFrom, AgreeKeeping, AgreeOver, Always, Answered}
use Rattle.lite_base.specs.Calling.{Answering, Keeping, Kin, KinAnswers, MakesAlways}
use Rattle.lite_base.specs.Runs.{Question}

-- Two closures of which `agree` holds return values that are the same for items that are alike, and `agree` holds of
-- what they are after that.
abbrev pub MatchesFrom : {F A B : Type 0} → (A → A → Type 0) → (B → B → Type 0) → Question F A B → (F → F → Type 0)
    → Type 0
MatchesFrom {F} {A} {B} like same call agree =
    (f k g l : F) (x w : A) (y z : B) → agree f k → like x w → call f x y g → call k w z l → same y z × agree g l

-- `AgreeFrom` is such a relation.
module _ {F A B : Type 0} (like : A → A → Type 0) (same : B → B → Type 0) (call : Question F A B) where
  pub agree_from_matches : MatchesFrom like same call (AgreeFrom like same call)
  agree_from_matches f k g l x w y z a e c d = (
    (a.at (x ∷ []) (w ∷ []) (y ∷ []) (z ∷ []) g l (e, tt) (g, c, refl) (l, d, refl)).0,
    record {
      at = λ xs ws ys zs g' l' e' u v. (a.at (x ∷ xs) (w ∷ ws) (y ∷ ys) (z ∷ zs) g' l' (e, e') (g, c, u) (l, d, v)).1;
    },
  )

  -- To show that closures agree, it is enough to name such a relation that holds of them.
  module _ (agree : F → F → Type 0) (m : MatchesFrom like same call agree) where
    answered : (xs ws : List A) (ys zs : List B) (f k g l : F) → agree f k → ComparableBy like xs ws
        → Answered call f xs ys g → Answered call k ws zs l → ComparableBy same ys zs
    answered [] ws (y ∷ ys) (z ∷ zs) f k g l a e u v = absurd u
    answered (x ∷ xs) [] (y ∷ ys) (z ∷ zs) f k g l a e u v = absurd v
    answered (x ∷ xs) (w ∷ ws) (y ∷ ys) (z ∷ zs) f k g l a e u v =
        let s = m f k u.0 v.0 x w y z a e.0 u.1 v.1 in (s.0, answered xs ws ys zs u.0 v.0 g l s.1 e.1 u.2 v.2)
    answered xs ws ys zs f k g l a e u v = tt

    pub matches_agree_from : (f k : F) → agree f k → AgreeFrom like same call f k
    matches_agree_from f k a = record { at = λ xs ws ys zs g l. answered xs ws ys zs f k g l a }

  module _ (P : A → B → Type 0) (answers : (f g : F) (x : A) (y : B) → call f x y g → P x y)
      (alike : (x w : A) (y z : B) → like x w → P x y → P w z → same y z) where
    -- Closures agree if each return value has `P`, and return values with `P` for items that are alike are the same.
    pub answers_agree_from : (f k : F) → AgreeFrom like same call f k
    answers_agree_from f k =
        matches_agree_from (λ _ _. ⊤)
        (λ f' k' g l x w y z a e c d. (alike x w y z e (answers f' g x y c) (answers k' l w z d), tt)) f k tt

    -- What kin closures return is the same in that case.
    pub kin_answers_by : (y z : B) → KinAnswers like call y z → same y z
    kin_answers_by y z h = alike h.4 h.5 y z h.7 (answers h.0 h.2 h.4 y h.8) (answers h.1 h.3 h.5 z h.9)

  -- A closure agrees with itself if it returns the same for items that are alike, and is then equal. `search rules`
  -- finds this of a closure whose return values are known.
  pub agrees_alone_from : ((f g h : F) (x w : A) (y z : B) → like x w → call f x y g → call f w z h
      → same y z × (h ≡ g)) → (f : F) → AgreeFrom like same call f f
  agrees_alone_from one f =
      matches_agree_from _
      (λ p k g l x w y z a e c d. one p g l x w y z e c (subst (λ q. call q w z l) a d)) f f refl

module _ {F A B : Type 0} (call : Question F A B) where
  pub agrees_alone : ((f g h : F) (x : A) (y z : B) → call f x y g → call f x z h → (y ≡ z) × (h ≡ g)) → (f : F)
      → Agree call f f
  agrees_alone one =
      agrees_alone_from _ _ call (λ f g h x w y z e c d. one f g h x y z c (subst (λ v. call f v z h) (sym e) d))

-- Closures that agree on items which are alike agree on items which are alike in a narrower way.
pub agree_narrower : {F A B : Type 0} {narrow wide : A → A → Type 0} {same : B → B → Type 0} {call : Question F A B}
    {f k : F} → ((x w : A) → narrow x w → wide x w)
    → AgreeFrom wide same call f k → AgreeFrom narrow same call f k
agree_narrower {narrow} {wide} less a = record {
  at = λ xs ws ys zs g l e. a.at xs ws ys zs g l (comparable_as narrow wide less xs ws e);
}

module _ {F A B : Type 0} where
  -- Kin closures return values that kin closures return, and stay kin.
  pub kin_matches : (like : A → A → Type 0) (call : Question F A B)
      → MatchesFrom like (KinAnswers like call) call (Kin like call)
  kin_matches like call f k g l x w y z a e c d = ((f, k, g, l, x, w, a, e, c, d), Kin.called f k g l x w y z a e c d)

  -- Closures agree on equal arguments if each return value has `P`, and return values with `P` for one argument are the
  -- same.
  pub answers_agree : (same : B → B → Type 0) (call : Question F A B) (P : A → B → Type 0)
      → ((f g : F) (x : A) (y : B) → call f x y g → P x y) → ((x : A) (y z : B) → P x y → P x z → same y z) → (f k : F)
      → AgreeBy same call f k
  answers_agree same call P answers alike =
      answers_agree_from _ same call P answers
      (λ x w y z e p q. alike x y z p (subst (λ v. P v z) (sym e) q))

  -- Closures that return what one function says agree.
  pub function_agree : (call : Question F A B) (function : A → B)
      → ((f g : F) (x : A) (y : B) → call f x y g → y ≡ function x) → (f k : F) → Agree call f k
  function_agree call function answers =
      answers_agree _ call _ answers (λ x y z p q. p ∙ sym q)

-- By how the source's items are compared.
module _ {F A : Type 0} (like : Sameness A) where
  pub always_matches : {B : Type 0} (same : Sameness B) (call : Question F A B) {agree : F → F → Type 0}
      → MatchesFrom (SameItem like) (SameItem same) call agree
      → MatchesFrom (SameItem like) (SameAnswer same) (Always call) agree
  always_matches same call m f k g l x w None z a e c d = absurd c
  always_matches same call m f k g l x w (Some y) None a e c d = absurd d
  always_matches same call m f k g l x w (Some y) (Some z) a e c d =
      let s = m f k g l x w y z a e c d in (same_answer same y z s.0, s.1)

  -- Tests that return the same keep items that are the same.
  pub accepts_matches : (test : Question F A Bool)
      → MatchesFrom (SameItem like) (SameAnswer like) (Accepts test) (AgreeFrom (SameItem like) (λ y z. y ≡ z) test)
  accepts_matches test f k g l x w y z a e = both y z
    where
      tested : (b c : Bool) → test f x b g → test k w c l → (b ≡ c) × AgreeFrom (SameItem like) (λ y z. y ≡ z) test g l
      tested b c = agree_from_matches (SameItem like) (λ y z. y ≡ z) test f k g l x w b c a e

      both : (y z : Option A) → Accepts test f x y g → Accepts test k w z l
          → SameAnswer like y z × AgreeFrom (SameItem like) (λ y z. y ≡ z) test g l
      both None None c d = (ends_same like, (tested false false c d).1)
      both None (Some z) c d = absurd (let s = (tested false true c d.1).0 in cc)
      both (Some y) None c d = absurd (let s = (tested true false c.1 d).0 in cc)
      both (Some y) (Some z) c d = (rw (c.0, d.0) (same_answer like x w e), (tested true true c.1 d.1).1)

module _ {F A B : Type 0} where
  -- Kin closures return values that are the same if both keep an item, or both reject one.
  pub keeping_from : (like : A → A → Type 0) (call : Question F A (Option B))
      → MatchesFrom like (OptionBy (λ y z. KinAnswers like call (Some y) (Some z))) call
      (λ f k. Kin like call f k × AgreeFrom like (OptionBy (λ _ _. ⊤)) call f k)
  keeping_from like call f k g l x w y z a e c d =
      let kin = kin_matches like call f k g l x w y z a.0 e c d in
      let shape = agree_from_matches like (OptionBy (λ _ _. ⊤)) call f k g l x w y z a.1 e c d in
      (kept y z kin.0 shape.0, (kin.1, shape.1))
    where
      kept : (y z : Option B) → KinAnswers like call y z → OptionBy (λ (_ _ : B). ⊤) y z
          → OptionBy (λ y z. KinAnswers like call (Some y) (Some z)) y z
      kept None None kin shape = tt
      kept (Some y) (Some z) kin shape = kin
      kept y z kin shape = absurd shape

  pub keeping_matches : (like : Sameness A) (call : Question F A (Option B))
      → MatchesFrom (SameItem like) (SameAnswer (Keeping like call)) call (AgreeKeeping like call)
  keeping_matches Sameness.equal call = agree_from_matches _ _ call
  keeping_matches (Sameness.by like) call = keeping_from like call

  pub answering_matches : (like : Sameness A) (call : Question F A B)
      → MatchesFrom (SameItem like) (SameItem (Answering like call)) call (AgreeOver like call)
  answering_matches Sameness.equal call = agree_from_matches _ _ call
  answering_matches (Sameness.by like) call = kin_matches like call

-- Laws of calls that are made one after the other.

pub folds_follow : {P A : Type 0} (R : P → A → P → Type 0) (x y z : P) (l m : List A) → FoldsTo R x l y
    → FoldsTo R y m z → FoldsTo R x (l ++ m) z
folds_follow R x y z [] m h k = subst (λ t. FoldsTo R t m z) (sym h) k
folds_follow R x y z (a ∷ l) m h k = (h.0, h.1, folds_follow R h.0 y z l m h.2 k)

-- What each call of a closure promises.

-- What the function makes has the fact, and the function makes such values after that too.
pub makes_on : {F X V : Type 0} (g : Mut F X V) (Fact : V → Type 0) (f : F) (x : X) (v : V) (h : F)
    → MakesAlways g Fact f → Called g f x v h
    → Fact v × MakesAlways g Fact h
makes_on g Fact f x v h always called = (
  always.at [] f h x v refl called,
  record {
    at = λ xs p q y w folds then_called. always.at (x ∷ xs) p q y w (h, (v, called), folds) then_called;
  },
)
