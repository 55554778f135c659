-- The steadiness of adapters that replace each item by a list with exactly one item.
use Rattle.std.specs.Prelude.{◌≡◌, ◌⊎◌, List, [], ◌∷◌, ◌++◌, Option, Some, None}
use Rattle.lite_reshape.specs.Uses.{AllByRecursion, ◌∙◌, inl, inr, refl, ap, OptionBy, SameAnswer, SameItem, Sameness, Answer, ComparableBy, strip}
use Rattle.lite_reshape.specs.Uses.{strip_join, comparable_as, same_answer, all_any, all_split, PlacedFrom, placed_from_same, answer_items}
use Rattle.lite_reshape.specs.Uses.{MatchesFrom, Question, AgreeingOver, Entails}
use Rattle.lite_base.specs.Laws.Alike.{gives_strip}
use Rattle.lite_base.specs.Laws.Answers.{waiting_strip}
use Rattle.lite_reshape.specs.Laws.Expanding.{GivingOne, expanding_by}
use Rattle.lite_reshape.specs.Expanding.{Expanding}

module _ {V B : Type 0} {gives : V → List (Answer B) → Option V → Type 0} (one : GivingOne gives) where
  -- Values that are alike lead to items that are the same.
  abbrev pub OneMade : Sameness B → (V → V → Type 0) → Type 0
  OneMade same alike =
      (v w : V) (l m : List (Answer B)) → alike v w → (h : gives v l None) (k : gives w m None)
      → SameItem same (one.hands v l h).0 (one.hands w m k).0

  -- The value `v` is not done, or its item comes before what follows.
  abbrev OneInPlace : V → (List (Option B) → Type 0) → List (Option B) → Type 0
  OneInPlace v follows out =
      (out ≡ []) ⊎
      ((l : List (Answer B)) × (h : gives v l None) × (more : List (Option B))
      × (out ≡ Some (one.hands v l h).0 ∷ more) × follows more)

  module _ {F A : Type 0} (call : Question F A V) where
    placed_from : Entails (Expanding call gives) (λ s i o t. PlacedFrom call OneInPlace s.0 s.1 (strip i) (strip o))
    placed_from s t =
        expanding_by call gives t (λ s i o. PlacedFrom call OneInPlace s.0 s.1 _ _) (λ e. refl)
        (λ v w o ran e. inl (waiting_strip o (one.waits v w o ran)))
        (λ p v i own rest ran k. let h = one.hands v own ran in
        inr (
          own,
          ran,
          strip rest,
          strip_join own rest ∙ ap (λ k. k ++ strip rest) (gives_strip own _ h.1),
          k,
        ))
        (λ p i o k. k) (λ p i o k. (strip o, refl, k)) (λ p r x v i b o called k. (v, r, called, k)) s

    module _ (like : Sameness A) (same : Sameness B) {alike : V → V → Type 0} {agree : F → F → Type 0}
        (m : MatchesFrom (SameItem like) alike call agree)
        (value : OneMade same alike) where
      module _ (v w : V) (P Q : List (Option B) → Type 0) (o p : List (Option B)) (a : alike v w) where
        places : OneInPlace v P o → OneInPlace w Q p
            → ((o' p' : List (Option B)) → P o' → Q p' → ComparableBy (SameAnswer same) o' p')
            → ComparableBy (SameAnswer same) o p
        places (inl e) q rest = cc
        places (inr r) (inl e) rest = cc
        places (inr r) (inr q) rest =
            rw (r.3, q.3) (
              same_answer same (one.hands v r.0 r.1).0 (one.hands w q.0 q.1).0 (value v w r.0 q.0 a r.1 q.1),
              rest r.2 q.2 r.4 q.4,
            )

      -- Two adapters agree, if alike values are made of items that correspond.
      pub expanding_agreeing : AgreeingOver like same (Expanding call gives)
          (λ s t. agree s.0 t.0 × OptionBy alike s.1 t.1)
      expanding_agreeing s t s' t' i j o p a r q c =
          placed_from_same call OneInPlace same m places s.0 t.0 s.1 t.1 _ _ _ _ a.0 a.1
          (comparable_as _ _ (answer_items like) _ _ c)
          (placed_from s s' i o r) (placed_from t t' j p q)

module _ {F A V B : Type 0} (call : Question F A V) {gives gives' : V → List (Answer B) → Option V → Type 0} where
  module _ (may : Answer B → Type 0)
      (found : (v : V) (l : List (Answer B)) (next : Option V) → AllByRecursion may l → gives v l next
      → gives' v l next) where
    -- A relation between the lists may be replaced by another, if each list that meets `may` is one of the other too.
    pub expanding_found_where : (s t : F × Option V) (i : List (Answer A)) (o : List (Answer B)) → AllByRecursion may o
        → Expanding call gives s i o t → Expanding call gives' s i o t
    expanding_found_where s t i o all c =
        expanding_by call gives t (λ s i o. AllByRecursion may o → Expanding call gives' s i o t) (λ e all. (refl, e))
        (λ v w o ran e all. inl (refl, refl, w, found v o _ all ran, e))
        (λ p v i own rest ran k all. let both = all_split may own rest all in
        inr (own, rest, refl, found v own None both.0 ran, k both.1))
        (λ p i o k all. (refl, k all.1)) (λ p i o k all. (refl, k all.1))
        (λ p r x v i b o called k all. (v, r, called, k all)) s i o c all

  -- The same, if it holds for each list.
  pub expanding_found : ((v : V) (l : List (Answer B)) (next : Option V) → gives v l next → gives' v l next)
      → Entails (Expanding call gives) (Expanding call gives')
  expanding_found found s t i o = expanding_found_where _ (λ v l next all. found v l next) s t i o (all_any o)
