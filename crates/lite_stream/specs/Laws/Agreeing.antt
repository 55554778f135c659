-- Laws about adapters over one source whose results, `Pending`s aside, do not depend on when the source was pending.
use Rattle.std.specs.Prelude.{List, Option, ⊤, ◌≡◌}
use Rattle.std.proofs.Common.{sym}
use Rattle.lite_stream.specs.Uses.{SameAnswer, Sameness, Answer, ComparableBy, strip, Runs, ◌∙◌, Bor, Pairwise, SameItem, MatchesFrom, Question}
use Rattle.lite_base.specs.Alike.{AlikeBy}
use Rattle.lite_base.specs.Steady.{SteadyLawsBy}
use Rattle.lite_stream.specs.Laws.Through.{Entails, Following, through_runs}
use Rattle.lite_stream.specs.Through.{AdapterParts, Adapts, Relates}
use Rattle.lite_base.specs.Laws.Alike.{made_same, pairs_same}
use Rattle.lite_stream.specs.Copied.{CopiesItem, Referred}
use Rattle.lite_stream.specs.Enumerate.{Numbers}
use Rattle.lite_stream.specs.Inspect.{ShowsItem}

module _ {F A B : Type 0} where
  -- From states that agree, source results that correspond by `like` lead to adapter results that correspond by `same`.
  -- `Pending`s are left out of the comparison.
  abbrev pub AgreeingFrom : (Option A → Option A → Type 0) → (Option B → Option B → Type 0)
      → Relates F A B → (F → F → Type 0) → Type 0
  AgreeingFrom like same relates agree =
      (f k g l : F) (i j : List (Answer A)) (o p : List (Answer B)) → agree f k → relates f i o g → relates k j p l
      → ComparableBy like (strip i) (strip j) → ComparableBy same (strip o) (strip p)

  -- From states that agree, source items that are the same by `like` lead to adapter items that are the same by `same`.
  abbrev pub AgreeingOver : Sameness A → Sameness B
      → Relates F A B → (F → F → Type 0) → Type 0
  AgreeingOver like same = AgreeingFrom (SameAnswer like) (SameAnswer same)

pub through_alike : {M S F A B : Type 0} (p : AdapterParts M S F) {ample : Runs (Answer A) S}
    {relates : Relates F A B}
    {agree : F → F → Type 0} {like : Option A → Option A → Type 0} {same : Option B → Option B → Type 0} (x y : M)
    → AlikeBy like ample (p.source x) (p.source y) → agree (p.held x) (p.held y) → AgreeingFrom like same relates agree
    → AlikeBy same (Adapts p ample relates) x y
through_alike p x y e a agrees l m x' y' h k =
    agrees _ _ _ _ h.ins k.ins l m a h.related k.related
    (e h.ins k.ins _ _ h.came k.came)

module _ {M S F A B : Type 0} (p : AdapterParts M S F) {run ample : Runs (Answer A) S} {needs_none : Type 0}
    {relates : Relates F A B} {alike : S → S → Type 0}
    {agree : F → F → Type 0} where
  -- The steadiness of an adapter whose own relation, `relates'`, also allows allocation failures. Without failures it
  -- entails `relates`.
  module _ (like : Sameness A) (same : Sameness B) where
    pub through_steady_by : {relates' : Relates F A B} {needs_none' : Type 0}
        → SteadyLawsBy like run ample needs_none alike → Following relates → AgreeingOver like same relates agree
        → (needs_none'
        → needs_none × Entails relates' relates)
        → SteadyLawsBy same (Adapts p run relates') (Adapts p ample relates) needs_none'
        (λ x y. alike (p.source x) (p.source y) × agree (p.held x) (p.held y))
    through_steady_by s t agrees found =
        record {
          laws = through_runs p s.laws t;
          steady = λ x y e. through_alike p x y (s.steady _ _ e.0) e.1 agrees;
          found = λ n x y l h. record {
            ins = h.ins;
            came = s.found (found n).0 _ _ h.ins h.came;
            related = (found n).1 _ _ h.ins l h.related;
          };
        }

    -- The steadiness of an adapter that does not allocate memory itself.
    pub through_steady_over : SteadyLawsBy like run ample needs_none alike → Following relates
        → AgreeingOver like same relates agree
        → SteadyLawsBy same (Adapts p run relates) (Adapts p ample relates) needs_none
        (λ x y. alike (p.source x) (p.source y) × agree (p.held x) (p.held y))
    through_steady_over s t agrees = through_steady_by s t agrees (λ n. (n, λ f g i o h. h))

-- Laws about calls on items that are the same, for adapters that yield no result of a closure.

module _ {A : Type 0} where
  -- Items that are the same get pairs that are the same, if they are numbered from one number on.
  pub numbers_match : (like : Sameness A)
      → MatchesFrom (SameItem like) (SameItem (Pairwise Sameness.equal like)) Numbers (λ n m. m ≡ n)
  numbers_match like f k g l x w y z a e c d =
      (rw (c.0, d.0) (pairs_same Sameness.equal like (f, x) (k, w) (sym a) e), rw (c.1, d.1, a))

  -- References that are the same refer to values that are the same.
  pub copies_match : (like : Sameness (Bor A))
      → MatchesFrom (SameItem like) (SameItem (Referred like)) CopiesItem (λ p q. ⊤)
  copies_match like f k g l x w y z a e c d =
      (made_same like _ (λ r v u p q. p ∙ sym q) x w y z e c d, tt)

  -- Items that are the same are yielded as the same, whatever function is called with them.
  pub shows_match : {F : Type 0} (look : Question F A (Unit {0})) (like : A → A → Type 0)
      → MatchesFrom like like (ShowsItem look) (λ p q. ⊤)
  shows_match look like f k g l x w y z a e c d = (rw (c.0, d.0) e, tt)
