-- `skip_while`: the items before the first one that the predicate rejects are left out.
use Rattle.std.specs.Prelude.{◌≡◌, Option, Some, None, Bool, true, false, IfSome}
use Rattle.lite_reshape.specs.Uses.{Mut, CalledAt, Bor, Answer, Ranks, Question, Runs, AtEachItem, AdapterParts, Through, parts_of}
use Rattle.std.specs.Fn.{TakesAt}
use Rattle.lite_reshape.specs.Leaving.{LeavesOut}
use Rattle.lite_reshape.specs.declared.skip_while.SkipWhile.{SkipWhile}

-- An item is left out as long as the predicate accepts it. The first item that it rejects is kept, the predicate is
-- dropped, and every later item is kept.
abbrev pub SkipsUntil : {F A : Type 0} → Question F A Bool → Option F → A → Option A → Option F → Type 0
SkipsUntil test None x None q = ⊥
SkipsUntil test None x (Some y) q = (q ≡ None) × (y ≡ x)
SkipsUntil {F} test (Some p) x None q = (r : F) × (q ≡ Some r) × test p x true r
SkipsUntil {F} test (Some p) x (Some y) q = (r : F) × (q ≡ None) × (y ≡ x) × test p x false r

-- The predicate may be called with each item that the source may still yield, until it rejects one.
abbrev pub MayAskUntil : {S F A : Type 0} → Runs (Answer A) S → Mut F (Bor A × Unit {0}) Bool → S → Option F → Type 0
MayAskUntil run g = AtEachItem run (SkipsUntil (CalledAt g)) (λ held x. IfSome held (λ p. TakesAt g p x))

-- The stream may be polled: the source may be polled, its rank counts, and the predicate may be called with each of its
-- items.
abbrev pub CanSkip : {S F : Type 0} → (S → Type 0) → Ranks S → (S → Option F → Type 0) → SkipWhile S F → Type 0
CanSkip can_poll ranks asks x = can_poll x.stream × ranks.counts x.stream × asks x.stream x.predicate

-- The source's results without the items before the first one that the predicate rejects.
abbrev pub SkipsWhile : {S F A : Type 0} → Runs (Answer A) S → Question F A Bool → Runs (Answer A) (SkipWhile S F)
SkipsWhile run test x l y = Through run (LeavesOut (SkipsUntil test)) x.stream x.predicate l y.stream y.predicate

-- A `SkipWhile` consists of its source, and of its predicate until that rejects an item.
abbrev pub skip_while_parts : {S F : Type 0} → AdapterParts (SkipWhile S F) S (Option F)
skip_while_parts =
    parts_of (λ m. m.stream) (λ m. m.predicate) (λ s h. record { stream = s; predicate = h }) (λ x y p. p)
