-- Adapters over one source that return `Pending` no more often than the source does.
use Rattle.std.specs.Prelude.{◌+◌, List}
use Rattle.std.proofs.Common.{◌≤◌}
use Rattle.lite_stream.specs.Uses.{arith, Answer, waits, Runs}
use Rattle.lite_base.specs.Calm.{CalmLaws}
use Rattle.lite_base.specs.Laws.Calm.{calm_both, no_pending_none, none_no_pending}
use Rattle.lite_stream.specs.Laws.Through.{Entails}
use Rattle.lite_stream.specs.Through.{AdapterParts, Adapts, Relates}

-- The adapter adds no `Pending` of its own: its results hold no more `Pending`s than the source's results.
abbrev pub Calming : {F A B : Type 0} → Relates F A B → Type 0
Calming relates = Entails relates (λ f i o g. waits o ≤ waits i)

pub through_calm : {M S F A B : Type 0} (p : AdapterParts M S F) {run : Runs (Answer A) S}
    {relates : Relates F A B} {is_calm : S → Type 0}
    → CalmLaws run is_calm → Calming relates → CalmLaws (Adapts p run relates) (λ m. is_calm (p.source m))
through_calm p c t =
    calm_both
    (λ x y l k h.
    let none = no_pending_none h.ins (c.no_pending _ _ h.ins k h.came) in
    (none_no_pending l (omega (arith, none, t _ _ h.ins l h.related)), c.calm_on _ _ h.ins k h.came))

-- A stream over two calm sources is calm, if its results hold no more `Pending`s than both sources' results together.
pub calm_two : {M S U A B C : Type 0} {run : Runs (Answer A) S} {run' : Runs (Answer B) U} {runs : Runs (Answer C) M}
    (first : M → S) (second : M → U) {is_calm : S → Type 0} {is_calm' : U → Type 0} → CalmLaws run is_calm
    → CalmLaws run' is_calm'
    → ((x y : M) (l : List (Answer C)) → runs x l y → (i : List (Answer A)) × (j : List (Answer B))
    × run (first x) i (first y) × run' (second x) j (second y) × (waits l ≤ waits i + waits j))
    → CalmLaws runs (λ m. is_calm (first m) × is_calm' (second m))
calm_two first second c d came =
    calm_both
    (λ x y l k h.
    let e = came x y l h in
    let none = no_pending_none e.0 (c.no_pending _ _ e.0 k.0 e.2) in
    let none' = no_pending_none e.1 (d.no_pending _ _ e.1 k.1 e.3) in (
      none_no_pending l (omega (arith, e.4, none, none')),
      (c.calm_on _ _ e.0 k.0 e.2, d.calm_on _ _ e.1 k.1 e.3),
    ))
