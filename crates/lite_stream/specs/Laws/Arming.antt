-- Adapters over one source that return `Pending` only when the source does.
use Rattle.std.specs.Prelude.{◌≡◌, Bool, true, false}
use Rattle.futures.specs.Task.{Lasting}
use Rattle.lite_stream.specs.Uses.{Answer, Runs}
use Rattle.lite_base.specs.Armed.{Arms, pends_last}
use Rattle.lite_stream.specs.Laws.Through.{Entails}
use Rattle.lite_stream.specs.Through.{AdapterParts, Adapts, Relates}

-- If the adapter's results end in a `Pending`, so do the source's results.
abbrev pub Arming : {F A B : Type 0} → Relates F A B → Type 0
Arming relates = Entails relates (λ f i o g. (b : Bool) → pends_last b o ≡ true → pends_last b i ≡ true)

-- The adapter is armed if its source is.
pub through_arms : {M S F A B : Type 0} (p : AdapterParts M S F) {run : Runs (Answer A) S}
    {relates : Relates F A B} {registers : S → Lasting → Type 0}
    → Arms run registers → Arming relates → Arms (Adapts p run relates) (λ m. registers (p.source m))
through_arms p a t =
    record { at = λ x y l e h. a.at _ _ h.ins (t _ _ h.ins l h.related false e) h.came }
