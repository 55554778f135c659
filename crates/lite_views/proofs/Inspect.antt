-- The items of `inspect`, by those of its source.
use Rattle.std.specs.Prelude.{List, refl, ⊤}
use Rattle.lite_views.specs.Uses.{Answer, Always, Question, Runs, Exchanges}
use Rattle.lite_stream.specs.Inspect.{Inspects, ShowsItem, inspect_parts}
use Rattle.lite_stream.specs.declared.inspect.Inspect.{Inspect}
use Rattle.lite_views.proofs.Views.{listed_through}
use Rattle.lite_views.specs.Views.{Lists, ListsAs}
use Rattle.lite_views.proofs.Carrying.{exchanged_fits}

pub shown_lists : {S F A : Type 0} (run : Runs (Answer A) S) (look : Question F A (Unit {0})) (x : Inspect S F)
    (xs : List A) → Lists run x.stream xs → ListsAs (Inspects run look) x xs
shown_lists run look x xs lists =
    listed_through inspect_parts run (Exchanges (Always (ShowsItem look))) x xs xs lists
    (exchanged_fits (Always (ShowsItem look)) (λ p. ⊤) (λ p l. l) (λ p g. refl) (λ p q y z l g c. (rw c.0, tt))
    (λ p q y l g. absurd) x.f xs tt)
