-- `inspect`: the function is called with a reference to each item, which is then yielded unchanged.
use Rattle.std.specs.Prelude.{◌≡◌}
use Rattle.lite_stream.specs.Uses.{Answer, Question, Runs}
use Rattle.lite_stream.specs.Pointwise.{Replaces}
use Rattle.lite_stream.specs.Through.{AdapterParts, Through, parts_of}
use Rattle.lite_stream.specs.declared.inspect.Inspect.{Inspect}

-- The function is called with a reference to the item `x`, and `x` is yielded unchanged.
abbrev pub ShowsItem : {F A : Type 0} → Question F A (Unit {0}) → F → A → A → F → Type 0
ShowsItem look p x y q = (y ≡ x) × look p x tt q

-- The source's results unchanged, the function being called with each item.
abbrev pub Inspects : {S F A : Type 0} → Runs (Answer A) S → Question F A (Unit {0}) → Runs (Answer A) (Inspect S F)
Inspects run look x l y = Through run (Replaces (ShowsItem look)) x.stream x.f l y.stream y.f

-- An `Inspect` consists of its source and its function.
abbrev pub inspect_parts : {S F : Type 0} → AdapterParts (Inspect S F) S F
inspect_parts = parts_of (λ m. m.stream) (λ m. m.f) (λ s h. record { stream = s; f = h }) (λ x y p. p)
