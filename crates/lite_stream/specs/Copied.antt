-- `copied`: every reference that the source yields is replaced by the value it refers to.
use Rattle.std.specs.Prelude.{◌≡◌}
use Rattle.lite_stream.specs.Uses.{Bor, Sameness, Answer, Runs}
use Rattle.lite_base.specs.Alike.{MadeOf}
use Rattle.lite_stream.specs.Pointwise.{Replaces}
use Rattle.lite_stream.specs.Through.{AdapterParts, Through, parts_of}
use Rattle.lite_stream.specs.declared.copied.Copied.{Copied}

-- The item `x` is a reference, and `y` is the value it refers to. The `Unit` arguments are there because no closure is
-- called.
abbrev pub CopiesItem : {A : Type 0} → Unit {0} → Bor A → A → Unit {0} → Type 0
CopiesItem p x y q = y ≡ x.now

-- Two items of `copied` are the same if two references that are the same by `like` refer to them. If `like` is
-- equality, this is equality too.
abbrev pub Referred : {A : Type 0} → Sameness (Bor A) → Sameness A
Referred like = MadeOf like (λ r v. v ≡ r.now)

-- The source's results, each reference replaced by the value it refers to.
abbrev pub CopiesAll : {S A : Type 0} → Runs (Answer (Bor A)) S → Runs (Answer A) (Copied S)
CopiesAll run x l y = Through run (Replaces CopiesItem) x.stream tt l y.stream tt

-- A `Copied` consists of its source alone.
abbrev pub copied_parts : {S : Type 0} → AdapterParts (Copied S) S (Unit {0})
copied_parts = parts_of (λ m. m.stream) (λ m. tt) (λ s _. record { stream = s }) (λ x y p. p)
