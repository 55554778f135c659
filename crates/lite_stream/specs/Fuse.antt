-- `fuse`: the source's results through its first end of stream, and then the end at every poll.
use Rattle.std.specs.Prelude.{◌≡◌, List, [], ◌∷◌, ◌++◌, Bool, true, false}
use Rattle.lite_stream.specs.Uses.{AllByRecursion, Answer, end, until_end, Runs}
use Rattle.lite_stream.specs.Through.{AdapterParts, Through, parts_of, Relates}
use Rattle.lite_stream.specs.declared.fuse.Fuse.{Fuse}

-- Every result in the list is the end of the stream.
abbrev pub AllEnds : {A : Type 0} → List (Answer A) → Type 0
AllEnds = AllByRecursion (λ a. a ≡ end)

-- The results of `fuse` in terms of the source's results `ins`. The `Bool`s tell whether the source had ended before
-- and after. Before the end, the two lists are equal. The first end is passed on, and after it every poll returns the
-- end without a poll of the source.
abbrev pub FusesOn : {A : Type 0} → Relates Bool A A
FusesOn true ins out after = (ins ≡ []) × AllEnds out × (after ≡ true)
FusesOn false ins out false = (out ≡ ins) × (until_end ins ≡ ins)
FusesOn {A} false ins out true =
    (own : List (Answer A)) × (later : List (Answer A)) × (ins ≡ own ++ end ∷ []) × (until_end own ≡ own)
    × (out ≡ own ++ end ∷ later) × AllEnds later

-- The source's results through its first end of stream, and then the end at every poll.
abbrev pub Fuses : {S A : Type 0} → Runs (Answer A) S → Runs (Answer A) (Fuse S)
Fuses run x l y = Through run FusesOn x.stream x.done l y.stream y.done

-- A `Fuse` consists of its source and whether the source has ended.
abbrev pub fuse_parts : {S : Type 0} → AdapterParts (Fuse S) S Bool
fuse_parts = parts_of (λ m. m.stream) (λ m. m.done) (λ s h. record { stream = s; done = h }) (λ x y p. p)
