-- Interleavings of two lists, and collections that hold an interleaving of the items of two streams.
use Rattle.std.specs.Prelude.{◌≡◌, ◌⊎◌, List, [], ◌∷◌, ◌++◌, Bool, true, false, map, Some, None}
use Rattle.lite_theorems.specs.Uses.{Ready, Pending, Answer, end, strip, Runs, Consume, Or, Race, Fuse}

-- `all` is an interleaving of the two lists. It is empty if both are, and otherwise begins with the head of one of
-- them, before an interleaving of what is left.
abbrev pub Interleaves : {A : Type 0} → (firsts seconds all : List A) → Type 0
Interleaves firsts seconds [] = (firsts ≡ []) × (seconds ≡ [])
Interleaves {A} firsts seconds (x ∷ all) =
    ((rest : List A) × (firsts ≡ x ∷ rest) × Interleaves rest seconds all)
    ⊎ ((rest : List A) × (seconds ≡ x ∷ rest) × Interleaves firsts rest all)

-- The items before the first end of the stream.
abbrev pub items_given : {A : Type 0} → List (Answer A) → List A
items_given [] = []
items_given (Pending ∷ l) = items_given l
items_given (Ready None ∷ l) = []
items_given (Ready (Some x) ∷ l) = x ∷ items_given l

-- A run from `s` to `t` yields the items `l`, with `Pending`s among them, and then the end of the stream.
abbrev pub GivesWhole : {S A : Type 0} → Runs (Answer A) S → Runs A S
GivesWhole {S} {A} run s l t =
    (answers : List (Answer A)) × run s (answers ++ end ∷ []) t × (strip answers ≡ map Some l)

module _ {S A : Type 0} (run : Runs (Answer A) S) where
  -- If the stream had ended before, it is not polled and yields nothing. Otherwise it yields the items `l` and then
  -- ends.
  abbrev pub EndsWith : Bool → Runs A S
  EndsWith true s l t = (l ≡ []) × (t ≡ s)
  EndsWith false s l t = GivesWhole run s l t

  -- A fused stream yields the items `l`, which are all that it has.
  abbrev pub GivesRest : Runs A (Fuse S)
  GivesRest s l t = EndsWith s.done s.stream l t.stream

module _ {C S U A : Type 0} (holds : C → List A → Type 0)
    (run : Runs (Answer A) S) (run' : Runs (Answer A) U) where
  -- The collection `c` holds what it held before, and then an interleaving of the items of `s` and of `u`. Each of the
  -- two streams yielded all that it had, and `t` and `v` are left.
  abbrev pub HoldsBoth : List A → Fuse S → Fuse U → Fuse S → Fuse U → C → Type 0
  HoldsBoth before s u t v c =
      (firsts seconds all : List A) × GivesRest run s firsts t × GivesRest run' u seconds v
      × Interleaves firsts seconds all × holds c (before ++ all)

  -- What `collect` of `or` holds: what it held before, and then an interleaving of all items of the two streams.
  abbrev pub OrHolds : {F G : Type 0} → List A → Consume (Or S U) F → Consume (Or S U) G → C → Type 0
  OrHolds before x y = HoldsBoth before x.stream.stream1 x.stream.stream2 y.stream.stream1 y.stream.stream2

  -- What `collect` of `race` holds: what it held before, and then an interleaving of all items of the two streams.
  abbrev pub RaceHolds : {F G R : Type 0} → List A → Consume (Race S U R) F → Consume (Race S U R) G → C → Type 0
  RaceHolds before x y = HoldsBoth before x.stream.stream1 x.stream.stream2 y.stream.stream1 y.stream.stream2
