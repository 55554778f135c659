-- Where the first frame stands in some bytes.
use Rattle.std.specs.Prelude.{◌≡◌, ◌≤◌, ◌<◌, ℕ, List, [], ◌++◌, length, slice_range, take}
use Rattle.lent_frames.specs.declared.cut.Cut.{Cut}
use Rattle.lent_frames.specs.declared.cut.Cut.TheVariants.{More, Refused, Whole}
use Rattle.lent_frames.specs.declared.cut.Span.{Span}

-- No front of the bytes is a frame, and none is refused. `piece` says which bytes a frame may have, and `refuses` at which
-- bytes a decoder stops with which error.
abbrev pub Undecided : {C V E : Type 0} → (C → V → List ℕ → Type 0) → (C → List ℕ → E → Type 0) → C → List ℕ → Type 0
Undecided {V = V} {E = E} piece refuses c xs = (front rest : List ℕ) → xs ≡ front ++ rest
    → ((v : V) → piece c v front → ⊥) × ((e : E) → refuses c front e → ⊥)

-- The body stands in the frame, and the frame in `n` bytes.
abbrev pub IsWithin : Span → ℕ → Type 0
IsWithin s n = (s.from ≤ s.to) × (s.to ≤ s.size) × (s.size ≤ n)

-- The bytes of the frame.
abbrev pub frame_at : Span → List ℕ → List ℕ
frame_at s xs = take s.size xs

-- The bytes of its body.
abbrev pub body_at : Span → List ℕ → List ℕ
body_at s xs = slice_range xs s.from s.to

-- Two frames at the front of the same bytes are one, with one body.
abbrev pub OneFrame : {C : Type 0} → (C → List ℕ → List ℕ → Type 0) → Type 0
OneFrame {C} piece = (c : C) (v w front other rest more : List ℕ) → piece c v front → piece c w other
    → front ++ rest ≡ other ++ more → (v ≡ w) × (front ≡ other)

-- No frame is empty.
abbrev pub NoneEmpty : {C : Type 0} → (C → List ℕ → List ℕ → Type 0) → Type 0
NoneEmpty {C} piece = (c : C) (v : List ℕ) → piece c v [] → ⊥

-- `piece` says which bytes a frame with a body may have, and `refuses` which bytes begin no frame.
module _ {C E : Type 0} (piece : C → List ℕ → List ℕ → Type 0) (refuses : C → List ℕ → E → Type 0) where
  -- Whatever bytes follow these, nothing is decided before there are `least`.
  abbrev pub OpenUntil : C → ℕ → List ℕ → Type 0
  OpenUntil c least xs = (more : List ℕ) → length (xs ++ more) < least → Undecided piece refuses c (xs ++ more)

  -- Some front of the bytes is refused.
  abbrev pub BeginsNone : C → List ℕ → E → Type 0
  BeginsNone c xs e = (front rest : List ℕ) × (xs ≡ front ++ rest) × refuses c front e

  -- What is found at the front of some bytes: a frame; or none, and how many bytes there have to be; or that they begin
  -- none.
  abbrev pub CutFound : C → List ℕ → Cut E → Type 0
  CutFound c xs (Whole s) = IsWithin s (length xs) × piece c (body_at s xs) (frame_at s xs)
  CutFound c xs (More least) = (length xs < least) × OpenUntil c least xs
  CutFound c xs (Refused e) = BeginsNone c xs e
