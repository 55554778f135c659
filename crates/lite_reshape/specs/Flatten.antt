-- `flatten`: each item is a stream, and is replaced by that stream's results before its first end.
use Rattle.std.specs.Prelude.{◌≡◌, ◌⊎◌, List, [], ◌∷◌, ◌++◌, Option, Some, None}
use Rattle.lite_reshape.specs.Uses.{Ready, Pending, Answer, Endless, end, Runs, Through, Relates}
use Rattle.lite_reshape.specs.declared.flatten.Flatten.{Flatten}

module _ {B A : Type 0} (run : Runs (Answer A) B) where
  -- The inner stream `b` is still held at the end of the run. All results are its own, none is an end of stream, and
  -- the outer stream is not polled.
  abbrev pub InnerHeld : B → List (Answer B) → List (Answer A) → Option B → Type 0
  InnerHeld b ins out last = (ins ≡ []) × Endless out × (c : B) × run b out c × (last ≡ Some c)

  -- The inner stream `b` ended, and its end is left out. Its own results are followed by at least one further result.
  abbrev pub InnerEnded : B → (List (Answer A) → Option B → Type 0) → List (Answer A) → Option B → Type 0
  InnerEnded b follows out last =
      (own : List (Answer A)) × (a : Answer A) × (rest : List (Answer A)) × (out ≡ own ++ a ∷ rest) × Endless own
      × (c : B) × run b (own ++ end ∷ []) c × follows (a ∷ rest) last

  -- The outer stream's results `ins`, when no inner stream is held at first. `Pending` and the end of the stream are
  -- passed on, and each item is replaced by that inner stream's results. The poll that meets an inner stream's end
  -- returns the result after it.
  abbrev pub Flat : List (Answer B) → List (Answer A) → Option B → Type 0
  Flat [] [] last = last ≡ None
  Flat [] (a ∷ out) last = ⊥
  Flat (i ∷ ins) [] last = ⊥
  Flat (Pending ∷ ins) (a ∷ out) last = (a ≡ Pending) × Flat ins out last
  Flat (Ready None ∷ ins) (a ∷ out) last = (a ≡ end) × Flat ins out last
  Flat (Ready (Some b) ∷ ins) (a ∷ out) last = InnerHeld b ins (a ∷ out) last ⊎ InnerEnded b (Flat ins) (a ∷ out) last

  -- The outer stream's results with each item replaced by that inner stream's results before its first end. The results
  -- of an inner stream that is held come first.
  abbrev pub Flattening : Relates (Option B) B A
  Flattening None ins out last = Flat ins out last
  Flattening (Some b) ins out last = InnerHeld b ins out last ⊎ InnerEnded b (Flat ins) out last

  -- The outer stream's results, each item replaced by that stream's results before its first end.
  abbrev pub Flattens : {S : Type 0} → Runs (Answer B) S → Runs (Answer A) (Flatten S B)
  Flattens outer x l y = Through outer Flattening x.stream x.inner_stream l y.stream y.inner_stream
