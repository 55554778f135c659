-- More about `flatten` and `flat_map`: a step of a poll, when a poll may be made, and their ranks.
use Rattle.std.specs.Prelude.{◌≡◌, ◌⊎◌, ℕ, ◌+◌, List, [], ◌∷◌, ◌++◌, Option, Some, None, IfSome, replicate}
use Rattle.lite_reshape.specs.Uses.{Answer, end, item, Ranks, Runs, AdapterParts, parts_of}
use Rattle.lite_base.specs.Chain.{OneStep}
use Rattle.lite_reshape.specs.Flatten.{Flattening}
use Rattle.lite_reshape.specs.declared.flatten.Flatten.{Flatten}

-- A `Flatten` consists of its outer stream and the inner stream that it holds.
abbrev pub flatten_parts : {S B : Type 0} → AdapterParts (Flatten S B) S (Option B)
flatten_parts =
    parts_of (λ m. m.stream) (λ m. m.inner_stream) (λ s h. record { stream = s; inner_stream = h }) (λ x y p. p)

module _ {S B A : Type 0} (run : Runs (Answer A) B) (outer : Runs (Answer B) S) where
  -- A step without a result: the inner stream that was held, if any, ended, and the outer stream yielded the next one,
  -- which is now held.
  pub record TakesNext (x y : S × Option B) : Type 0 where
    pub ended : IfSome x.1 (λ b. (c : B) × run b (end ∷ []) c)
    pub next : B
    pub gave : outer x.0 (item next ∷ []) y.0
    pub held : y.1 ≡ Some next

  -- A step with the result `a`: of the inner stream that is held, or one that the outer stream returned and that is no
  -- item.
  abbrev pub GivesOne : S × Option B → Answer A → S × Option B → Type 0
  GivesOne x a y =
      ((y.0 ≡ x.0) × Flattening run x.1 [] (a ∷ []) y.1)
      ⊎ ((i : Answer B) × outer x.0 (i ∷ []) y.0 × Flattening run x.1 (i ∷ []) (a ∷ []) y.1 × (y.1 ≡ None))

  -- One step of a poll, of the outer stream and the inner stream that is held.
  abbrev pub FlatStep : S × Option B → Option (Answer A) → S × Option B → Type 0
  FlatStep = OneStep TakesNext GivesOne

  -- One step of a poll of an adapter, after which another step may be made.
  abbrev pub FlatSteps : {M : Type 0} → AdapterParts M S (Option B) → (M → Type 0) → M → Option (Answer A) → M → Type 0
  FlatSteps p can_step x r y = can_step y × FlatStep (p.source x, p.held x) r (p.source y, p.held y)

module _ {S B : Type 0} (outer : Runs (Answer B) S) where
  -- `Fact` holds of the inner stream that is held, if any, and of each inner stream that the outer stream may still
  -- yield.
  abbrev pub EachInner : (B → Type 0) → S → Option B → Type 0
  EachInner Fact s held = IfSome held Fact
      × ((t : S) (before after : List (Answer B)) (b : B) → outer s (before ++ item b ∷ after) t → Fact b)

  -- A poll may be made: the outer stream may be polled, its rank counts, and each inner stream may be polled.
  abbrev pub CanFlatten : (S → Type 0) → (S → Type 0) → (B → Type 0) → S → Option B → Type 0
  CanFlatten can_poll counts can_poll' s held = can_poll s × counts s × EachInner can_poll' s held

-- A step of an adapter may be made: the outer stream may be polled, its rank counts, and each inner stream may be
-- polled.
abbrev pub CanStepFlat : {M S B : Type 0} → AdapterParts M S (Option B) → Runs (Answer B) S
    → (S → Type 0) → (S → Type 0) → (B → Type 0) → M → Type 0
CanStepFlat p outer can_poll counts can_poll' x = CanFlatten outer can_poll counts can_poll' (p.source x) (p.held x)

-- The rank of the inner stream that is held, or zeros if none is.
abbrev pub inner_rank : {B : Type 0} → ℕ → (B → List ℕ) → Option B → List ℕ
inner_rank width rank None = replicate width 0
inner_rank width rank (Some b) = rank b

-- The rank of the outer stream, followed by that of the inner stream that is held. Each inner stream that the outer
-- stream may still yield has to count.
abbrev pub flattening_ranks : {M S B : Type 0} → AdapterParts M S (Option B) → Runs (Answer B) S → Ranks S → Ranks B
    → Ranks M
flattening_ranks p outer r r' =
    record {
      width = r.width + r'.width;
      rank = λ m. r.rank (p.source m) ++ inner_rank r'.width r'.rank (p.held m);
      counts = λ m. r.counts (p.source m) × EachInner outer r'.counts (p.source m) (p.held m);
      firm = λ m. r.firm (p.source m) × EachInner outer r'.firm (p.source m) (p.held m);
    }
