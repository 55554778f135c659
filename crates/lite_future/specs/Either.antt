-- A future of one of two types.
use Rattle.lite_future.specs.Uses.{Lasting, Poll, Runs}
use Rattle.lite_future.specs.declared.either.Either.{Either}
use Rattle.lite_future.specs.declared.either.Either.TheVariants.{Left, Right}

module _ {A B : Type 0} where
  -- `one` or `other` holds of the future that it is.
  abbrev pub OfEither : (A → Type 0) → (B → Type 0) → Either A B → Type 0
  OfEither one other (Left a) = one a
  OfEither one other (Right b) = other b

  -- Both are futures of the first type, of which `one` holds, or both are of the second, of which `other` holds.
  abbrev pub BothEither : (A → A → Type 0) → (B → B → Type 0) → Either A B → Either A B → Type 0
  BothEither one other (Left a) (Left b) = one a b
  BothEither one other (Right a) (Right b) = other a b
  BothEither one other x y = ⊥

  -- What the future that it is has registered.
  abbrev pub EitherRegisters : (A → Lasting → Type 0) → (B → Lasting → Type 0) → Either A B → Lasting → Type 0
  EitherRegisters one other (Left a) fact = one a fact
  EitherRegisters one other (Right b) fact = other b fact

  -- The runs are those of the future that it is.
  abbrev pub EitherRuns : {O : Type 0} → Runs (Poll O) A → Runs (Poll O) B → Runs (Poll O) (Either A B)
  EitherRuns one other x l y = BothEither (λ a b. one a l b) (λ a b. other a l b) x y
