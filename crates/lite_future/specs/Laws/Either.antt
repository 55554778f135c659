-- Laws of a future of one of two types.
use Rattle.std.specs.Prelude.{◌≡◌, ◌≤◌, List, [], ◌++◌, length}
use Rattle.futures.specs.Task.{Lasting}
use Rattle.lite_base.specs.Armed.{Arms, EndsPending}
use Rattle.lite_future.specs.Uses.{ap, inl, inr, Poll, SameItem, Sameness, Waiting, strip, CalmLaws, NoPending, FutureLaws, FutureRunLaws, WaitsOn}
use Rattle.lite_future.specs.Uses.{future_laws_of, future_runs_of, Runs, FutureSteadyLawsBy}
use Rattle.lite_base.specs.Alike.{Either as EitherSame}
use Rattle.lite_base.specs.Answers.{ComparableBy}
use Rattle.lite_future.specs.Either.{BothEither, EitherRegisters, EitherRuns, OfEither}
use Rattle.lite_base.specs.Laws.Alike.{comparable_as}
use Rattle.lite_future.specs.declared.either.Either.{Either}
use Rattle.lite_future.specs.declared.either.Either.TheVariants.{Left, Right}

module _ {A B O : Type 0} {one : Runs (Poll O) A} {other : Runs (Poll O) B} where
  module _ (f : FutureRunLaws one) (g : FutureRunLaws other) where
    rests : (x : Either A B) → EitherRuns one other x [] x
    rests (Left a) = f.rests a
    rests (Right a) = g.rests a

    stays : (x y : Either A B) → EitherRuns one other x [] y → y ≡ x
    stays (Left a) (Left b) h = ap Left (f.stays a b h)
    stays (Right a) (Right b) h = ap Right (g.stays a b h)
    stays (Left a) (Right b) h = absurd h
    stays (Right a) (Left b) h = absurd h

    follows : (x y z : Either A B) (l m : List (Poll O)) → Waiting l → EitherRuns one other x l y
        → EitherRuns one other y m z → EitherRuns one other x (l ++ m) z
    follows (Left a) (Left b) (Left c) l m w h k = f.follows a b c l m w h k
    follows (Right a) (Right b) (Right c) l m w h k = g.follows a b c l m w h k
    follows (Left a) (Right b) z l m w h k = absurd h
    follows (Right a) (Left b) z l m w h k = absurd h
    follows (Left a) (Left b) (Right c) l m w h k = absurd k
    follows (Right a) (Right b) (Left c) l m w h k = absurd k

    once : (x y : Either A B) (l : List (Poll O)) → EitherRuns one other x l y → length (strip l) ≤ 1
    once (Left a) (Left b) l h = f.once a b l h
    once (Right a) (Right b) l h = g.once a b l h
    once (Left a) (Right b) l h = absurd h
    once (Right a) (Left b) l h = absurd h

    either_runs : FutureRunLaws (EitherRuns one other)
    either_runs = record { rests = rests; stays = stays; follows = follows; once = once }

  either_on : {can : A → Type 0} {may : B → Type 0} → WaitsOn can one → WaitsOn may other
      → WaitsOn (OfEither can may) (EitherRuns one other)
  either_on on also (Left a) (Left b) l w c h = on a b l w c h
  either_on on also (Right a) (Right b) l w c h = also a b l w c h
  either_on on also (Left a) (Right b) l w c h = absurd h
  either_on on also (Right a) (Left b) l w c h = absurd h

  pub either_laws : {can : A → Type 0} {may : B → Type 0} → FutureLaws can one → FutureLaws may other
      → FutureLaws (OfEither can may) (EitherRuns one other)
  either_laws f g =
      future_laws_of (either_runs (future_runs_of f) (future_runs_of g)) (either_on f.waits_on g.waits_on)

  module _ {is_calm : A → Type 0} {is_still : B → Type 0} (c : CalmLaws one is_calm) (d : CalmLaws other is_still) where
    calm_run : (x y : Either A B) (l : List (Poll O)) → OfEither is_calm is_still x → EitherRuns one other x l y
        → NoPending l × OfEither is_calm is_still y
    calm_run (Left a) (Left b) l k h = (c.no_pending a b l k h, c.calm_on a b l k h)
    calm_run (Right a) (Right b) l k h = (d.no_pending a b l k h, d.calm_on a b l k h)
    calm_run (Left a) (Right b) l k h = absurd h
    calm_run (Right a) (Left b) l k h = absurd h

    pub either_calm : CalmLaws (EitherRuns one other) (OfEither is_calm is_still)
    either_calm =
        record {
          no_pending = λ x y l k h. (calm_run x y l k h).0;
          calm_on = λ x y l k h. (calm_run x y l k h).1;
        }

same_first : {O : Type 0} (same other : Sameness O) (x y : O) → SameItem same x y → SameItem (EitherSame same other) x y
same_first Sameness.equal Sameness.equal x y h = h
same_first Sameness.equal (Sameness.by r) x y h = inl h
same_first (Sameness.by r) Sameness.equal x y h = inl h
same_first (Sameness.by r) (Sameness.by s) x y h = inl h

same_second : {O : Type 0} (same other : Sameness O) (x y : O) → SameItem other x y → SameItem (EitherSame same other) x y
same_second Sameness.equal Sameness.equal x y h = h
same_second Sameness.equal (Sameness.by r) x y h = inr h
same_second (Sameness.by r) Sameness.equal x y h = inr h
same_second (Sameness.by r) (Sameness.by s) x y h = inr h

module _ {A B O : Type 0} {one some : Runs (Poll O) A} {other others : Runs (Poll O) B} {same also : Sameness O}
    {none needs : Type 0} {alike : A → A → Type 0} {like : B → B → Type 0}
    (s : FutureSteadyLawsBy same one some none alike) (t : FutureSteadyLawsBy also other others needs like) where
  steady : (x y : Either A B) → BothEither alike like x y → (l m : List (Poll O)) (x' y' : Either A B)
      → EitherRuns some others x l x' → EitherRuns some others y m y'
      → ComparableBy (SameItem (EitherSame same also)) (strip l) (strip m)
  steady (Left a) (Left b) e l m (Left a') (Left b') h k =
      comparable_as _ _ (same_first same also) (strip l) (strip m) (s.steady a b e l m a' b' h k)
  steady (Right a) (Right b) e l m (Right a') (Right b') h k =
      comparable_as _ _ (same_second same also) (strip l) (strip m) (t.steady a b e l m a' b' h k)
  steady (Left a) (Right b) e l m x' y' h k = absurd e
  steady (Right a) (Left b) e l m x' y' h k = absurd e
  steady (Left a) (Left b) e l m (Right a') y' h k = absurd h
  steady (Left a) (Left b) e l m (Left a') (Right b') h k = absurd k
  steady (Right a) (Right b) e l m (Left a') y' h k = absurd h
  steady (Right a) (Right b) e l m (Right a') (Left b') h k = absurd k

  found : none × needs → (x y : Either A B) (l : List (Poll O)) → EitherRuns one other x l y
      → EitherRuns some others x l y
  found n (Left a) (Left b) l h = s.found n.0 a b l h
  found n (Right a) (Right b) l h = t.found n.1 a b l h
  found n (Left a) (Right b) l h = absurd h
  found n (Right a) (Left b) l h = absurd h

  pub either_steady : FutureSteadyLawsBy (EitherSame same also) (EitherRuns one other) (EitherRuns some others)
      (none × needs) (BothEither alike like)
  either_steady = record { laws = either_runs s.laws t.laws; steady = steady; found = found }

-- A future of one of two types is armed if the futures of both types are.
pub either_arms : {A B O : Type 0} {run_one : Runs (Poll O) A} {run_other : Runs (Poll O) B}
    {one : A → Lasting → Type 0} {other : B → Lasting → Type 0} → Arms run_one one → Arms run_other other
    → Arms (EitherRuns run_one run_other) (EitherRegisters one other)
either_arms {A} {B} {O} {run_one} {run_other} {one} {other} a b = record { at = of_either }
  where
    of_either : (x y : Either A B) (l : List (Poll O)) → EndsPending l → EitherRuns run_one run_other x l y
        → EitherRegisters one other y Lasting.armed
    of_either (Left x) (Left y) l e h = a.at x y l e h
    of_either (Right x) (Right y) l e h = b.at x y l e h
    of_either x y l e h = absurd h
