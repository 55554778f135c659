-- Laws of `fuse` of a future.
use Rattle.std.specs.Prelude.{◌≡◌, ◌≤◌, List, [], ◌∷◌, ◌++◌, map, length, Option, Some, None, IfSome, refl}
use Rattle.lite_future.specs.Uses.{ap, subst, arith, Poll, OptionBy, Sameness, Gives, Waiting, strip, Finishes, Spends, FutureLaws, FutureRunLaws}
use Rattle.lite_future.specs.Uses.{future_laws_of, future_runs_of, alike_agrees, by_value, waiting_once, waiting_strip, waiting_waiting}
use Rattle.lite_future.specs.Uses.{FutureSteadyLawsBy, Runs}
use Rattle.std.proofs.lemmas.List.{map-id}
use Rattle.lite_future.specs.Fuse.{FutureFuses}
use Rattle.lite_base.specs.Laws.Alike.{gives_strip, option_by}
use Rattle.lite_base.specs.Laws.Answers.{strip_join}
use Rattle.lite_base.specs.Laws.Spent.{spends_follow, spends_found, spends_on, spends_rest, spends_stay}
use Rattle.lite_future.specs.declared.fuse.Fuse.{Fuse}

module _ {A : Type 0} where
  -- A value with only `Pending`s after it is one value.
  spent_strip : (i k : List (Poll A)) (x : A) → Gives i x → Waiting k → strip (map (λ a. a) i ++ k) ≡ x ∷ []
  spent_strip i k x g w = rw (map-id, strip_join, gives_strip i x g, waiting_strip k w)

module _ {F A : Type 0} (run : Runs (Poll A) F) where
  spends_once : (x y : Option F) (l : List (Poll A)) → Spends run (λ a. a) Waiting x l y → length (strip l) ≤ 1
  spends_once None y l h = waiting_once l h.0
  spends_once (Some f) (Some g) l h = rw (h.3, map-id) (waiting_once h.0 h.1)
  spends_once (Some f) None l h =
      rw (h.joined, spent_strip h.ins h.after h.value h.finishes.gives h.later) (omega arith)

  spends_value : (x y : Option F) (l : List (Poll A)) (v : A) → Spends run (λ a. a) Waiting x l y → strip l ≡ v ∷ []
      → (f : F) × (ins : List (Poll A)) × (x ≡ Some f) × Finishes run f ins v
  spends_value None y l v h e = absurd (let none = waiting_strip l h.0 in cc)
  spends_value (Some f) (Some g) l v h e =
      let none : strip l ≡ [] = rw (h.3, map-id) (waiting_strip h.0 h.1) in
      absurd (cc (none, e))
  spends_value (Some f) None l v h e =
      let one : strip l ≡ h.value ∷ [] = rw h.joined (spent_strip h.ins h.after h.value h.finishes.gives h.later) in
      let same : h.value ≡ v = cc in
      (f, h.ins, refl, subst (Finishes run f h.ins) same h.finishes)

  -- Runs follow one another past the value too.
  fuses_runs : FutureRunLaws run → FutureRunLaws (FutureFuses run)
  fuses_runs laws =
      record {
        rests = λ x. spends_rest _ Waiting laws tt x.inner;
        stays = λ x y h. ap (λ v. record x { inner = v }) (spends_stay _ Waiting laws x.inner y.inner h);
        follows = λ x y z l m w. spends_follow _ Waiting laws waiting_waiting x.inner y.inner z.inner l m;
        once = λ x y. spends_once x.inner y.inner;
      }

  pub fuses_laws : {can_poll : F → Type 0} → FutureLaws can_poll run
      → FutureLaws (λ x. IfSome x.inner can_poll) (FutureFuses run)
  fuses_laws {can_poll} laws =
      future_laws_of (fuses_runs (future_runs_of laws))
      (λ x y l w. spends_on run can_poll laws.waits_on _ _ x.inner y.inner l)

module _ {F A : Type 0} {run ample : Runs (Poll A) F} {needs_none : Type 0} {alike : F → F → Type 0} where
  pub fuses_steady : {same : Sameness A} → FutureSteadyLawsBy same run ample needs_none alike
      → FutureSteadyLawsBy same (FutureFuses run) (FutureFuses ample) needs_none
      (λ (x y : Fuse F). OptionBy alike x.inner y.inner)
  fuses_steady s =
      record {
        laws = fuses_runs ample s.laws;
        steady = λ x y e l m x' y' h k.
            by_value _ _ (spends_once ample x.inner x'.inner l h)
            (spends_once ample y.inner y'.inner m k)
            (λ v w p q.
            let one = spends_value ample x.inner x'.inner l v h p in
            let two = spends_value ample y.inner y'.inner m w k q in
            alike_agrees ample one.0 two.0
            (s.steady one.0 two.0
            (option_by alike x.inner y.inner one.0 two.0 e one.2 two.2)) one.1 two.1 v w one.3 two.3);
        found = λ n x y. spends_found _ Waiting (s.found n) x.inner y.inner;
      }
