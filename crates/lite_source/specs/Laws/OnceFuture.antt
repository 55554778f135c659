-- Laws about `once_future`.
use Rattle.std.specs.Prelude.{IfSome, ◌≡◌, List, [], ◌∷◌, map, Option, Some, None}
use Rattle.lite_source.specs.Uses.{◌∙◌, refl, ap, arith, inl, AllByRecursion, option_len, Poll, OptionBy, SameAnswer}
use Rattle.lite_source.specs.Uses.{SameItem, Sameness, Answer, ComparableBy, end, strip, CalmLaws, NoPending}
use Rattle.lite_source.specs.Uses.{Lowers-below, Spends, FutureLaws, FutureRunLaws, RunLaws, alike_agrees, all_append}
use Rattle.lite_source.specs.Uses.{calm_both, no_pending_join, handed_gives, handed_no_pending, handed_waits, same_hint}
use Rattle.lite_source.specs.Uses.{Lowers, Counting, number_counting, FutureSteadyLawsBy, SteadinessBy, SteadyLawsBy}
use Rattle.lite_source.specs.Uses.{StreamLaws, laws_of, handed, NoHint, Runs}
use Rattle.futures.specs.Task.{Lasting}
use Rattle.lite_base.specs.Armed.{Arms}
use Rattle.lite_base.specs.Laws.Armed.{spends_arms}
use Rattle.lite_base.specs.Laws.Alike.{comparable_nil, ends_same, same_answer}
use Rattle.lite_base.specs.Laws.Ranks.{waiting_lowers}
use Rattle.lite_base.specs.Laws.Spent.{handed_waiting, spends_follow, spends_found, spends_on, spends_rest, spends_stay}
use Rattle.lite_base.specs.Laws.FutureLaws.{future_runs_of}
use Rattle.lite_source.specs.OnceFuture.{GivesFuture, once_future_ranks}
use Rattle.lite_source.specs.Laws.Always.{answers_no_pending, answers_same, no_items_lower}

module _ {F A : Type 0} (run : Runs (Poll A) F) where
  once_future_runs : FutureRunLaws run → RunLaws (GivesFuture run)
  once_future_runs laws =
      record {
        rests = λ x. spends_rest _ _ laws tt x.future;
        stays = λ x y h. ap (λ v. record x { future = v }) (spends_stay _ _ laws x.future y.future h);
        follows = λ x y z. spends_follow _ _ laws (all_append _) x.future y.future z.future;
      }

  pub once_future_laws : {can_poll : F → Type 0} → FutureLaws can_poll run
      → StreamLaws (λ x. IfSome x.future can_poll) (GivesFuture run) NoHint
  once_future_laws {can_poll} laws =
      laws_of (once_future_runs (future_runs_of laws)) (λ x y hint l e h. same_hint hint (0, None) l e tt)
      (λ x y. spends_on run can_poll laws.waits_on _ _ x.future y.future)

  spends_lower : (x y : Option F) (l : List (Answer A))
      → Spends run (handed Some) (AllByRecursion (λ a. a ≡ end)) x l y
      → Lowers l (option_len y ∷ []) (option_len x ∷ [])
  spends_lower None y l h = no_items_lower _ (λ x e. cc e) l _ _ h.0 (inl (rw h.1))
  spends_lower (Some f) (Some g) l h =
      rw h.3 (waiting_lowers (map _ h.0) (1 ∷ []) _ (handed_waiting Some h.0 h.1) (inl refl))
  spends_lower (Some f) None l h = Lowers-below l _ _ (inl (omega arith, refl))

  pub once_future_counting : Counting (GivesFuture run) once_future_ranks
  once_future_counting = number_counting (λ x y. spends_lower x.future y.future)

-- The future's poll results, and then ends of stream.
abbrev Handing : {F A : Type 0} → Runs (Poll A) F → Runs (Answer A) (Option F)
Handing run = Spends run (handed Some) (AllByRecursion (λ a. a ≡ end))

module _ {F A : Type 0} (same : Sameness A) {run : Runs (Poll A) F} {alike : F → F → Type 0}
    (s : SteadinessBy (SameItem same) run alike) where
  handing_same : (f g f' g' : Option F) (l m : List (Answer A)) → OptionBy alike f g → Handing run f l f'
      → Handing run g m g'
      → ComparableBy (SameAnswer same) (strip l) (strip m)
  handing_same None None f' g' l m e h k = answers_same None _ (ends_same same) l m h.0 k.0
  handing_same (Some f) (Some g) (Some f') g' l m e h k =
      let none = ap strip h.3 ∙ handed_waits Some h.0 h.1 in rw none tt
  handing_same (Some f) (Some g) None (Some g') l m e h k =
      let none = ap strip k.3 ∙ handed_waits Some k.0 k.1 in rw none (comparable_nil _ _)
  handing_same (Some f) (Some g) None None l m e h k =
      let one = ap strip h.joined ∙ handed_gives Some h.ins h.after h.value h.finishes.gives in
      let two = ap strip k.joined ∙ handed_gives Some k.ins k.after k.value k.finishes.gives in
      rw (one, two) (
        same_answer same h.value k.value
            (alike_agrees run f g (s f g e) h.ins k.ins h.value k.value h.finishes k.finishes),
        answers_same None _ (ends_same same) h.after k.after h.later k.later,
      )
  handing_same f g f' g' l m e h k = absurd e

pub once_future_steady : {F A : Type 0} (same : Sameness A) {run ample : Runs (Poll A) F} {needs_none : Type 0}
    {alike : F → F → Type 0}
    → FutureSteadyLawsBy same run ample needs_none alike
    → SteadyLawsBy same (GivesFuture run) (GivesFuture ample) needs_none (λ x y. OptionBy alike x.future y.future)
once_future_steady same s =
    record {
      laws = once_future_runs _ s.laws;
      steady = λ x y e l m x' y'. handing_same same s.steady x.future y.future x'.future y'.future l m e;
      found = λ n x y. spends_found _ _ (s.found n) x.future y.future;
    }

module _ {F A : Type 0} {run : Runs (Poll A) F} {is_calm : F → Type 0} (c : CalmLaws run is_calm) where
  handing_calm : (x y : Option F) (l : List (Answer A)) → IfSome x is_calm → Handing run x l y → NoPending l
      × IfSome y is_calm
  handing_calm None y l k h = rw h.1 (answers_no_pending None l h.0, tt)
  handing_calm (Some f) (Some g) l k h =
      rw h.3 (handed_no_pending Some h.0 (c.no_pending f g h.0 k h.2), c.calm_on f g h.0 k h.2)
  handing_calm (Some f) None l k h =
      let before = handed_no_pending Some h.ins (c.no_pending f h.finishes.last h.ins k h.finishes.came) in
      rw h.joined
      (no_pending_join (map _ h.ins) h.after before (answers_no_pending None h.after h.later), tt)

  pub once_future_calm : CalmLaws (GivesFuture run) (λ x. IfSome x.future is_calm)
  once_future_calm = calm_both (λ x y. handing_calm x.future y.future)

-- A `once_future` is armed if its future is.
pub once_future_arms : {F A : Type 0} {run : Runs (Poll A) F} {registers : F → Lasting → Type 0} → Arms run registers
    → Arms (GivesFuture run) (λ x fact. (f : F) × (x.future ≡ Some f) × registers f fact)
once_future_arms a =
    record { at = λ x y l e h. spends_arms a Some _ (answers_no_pending None) x.future y.future l e h }
