-- Laws of `zip` of futures. Two finished runs return values that are the same, if those of its futures do.
use Rattle.std.specs.Prelude.{◌⊎◌, ◌≡◌, List, [], ◌∷◌, ◌++◌, refl}
use Rattle.futures.specs.Task.{Lasting}
use Rattle.lite_base.specs.Armed.{Arms}
use Rattle.lite_future.specs.Uses.{Poll, Ready, Pending, Gives, Pairwise, SameItem, Sameness, CalmLaws, FutureLaws, FutureRunLaws}
use Rattle.lite_future.specs.Uses.{future_laws_of, future_runs_of, alike_agrees, by_value, calm_both, FutureSteadyLawsBy, Runs, ap, subst, sym}
use Rattle.lite_base.specs.Laws.Alike.{AgreesBy, pairs_same, up_to_gives}
use Rattle.lite_base.specs.Steady.{SteadinessBy}
use Rattle.lite_future.specs.Side.{CanAsk, SidesBy, IfAsked, IsAskedAnd, Stands}
use Rattle.lite_future.specs.Together.{PairRows, both}
use Rattle.lite_future.specs.Zip.{FutureZips}
use Rattle.lite_future.specs.Laws.Side.{AfterRow, stands_found, stands_last}
use Rattle.lite_future.specs.Laws.Together.{taken_up_to, together_arms, together_calm, together_follow, together_once}
use Rattle.lite_future.specs.Laws.Together.{together_on, together_rest, together_stay}
use Rattle.lite_future.specs.declared.side.Side.{Side}
use Rattle.lite_future.specs.declared.side.Side.TheVariants.{Asked, Gave, Taken}
use Rattle.lite_future.specs.declared.zip.Zip.{Zip}

-- Both futures have no value yet and return values that are the same, or both values are held and are the same.
abbrev SidesAgree : {F A : Type 0} → Sameness A → Runs (Poll A) F → Side F A → Side F A → Type 0
SidesAgree same run (Asked f) (Asked g) = AgreesBy (SameItem same) run f g
SidesAgree same run (Gave v) (Gave w) = SameItem same v w
SidesAgree same run x y = ⊥

module _ {F A : Type 0} (run : Runs (Poll A) F) where
  stands_agree : (same : Sameness A) (x x' : Side F A) (i j : List (Poll A)) (v w : A) → SidesAgree same run x x'
      → Stands (λ v. v) run x i (Gave v) → Stands (λ v. v) run x' j (Gave w)
      → SameItem same v w
  stands_agree same (Asked f) (Asked g) i j v w e h k = e h.ins k.ins v w h.finishes k.finishes
  stands_agree same (Gave a) (Gave b) i j v w e h k =
      let first : a ≡ v = (let d = h.1 in cc) in
      let second : b ≡ w = (let d = k.1 in cc) in
      subst (λ c. SameItem same c w) first (subst (SameItem same a) second e)
  stands_agree same x x' i j v w e h k = absurd e

module _ {A B : Type 0} where
  rows_last : (i : List (Poll A)) (j : List (Poll B)) (out : List (Poll (A × B))) (c : A × B)
      → PairRows (λ v w. (v, w)) i j out → Gives out c
      → (i' : List (Poll A)) × (j' : List (Poll B)) × (a : Poll A) × (b : Poll B) × (i ≡ i' ++ a ∷ [])
      × (j ≡ j' ++ b ∷ []) × (Ready c ≡ both (λ v w. (v, w)) a b)
  rows_last i j [] c r g = absurd g
  rows_last [] [] (d ∷ out) c r g = absurd (cc)
  rows_last (a ∷ i) (b ∷ j) (Pending ∷ out) c r g =
      let e = rows_last i j out c r.1 g in
      (a ∷ e.0, b ∷ e.1, e.2, e.3, ap (λ l. a ∷ l) e.4, ap (λ l. b ∷ l) e.5, e.6)
  rows_last (a ∷ []) (b ∷ []) (Ready d ∷ out) c r g = ([], [], a, b, refl, refl, (let e = r.0 in let f = g.0 in cc))
  rows_last (a ∷ a' ∷ i) (b ∷ []) (Ready d ∷ out) c r g = absurd r.1
  rows_last (a ∷ []) (b ∷ b' ∷ j) (Ready d ∷ out) c r g = absurd r.1
  rows_last (a ∷ a' ∷ i) (b ∷ b' ∷ j) (Ready d ∷ out) c r g =
      absurd (subst (λ l. PairRows (λ v w. (v, w)) (a' ∷ i) (b' ∷ j) l) g.1 r.1)
  rows_last i j (d ∷ out) c r g = absurd r

module _ {F G A B : Type 0} (run_first : Runs (Poll A) F) (run_second : Runs (Poll B) G) where
  -- A pair consists of the two values that are held.
  pairs : (p : Side F A) (q : Side G B) (a : Poll A) (b : Poll B) (c : A × B) → AfterRow (λ v. v) p a
      → AfterRow (λ w. w) q b → Ready c ≡ both (λ v w. (v, w)) a b
      → (p ≡ Gave c.0) × (q ≡ Gave c.1)
  pairs (Gave v) (Gave w) a b c d e h =
      let k : Ready c ≡ Ready (v, w) = rw (d, e) at h in
      let same : c ≡ (v, w) = (cc) in
      (ap (λ z. Gave z.0) (sym same), ap (λ z. Gave z.1) (sym same))
  pairs (Gave v) (Asked g) a b c d e h = absurd (let k = rw (d, e) at h in cc)
  pairs (Gave v) Taken a b c d e h = absurd e
  pairs (Asked f) q a b c d e h = absurd (let k = rw d at h in cc)
  pairs Taken q a b c d e h = absurd d

  -- If a pair is returned, both values are held.
  zipped : (x y : Side F A) (u t : Side G B) (l : List (Poll (A × B))) (c : A × B)
      (h : FutureZips run_first run_second x u l y t) → Gives l c
      → Stands (λ v. v) run_first x h.i (Gave c.0) × Stands (λ w. w) run_second u h.j (Gave c.1)
  zipped x y u t l c h g =
      let e = rows_last h.i h.j l c h.rows g in
      let there = pairs h.p h.q e.2 e.3 c (stands_last _ run_first x h.p e.0 e.2 (rw e.4 at h.first))
      (stands_last _ run_second u h.q e.1 e.3 (rw e.5 at h.second)) e.6 in
      (rw there.0 at h.first, rw there.1 at h.second)

  zips_agree : (same : Sameness A) (other : Sameness B) (x x' y y' : Side F A) (u u' t t' : Side G B)
      (l m : List (Poll (A × B))) (c d : A × B)
      → SidesAgree same run_first x x' → SidesAgree other run_second u u' → FutureZips run_first run_second x u l y t
      → FutureZips run_first run_second x' u' m y' t' → Gives l c → Gives m d
      → SameItem (Pairwise same other) c d
  zips_agree same other x x' y y' u u' t t' l m c d agree_first agree_second h k g f =
      let one = zipped x y u t l c h g in
      let two = zipped x' y' u' t' m d k f in
      pairs_same same other c d (stands_agree run_first same x x' h.i k.i c.0 d.0 agree_first one.0 two.0)
      (stands_agree run_second other u u' h.j k.j c.1 d.1 agree_second one.1 two.1)

-- The runs of `zip` over futures with the given runs.
abbrev Zipped : {F G A B : Type 0} → Runs (Poll A) F → Runs (Poll B) G → Runs (Poll (A × B)) (Zip F G A B)
Zipped run_first run_second x l y = FutureZips run_first run_second x.first x.second l y.first y.second

module _ {F G A B : Type 0} {run_first : Runs (Poll A) F} {run_second : Runs (Poll B) G} where
  zips_runs : FutureRunLaws run_first → FutureRunLaws run_second → FutureRunLaws (Zipped run_first run_second)
  zips_runs laws_first laws_second =
      record {
        rests = λ x. together_rest laws_first laws_second x.first x.second;
        stays = λ x y h. let e = together_stay laws_first laws_second h in
            λ i. record { first = e.0 i; second = e.1 i };
        follows = λ x y z l m. together_follow laws_first laws_second;
        once = λ x y l. together_once;
      }

  pub zips_laws : {can_first : F → Type 0} {can_second : G → Type 0} → FutureLaws can_first run_first
      → FutureLaws can_second run_second
      → FutureLaws (λ x. CanAsk can_first x.first × CanAsk can_second x.second) (Zipped run_first run_second)
  zips_laws one two =
      future_laws_of (zips_runs (future_runs_of one) (future_runs_of two))
      (λ x y l w c h. together_on one.waits_on two.waits_on w c h)

  pub zips_calm : {calm_first : F → Type 0} {calm_second : G → Type 0} → CalmLaws run_first calm_first
      → CalmLaws run_second calm_second
      → CalmLaws (Zipped run_first run_second) (λ x. IfAsked x.first calm_first × IfAsked x.second calm_second)
  zips_calm c d = calm_both (λ x y l. together_calm c d)

module _ {F A : Type 0} (same : Sameness A) (run : Runs (Poll A) F) (alike : F → F → Type 0)
    (s : SteadinessBy (SameItem same) run alike) where
  sides_agree : (x y : Side F A) → SidesBy same alike x y → SidesAgree same run x y
  sides_agree (Asked f) (Asked g) e = alike_agrees run f g (s f g e)
  sides_agree x y e = e

module _ {F G A B : Type 0} {run_first ample_first : Runs (Poll A) F} {run_second ample_second : Runs (Poll B) G}
    {none_first none_second : Type 0} {alike_first : F → F → Type 0} {alike_second : G → G → Type 0}
    (same : Sameness A) (other : Sameness B) (s : FutureSteadyLawsBy same run_first ample_first none_first alike_first)
    (t : FutureSteadyLawsBy other run_second ample_second none_second alike_second) where
  pub zips_steady : FutureSteadyLawsBy (Pairwise same other) (Zipped run_first run_second)
      (Zipped ample_first ample_second) (none_first × none_second)
      (λ (x y : Zip F G A B). SidesBy same alike_first x.first y.first × SidesBy other alike_second x.second y.second)
  zips_steady =
      record {
        laws = zips_runs s.laws t.laws;
        steady = λ x y e l m x' y' h k.
            by_value _ _ ((zips_runs s.laws t.laws).once x x' l h)
            ((zips_runs s.laws t.laws).once y y' m k)
            (λ v w f g.
            zips_agree ample_first ample_second same other x.first y.first x'.first y'.first x.second y.second x'.second
            y'.second l m v w
            (sides_agree same ample_first alike_first s.steady x.first y.first e.0)
            (sides_agree other ample_second alike_second t.steady x.second y.second e.1) h k
            (up_to_gives l v (taken_up_to l h.p x'.first h.taken.0) f)
            (up_to_gives m w (taken_up_to m k.p y'.first k.taken.0) g));
        found = λ n x y l h.
            record {
              i = h.i;
              j = h.j;
              p = h.p;
              q = h.q;
              first = stands_found _ (s.found n.0) x.first h.p h.i h.first;
              second = stands_found _ (t.found n.1) x.second h.q h.j h.second;
              rows = h.rows;
              taken = h.taken;
            };
      }

-- A `zip` is armed if both futures are.
pub zips_arms : {F G A B : Type 0} {run_first : Runs (Poll A) F} {run_second : Runs (Poll B) G}
    {registers : F → Lasting → Type 0} {registers' : G → Lasting → Type 0} → Arms run_first registers
    → Arms run_second registers'
    → Arms (Zipped run_first run_second)
    (λ x fact. IsAskedAnd x.first (λ f. registers f fact) ⊎ IsAskedAnd x.second (λ g. registers' g fact))
zips_arms a b = record { at = λ x y l e h. together_arms a b e h }
