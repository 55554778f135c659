-- Laws of `try_zip`.
use Rattle.std.specs.Prelude.{false, ◌⊎◌, Result, Ok, ◌≡◌, ◌≤◌, ℕ, List, [], ◌∷◌, ◌++◌, length}
use Rattle.futures.specs.Task.{Lasting}
use Rattle.lite_base.specs.Armed.{Arms, EndsPending}
use Rattle.lite_base.specs.Laws.Armed.{gives_pends}
use Rattle.lite_future.specs.Uses.{◌∙◌, subst, sym, inl, inr, arith, Poll, Ready, Pending, Gives, Waiting, strip, CalmLaws, NoPending, FutureLaws}
use Rattle.lite_future.specs.Uses.{FutureRunLaws, WaitsOn, future_laws_of, future_runs_of, calm_both, Runs}
use Rattle.std.proofs.Common.{length-append}
use Rattle.lite_future.specs.Side.{CanAsk, IfAsked, IsAskedAnd, Stands}
use Rattle.lite_future.specs.TryZip.{Fails, TryZips, try_pair}
use Rattle.lite_future.specs.Together.{TakenWithPair}
use Rattle.lite_base.specs.Laws.Answers.{gives_once, waiting_gives, waiting_not_gives}
use Rattle.lite_future.specs.Laws.Side.{stands_asked, stands_calm, stands_follow}
use Rattle.lite_future.specs.Laws.Together.{taken_waiting, rows_long, together_arms, together_calm, together_follow}
use Rattle.lite_future.specs.Laws.Together.{together_on, together_once, together_rest, together_stay}
use Rattle.lite_future.specs.declared.side.Side.{Side}
use Rattle.lite_future.specs.declared.try_zip.TryZip.{TryZip}

module _ {F G A B C E : Type 0} {run : Runs (Poll (Result A E)) F} {run_other : Runs (Poll (Result B E)) G}
    {unasked : ℕ} where
  -- A failure may follow rows without an error.
  fails_later : FutureRunLaws run → FutureRunLaws run_other → {x y z : Side F A} {u v t : Side G B}
      {m : List (Poll (Result C E))} (p : Side F A) (q : Side G B) (i : List (Poll (Result A E)))
      (j : List (Poll (Result B E))) (l : List (Poll (Result C E))) → Waiting l
      → Stands Ok run x i p → Stands Ok run_other u j q → TakenWithPair l p y → TakenWithPair l q v
      → length i ≡ length l → length j ≡ length l
      → Fails run run_other unasked y v m z t → Fails run run_other unasked x u (l ++ m) z t
  fails_later laws laws_other {x} {y} {z} {u} {v} {t} {m} p q i j l w h k held other d e f =
      let same = sym (taken_waiting l p y w held) ∙ f.was_asked in
      let s = stands_asked _ run x f.before i (subst (Stands Ok run x i) same h) in
      let before = subst (Stands Ok run_other u j) (sym (taken_waiting l q v w other)) k in
      record {
        before = s.0;
        was_asked = s.1;
        ins = i ++ f.ins;
        error = f.error;
        failed = (
          waiting_gives i f.ins _ s.2 f.failed.0,
          length-append i f.ins ∙ rw (length-append l m) (omega (arith, d, f.failed.1)),
        );
        last = f.last;
        came = laws.follows s.0 f.before f.last i f.ins s.2 s.3 f.came;
        is_kept = f.is_kept;
        others = j ++ f.others;
        stands = stands_follow _ run_other laws_other u v t j f.others before f.stands;
        asked = rw (length-append j f.others, length-append l m) (omega (arith, e, f.asked));
        gives = waiting_gives l m _ w f.gives;
      }

module _ {F G A B E : Type 0} {run_first : Runs (Poll (Result A E)) F} {run_second : Runs (Poll (Result B E)) G} where
  try_zips_once : {x y : Side F A} {u v : Side G B} {l : List (Poll (Result (A × B) E))}
      → TryZips run_first run_second x u l y v → length (strip l) ≤ 1
  try_zips_once (inl h) = together_once h
  try_zips_once {l} (inr (inl h)) = gives_once l _ h.gives
  try_zips_once {l} (inr (inr h)) = gives_once l _ h.gives

  try_zips_on : {can_first : F → Type 0} {can_second : G → Type 0} → WaitsOn can_first run_first
      → WaitsOn can_second run_second → {x y : Side F A} {u v : Side G B} {l : List (Poll (Result (A × B) E))}
      → Waiting l → CanAsk can_first x × CanAsk can_second u → TryZips run_first run_second x u l y v
      → CanAsk can_first y × CanAsk can_second v
  try_zips_on on also w c (inl h) = together_on on also w c h
  try_zips_on on also {l} w c (inr (inl h)) = absurd (waiting_not_gives l _ w h.gives)
  try_zips_on on also {l} w c (inr (inr h)) = absurd (waiting_not_gives l _ w h.gives)

  module _ (laws_first : FutureRunLaws run_first) (laws_second : FutureRunLaws run_second) where
    try_zips_stay : {x y : Side F A} {u v : Side G B}
        → TryZips run_first run_second x u [] y v → (y ≡ x) × (v ≡ u)
    try_zips_stay (inl h) = together_stay laws_first laws_second h
    try_zips_stay (inr (inl h)) = absurd h.gives
    try_zips_stay (inr (inr h)) = absurd h.gives

    try_zips_follow : {x y z : Side F A} {u v t : Side G B} {l m : List (Poll (Result (A × B) E))} → Waiting l
        → TryZips run_first run_second x u l y v → TryZips run_first run_second y v m z t
        → TryZips run_first run_second x u (l ++ m) z t
    try_zips_follow {l} w (inr (inl h)) k = absurd (waiting_not_gives l _ w h.gives)
    try_zips_follow {l} w (inr (inr h)) k = absurd (waiting_not_gives l _ w h.gives)
    try_zips_follow w (inl h) (inl k) = inl (together_follow laws_first laws_second w h k)
    try_zips_follow {l} w (inl h) (inr (inl k)) =
        let long = rows_long try_pair h.i h.j l h.rows in
        inr (inl (fails_later laws_first laws_second h.p h.q h.i h.j l w h.first h.second h.taken.0 h.taken.1 long.0
        long.1 k))
    try_zips_follow {l} w (inl h) (inr (inr k)) =
        let long = rows_long try_pair h.i h.j l h.rows in
        inr (inr (fails_later laws_second laws_first h.q h.p h.j h.i l w h.second h.first h.taken.1 h.taken.0 long.1
        long.0 k))

    try_zips_runs : FutureRunLaws
        (λ (x : TryZip F A G B) (l : List (Poll (Result (A × B) E)))
        (y : TryZip F A G B). TryZips run_first run_second x.first x.second l y.first y.second)
    try_zips_runs =
        record {
          rests = λ x. inl (together_rest laws_first laws_second x.first x.second);
          stays = λ x y h. let e = try_zips_stay h in
              λ i. record { first = e.0 i; second = e.1 i };
          follows = λ x y z l m. try_zips_follow;
          once = λ x y l. try_zips_once;
        }

  pub try_zips_laws : {can_first : F → Type 0} {can_second : G → Type 0} → FutureLaws can_first run_first
      → FutureLaws can_second run_second
      → FutureLaws (λ (x : TryZip F A G B). CanAsk can_first x.first × CanAsk can_second x.second)
      (λ x l y. TryZips run_first run_second x.first x.second l y.first y.second)
  try_zips_laws one two =
      future_laws_of (try_zips_runs (future_runs_of one) (future_runs_of two))
      (λ x y l w c h. try_zips_on one.waits_on two.waits_on w c h)

-- If a list without a `Pending` has a value, a list of the same length that has a value has no `Pending` either.
gives_no_pending : {A B : Type 0} (i : List (Poll A)) (o : List (Poll B)) (x : A) (y : B) → NoPending i → Gives i x
    → length i ≡ length o → Gives o y → NoPending o
gives_no_pending [] (b ∷ o) x y p g e h = absurd g
gives_no_pending (Pending ∷ i) (b ∷ o) x y p g e h = absurd p
gives_no_pending (Ready a ∷ i) (Ready b ∷ o) x y p g e h = rw h.1 tt
gives_no_pending (Ready a ∷ i) (Pending ∷ b ∷ o) x y p g e h = absurd (let d = rw g.1 at e in omega (arith, d))
gives_no_pending i o x y p g e h = absurd h

-- `try_zip` is never pending if neither of the two futures ever is.
module _ {F G A B E : Type 0} {run_first : Runs (Poll (Result A E)) F} {run_second : Runs (Poll (Result B E)) G}
    {calm_first : F → Type 0} {calm_second : G → Type 0} (c : CalmLaws run_first calm_first)
    (d : CalmLaws run_second calm_second) where
  fails_calm : {C : Type 0} {unasked : ℕ} {x y : Side F A} {u v : Side G B} {l : List (Poll (Result C E))}
      → IfAsked x calm_first × IfAsked u calm_second → Fails run_first run_second unasked x u l y v
      → NoPending l × (IfAsked y calm_first × IfAsked v calm_second)
  fails_calm {u} {v} {l} k h =
      let calm : calm_first h.before = subst (λ p. IfAsked p calm_first) h.was_asked k.0 in (
        gives_no_pending h.ins l _ _
            (c.no_pending h.before h.last h.ins calm h.came) h.failed.0 h.failed.1 h.gives,
        (
          rw h.is_kept (c.calm_on h.before h.last h.ins calm h.came),
          (stands_calm _ run_second d u v h.others k.1 h.stands).1,
        ),
      )

module _ {F G A B E : Type 0} {run_first : Runs (Poll (Result A E)) F} {run_second : Runs (Poll (Result B E)) G}
    {calm_first : F → Type 0} {calm_second : G → Type 0} (c : CalmLaws run_first calm_first)
    (d : CalmLaws run_second calm_second) where
  calm_run : {x y : Side F A} {u v : Side G B} {l : List (Poll (Result (A × B) E))} → IfAsked x calm_first
      × IfAsked u calm_second → TryZips run_first run_second x u l y v
      → NoPending l × (IfAsked y calm_first × IfAsked v calm_second)
  calm_run k (inl h) = together_calm c d k h
  calm_run k (inr (inl h)) = fails_calm c d k h
  calm_run k (inr (inr h)) = let e = fails_calm d c (k.1, k.0) h in (e.0, (e.1.1, e.1.0))

  pub try_zips_calm : CalmLaws
      (λ (x : TryZip F A G B) l y. TryZips run_first run_second x.first x.second l y.first y.second)
      (λ x. IfAsked x.first calm_first × IfAsked x.second calm_second)
  try_zips_calm = calm_both (λ x y l. calm_run)

-- A `try_zip` is armed if both futures are.
module _ {F G A B E : Type 0} {run_first : Runs (Poll (Result A E)) F} {run_second : Runs (Poll (Result B E)) G}
    {registers : F → Lasting → Type 0} {registers' : G → Lasting → Type 0} (a : Arms run_first registers)
    (b : Arms run_second registers') where
  arms_run : {x y : Side F A} {u v : Side G B} {l : List (Poll (Result (A × B) E))} → EndsPending l
      → TryZips run_first run_second x u l y v
      → IsAskedAnd y (λ f. registers f Lasting.armed) ⊎ IsAskedAnd v (λ g. registers' g Lasting.armed)
  arms_run e (inl h) = together_arms a b e h
  arms_run {l} e (inr (inl h)) = absurd (gives_pends false l _ h.gives e)
  arms_run {l} e (inr (inr h)) = absurd (gives_pends false l _ h.gives e)

  pub try_zips_arms : Arms
      (λ (x : TryZip F A G B) l y. TryZips run_first run_second x.first x.second l y.first y.second)
      (λ x fact. IsAskedAnd x.first (λ f. registers f fact) ⊎ IsAskedAnd x.second (λ g. registers' g fact))
  try_zips_arms = record { at = λ x y l e h. arms_run e h }
