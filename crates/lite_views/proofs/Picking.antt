-- The values of `or`, `race`, `zip`, `try_zip` and `poll_fn`, which share their first lemmas; and that `pending` has none.
use Rattle.lite_future.specs.declared.pending.Pending.{Pending as PendingFuture}
use Rattle.lite_future.specs.declared.poll_fn.PollFn.{PollFn}
use Rattle.lite_future.specs.Zip.{FutureZips}
use Rattle.lite_future.specs.declared.zip.Zip.{Zip}
use Rattle.std.specs.Prelude.{◌≡◌, ◌+◌, ◌⊎◌, ⊤, List, [], ◌∷◌, ◌++◌, map, refl, Bool, true, Result, Ok, Err}
use Rattle.lite_views.specs.Uses.{length, inl, inr, ap, sym, subst, arith, AllByRecursion, Stream, Poll, Ready, Pending, Gives, Waiting, Finishes}
use Rattle.lite_views.specs.Uses.{Runs, is_first, TryZips, Called, Context, MutBor, Poller, rows_by, TryZip, CallAnswers, FoldsTo}
use Rattle.lite_base.specs.Pollers.{Polled}
use Rattle.lite_future.specs.Side.{Stands}
use Rattle.lite_future.specs.Or.{FutureOrs}
use Rattle.lite_future.specs.Picks.{PickRow, PickRows, Picks}
use Rattle.lite_future.specs.Race.{FutureRacesOn}
use Rattle.lite_future.specs.Together.{PairRows}
use Rattle.lite_future.specs.TryZip.{try_pair}
use Rattle.lite_base.specs.Laws.Answers.{waiting_not_gives}
use Rattle.lite_future.specs.declared.side.Side.{Side}
use Rattle.lite_future.specs.declared.side.Side.TheVariants.{Asked, Gave, Taken}
use Rattle.lite_future.specs.declared.or.Or.{Or}
use Rattle.lite_future.specs.declared.race.Race.{Race}
use Rattle.lite_views.specs.Answering.{AtOnce, HasOk, HasValueAs, NeverReady, PickedValue, ReturnedBy}
use Rattle.lite_views.specs.Futures.{TryZipRuns, ZipRuns}
use Rattle.lite_views.specs.Views.{HasValue, ValueHolds, ValueIs}
use Rattle.lite_views.proofs.Views.{value_holds}

-- If both lists are done when the rows are, the value of the rows is the last of one of the lists.
module _ {A : Type 0} (v : A) where
  abbrev OfEither : List (Poll A) → List (Poll A) → List (Poll A) → Type 0
  OfEither i j l = (l ≡ [] → (i ≡ []) × (j ≡ [])) × (Gives l v → Gives i v ⊎ Gives j v)

  of_row : (i j : List (Poll A)) (c : Poll A) (i' j' l : List (Poll A)) → PickRow i j c i' j' → OfEither i' j' l
      → Gives (c ∷ l) v → Gives i v ⊎ Gives j v
  of_row [] j c i' j' l r e g = absurd r
  of_row (Ready x ∷ i) j Pending i' j' l r e g = absurd (let k = r.0 in cc)
  of_row (Ready x ∷ i) j (Ready y) i' j' l r e g =
      let done = e.0 g.1 in
      inl (let same = r.0 in let value = g.0 in cc, let left = r.1 in let empty = done.0 in cc)
  of_row (Pending ∷ i) [] c i' j' l r e g = absurd r
  of_row (Pending ∷ i) (Ready x ∷ j) Pending i' j' l r e g = absurd (let k = r.0 in cc)
  of_row (Pending ∷ i) (Ready x ∷ j) (Ready y) i' j' l r e g =
      let done = e.0 g.1 in
      inr (let same = r.0 in let value = g.0 in cc, let left = r.2 in let empty = done.1 in cc)
  of_row (Pending ∷ i) (Pending ∷ j) (Ready y) i' j' l r e g = absurd (let k = r.0 in cc)
  of_row (Pending ∷ i) (Pending ∷ j) Pending i' j' l r e g = rw (← r.1, ← r.2) (e.1 g)

  other_way : {P Q : Type 0} → P ⊎ Q → Q ⊎ P
  other_way (inl p) = inr p
  other_way (inr q) = inl q

  of_either : (o : List Bool) (i j l : List (Poll A)) → PickRows o i j l → OfEither i j l
  of_either =
      rows_by PickRow OfEither (λ e. (refl, refl), λ g. absurd g)
      (λ i j c i' j' l r e. (λ n. absurd (let k : c ∷ l ≡ [] = n in cc), of_row i j c i' j' l r e))
      (λ i j c i' j' l r e. (
        λ n. absurd (let k : c ∷ l ≡ [] = n in cc),
        λ g. other_way (of_row j i c j' i' l r (λ n. let d = e.0 n in (d.1, d.0), λ k. other_way (e.1 k)) g),
      ))

-- A future that returns a value at its first poll has that value.
module _ {F A : Type 0} (run : Runs (Poll A) F) (f : F) where
  pub once_value : (v : A) → AtOnce run f v → HasValue run f v
  unfolding AtOnce HasValue
  once_value v once [] w d = absurd d.gives
  once_value v once (Pending ∷ l) w d = absurd (let k = once Pending l d.last d.came in cc)
  once_value v once (Ready y ∷ l) w d = let k = once (Ready y) l d.last d.came in let e = d.gives.0 in cc

  never_finishes : (ins : List (Poll A)) (w : A) → NeverReady run f → Finishes run f ins w → ⊥
  unfolding NeverReady
  never_finishes ins w never d = waiting_not_gives ins w (never ins d.last d.came) d.gives

  pub has_value : (v : A) → HasValue run f v → ValueIs run f v
  unfolding HasValue
  has_value v has = (refl, value_holds run f (λ w. w ≡ v) has)

-- `pending` never returns a value.
pub pending_never : {A : Type 0} (x : PendingFuture A)
    → NeverReady (λ (y : PendingFuture A) (l : List (Poll A)) z. Waiting l × (z ≡ y)) x
unfolding NeverReady
pending_never x l y h = h.0

-- Two futures of which each poll polls one first.
module _ {F G A : Type 0} (run : Runs (Poll A) F) (run' : Runs (Poll A) G) (P : A → Type 0) (f : F) (g : G) where
  -- What holds of the value of each holds of the one that is picked.
  picks_value : (order : List Bool) (out : List (Poll A)) (f' : F) (g' : G) (u : A)
      → ((ins : List (Poll A)) → Finishes run f ins u → P u) → ((ins : List (Poll A)) → Finishes run' g ins u → P u)
      → Picks run run' order f g out f' g' → Gives out u → P u
  picks_value order out f' g' u first second p gives =
      by_either ((of_either u order p.i p.j out p.rows).1 gives)
    where
      by_either : Gives p.i u ⊎ Gives p.j u → P u
      by_either (inl k) = first p.i (record { gives = k; last = f'; came = p.first })
      by_either (inr k) = second p.j (record { gives = k; last = g'; came = p.second })

-- A future x whose value is that of the future f or that of the future g.
module _ {F G X A : Type 0} (run : Runs (Poll A) F) (run' : Runs (Poll A) G) (f : F) (g : G) (whole : Runs (Poll A) X)
    (x : X)
    (holds : (P : A → Type 0) → ((ins : List (Poll A)) (u : A) → Finishes run f ins u → P u)
    → ((ins : List (Poll A)) (u : A) → Finishes run' g ins u → P u)
    → (ins : List (Poll A)) (u : A) → Finishes whole x ins u → P u) where
  has_as : (v : A) → ((ins : List (Poll A)) (u : A) → Finishes whole x ins u → u ≡ v) → HasValueAs whole x v
  unfolding HasValue
  has_as v has = (has_value whole x v has, has)

  picked : PickedValue run f run' g whole x
  unfolding HasValue
  picked = (
    λ v never has. has_as v (holds (λ u. u ≡ v) (λ l u d. absurd (never_finishes run f l u never d)) has),
    λ v never has. has_as v (holds (λ u. u ≡ v) has (λ l u d. absurd (never_finishes run' g l u never d))),
    λ v has has'. has_as v (holds (λ u. u ≡ v) has has'),
    λ v w has has'. value_holds whole x (λ u. (u ≡ v) ⊎ (u ≡ w))
        (holds (λ u. (u ≡ v) ⊎ (u ≡ w)) (λ l u d. inl (has l u d)) (λ l u d. inr (has' l u d))),
  )

-- The value of `or`.
module _ {F G A : Type 0} (run : Runs (Poll A) F) (run' : Runs (Poll A) G) (x : Or F G) where
  or_holds : (P : A → Type 0) → ((ins : List (Poll A)) (u : A) → Finishes run x.future1 ins u → P u)
      → ((ins : List (Poll A)) (u : A) → Finishes run' x.future2 ins u → P u)
      → (ins : List (Poll A)) (u : A) → Finishes (FutureOrs run run') x ins u → P u
  or_holds P first second ins u d =
      picks_value run run' P x.future1 x.future2 (map (λ _. true) ins) ins d.last.future1 d.last.future2 u
      (λ l. first l u) (λ l. second l u) d.came d.gives

  pub or_picked : PickedValue run x.future1 run' x.future2 (FutureOrs run run') x
  or_picked = picked run run' x.future1 x.future2 (FutureOrs run run') x or_holds

  once_row : (i j : List (Poll A)) (c : Poll A) (i' j' : List (Poll A)) (f' : F) (v : A) → PickRow i j c i' j'
      → run x.future1 i f' → AtOnce run x.future1 v → c ≡ Ready v
  unfolding AtOnce
  once_row [] j c i' j' f' v r came once = absurd r
  once_row (Pending ∷ i) j c i' j' f' v r came once = absurd (let k = once Pending i f' came in cc)
  once_row (Ready b ∷ i) j c i' j' f' v r came once = let k = once (Ready b) i f' came in let e = r.0 in cc

  or_once : (v : A) → AtOnce run x.future1 v → AtOnce (FutureOrs run run') x v
  unfolding AtOnce
  or_once v once a l y h =
      once_row h.i h.j a h.rows.0 h.rows.1 y.future1 v h.rows.2 h.first once

  pub or_at_once : (v : A) → AtOnce run x.future1 v
      → ValueIs (FutureOrs run run') x v × AtOnce (FutureOrs run run') x v
  or_at_once v once =
      let all = or_once v once in
      (has_value (FutureOrs run run') x v (once_value (FutureOrs run run') x v all), all)

-- The value of `race`.
module _ {F G R A : Type 0} (run : Runs (Poll A) F) (run' : Runs (Poll A) G) (stream : R → Stream)
    (x : Race F G R) where
  race_holds : (P : A → Type 0) → ((ins : List (Poll A)) (u : A) → Finishes run x.future1 ins u → P u)
      → ((ins : List (Poll A)) (u : A) → Finishes run' x.future2 ins u → P u)
      → (ins : List (Poll A)) (u : A) → Finishes (FutureRacesOn run run' stream) x ins u → P u
  race_holds P first second [] u d = absurd d.gives
  race_holds P first second (c ∷ l) u d =
      picks_value run run' P x.future1 x.future2 (map is_first d.came.words) (c ∷ l) d.last.future1 d.last.future2 u
      (λ l. first l u) (λ l. second l u) d.came.picks d.gives

  pub race_picked : PickedValue run x.future1 run' x.future2 (FutureRacesOn run run' stream) x
  race_picked = picked run run' x.future1 x.future2 (FutureRacesOn run run' stream) x race_holds

-- Each value in the list is a.
abbrev AllReady : {R : Type 0} → R → List (Poll R) → Type 0
AllReady a [] = ⊤
AllReady a (Pending ∷ l) = AllReady a l
AllReady a (Ready r ∷ l) = (r ≡ a) × AllReady a l

waiting_ready : {R : Type 0} (a : R) (l : List (Poll R)) → Waiting l → AllReady a l
waiting_ready a [] w = tt
waiting_ready a (Pending ∷ l) w = waiting_ready a l w
waiting_ready a (Ready r ∷ l) w = absurd w

later_ready : {R : Type 0} (a : R) (l : List (Poll R)) → AllByRecursion (λ b. b ≡ Ready a) l → AllReady a l
later_ready a [] e = tt
later_ready a (Pending ∷ l) e = absurd (let k = e.0 in cc)
later_ready a (Ready r ∷ l) e = (let k = e.0 in cc, later_ready a l e.1)

given_ready : {R : Type 0} (a : R) (l m : List (Poll R)) → Gives l a → AllReady a m → AllReady a (l ++ m)
given_ready a [] m g e = absurd g
given_ready a (Pending ∷ l) m g e = given_ready a l m g e
given_ready a (Ready r ∷ l) m g e = (g.0, rw g.1 e)

same_given : {R : Type 0} (l : List (Poll R)) (a b : R) → Gives l a → Gives l b → a ≡ b
same_given [] a b g h = absurd g
same_given (Pending ∷ l) a b g h = same_given l a b g h
same_given (Ready r ∷ l) a b g h = let k = g.0 in let e = h.0 in cc

pair_ready : {R T C : Type 0} (pair : R → T → C) (a : R) (b : T) (i : List (Poll R)) (j : List (Poll T))
    (out : List (Poll C)) (u : C) → PairRows pair i j out → AllReady a i → AllReady b j → Gives out u → u ≡ pair a b
pair_ready pair a b (Ready r ∷ i) (Ready t ∷ j) (Ready c ∷ out) u h p q g =
    let e = h.0 in let k = g.0 in let m = p.0 in let n = q.0 in cc
pair_ready pair a b (Ready r ∷ i) (Ready t ∷ j) (Pending ∷ out) u h p q g = absurd (let e = h.0 in cc)
pair_ready pair a b (Pending ∷ i) (Ready t ∷ j) (Ready c ∷ out) u h p q g = absurd (let e = h.0 in cc)
pair_ready pair a b (Pending ∷ i) (Pending ∷ j) (Ready c ∷ out) u h p q g = absurd (let e = h.0 in cc)
pair_ready pair a b (Ready r ∷ i) (Pending ∷ j) (Ready c ∷ out) u h p q g = absurd (let e = h.0 in cc)
pair_ready pair a b (Pending ∷ i) (Ready t ∷ j) (Pending ∷ out) u h p q g = pair_ready pair a b i j out u h.1 p q.1 g
pair_ready pair a b (Pending ∷ i) (Pending ∷ j) (Pending ∷ out) u h p q g = pair_ready pair a b i j out u h.1 p q g
pair_ready pair a b (Ready r ∷ i) (Pending ∷ j) (Pending ∷ out) u h p q g = pair_ready pair a b i j out u h.1 p.1 q g
pair_ready pair a b i j [] u h p q g = absurd g
pair_ready pair a b [] [] (c ∷ out) u h p q g = absurd (let k : c ∷ out ≡ [] = h in cc)
pair_ready pair a b [] (t ∷ j) (c ∷ out) u h p q g = absurd h
pair_ready pair a b (r ∷ i) [] (c ∷ out) u h p q g = absurd h

-- The results that a future with the value a has in the rows.
module _ {F A R : Type 0} (answer : A → R) (run : Runs (Poll R) F) (f : F) (a : R) where
  stands_ready : HasValue run f a → (i : List (Poll R)) (p : Side F A) → Stands answer run (Asked f) i p → AllReady a i
  unfolding HasValue
  stands_ready has i (Asked g) h = waiting_ready a i h.0
  stands_ready has i (Gave v) h =
      let same = has h.ins (answer v) h.finishes in
      rw (h.joined, ← same)
      (given_ready (answer v) h.ins h.later h.finishes.gives (later_ready (answer v) h.later h.repeats))
  stands_ready has i Taken h = absurd h

module _ {F A E : Type 0} (run : Runs (Poll (Result A E)) F) (f : F) (a : Result A E) where
  -- A value that came at once is not an error if there is a row.
  stands_ok : AtOnce run f a → (i : List (Poll (Result A E))) (p : Side F A) → Stands Ok run (Asked f) i p
      → (i ≡ [] → ⊥) → (v : A) × (a ≡ Ok v)
  unfolding AtOnce HasValue
  stands_ok once [] p h some = absurd (some refl)
  stands_ok once (Pending ∷ i) (Asked g) h some = absurd (let k = once Pending i g h.1 in cc)
  stands_ok once (Ready r ∷ i) (Asked g) h some = absurd h.0
  stands_ok once (c ∷ i) (Gave v) h some = (v, sym (once_value run f a once h.ins (Ok v) h.finishes))
  stands_ok once (c ∷ i) Taken h some = absurd h

same_asked : {F A : Type 0} (p : Side F A) (f g : F) → p ≡ Asked f → p ≡ Asked g → f ≡ g
same_asked p f g e d = cc

-- The value of `zip`.
module _ {F G A B : Type 0} (run : Runs (Poll A) F) (run' : Runs (Poll B) G) (x : Zip F G A B) (f : F) (g : G)
    (asked : x.first ≡ Asked f) (asked' : x.second ≡ Asked g) where
  zip_runs_value : (a : A) (b : B) → HasValue run f a → HasValue run' g b
      → (p y : Side F A) (q v : Side G B) (ins : List (Poll (A × B))) (u : A × B) → p ≡ Asked f → q ≡ Asked g
      → Gives ins u → FutureZips run run' p q ins y v → u ≡ (a, b)
  zip_runs_value a b has has' p y q v ins u e d gives h =
      pair_ready (λ r t. (r, t)) a b h.i h.j ins u h.rows
      (stands_ready (λ r. r) run f a has h.i h.p (subst (λ z. Stands (λ r. r) run z h.i h.p) e h.first))
      (stands_ready (λ t. t) run' g b has' h.j h.q (subst (λ z. Stands (λ t. t) run' z h.j h.q) d h.second)) gives

  pub zip_both : (a : A) (b : B) → HasValue run f a → HasValue run' g b
      → ValueIs (ZipRuns run run') x (a, b) × HasValue (ZipRuns run run') x (a, b)
  unfolding HasValue
  zip_both a b has has' =
      let all : HasValue (ZipRuns run run') x (a, b) = λ ins u d.
      zip_runs_value a b has has' x.first d.last.first x.second d.last.second ins u asked asked' d.gives d.came in
      (has_value (ZipRuns run run') x (a, b) all, all)

-- The value of `try_zip`.
module _ {F G A B E : Type 0} (run : Runs (Poll (Result A E)) F) (run' : Runs (Poll (Result B E)) G)
    (x : TryZip F A G B) (f : F) (g : G) (asked : x.first ≡ Asked f) (asked' : x.second ≡ Asked g) where
  -- The first has no error if the second has one in some row.
  abbrev IsFirst : Result A E → Type 0
  IsFirst a =
      (i : List (Poll (Result A E))) (p : Side F A) → Stands Ok run (Asked f) i p → (i ≡ [] → ⊥)
      → (v : A) × (a ≡ Ok v)

  some_rows : {C D : Type 0} (others : List C) (out : List (Poll D)) (u : D) → length others + 0 ≡ length out
      → Gives out u → others ≡ [] → ⊥
  some_rows others [] u e g n = g
  some_rows others (c ∷ out) u e g n = let k = rw n at e in omega (arith, k)

  try_runs_value : (a : Result A E) (b : Result B E) → HasValue run f a → HasValue run' g b → IsFirst a
      → (p y : Side F A) (q v : Side G B) (ins : List (Poll (Result (A × B) E))) (u : Result (A × B) E)
      → p ≡ Asked f → q ≡ Asked g
      → Gives ins u → TryZips run run' p q ins y v → u ≡ try_pair a b
  unfolding HasValue
  try_runs_value a b has has' is_first p y q v ins u e d gives (inl h) =
      pair_ready try_pair a b h.i h.j ins u h.rows
      (stands_ready Ok run f a has h.i h.p (subst (λ z. Stands Ok run z h.i h.p) e h.first))
      (stands_ready Ok run' g b has' h.j h.q (subst (λ z. Stands Ok run' z h.j h.q) d h.second)) gives
  try_runs_value a b has has' is_first p y q v ins u e d gives (inr (inl h)) =
      let here = same_asked p f h.before e h.was_asked in
      let is : Err h.error ≡ a = has h.ins (Err h.error)
      (record { gives = h.failed.0; last = h.last; came = rw here h.came }) in
      rw (← is) (same_given ins u (Err h.error) gives h.gives)
  try_runs_value a b has has' is_first p y q v ins u e d gives (inr (inr h)) =
      let here = same_asked q g h.before d h.was_asked in
      let is : Err h.error ≡ b = has' h.ins (Err h.error)
      (record { gives = h.failed.0; last = h.last; came = rw here h.came }) in
      let ok = is_first h.others y (subst (λ z. Stands Ok run z h.others y) e h.stands)
      (some_rows h.others ins (Err h.error) h.asked h.gives) in
      rw (← is, ok.1) (same_given ins u (Err h.error) gives h.gives)

  try_value : (a : Result A E) (b : Result B E) → HasValue run f a → HasValue run' g b → IsFirst a
      → ValueIs (TryZipRuns run run') x (try_pair a b) × HasValue (TryZipRuns run run') x (try_pair a b)
  unfolding HasValue
  try_value a b has has' is_first =
      let all : HasValue (TryZipRuns run run') x (try_pair a b) = λ ins u d.
      try_runs_value a b has has' is_first x.first d.last.first x.second d.last.second ins u asked asked' d.gives
      d.came in
      (has_value (TryZipRuns run run') x (try_pair a b) all, all)

  -- The first returns its value at its first poll.
  pub try_at_once : (a : Result A E) (b : Result B E) → AtOnce run f a → HasValue run' g b
      → ValueIs (TryZipRuns run run') x (try_pair a b) × HasValue (TryZipRuns run run') x (try_pair a b)
  try_at_once a b once has' = try_value a b (once_value run f a once) has' (stands_ok run f a once)

  -- The first does not fail.
  pub try_after : (a : A) (b : Result B E) → HasValue run f (Ok a) → HasValue run' g b
      → ValueIs (TryZipRuns run run') x (try_pair (Ok a) b) × HasValue (TryZipRuns run run') x (try_pair (Ok a) b)
  try_after a b has has' = try_value (Ok a) b has has' (λ i p h some. (a, refl))

  -- Neither fails.
  pub try_both : (a : A) (b : B) → HasValue run f (Ok a) → HasValue run' g (Ok b)
      → ValueIs (TryZipRuns run run') x (Ok (a, b)) × HasValue (TryZipRuns run run') x (Ok (a, b))
  try_both a b = try_after a (Ok b)

  -- Only the second fails.
  pub try_second_fails : (e : E) → HasOk run f → HasValue run' g (Err e)
      → ValueIs (TryZipRuns run run') x (Err e) × HasValue (TryZipRuns run run') x (Err e)
  try_second_fails e has = try_after has.0 (Err e) has.1

  -- The second does not fail.
  no_second : (b : B) → HasValue run' g (Ok b) → (e : E) (l : List (Poll (Result B E))) (q : Side G B) (before last : G)
      → q ≡ Asked g → q ≡ Asked before → Gives l (Err e) → run' before l last → ⊥
  unfolding HasValue
  no_second b has e l q before last d was gives came =
      let here = same_asked q g before d was in
      let k = has l (Err e) (record { gives = gives; last = last; came = rw here came }) in cc

  try_runs_fail : (e : E) (b : B) → HasValue run f (Err e) → HasValue run' g (Ok b)
      → (p y : Side F A) (q v : Side G B) (ins : List (Poll (Result (A × B) E))) (u : Result (A × B) E)
      → p ≡ Asked f → q ≡ Asked g → Gives ins u → TryZips run run' p q ins y v → u ≡ Err e
  unfolding HasValue
  try_runs_fail e b has has' p y q v ins u d d' gives (inl h) =
      pair_ready try_pair (Err e) (Ok b) h.i h.j ins u h.rows
      (stands_ready Ok run f (Err e) has h.i h.p (subst (λ z. Stands Ok run z h.i h.p) d h.first))
      (stands_ready Ok run' g (Ok b) has' h.j h.q (subst (λ z. Stands Ok run' z h.j h.q) d' h.second)) gives
  try_runs_fail e b has has' p y q v ins u d d' gives (inr (inl h)) =
      let here = same_asked p f h.before d h.was_asked in
      let is : Err h.error ≡ Err e = has h.ins (Err h.error)
      (record { gives = h.failed.0; last = h.last; came = rw here h.came }) in
      let same = same_given ins u (Err h.error) gives h.gives in cc
  try_runs_fail e b has has' p y q v ins u d d' gives (inr (inr h)) =
      absurd (no_second b has' h.error h.ins q h.before h.last d' h.was_asked h.failed.0 h.came)

  -- Only the first fails.
  pub try_first_fails : (e : E) → HasValue run f (Err e) → HasOk run' g
      → ValueIs (TryZipRuns run run') x (Err e) × HasValue (TryZipRuns run run') x (Err e)
  unfolding HasValue
  try_first_fails e has has' =
      let all : HasValue (TryZipRuns run run') x (Err e) = λ ins u d.
      try_runs_fail e has'.0 has has'.1 x.first d.last.first x.second d.last.second ins u asked asked' d.gives d.came in
      (has_value (TryZipRuns run run') x (Err e) all, all)

  -- The first fails at its first poll.
  same_error : (r : Result A E) (e d : E) → r ≡ Err d → Ready r ≡ Ready (Err e) → d ≡ e
  same_error r e d h k = cc

  fails_row : (e : E) → AtOnce run f (Err e) → (i : List (Poll (Result A E))) (p : Side F A)
      → Stands Ok run (Asked f) i p → (i ≡ [] → ⊥) → ⊥
  fails_row e once i p h some = let k = stands_ok run f (Err e) once i p h some in absurd (let d = k.1 in cc)

  some_pairs : (i : List (Poll (Result A E))) (j : List (Poll (Result B E))) (c : Poll (Result (A × B) E))
      (out : List (Poll (Result (A × B) E))) → PairRows try_pair i j (c ∷ out) → i ≡ [] → ⊥
  some_pairs [] [] c out h n = absurd (let k : c ∷ out ≡ [] = h in cc)
  some_pairs [] (b ∷ j) c out h n = h
  some_pairs (a ∷ i) j c out h n = absurd (let k : a ∷ i ≡ [] = n in cc)

  some_asked : {C D : Type 0} (others : List C) (c : D) (out : List D) → length others + 0 ≡ length (c ∷ out)
      → others ≡ [] → ⊥
  some_asked others c out e n = let k = rw n at e in omega (arith, k)

  fails_first : (e : E) → AtOnce run f (Err e) → (p y : Side F A) (q v : Side G B) (c : Poll (Result (A × B) E))
      (out : List (Poll (Result (A × B) E))) → p ≡ Asked f → TryZips run run' p q (c ∷ out) y v → c ≡ Ready (Err e)
  unfolding AtOnce
  fails_first e once p y q v c out d (inl h) =
      absurd (fails_row e once h.i h.p (subst (λ z. Stands Ok run z h.i h.p) d h.first)
      (some_pairs h.i h.j c out h.rows))
  fails_first e once p y q v c out d (inr (inr h)) =
      absurd (fails_row e once h.others y (subst (λ z. Stands Ok run z h.others y) d h.stands)
      (some_asked h.others c out h.asked))
  fails_first e once p y q v c out d (inr (inl h)) =
      let here = same_asked p f h.before d h.was_asked in
      by_answer c out h.ins h.gives h.failed.0 h.failed.1 (rw here h.came)
    where
      by_answer : (c : Poll (Result (A × B) E)) (out : List (Poll (Result (A × B) E))) (ins : List (Poll (Result A E)))
          → Gives (c ∷ out) (Err h.error) → Gives ins (Err h.error) → length ins ≡ length (c ∷ out)
          → run f ins h.last → c ≡ Ready (Err e)
      by_answer c out [] g k l came = absurd k
      by_answer c out (Pending ∷ ins) g k l came = absurd (let m = once Pending ins h.last came in cc)
      by_answer Pending [] (Ready r ∷ ins) g k l came = absurd g
      by_answer Pending (b ∷ out) (Ready r ∷ ins) g k l came = let none = rw k.1 at l in absurd (omega (arith, none))
      by_answer (Ready s) out (Ready r ∷ ins) g k l came =
          rw (← same_error r e h.error k.0 (once (Ready r) ins h.last came)) (ap Ready g.0)

  pub try_fails_at_once : (e : E) → AtOnce run f (Err e)
      → ValueIs (TryZipRuns run run') x (Err e) × AtOnce (TryZipRuns run run') x (Err e)
  unfolding AtOnce
  try_fails_at_once e once =
      let all : AtOnce (TryZipRuns run run') x (Err e) = λ a l y h.
      fails_first e once x.first y.first x.second y.second a l asked h in
      (has_value (TryZipRuns run run') x (Err e) (once_value (TryZipRuns run run') x (Err e) all), all)

-- `poll_fn` of a closure that returns the value at once
pub polled_at_once : {F A : Type 0} (g : Poller F A) (x : PollFn F) (v : A)
    → ((cx left : MutBor Context) (a : Poll A) (q : F) → Called g x.f (cx, tt) (a, (left, tt)) q → a ≡ Ready v)
    → HasValueAs (λ (p : PollFn F) l q. Polled g p.f l q.f) x v × AtOnce (λ (p : PollFn F) l q. Polled g p.f l q.f) x v
unfolding AtOnce
polled_at_once {F} g x v acts =
    let once : AtOnce (λ (p : PollFn F) l q. Polled g p.f l q.f) x v = λ a ins q h.
    acts h.1.1.0 h.1.1.1 a h.1.0 h.1.1.2 in
    let all = once_value (λ (p : PollFn F) l q. Polled g p.f l q.f) x v once in
    ((has_value (λ (p : PollFn F) l q. Polled g p.f l q.f) x v all, all), once)

pub polled_returned : {F A E : Type 0} (g : Poller F A) (x : PollFn F)
    → ValueHolds E (λ (p : PollFn F) l q. Polled g p.f l q.f) x (ReturnedBy g)
polled_returned {F} {A} g x =
    value_holds (λ (p : PollFn F) l q. Polled g p.f l q.f) x (ReturnedBy g)
    (λ ins v f. last_call ins v x.f f.last.f f.gives f.came.1)
  where
    last_call : (l : List (Poll A)) (v : A) (p q : F) → Gives l v → FoldsTo (CallAnswers g) p l q → ReturnedBy g v
    last_call [] v p q h c = absurd h
    last_call (Pending ∷ l) v p q h c = last_call l v c.0 q h c.2
    last_call (Ready w ∷ l) v p q h c = (p, c.0, c.1.0, c.1.1, rw (← h.0) c.1.2)
