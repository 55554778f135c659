-- Laws of two futures that are polled in each row.
use Rattle.std.specs.Prelude.{Bool, true, false, ◌⊎◌, ◌≡◌, ◌≤◌, List, [], ◌∷◌, ◌++◌, length, refl}
use Rattle.futures.specs.Task.{Lasting}
use Rattle.lite_base.specs.Armed.{Arms, EndsPending, pends_last}
use Rattle.lite_base.specs.Laws.Armed.{EitherPends}
use Rattle.lite_future.specs.Uses.{inl, inr, ◌∙◌, subst, sym, ap, arith, Poll, Ready, Pending, UpToValue, Waiting, strip, CalmLaws, NoPending, FutureRunLaws}
use Rattle.lite_future.specs.Uses.{WaitsOn, up_to_once, Runs}
use Rattle.lite_future.specs.Side.{CanAsk, IfAsked, IsAskedAnd, Stands}
use Rattle.lite_future.specs.Together.{TakesBoth, PairRows, TakenWithPair, Together, both}
use Rattle.lite_future.specs.Laws.Side.{AfterRow, stands_arms, stands_calm, stands_follow, stands_last, stands_rest, stands_ask, stands_stay}
use Rattle.lite_future.specs.declared.side.Side.{Side}
use Rattle.lite_future.specs.declared.side.Side.TheVariants.{Asked, Gave, Taken}

-- The result with its pair, if it is one, joined by the function.
abbrev pub joined_sides : {A B C : Type 0} → (A → B → C) → Poll (A × B) → Poll C
joined_sides join (Ready x) = Ready (join x.0 x.1)
joined_sides join Pending = Pending

pub joined_pair : {A B : Type 0} (r : Poll (A × B)) → joined_sides (λ v w. (v, w)) r ≡ r
joined_pair (Ready x) = refl
joined_pair Pending = refl

module _ {F A C : Type 0} where
  pub taken_waiting : (l : List (Poll C)) (p y : Side F A) → Waiting l → TakenWithPair l p y → y ≡ p
  taken_waiting [] p y w h = h
  taken_waiting (Pending ∷ l) p y w h = taken_waiting l p y w h
  taken_waiting (Ready c ∷ l) p y w h = absurd w

  taken_after : (l m : List (Poll C)) (p y : Side F A) → Waiting l → TakenWithPair m p y → TakenWithPair (l ++ m) p y
  taken_after [] m p y w h = h
  taken_after (Pending ∷ l) m p y w h = taken_after l m p y w h
  taken_after (Ready c ∷ l) m p y w h = absurd w

  pub taken_up_to : (l : List (Poll C)) (p y : Side F A) → TakenWithPair l p y → UpToValue l
  taken_up_to [] p y h = tt
  taken_up_to (Pending ∷ l) p y h = taken_up_to l p y h
  taken_up_to (Ready c ∷ l) p y h = h.0

  taken_calm : (is_calm : F → Type 0) (l : List (Poll C)) (p y : Side F A) → TakenWithPair l p y → IfAsked p is_calm
      → IfAsked y is_calm
  taken_calm is_calm [] p y h k = rw h k
  taken_calm is_calm (Pending ∷ l) p y h k = taken_calm is_calm l p y h k
  taken_calm is_calm (Ready c ∷ l) p y h k = rw h.1 tt

module _ {R T C : Type 0} (pair : R → T → C) where
  rows_join : (i k : List (Poll R)) (j h : List (Poll T)) (l m : List (Poll C)) → PairRows pair i j l
      → PairRows pair k h m → PairRows pair (i ++ k) (j ++ h) (l ++ m)
  rows_join [] k [] h l m r q = rw r q
  rows_join (a ∷ i) k (b ∷ j) h (c ∷ l) m r q = (r.0, rows_join i k j h l m r.1 q)
  rows_join i k j h l m r q = absurd r

  -- The three lists have one length.
  pub rows_long : (i : List (Poll R)) (j : List (Poll T)) (l : List (Poll C)) → PairRows pair i j l
      → (length i ≡ length l) × (length j ≡ length l)
  rows_long [] [] l r = rw r (refl, refl)
  rows_long (a ∷ i) (b ∷ j) (c ∷ l) r = let e = rows_long i j l r.1 in (omega (arith, e.0), omega (arith, e.1))
  rows_long i j l r = absurd r

  rows_no_pending : (i : List (Poll R)) (j : List (Poll T)) (l : List (Poll C)) → PairRows pair i j l → NoPending i
      → NoPending j → NoPending l
  rows_no_pending [] [] l h a b = rw h tt
  rows_no_pending (Pending ∷ i) (y ∷ j) (c ∷ l) h a b = absurd a
  rows_no_pending (Ready x ∷ i) (Pending ∷ j) (c ∷ l) h a b = absurd b
  rows_no_pending (Ready x ∷ i) (Ready y ∷ j) (c ∷ l) h a b = rw h.0 (rows_no_pending i j l h.1 a b)
  rows_no_pending i j l h a b = absurd h

  rows_none : (i : List (Poll R)) (j : List (Poll T)) → PairRows pair i j [] → (i ≡ []) × (j ≡ [])
  rows_none [] [] r = (refl, refl)
  rows_none (a ∷ i) [] r = absurd r
  rows_none i j r = absurd r

module _ {F G A B R T C : Type 0} {answer_first : A → R} {answer_second : B → T} {pair : R → T → C}
    {run_first : Runs (Poll R) F} {run_second : Runs (Poll T) G} where
  module _ (laws_first : FutureRunLaws run_first) (laws_second : FutureRunLaws run_second) where
    pub together_rest : (x : Side F A) (u : Side G B)
        → Together answer_first answer_second pair run_first run_second x u [] x u
    together_rest x u =
        record {
          i = [];
          j = [];
          p = x;
          q = u;
          first = stands_rest answer_first run_first laws_first x;
          second = stands_rest answer_second run_second laws_second u;
          rows = refl;
          taken = (refl, refl);
        }

    pub together_stay : {x y : Side F A} {u v : Side G B}
        → Together answer_first answer_second pair run_first run_second x u [] y v → (y ≡ x) × (v ≡ u)
    together_stay {x} {u} h =
        let e = rows_none pair h.i h.j h.rows in
        let first = subst (λ l. Stands answer_first run_first x l h.p) e.0 h.first in
        let second = subst (λ l. Stands answer_second run_second u l h.q) e.1 h.second in (
          h.taken.0 ∙ stands_stay answer_first run_first laws_first x h.p first,
          h.taken.1 ∙ stands_stay answer_second run_second laws_second u h.q second,
        )

    pub together_follow : {x y z : Side F A} {u v t : Side G B} {l m : List (Poll C)} → Waiting l
        → Together answer_first answer_second pair run_first run_second x u l y v
        → Together answer_first answer_second pair run_first run_second y v m z t
        → Together answer_first answer_second pair run_first run_second x u (l ++ m) z t
    together_follow {x} {y} {z} {u} {v} {t} {l} {m} w h k =
        let first = subst (λ s. Stands answer_first run_first s k.i k.p) (taken_waiting l h.p y w h.taken.0) k.first in
        let second = subst (λ s. Stands answer_second run_second s k.j k.q)
        (taken_waiting l h.q v w h.taken.1) k.second in
        record {
          i = h.i ++ k.i;
          j = h.j ++ k.j;
          p = k.p;
          q = k.q;
          first = stands_follow answer_first run_first laws_first x h.p k.p h.i k.i h.first first;
          second = stands_follow answer_second run_second laws_second u h.q k.q h.j k.j h.second second;
          rows = rows_join pair h.i k.i h.j k.j l m h.rows k.rows;
          taken = (taken_after l m k.p z w k.taken.0, taken_after l m k.q t w k.taken.1);
        }

  -- Both may be asked after rows that are pending.
  pub together_on : {can_first : F → Type 0} {can_second : G → Type 0} → WaitsOn can_first run_first
      → WaitsOn can_second run_second → {x y : Side F A} {u v : Side G B} {l : List (Poll C)} → Waiting l
      → CanAsk can_first x × CanAsk can_second u
      → Together answer_first answer_second pair run_first run_second x u l y v
      → CanAsk can_first y × CanAsk can_second v
  together_on {can_first} {can_second} on also {x} {y} {u} {v} {l} w c h = (
    subst (CanAsk can_first) (sym (taken_waiting l h.p y w h.taken.0))
        (stands_ask answer_first run_first on x h.p h.i c.0 h.first),
    subst (CanAsk can_second) (sym (taken_waiting l h.q v w h.taken.1))
        (stands_ask answer_second run_second also u h.q h.j c.1 h.second),
  )

  pub together_once : {x y : Side F A} {u v : Side G B} {l : List (Poll C)}
      → Together answer_first answer_second pair run_first run_second x u l y v → length (strip l) ≤ 1
  together_once {y} {l} h = up_to_once l (taken_up_to l h.p y h.taken.0)

  -- The two are never pending if neither of them ever is.
  pub together_calm : {calm_first : F → Type 0} {calm_second : G → Type 0} → CalmLaws run_first calm_first
      → CalmLaws run_second calm_second → {x y : Side F A} {u v : Side G B} {l : List (Poll C)}
      → IfAsked x calm_first × IfAsked u calm_second
      → Together answer_first answer_second pair run_first run_second x u l y v
      → NoPending l × (IfAsked y calm_first × IfAsked v calm_second)
  together_calm {calm_first} {calm_second} c d {x} {y} {u} {v} {l} k h =
      let first = stands_calm answer_first run_first c x h.p h.i k.0 h.first in
      let second = stands_calm answer_second run_second d u h.q h.j k.1 h.second in (
        rows_no_pending pair h.i h.j l h.rows first.0 second.0,
        (taken_calm calm_first l h.p y h.taken.0 first.1, taken_calm calm_second l h.q v h.taken.1 second.1),
      )

module _ {F G A B R T C : Type 0} (answer_first : A → R) (answer_second : B → T) (pair : R → T → C)
    (run_first : Runs (Poll R) F) (run_second : Runs (Poll T) G)
    (join : A → B → C) (joins : (v : A) (w : B) → pair (answer_first v) (answer_second w) ≡ join v w) where
  taken : (p y : Side F A) (q t : Side G B) (a : Poll R) (b : Poll T) (r : Poll (A × B)) → AfterRow answer_first p a
      → AfterRow answer_second q b → TakesBoth p q r y t
      → (joined_sides join r ≡ both pair a b) × TakenWithPair (joined_sides join r ∷ []) p y
      × TakenWithPair (joined_sides join r ∷ []) q t
  taken (Gave v) y (Gave w) t a b r d e h =
      rw (h.0, d, e) (ap Ready (sym (joins v w)), (refl, h.1), (refl, h.2))
  taken (Gave v) y (Asked g) t a b r d e h = rw (h.0, d, e) (refl, h.1, h.2)
  taken (Gave v) y Taken t a b r d e h = absurd e
  taken (Asked f) y q t a b r d e h = rw (h.0, d) (refl, h.1, h.2)
  taken Taken y q t a b r d e h = absurd d

  -- The row of one poll.
  pub together_row : (x p y : Side F A) (u q t : Side G B) (a : Poll R) (b : Poll T) (r : Poll (A × B))
      → Stands answer_first run_first x (a ∷ []) p → Stands answer_second run_second u (b ∷ []) q
      → TakesBoth p q r y t
      → Together answer_first answer_second pair run_first run_second x u (joined_sides join r ∷ []) y t
  together_row x p y u q t a b r h k takes =
      let e = taken p y q t a b r (stands_last answer_first run_first x p [] a h)
      (stands_last answer_second run_second u q [] b k) takes in
      record { i = a ∷ []; j = b ∷ []; p = p; q = q; first = h; second = k; rows = (e.0, refl); taken = (e.1, e.2) }

-- If the rows of pairs end in a `Pending`, so do the results of one of the two futures.
pair_pends : {R T C : Type 0} (pair : R → T → C) (i : List (Poll R)) (j : List (Poll T)) (out : List (Poll C))
    → PairRows pair i j out → EitherPends i j out
pair_pends pair [] [] out r b p q h e = h (rw r at e)
pair_pends pair (Pending ∷ i) (Pending ∷ j) (c ∷ out) r b p q h e =
    pair_pends pair i j out r.1 true true true (λ d. inl refl) (rw r.0 at e)
pair_pends pair (Pending ∷ i) (Ready w ∷ j) (c ∷ out) r b p q h e =
    pair_pends pair i j out r.1 true true false (λ d. inl refl) (rw r.0 at e)
pair_pends pair (Ready v ∷ i) (Pending ∷ j) (c ∷ out) r b p q h e =
    pair_pends pair i j out r.1 true false true (λ d. inr refl) (rw r.0 at e)
pair_pends pair (Ready v ∷ i) (Ready w ∷ j) (c ∷ out) r b p q h e =
    pair_pends pair i j out r.1 false false false (λ d. cc d) (rw r.0 at e)
pair_pends pair i j out r b p q h e = absurd r

-- Nothing is taken if the last result is `Pending`.
kept_pends : {F A C : Type 0} (b : Bool) (out : List (Poll C)) (now left : Side F A) → TakenWithPair out now left
    → pends_last b out ≡ true → left ≡ now
kept_pends b [] now left h e = h
kept_pends b (Pending ∷ out) now left h e = kept_pends true out now left h e
kept_pends b (Ready c ∷ out) now left h e = absurd (let none = rw h.0 at e in cc none)

-- One of the two futures has registered the task if both are armed.
module _ {F G A B R T C : Type 0} {answer_first : A → R} {answer_second : B → T} {pair : R → T → C}
    {run_first : Runs (Poll R) F} {run_second : Runs (Poll T) G} {registers : F → Lasting → Type 0}
    {registers' : G → Lasting → Type 0} (a : Arms run_first registers) (b : Arms run_second registers') where
  pub together_arms : {x y : Side F A} {u v : Side G B} {out : List (Poll C)} → EndsPending out
      → Together answer_first answer_second pair run_first run_second x u out y v
      → IsAskedAnd y (λ f. registers f Lasting.armed) ⊎ IsAskedAnd v (λ g. registers' g Lasting.armed)
  together_arms {x} {y} {u} {v} {out} e h =
      one_of (pair_pends pair h.i h.j out h.rows false false false (λ d. cc d) e)
    where
      one_of : EndsPending h.i ⊎ EndsPending h.j
          → IsAskedAnd y (λ f. registers f Lasting.armed) ⊎ IsAskedAnd v (λ g. registers' g Lasting.armed)
      one_of (inl d) = inl (rw (kept_pends false out h.p y h.taken.0 e) (stands_arms _ a x h.p h.i d h.first))
      one_of (inr d) = inr (rw (kept_pends false out h.q v h.taken.1 e) (stands_arms _ b u h.q h.j d h.second))
