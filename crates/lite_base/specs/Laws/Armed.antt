-- Laws of lists of results that end in a `Pending`, and of what such a list leaves.
use Rattle.std.specs.Prelude.{◌≡◌, ◌⊎◌, List, [], ◌∷◌, ◌++◌, map, refl, Bool, true, false, ⊤, Option, Some, None}
use Rattle.lite_base.specs.Uses.{◌∙◌, inl, inr, sym, Lasting, Poll, Ready, Pending, MutBor}
use Rattle.lite_base.specs.Answers.{Answer, Gives, item}
use Rattle.lite_base.specs.Armed.{Arms, EndsPending, pends_last}
use Rattle.lite_base.specs.Calm.{NoPending}
use Rattle.lite_base.specs.Laws.Segments.{answers_by, rows_by}
use Rattle.lite_base.specs.Runs.{Runs, Lent, Question}
use Rattle.lite_base.specs.Segments.{OneAnswer, Rows, Segment, Segments}
use Rattle.lite_base.specs.Spent.{Spends, handed}

-- A value whose runs are runs of a part is armed if the part is.
pub arms_part : {A S X : Type 0} {run : Runs (Poll A) S} {outer : Runs (Poll A) X} {registers : S → Lasting → Type 0}
    (part : X → S) → ((x y : X) (l : List (Poll A)) → outer x l y → run (part x) l (part y)) → Arms run registers
    → Arms outer (λ x. registers (part x))
arms_part part ran a = record { at = λ x y l e h. a.at (part x) (part y) l e (ran x y l h) }

-- A reference is armed if what it points to is.
pub lent_arms : {A S : Type 0} {run : Runs (Poll A) S} {registers : S → Lasting → Type 0} → Arms run registers
    → Arms (Lent run) (λ (x : MutBor S). registers x.now)
lent_arms = arms_part (λ x. x.now) (λ x y l h. h.0)

-- What has no `Pending` at all is armed, because it is said to register everything.
pub arms_always : {A S : Type 0} {run : Runs (Poll A) S} → Arms run (λ _ _. ⊤)
arms_always = record { at = λ x y l e h. tt }

module _ {A : Type 0} where
  -- If the answer for no results may be taken for another, it may be for all lists.
  pub pends_from : (b c : Bool) (l : List (Poll A)) → (b ≡ true → c ≡ true) → pends_last b l ≡ true
      → pends_last c l ≡ true
  pends_from b c [] h e = h e
  pends_from b c (Pending ∷ l) h e = e
  pends_from b c (Ready x ∷ l) h e = e

  -- What ends in a `Pending` does so behind another result.
  pub pends_behind : (b : Bool) (a : Poll A) (l : List (Poll A)) → EndsPending l → pends_last b (a ∷ l) ≡ true
  pends_behind b Pending l e = pends_from false true l (λ n. cc n) e
  pends_behind b (Ready x) l e = e

  -- Of a list with a result it does not matter what comes before.
  pub pends_anew : (b c : Bool) (a : Poll A) (l : List (Poll A)) → pends_last b (a ∷ l) ≡ pends_last c (a ∷ l)
  pends_anew b c Pending l = refl
  pends_anew b c (Ready x) l = refl

  -- The last of two lists joined is the last of the second, after the first.
  pub pends_join : (b : Bool) (l m : List (Poll A)) → pends_last b (l ++ m) ≡ pends_last (pends_last b l) m
  pends_join b [] m = refl
  pends_join b (Pending ∷ l) m = pends_join true l m
  pends_join b (Ready x ∷ l) m = pends_join false l m

  -- A list that ends in its value does not end in a `Pending`.
  pub gives_pends : (b : Bool) (l : List (Poll A)) (x : A) → Gives l x → pends_last b l ≡ true → ⊥
  gives_pends b [] x g e = g
  gives_pends b (Pending ∷ l) x g e = gives_pends true l x g e
  gives_pends b (Ready y ∷ l) x g e = let none = rw g.1 at e in cc none

  -- A list without a `Pending` does not end in one.
  pub no_pends : (b : Bool) (l : List (Poll A)) → NoPending l → pends_last b l ≡ true → b ≡ true
  no_pends b [] n e = e
  no_pends b (Pending ∷ l) n e = absurd n
  no_pends b (Ready x ∷ l) n e = let none = no_pends false l n e in cc none

module _ {A B : Type 0} (shown : A → Option B) where
  -- What is shown of results ends in a `Pending` if they do.
  pub pends_handed : (b : Bool) (l : List (Poll A)) → pends_last b (map (handed shown) l) ≡ pends_last b l
  pends_handed b [] = refl
  pends_handed b (Pending ∷ l) = pends_handed true l
  pends_handed b (Ready x ∷ l) = pends_handed false l

  -- After a value that is shown, only what comes later may end in a `Pending`.
  pub pends_later : (l : List (Poll A)) (x : A) (m : List (Answer B)) → Gives l x
      → EndsPending (map (handed shown) l ++ m) → EndsPending m
  pends_later l x m g e =
      let own = map (handed shown) l in
      pends_from (pends_last false own) false m
      (λ d. absurd (gives_pends false l x g (sym (pends_handed false l) ∙ d))) (sym (pends_join false own m) ∙ e)

-- What holds a future until its value is armed if the future is, and no later result is a `Pending`.
module _ {F A B : Type 0} {run : Runs (Poll A) F} {registers : F → Lasting → Type 0} (a : Arms run registers)
    (shown : A → Option B) (Later : List (Answer B) → Type 0) (ready : (l : List (Answer B)) → Later l → NoPending l) where
  pub spends_arms : (x y : Option F) (l : List (Answer B)) → EndsPending l → Spends run (handed shown) Later x l y
      → (f : F) × (y ≡ Some f) × registers f Lasting.armed
  spends_arms None y l e h = absurd (cc (no_pends false l (ready l h.0) e))
  spends_arms (Some f) (Some g) l e h =
      (g, refl, a.at f g h.0 (sym (pends_handed shown false h.0) ∙ (rw h.3 at e)) h.2)
  spends_arms (Some f) None l e h =
      let later = pends_later shown h.ins h.value h.after h.finishes.gives (rw h.joined at e) in
      absurd (cc (no_pends false h.after (ready h.after h.later) later))

-- The rest of each segment is one result of the source. If the results made of the segments end in a `Pending`, the
-- source's results do.
module _ {M A B : Type 0} (takes : M → A → M → Type 0) (gives : Question M (Answer A) (Poll B))
    (keeps : (p q : M) (a : Answer A) → gives p a Pending q → a ≡ Pending) where
  -- If the second list ends in a `Pending`, so does the first.
  abbrev PendsToo : M → List (Answer A) → List (Poll B) → Type 0
  PendsToo p i l = (b : Bool) → pends_last b l ≡ true → pends_last b i ≡ true

  given_pends : (p m : M) (a : Answer A) (i : List (Answer A)) (c : Poll B) (l : List (Poll B)) → gives p a c m
      → PendsToo m i l → PendsToo p (a ∷ i) (c ∷ l)
  given_pends p m a i Pending l g k b e = rw (keeps p m a g) (k true e)
  given_pends p m a i (Ready y) l g k b e = pends_behind b a i (k false e)

  pub segments_pend : (p q : M) (i : List (Answer A)) (l : List (Poll B))
      → Segments (Segment item takes (OneAnswer gives)) p i l q → PendsToo p i l
  segments_pend p q i l =
      answers_by item takes gives PendsToo
      (λ p m x i c l t k b e. k false (pends_anew false b c l ∙ e)) given_pends p q i l (λ b e. e)

-- Two lists that are read row by row.

-- If the third list ends in a `Pending`, so does one of the first two.
abbrev pub EitherPends : {A B C : Type 0} → List (Poll A) → List (Poll B) → List (Poll C) → Type 0
EitherPends i j l =
    (b c d : Bool) → (b ≡ true → (c ≡ true) ⊎ (d ≡ true)) → pends_last b l ≡ true
    → (pends_last c i ≡ true) ⊎ (pends_last d j ≡ true)

other_way : {P Q : Type 0} → P ⊎ Q → Q ⊎ P
other_way (inl p) = inr p
other_way (inr q) = inl q

either_swapped : {A B C : Type 0} (i : List (Poll A)) (j : List (Poll B)) (l : List (Poll C)) → EitherPends i j l
    → EitherPends j i l
either_swapped i j l k b c d h e = other_way (k b d c (λ f. other_way (h f)) e)

-- If a row keeps this of the rest of its lists, it holds of lists that are read row by row.
pub rows_pend : {A : Type 0} (row : (i j : List (Poll A)) (c : Poll A) (i' j' : List (Poll A)) → Type 0)
    → ((i j : List (Poll A)) (c : Poll A) (i' j' l : List (Poll A)) → row i j c i' j' → EitherPends i' j' l
    → EitherPends i j (c ∷ l))
    → (o : List Bool) (i j l : List (Poll A)) → Rows row o i j l → EitherPends i j l
rows_pend row more =
    rows_by row EitherPends (λ b c d h e. h e) more
    (λ i j c i' j' l r k. either_swapped j i (c ∷ l) (more j i c j' i' l r (either_swapped i' j' l k)))
