-- Laws of lists of marks that end in a `Pending`, and of what is polled over a reader or a writer.
use Rattle.std.specs.Prelude.{◌≡◌, List, [], ◌∷◌, ◌++◌, map, refl, Bool, true, false, ⊤}
use Rattle.std.proofs.Common.{◌∙◌}
use Rattle.lite_io_base.specs.Uses.{Lasting, Lent, MutBor, Poll, Ready, Pending, Runs}
use Rattle.lite_base.specs.Armed.{EndsPending, pends_last}
use Rattle.lite_base.specs.FutureLaws.{PolledByCalls}
use Rattle.lite_base.specs.Laws.Armed.{pends_anew}
use Rattle.lite_base.specs.Runs.{Question}
use Rattle.lite_base.specs.Segments.{Segment, Segments}
use Rattle.lite_io_base.specs.Armed.{ArmsMarks, last_is}

-- A value whose runs are runs of a part is armed if the part is.
pub arms_marks_part : {A S X : Type 0} {is : A → Bool} {run : Runs A S} {outer : Runs A X}
    {registers : S → Lasting → Type 0} (part : X → S)
    → ((x y : X) (l : List A) → outer x l y → run (part x) l (part y)) → ArmsMarks is run registers
    → ArmsMarks is outer (λ x. registers (part x))
arms_marks_part part ran a = record { at = λ x y l e h. a.at (part x) (part y) l e (ran x y l h) }

-- A reference is armed if what it points to is.
pub lent_arms_marks : {A S : Type 0} {is : A → Bool} {run : Runs A S} {registers : S → Lasting → Type 0}
    → ArmsMarks is run registers → ArmsMarks is (Lent run) (λ (x : MutBor S). registers x.now)
lent_arms_marks = arms_marks_part (λ x. x.now) (λ x y l h. h.0)

-- What is never pending is armed, because it is said to register everything.
pub arms_marks_always : {A S : Type 0} {is : A → Bool} {run : Runs A S} → ArmsMarks is run (λ _ _. ⊤)
arms_marks_always = record { at = λ x y l e h. tt }

module _ {A : Type 0} (is : A → Bool) where
  -- The last of two lists joined is the last of the second, after the first.
  pub last_join : (b : Bool) (l m : List A) → last_is is b (l ++ m) ≡ last_is is (last_is is b l) m
  last_join b [] m = refl
  last_join b (a ∷ l) m = last_join (is a) l m

-- A future each poll of which is one call is left by a pending call, if its last result is `Pending`.
pub polled_armed : {F A : Type 0} (call : F → Poll A → F → Type 0) (armed : F → Type 0)
    → ((x y : F) → call x Pending y → armed y) → (x y : F) (l : List (Poll A)) → EndsPending l
    → PolledByCalls call x l y → armed y
polled_armed call armed one x y [] e h = absurd (cc e)
polled_armed call armed one x y (Pending ∷ []) e h = rw h.2 (one x h.0 h.1)
polled_armed call armed one x y (Pending ∷ (a ∷ l)) e h =
    polled_armed call armed one h.0 y (a ∷ l) (pends_anew false true a l ∙ e) h.2
polled_armed call armed one x y (Ready r ∷ l) e h = absurd (let none = rw h.1 at e in cc none)

-- Marks that are cut into one segment for each poll result end in a `Pending` if the results do.
module _ {M I J R : Type 0} (is : I → Bool) (shows : J → I) (takes : M → J → M → Type 0)
    (gives : Question M (List I) (Poll R))
    (pends : (p q : M) (last : List I) → gives p last Pending q → (m : I) × (last ≡ m ∷ []) × (is m ≡ true)) where
  segment_ends : (p q : M) (i : List I) (c : Bool) → Segment shows takes gives p i Pending q → last_is is c i ≡ true
  segment_ends p q i c h =
      let one = pends h.between q h.last h.given in
      rw h.cut (last_join is c (map shows h.taken) h.last ∙ (rw one.1 one.2))

  pub segments_end : (p q : M) (i : List I) (out : List (Poll R)) → Segments (Segment shows takes gives) p i out q
      → (b c : Bool) → (b ≡ true → c ≡ true) → pends_last b out ≡ true → last_is is c i ≡ true
  segments_end p q i [] h b c k e = rw h.0 (k e)
  segments_end p q i (Pending ∷ out) h b c k e =
      let first = segment_ends p h.2 h.0 c h.4 in
      let rest = segments_end h.2 q h.1 out h.5 true (last_is is c h.0) (λ d. first) e in
      rw h.3 (last_join is c h.0 h.1 ∙ rest)
  segments_end p q i (Ready r ∷ out) h b c k e =
      let rest = segments_end h.2 q h.1 out h.5 false (last_is is c h.0) (λ d. cc d) e in
      rw h.3 (last_join is c h.0 h.1 ∙ rest)
