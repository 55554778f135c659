-- The list of the items of a stream, and the value of a future.
use Rattle.std.specs.Prelude.{◌≡◌, List, Ok, Err, refl}
use Rattle.lite_views.specs.Uses.{sym, MutBor, Poll, Answer, Finishes, Lent, Question, Runs}
use Rattle.lite_stream.specs.Through.{Relates, AdapterParts, Adapts}
use Rattle.lite_views.specs.Views.{Fits, Lists, ListsAs, Seen, ValueHolds, Waited}

pub seen : {X Y : Type 0} (x : X) (y : Y) → Seen x y
unfolding Seen
seen x y = tt

module _ {F A E : Type 0} (run : Runs (Poll A) F) (f : F) (P : A → Type 0)
    (to : (ins : List (Poll A)) (v : A) → Finishes run f ins v → P v) where
  pub value_holds : ValueHolds E run f P
  unfolding Waited
  value_holds (Ok v) w = (seen f (Ok v), to w.0 v w.1)
  value_holds (Err e) w = (seen f (Err e), tt)

-- asked at f, it answers as h does, and leaves f as it was
abbrev pub AnswersAs : {F A O : Type 0} → Question F A O → F → (A → O) → Type 0
AnswersAs {F} {A} {O} call f h = (x : A) (o : O) (g : F) → call f x o g → (g ≡ f) × (o ≡ h x)

-- so it does wherever it is asked as at f
pub answered : {F A O : Type 0} (call : Question F A O) (f : F) (h : A → O) (acts : AnswersAs call f h) (p q : F)
    (x : A) (o : O) → p ≡ f → call p x o q → (q ≡ f) × (h x ≡ o)
answered call f h acts p q x o e c = let a = acts x o q (rw (← e) c) in (a.0, sym a.1)

-- what an adapter that holds p makes of answers that fit xs fits ys
abbrev pub Carries : {F A B : Type 0} → Relates F A B → F → List A → List B
    → Type 0
Carries {F} {A} {B} relates p xs ys =
    (i : List (Answer A)) (o : List (Answer B)) (q : F) → Fits i xs → relates p i o q → Fits o ys

-- the items are those of which each run shows so
pub listed : {S A : Type 0} (run : Runs (Answer A) S) (s : S) (xs : List A)
    → ((l : List (Answer A)) (t : S) → run s l t → Fits l xs) → ListsAs run s xs
unfolding Lists
listed run s xs fits = (refl, seen s xs, fits)

-- the items of an adapter, by those of its source
pub listed_through : {M S F A B : Type 0} (parts : AdapterParts M S F) (run : Runs (Answer A) S)
    (relates : Relates F A B) (m : M) (xs : List A) (ys : List B)
    → Lists run (parts.source m) xs → Carries relates (parts.held m) xs ys → ListsAs (Adapts parts run relates) m ys
unfolding Lists
listed_through parts run relates m xs ys lists carries =
    listed (Adapts parts run relates) m ys
    (λ l t ran. carries ran.ins l (parts.held t) (lists ran.ins (parts.source t) ran.came) ran.related)

-- a stream that is lent has the items of the stream
pub lent_lists : {S A : Type 0} (run : Runs (Answer A) S) (s : MutBor S) (xs : List A) → Lists run s.now xs
    → Lists (Lent run) s xs
unfolding Lists
lent_lists run s xs lists l t ran = lists l t.now ran.0
