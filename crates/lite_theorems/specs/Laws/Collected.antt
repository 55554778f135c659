-- Laws of `collect` that returns `Ok`: the stream yielded items and `Pending`s and then ended, and the collection holds
-- the items.
use Rattle.std.specs.Prelude.{IsSome, IfSome, ◌≡◌, List, [], ◌∷◌, ◌++◌, Some, None, Result, Ok}
use Rattle.lite_gather.specs.Collect.{collects}
use Rattle.lite_gather.specs.declared.collect.Collect.{Collect}
use Rattle.lite_gather.specs.declared.refused.Refused.{Refused}
use Rattle.lite_theorems.specs.Uses.{Option, refl, ap, sym, subst, append-nil, append_assoc, Poll, Ready, Pending}
use Rattle.lite_theorems.specs.Uses.{Answer, Gives, end, item, Consumes, Decides, Fold, fold_of, consumes_steps}
use Rattle.lite_theorems.specs.Uses.{AtEachOk, Runs, Folds, Consume, Or, Race}
use Rattle.lite_theorems.specs.Interleaving.{items_given, OrHolds, RaceHolds}
use Rattle.lite_theorems.specs.Laws.Rows.{WithoutEnd, merged_whole}
use Rattle.lite_merge.specs.Or.{Ors}
use Rattle.lite_merge.specs.Race.{Races, RacesOn}
use Rattle.rand_core.specs.Stream.{Stream}

-- The Option holds a collection, and that holds these items.
abbrev pub Has : {C A : Type 0} → (C → List A → Type 0) → Option C → List A → Type 0
Has {C} holds o l = (c : C) × (o ≡ Some c) × holds c l

-- A collection that the Option holds, as a contract says it.
pub has : {C A : Type 0} (holds : C → List A → Type 0) (o : Option C) (l : List A) → IsSome o
    → IfSome o (λ c. holds c l) → Has holds o l
has holds None l s h = cc
has holds (Some c) l s h = (c, refl, h)

-- The collection that the Option holds.
pub held_by : {C A : Type 0} (holds : C → List A → Type 0) (o : Option C) (l : List A) (c : C) → Has holds o l
    → o ≡ Some c
    → holds c l
held_by holds o l c h e = let same : c ≡ h.0 = cc h.1 in rw same h.2

module _ {N C A : Type 0} (may_refuse : C → A → Type 0) (holds : C → List A → Type 0) (part : N → Option C) where
  -- The value of `collect`: the collection, or an allocation failure.
  abbrev CollectResult : Type 0
  CollectResult = Result C (Refused C A)

  -- The fold of `collect`, over a state that has the collection as a part.
  abbrev Gathering : Fold N A CollectResult
  Gathering = fold_of part (collects may_refuse holds)

  -- The stream returned items and `Pending`s and then the end. The collection holds what it held before and then these
  -- items.
  pub record Whole (ins : List (Answer A)) (before : List A) (c : C) : Type 0 where
    pub body : List (Answer A)
    pub cut : ins ≡ body ++ end ∷ []
    pub no_end : WithoutEnd body
    pub held : holds c (before ++ items_given body)

  decided : (p q : N) (o : Option A) (r : CollectResult) (c : C) → Decides Gathering p (Ready o) (Ready r) q → r ≡ Ok c
      → (before : List A) → Has holds (part p) before → Whole (Ready o ∷ []) before c
  decided p q None r c d e before h =
      let same : d.0 ≡ c = cc d.2 in
      let held = subst (λ b. holds b before) same (held_by holds (part p) before d.0 h d.1) in
      record { body = []; cut = refl; no_end = tt; held = subst (holds c) (sym (append-nil before)) held }
  decided p q (Some x) r c d e before h = cc

  pub collected : (out : List (Poll CollectResult)) (p q : N) (ins : List (Answer A)) (before : List A)
      (c : C) → Has holds (part p) before
      → Consumes Gathering p ins out q → Gives out (Ok c) → Whole ins before c
  collected out p q ins before c h k g =
      consumes_steps Gathering
      (λ p ins out. Gives out (Ok c) → (before : List A) → Has holds (part p) before → Whole ins before c)
      (λ p m x i b l t k g before h.
      let held = t.3 before (held_by holds (part p) before t.0 h t.2) in
      let rest = k g (before ++ x ∷ []) (t.1, t.4, held) in
      record {
        body = item x ∷ rest.body;
        cut = ap (λ l. item x ∷ l) rest.cut;
        no_end = rest.no_end;
        held = subst (holds c) (append_assoc before (x ∷ []) (items_given rest.body)) rest.held;
      })
      (λ p i l k g before h.
      let rest = k g before h in
      record {
        body = Pending ∷ rest.body;
        cut = ap (λ l. Pending ∷ l) rest.cut;
        no_end = rest.no_end;
        held = rest.held;
      })
      q
      (λ p o r d g. decided p q o r c d g.0) p ins out absurd k g before h

-- Laws of `collect` of `or`: if it returns `Ok`, the collection holds all items of the two streams.

module _ {S U C A : Type 0} (run : Runs (Answer A) S) (run' : Runs (Answer A) U)
    (stays : (x y : S) → run x [] y → y ≡ x) (stays' : (x y : U) → run' x [] y → y ≡ x)
    (may_refuse : C → A → Type 0) (holds : C → List A → Type 0) where
  -- The runs of `collect` of `or`.
  abbrev pub OrCollects : Runs (Poll (Result C (Refused C A))) (Consume (Or S U) (Collect C))
  OrCollects = Folds (Ors run run') (fold_of (λ (f : Collect C). f.collection) (collects may_refuse holds))

  pub or_collected : (x : Consume (Or S U) (Collect C)) (before : List A) → Has holds x.folder.collection before
      → AtEachOk OrCollects x (OrHolds holds run run' before x)
  or_collected x before is out y c h g =
      let w =
      collected may_refuse holds (λ (f : Collect C). f.collection) out x.folder y.folder h.ins before c is h.consumed g in
      let came = subst (λ l. Ors run run' x.stream l y.stream) w.cut h.came in
      let whole = merged_whole run run' stays stays' w.body w.no_end came in
      (whole.0, whole.1, items_given w.body, whole.2, whole.3, whole.4, w.held)

-- Laws of `collect` of `race`: if it returns `Ok`, the collection holds all items of the two streams, whatever the
-- random words were.

module _ {S U R C A : Type 0} (run : Runs (Answer A) S) (run' : Runs (Answer A) U) (stream : R → Stream)
    (stays : (x y : S) → run x [] y → y ≡ x) (stays' : (x y : U) → run' x [] y → y ≡ x)
    (may_refuse : C → A → Type 0) (holds : C → List A → Type 0) where
  -- The runs of `collect` of `race`.
  abbrev pub RaceCollects : Runs (Poll (Result C (Refused C A))) (Consume (Race S U R) (Collect C))
  RaceCollects = Folds (RacesOn run run' stream) (fold_of (λ (f : Collect C). f.collection) (collects may_refuse holds))

  -- If it returned a result, it drew words.
  raced : (x y : Race S U R) (body : List (Answer A)) → RacesOn run run' stream x (body ++ end ∷ []) y
      → Races run run' stream x (body ++ end ∷ []) y
  raced x y [] h = h
  raced x y (b ∷ body) h = h

  pub race_collected : (x : Consume (Race S U R) (Collect C)) (before : List A) → Has holds x.folder.collection before
      → AtEachOk RaceCollects x (RaceHolds holds run run' before x)
  race_collected x before is out y c h g =
      let w =
      collected may_refuse holds (λ (f : Collect C). f.collection) out x.folder y.folder h.ins before c is h.consumed g in
      let came = raced x.stream y.stream w.body (rw (← w.cut) h.came) in
      let whole = merged_whole run run' stays stays' w.body w.no_end came.merges in
      (whole.0, whole.1, items_given w.body, whole.2, whole.3, whole.4, w.held)
