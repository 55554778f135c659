-- Laws about adapters that leave some items out.
use Rattle.std.specs.Prelude.{ℕ, List, [], ◌∷◌, Option, Some, None}
use Rattle.std.proofs.Common.{◌≤◌}
use Rattle.lite_reshape.specs.Uses.{refl, arith, AllByRecursion, Ready, Pending, Answer, before_end, end, item, items}
use Rattle.lite_reshape.specs.Uses.{waits, Lowers-below, IsItem, items_each, answers_given, answers_taken, Lowers}
use Rattle.lite_reshape.specs.Uses.{Question, Segment, Calming, AlsoBefore, AdapterParts, Adapts, AtEachItem, Counting}
use Rattle.lite_reshape.specs.Uses.{Entails, FoldsTo, Hints, PollsOn, Ranks, Relating, Runs, StreamLaws, each_along}
use Rattle.lite_reshape.specs.Uses.{items_in}
use Rattle.lite_base.specs.Laws.Armed.{segments_pend}
use Rattle.lite_stream.specs.Laws.Arming.{Arming}
use Rattle.lite_base.specs.Laws.Answers.{first_item}
use Rattle.lite_base.specs.Laws.Segments.{answers_by, segments_join}
use Rattle.lite_stream.specs.Laws.Through.{counted_on}
use Rattle.lite_reshape.specs.Leaving.{LeavesOut, Passes, Rejects}

-- A fact that holds of each result and of each rejected item holds of each result of the source.
pub leaves_each : {F A B : Type 0} (call : Question F A (Option B)) (P : Answer A → Type 0) (Q : Answer B → Type 0)
    → ((p q : F) (a : Answer A) (b : Answer B) → Passes call p a b q → Q b → P a)
    → ((p q : F) (x : A) → call p x None q → P (item x))
    → Entails (LeavesOut call) (λ f i o g. AllByRecursion Q o → AllByRecursion P i)
leaves_each call P Q passed rejected f g i o =
    answers_by item _ _ (λ p i o. AllByRecursion Q o → AllByRecursion P i)
    (λ p m x i b o t h e. (rejected p m x t.rejected, h e)) (λ p m a i b o t h e. (passed p m a b t e.0, h e.1)) f g i o
    (λ e. e)

-- Induction on the source's results: an item is rejected or kept, and `Pending` and the end of the stream are passed
-- on.
module _ {F A B : Type 0} (call : Question F A (Option B)) (P : F → List (Answer A) → List (Answer B) → Type 0)
    (rejected : (p m : F) (x : A) (i : List (Answer A)) (b : Answer B) (o : List (Answer B)) → call p x None m
    → P m i (b ∷ o) → P p (item x ∷ i) (b ∷ o))
    (waits : AlsoBefore P Pending Pending) (ended : AlsoBefore P end end)
    (kept : (p m : F) (x : A) (i : List (Answer A)) (y : B) (o : List (Answer B)) → call p x (Some y) m → P m i o
    → P p (item x ∷ i) (item y ∷ o)) where
  module _ (p m : F) (a : Answer A) (i : List (Answer A)) where
    passed : (b : Answer B) (o : List (Answer B)) → Passes call p a b m → P m i o → P p (a ∷ i) (b ∷ o)
    passed Pending o h k = rw h.0 (waits p i o (rw h.1 at k))
    passed (Ready None) o h k = rw h.0 (ended p i o (rw h.1 at k))
    passed (Ready (Some y)) o h k = rw h.1 (kept p m h.0 i y o h.2 k)

  pub leaves_steps : (f g : F) (i : List (Answer A)) (o : List (Answer B)) → P g [] [] → LeavesOut call f i o g
      → P f i o
  leaves_steps f g i o =
      answers_by item _ _ P (λ p m x i b o t. rejected p m x i b o t.rejected) passed f g i o

module _ {F A B : Type 0} (call : Question F A (Option B)) where
  module _ (f g : F) (i : List (Answer A)) (o : List (Answer B)) where
    leaves_bounded : LeavesOut call f i o g → before_end o ≤ before_end i
    leaves_bounded =
        leaves_steps call (λ p i o. before_end o ≤ before_end i) (λ p m x i b o t h. omega (arith, h)) (λ p i o h. h)
        (λ p i o h. omega arith) (λ p m x i y o t h. omega (arith, h)) f g i o (omega arith)

    leaves_lowers : (xs ys : List ℕ) → LeavesOut call f i o g → Lowers i xs ys → Lowers o xs ys
    leaves_lowers xs ys =
        leaves_steps call (λ p i o. Lowers i xs ys → Lowers o xs ys)
        (λ p m x i b o t h. Lowers-below (b ∷ o) xs ys) (λ p i o h. h) (λ p i o h. h) (λ p m x i y o t h k. k) f g i o
        (λ k. k)

    items_in_out : LeavesOut call f i o g → AllByRecursion IsItem o → AllByRecursion IsItem i
    items_in_out =
        leaves_steps call (λ p i o. AllByRecursion IsItem o → AllByRecursion IsItem i)
        (λ p m x i b o t h e. ((x, refl), h e)) (λ p i o h e. let same = e.0.1 in cc)
        (λ p i o h e. let same = e.0.1 in cc) (λ p m x i y o t h e. ((x, refl), h e.1)) f g i o (λ e. e)

  pub leaves_relating : Relating (LeavesOut call)
  leaves_relating =
      record {
        following = record {
          starts = λ f. (refl, refl);
          empty = λ f g i c. c;
          joins = segments_join (Segment item _ _);
        };
        bounds = leaves_bounded;
        lowers = leaves_lowers;
        from_items = λ f g i y l h.
            first_item i (items_in_out f g i (items (y ∷ l)) h (items_each (y ∷ l)))
            (omega (arith, leaves_bounded f g i (items (y ∷ l)) h));
      }

  -- No `Pending` is added.
  pub leaves_calming : Calming (LeavesOut call)
  leaves_calming f g i o =
      leaves_steps call (λ p i o. waits o ≤ waits i) (λ p m x i b o t h. h) (λ p i o h. omega (arith, h))
      (λ p i o h. h) (λ p m x i y o t h. h) f g i o (omega arith)

-- Only a `Pending` of the source is passed on as one.
pub leaves_arming : {F A B : Type 0} (call : Question F A (Option B)) → Arming (LeavesOut call)
leaves_arming call f g i o = segments_pend (Rejects call) (Passes call) (λ p q a h. h.0) f g i o

-- One way of leaving items out implies another, if their states go on to correspond.
pub leaves_as : {F G A B : Type 0} (call : Question F A (Option B)) (other : Question G A (Option B))
    (Goes : F → G → Type 0)
    (also : ((p q : F) (n : G) (x : A) (o : Option B) → Goes p n → call p x o q → (m : G) × Goes q m × other n x o m))
    (p q : F) (n : G) (i : List (Answer A)) (o : List (Answer B)) → Goes p n → LeavesOut call p i o q → (m : G)
    × Goes q m × LeavesOut other n i o m
leaves_as {G} call other Goes also p q n i o g h =
    leaves_steps call (λ p i o. (n : G) → Goes p n → (m : G) × Goes q m × LeavesOut other n i o m)
    (λ p m x i b o t k n g.
    let e = also p m n x None g t in
    let d = k e.0 e.1 in (
      d.0,
      d.1,
      answers_taken item _ _ n e.0 d.0 x i b o (record { rejected = e.2 }) d.2,
    ))
    (λ p i o k n g.
    let d = k n g in (
      d.0,
      d.1,
      answers_given item _ _ n n d.0 Pending i Pending o (refl, refl) d.2,
    ))
    (λ p i o k n g.
    let d = k n g in
    (d.0, d.1, answers_given item _ _ n n d.0 end i end o (refl, refl) d.2))
    (λ p m x i y o t k n g.
    let e = also p m n x _ g t in
    let d = k e.0 e.1 in (
      d.0,
      d.1,
      answers_given item _ _ n e.0 d.0 _ i _ o (x, refl, e.2) d.2,
    )) p q i o (λ n g. (n, g, (refl, refl))) h n g

-- Such an adapter may be polled after any run. `other` says what its closure is asked, and each call of the adapter is
-- such a question.
module _ {F A B O : Type 0} (call : Question F A (Option B)) (other : Question F A O)
    (asks : (p q : F) (x : A) (y : Option B) → call p x y q → (o : O) × other p x o q) where
  leaves_calls : (f g : F) (i : List (Answer A)) (o : List (Answer B)) → LeavesOut call f i o g
      → FoldsTo (λ p x q. (o : O) × other p x o q) f (items_in i) g
  leaves_calls f g i o =
      leaves_steps call (λ p i o. FoldsTo (λ p x q. (o : O) × other p x o q) p (items_in i) g)
      (λ p m x i b o t k. (m, asks p m x None t, k)) (λ p i o k. k) (λ p i o k. k)
      (λ p m x i y o t k. (m, asks p m x (Some y) t, k)) f g i o refl

  pub leaves_on : {M S : Type 0} (p : AdapterParts M S F) {run : Runs (Answer A) S} {can_poll : S → Type 0}
      {hints : Hints S} {r : Ranks S} {P : F → A → Type 0} → StreamLaws can_poll run hints → Counting run r
      → PollsOn (λ m. can_poll (p.source m) × r.counts (p.source m) × AtEachItem run other P (p.source m) (p.held m))
      (Adapts p run (LeavesOut call))
  leaves_on p laws c x y l k h =
      let again = counted_on p laws c x y l (k.0, k.1) h in
      (again.0, again.1, each_along laws h.ins k.2 h.came (leaves_calls _ _ h.ins l h.related))
