-- Each item that an adapter yields has a fact, if each item of its source has one: a lemma for each family of adapters.
use Rattle.std.specs.Prelude.{◌≡◌, ℕ, List, [], ◌∷◌, ◌++◌, map, refl, ⊤, Bool, true, false, Option, Some, None}
use Rattle.lite_views.specs.Uses.{zero, suc, inl, inr, Mut, Bor, Poll, Ready, Pending, Answer, Gives, Waiting, end, item, Accepts, Always, Finishes}
use Rattle.lite_views.specs.Uses.{handed, Question, Runs, Cuts, AllEnds, FusesOn, Exchanges, Replaces, leaves_steps, LeavesOut, Joins, is_done}
use Rattle.lite_views.specs.Uses.{second_after, Flat, Expands, HandsOut, Turn, First, Second, MergeRow, MergeRows, Pairs, pendings}
use Rattle.lite_reshape.specs.Ended.Turn.{Done}
use Rattle.std.specs.Fn.{CalledAt}
use Rattle.lite_views.specs.Each.{EachItem}

module _ {A : Type 0} (P : A → Type 0) where
  pub each_join : (l m : List (Answer A)) → EachItem P l → EachItem P m → EachItem P (l ++ m)
  each_join [] m h k = k
  each_join (Ready (Some x) ∷ l) m h k = (h.0, each_join l m h.1 k)
  each_join (_ ∷ l) m h k = each_join l m h k

  pub each_front : (l m : List (Answer A)) → EachItem P (l ++ m) → EachItem P l
  each_front [] m h = tt
  each_front (Ready (Some x) ∷ l) m h = (h.0, each_front l m h.1)
  each_front (_ ∷ l) m h = each_front l m h

  pub each_back : (l m : List (Answer A)) → EachItem P (l ++ m) → EachItem P m
  each_back [] m h = h
  each_back (Ready (Some x) ∷ l) m h = each_back l m h.1
  each_back (_ ∷ l) m h = each_back l m h

  each_same : (i j : List (Answer A)) → j ≡ i → EachItem P i → EachItem P j
  each_same i j e h = rw e h

  pub each_tail : (b : Answer A) (l : List (Answer A)) → EachItem P (b ∷ l) → EachItem P l
  each_tail b = each_back (b ∷ [])

  pub each_cons : (b : Answer A) (l m : List (Answer A)) → EachItem P (b ∷ l) → EachItem P m → EachItem P (b ∷ m)
  each_cons b l m h = each_join (b ∷ []) m (each_front (b ∷ []) l h)

  pub each_end : (l : List (Answer A)) → AllEnds l → EachItem P l
  each_end [] h = tt
  each_end (b ∷ l) h = rw h.0 (each_end l h.1)

-- Of each item nothing is said.
pub each_any : {A : Type 0} (l : List (Answer A)) → EachItem (λ (x : A). ⊤) l
each_any [] = tt
each_any (Ready (Some x) ∷ l) = (tt, each_any l)
each_any (_ ∷ l) = each_any l

module _ {F A B : Type 0} (call : Question F A (Option B)) (P : A → Type 0) (Q : B → Type 0)
    (answers : (p q : F) (x : A) (y : B) → P x → call p x (Some y) q → Q y) where
  -- `take_while`, `map_while` and `scan`.
  pub each_exchanged : (f g : F) (i : List (Answer A)) (o : List (Answer B)) → EachItem P i → Exchanges call f i o g
      → EachItem Q o
  each_exchanged f g [] (b ∷ o) e h = absurd h
  each_exchanged f g (Ready (Some x) ∷ i) (b ∷ o) e (None, r, same, called, more) =
      rw same (each_exchanged r g i o e.1 more)
  each_exchanged f g (Ready (Some x) ∷ i) (b ∷ o) e (Some y, r, same, called, more) =
      rw same (answers f r x y e.0 called, each_exchanged r g i o e.1 more)
  each_exchanged f g (_ ∷ i) (b ∷ o) e h = rw h.0 (each_exchanged f g i o e h.1)
  each_exchanged f g _ [] e h = tt

  -- Of adapters that leave items out.
  pub each_left : (f g : F) (i : List (Answer A)) (o : List (Answer B)) → EachItem P i → LeavesOut call f i o g
      → EachItem Q o
  each_left f g i o e h =
      leaves_steps call (λ p i o. EachItem P i → EachItem Q o) (λ p m x i b o t k e. k e.1) (λ p i o k. k)
      (λ p i o k. k) (λ p m x i y o t k e. (answers p m x y e.0 t, k e.1)) f g i o (λ e. tt) h e

-- The same, if the calls alone show the fact.
pub each_kept : {F A B : Type 0} (call : Question F A (Option B)) (Q : B → Type 0)
    → ((p q : F) (x : A) (y : B) → call p x (Some y) q → Q y)
    → (f g : F) (i : List (Answer A)) (o : List (Answer B)) → LeavesOut call f i o g → EachItem Q o
each_kept call Q answers f g i o =
    each_left call (λ x. ⊤) Q (λ p q x y any. answers p q x y) f g i o (each_any i)

-- `filter`: what its closure accepts.
pub each_accepted : {F A : Type 0} (g : Mut F (Bor A × Unit {0}) Bool) (P Q : A → Type 0)
    → ((p q : F) (x : A) → P x → CalledAt g p x true q → Q x)
    → (f h : F) (i o : List (Answer A)) → EachItem P i → LeavesOut (Accepts (CalledAt g)) f i o h → EachItem Q o
each_accepted g P Q accepts =
    each_left (Accepts (CalledAt g)) P Q (λ p q x y has called. rw called.0 (accepts p q x has called.1))

-- `map`, `enumerate`, `inspect` and `copied`.
pub each_replaced : {F A B : Type 0} (call : Question F A B) (P : A → Type 0) (Q : B → Type 0)
    → ((p q : F) (x : A) (y : B) → P x → call p x y q → Q y)
    → (f g : F) (i : List (Answer A)) (o : List (Answer B)) → EachItem P i → Replaces call f i o g → EachItem Q o
each_replaced call P Q = each_exchanged (Always call) P Q

-- `take`.
module _ {F A : Type 0} (is_over : F → Type 0) (after : Answer A → F → F) (P : A → Type 0) where
  pub each_cut : (f g : F) (i o : List (Answer A)) → EachItem P i → Cuts is_over after f i o g → EachItem P o
  each_cut f g i [] e h = tt
  each_cut f g i (b ∷ o) e (inl h) =
      rw h.1 (each_cut f g i o e h.2)
  each_cut f g i (b ∷ o) e (inr h) =
      let here = rw h.2 at e in
      each_cons P b h.1 o here (each_cut (after b f) g h.1 o (each_tail P b h.1 here) h.3)

-- `fuse`.
module _ {A : Type 0} (P : A → Type 0) where
  pub each_fused : (p q : Bool) (i o : List (Answer A)) → EachItem P i → FusesOn p i o q → EachItem P o
  each_fused true q i o e h = each_end P o h.1
  each_fused false false i o e h = rw h.0 e
  each_fused false true i o e h =
      let own = each_front P h.0 (end ∷ []) (rw h.2 at e) in
      rw h.4 (each_join P h.0 (end ∷ h.1) own (each_end P h.1 h.5))

  -- `chain`.
  pub each_joined : (p q : Turn) (i j o : List (Answer A)) → EachItem P i → EachItem P j → Joins p i j o q
      → EachItem P o
  each_joined First q i j o e d (inl h) = rw h.2 e
  each_joined First q i j o e d (inr h) =
      let own = each_front P h.own (end ∷ []) (rw h.through_end at e) in
      let after = each_cut is_done second_after P Second q j (h.next ∷ h.later) d h.followed in
      rw h.joined (each_join P h.own (h.next ∷ h.later) own after)
  each_joined Second q i j o e d h = each_cut is_done second_after P Second q j o d h.1
  each_joined Done q i j o e d h = each_cut is_done second_after P Done q j o d h.1

-- `flatten` and `flat_map`: `R` holds of each inner stream, and a stream of which it holds yields items with the fact.
module _ {B A : Type 0} (run : Runs (Answer A) B) (R : B → Type 0) (P : A → Type 0)
    (gives : (b c : B) (l : List (Answer A)) → R b → run b l c → EachItem P l) where
  pub each_flat : (i : List (Answer B)) (o : List (Answer A)) (last : Option B) → EachItem R i → Flat run i o last
      → EachItem P o
  each_flat [] (a ∷ o) last e h = absurd h
  each_flat (Ready (Some b) ∷ i) (a ∷ o) last e (inl h) = gives b h.2 (a ∷ o) e.0 h.3
  each_flat (Ready (Some b) ∷ i) (a ∷ o) last e (inr h) =
      let own = each_front P h.0 (end ∷ []) (gives b h.5 (h.0 ++ end ∷ []) e.0 h.6) in
      each_same P _ _ h.3 (each_join P h.0 (h.1 ∷ h.2) own (each_flat i (h.1 ∷ h.2) last e.1 h.7))
  each_flat (_ ∷ i) (a ∷ o) last e h = rw h.0 (each_flat i o last e h.1)
  each_flat _ [] last e h = tt

-- `then` and `cloned`: what is made of an item with the one fact yields items with the other.
module _ {F A V B : Type 0} (call : Question F A V) (gives : V → List (Answer B) → Option V → Type 0) (P : A → Type 0)
    (Q : B → Type 0)
    (made : (p q : F) (x : A) (v : V) (l : List (Answer B)) (left : Option V) → P x → call p x v q → gives v l left
    → EachItem Q l) where
  pub each_expanding : (f g : F) (i : List (Answer A)) (o : List (Answer B)) (last : Option V) → EachItem P i
      → Expands call gives f i o g last → EachItem Q o
  each_expanding f g [] (b ∷ o) last e h = absurd h
  each_expanding f g (Ready (Some x) ∷ i) (b ∷ o) last e (v, r, called, inl h) =
      made f r x v (b ∷ o) (Some h.2) e.0 called h.3
  each_expanding f g (Ready (Some x) ∷ i) (b ∷ o) last e (v, r, called, inr h) =
      each_same Q _ _ h.2 (each_join Q h.0 h.1 (made f r x v h.0 None e.0 called h.3)
      (each_expanding r g i h.1 last e.1 h.4))
  each_expanding f g (_ ∷ i) (b ∷ o) last e h = rw h.0 (each_expanding f g i o last e h.1)
  each_expanding f g _ [] last e h = tt

-- A future that is held returns `Pending`s and then its value, which has the fact.
module _ {V B : Type 0} (run : Runs (Poll B) V) (R : V → Type 0) (Q : B → Type 0)
    (finishes : (v : V) (ins : List (Poll B)) (y : B) → R v → Finishes run v ins y → Q y) where
  each_waiting : (ins : List (Poll B)) → Waiting ins → EachItem Q (map (handed Some) ins)
  each_waiting [] h = tt
  each_waiting (Pending ∷ ins) h = each_waiting ins h
  each_waiting (Ready y ∷ ins) h = absurd h

  each_value : (ins : List (Poll B)) (y : B) → Gives ins y → Q y → EachItem Q (map (handed Some) ins)
  each_value [] y g q = cc
  each_value (Pending ∷ ins) y g q = each_value ins y g q
  each_value (Ready z ∷ ins) y g q = rw (g.0, g.1) (q, tt)

  pub each_handed : (v : V) (o : List (Answer B)) (left : Option V) → R v → HandsOut run v o left → EachItem Q o
  each_handed v o None r h =
      let own = each_value h.ins h.value h.finishes.gives (finishes v h.ins h.value r h.finishes) in
      rw h.joined (each_join Q (map (handed Some) h.ins) h.after own (rw h.later tt))
  each_handed v o (Some w) r h = rw h.3 (each_waiting h.0 h.1)

-- `or` and `race`.
module _ {A : Type 0} (P : A → Type 0) where
  pub each_row : (i j : List (Answer A)) (c : Answer A) (i' j' : List (Answer A)) → EachItem P i → EachItem P j
      → MergeRow i j c i' j' → EachItem P (c ∷ []) × EachItem P i' × EachItem P j'
  each_row (Ready (Some x) ∷ i) j c i' j' e d h = rw (h.0, h.1, h.2) ((e.0, tt), e.1, d)
  each_row (Ready None ∷ i) (b ∷ j) c i' j' e d h =
      rw (h.0, h.1, h.2) (each_front P (b ∷ []) j d, e, each_tail P b j d)
  each_row (Pending ∷ i) (Ready (Some y) ∷ j) c i' j' e d h = rw (h.0, h.1, h.2) ((d.0, tt), e, d.1)
  each_row (Pending ∷ i) (_ ∷ j) c i' j' e d h = rw (h.0, h.1, h.2) (tt, e, d)
  each_row _ _ c i' j' e d h = absurd h

  pub each_merged : (order : List Bool) (i j o : List (Answer A)) → EachItem P i → EachItem P j
      → MergeRows order i j o → EachItem P o
  each_merged [] i j o e d h = cc
  each_merged (first ∷ order) i j [] e d h = tt
  each_merged (true ∷ order) i j (c ∷ o) e d h =
      let row = each_row i j c h.0 h.1 e d h.2 in
      each_cons P c [] o row.0 (each_merged order h.0 h.1 o row.1 row.2 h.3)
  each_merged (false ∷ order) i j (c ∷ o) e d h =
      let row = each_row j i c h.1 h.0 d e h.2 in
      each_cons P c [] o row.0 (each_merged order h.0 h.1 o row.2 row.1 h.3)

  -- `Pending`s have no items.
  pendings_each : (n : ℕ) (l : List (Answer A)) → EachItem P (pendings n l) ≡ EachItem P l
  pendings_each zero l = refl
  pendings_each (suc n) l = pendings_each n l

-- `zip`: a fact of each item of the first stream, and one of each item of the second.
module _ {A B : Type 0} (P : A → Type 0) (Q : B → Type 0) where
  pub each_paired : (i : List (Answer A)) (j : List (Answer B)) (o : List (Answer (A × B))) (last : Option A)
      → EachItem P i → EachItem Q j → Pairs i j o last → EachItem (λ z. P z.0 × Q z.1) o
  each_paired [] j o last e d h = cc
  each_paired (a ∷ i) j [] last e d h = tt
  each_paired (Ready (Some x) ∷ i) j (c ∷ o) last e d (inl h) =
      each_same (λ z. P z.0 × Q z.1) _ _ h.3 (rw pendings_each tt)
  each_paired (Ready (Some x) ∷ i) j (c ∷ o) last e d (inr (n, None, more, rest, came, went, follows)) =
      each_same (λ z. P z.0 × Q z.1) _ _ went
      (rw pendings_each (each_paired i more rest last e.1 (rw (came, pendings_each) at d) follows))
  each_paired (Ready (Some x) ∷ i) j (c ∷ o) last e d (inr (n, Some y, more, rest, came, went, follows)) =
      let after : EachItem Q (item y ∷ more) = rw (came, pendings_each) at d in
      each_same (λ z. P z.0 × Q z.1) _ _ went
      (rw pendings_each ((e.0, after.0), each_paired i more rest last e.1 after.1 follows))
  each_paired (_ ∷ i) j (c ∷ o) last e d h = rw h.0 (each_paired i j o last e d h.1)
