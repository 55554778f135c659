-- The items of `then` and `cloned`, which share one lemma, and of `flatten` and `flat_map`, which share another: these
-- adapters hold what was made of an item.
use Rattle.std.specs.Prelude.{◌≡◌, List, [], ◌∷◌, ◌++◌, map, refl, ⊤, Option, Some, None, Result, Ok, flat_map}
use Rattle.lite_views.specs.Uses.{inl, inr, ap, sym, subst, append-nil, Called, Mut, AllByRecursion, Bor, Poll, Ready, Pending, Answer, Gives}
use Rattle.lite_views.specs.Uses.{Waiting, end, Always, handed, Question, Runs, Flat, Expands, HandsOut, Exchanges}
use Rattle.lite_base.specs.Calling.{Calls}
use Rattle.lite_reshape.specs.Cloned.{Clones, ClonesAll, IsCloneRefusal, Refers, cloned_parts}
use Rattle.lite_reshape.specs.Expanding.{Expanding}
use Rattle.lite_reshape.specs.FlatMap.{FlatMaps}
use Rattle.lite_reshape.specs.Flatten.{Flattening, Flattens}
use Rattle.lite_reshape.specs.Inner.{flatten_parts}
use Rattle.lite_reshape.specs.Then.{Thens, then_parts}
use Rattle.lite_reshape.specs.declared.cloned.Cloned.{Cloned}
use Rattle.lite_reshape.specs.declared.flatten.Flatten.{Flatten}
use Rattle.lite_reshape.specs.declared.then.Then.{Then}
use Rattle.lite_reshape.specs.declared.flat_map.FlatMap.{FlatMap}
use Rattle.lite_views.proofs.Continuing.{continued_fits, endless_fits}
use Rattle.lite_views.proofs.Views.{Carries, listed, listed_through}
use Rattle.lite_views.specs.Views.{Fits, HasValue, Lists, ListsAs}

pub waiting_fits : {A : Type 0} (l : List (Answer A)) (xs : List A) → Waiting l → Fits l xs
waiting_fits [] xs w = tt
waiting_fits (Pending ∷ l) xs w = waiting_fits l xs w
waiting_fits (Ready a ∷ l) xs w = absurd w

-- one item, after any Pendings, and then what fits the rest of the list
pub given_fits : {A : Type 0} (own l : List (Answer A)) (y : A) (ys : List A) → Gives own (Some y) → Fits l ys
    → Fits (own ++ l) (y ∷ ys)
given_fits [] l y ys g e = absurd g
given_fits (Pending ∷ own) l y ys g e = given_fits own l y ys g e
given_fits (Ready None ∷ own) l y ys g e = cc
given_fits (Ready (Some z) ∷ own) l y ys g e = (let k = g.0 in cc, rw g.1 e)

-- where what is made of the item x gives Pendings while it is held, and before it is done the item h x
module _ {F A V B : Type 0} (call : Question F A V) (gives : V → List (Answer B) → Option V → Type 0) (h : A → B)
    (f : F)
    (makes : (x : A) (v : V) (g : F) → call f x v g
    → (g ≡ f) × ((out : List (Answer B)) (w : V) → gives v out (Some w) → Waiting out)
    × ((out : List (Answer B)) → gives v out None → Gives out (Some (h x)))) where
  expands_fits : (p q : F) (i : List (Answer A)) (o : List (Answer B)) (last : Option V) (xs : List A) → p ≡ f
      → Fits i xs → Expands call gives p i o q last → Fits o (map h xs)
  expands_fits p q [] (b ∷ o) last xs g e t = absurd t
  expands_fits p q (Pending ∷ i) (b ∷ o) last xs g e t = rw t.0 (expands_fits p q i o last xs g e t.1)
  expands_fits p q (Ready None ∷ i) (b ∷ o) last xs g e t = rw (t.0, e)
  expands_fits p q (Ready (Some x) ∷ i) (b ∷ o) last [] g e t = absurd e
  expands_fits p q (Ready (Some x) ∷ i) (b ∷ o) last (y ∷ xs) g e (v, r, called, inl held) =
      waiting_fits (b ∷ o) (map h (y ∷ xs)) ((makes x v r (rw (← g) called)).1 (b ∷ o) held.2 held.3)
  expands_fits p q (Ready (Some x) ∷ i) (b ∷ o) last (y ∷ xs) g e (v, r, called, inr done) =
      let m = makes x v r (rw (← g) called) in
      let rest = expands_fits r q i done.1 last xs m.0 e.1 done.4 in
      subst (λ l. Fits l (map h (y ∷ xs))) (sym done.2)
      (given_fits done.0 done.1 (h y) (map h xs) (rw (← e.0) (m.2 done.0 done.3)) rest)
  expands_fits p q _ [] last xs g e t = tt

  expanded_fits : (xs : List A) → Carries (Expanding call gives) (f, None) xs (map h xs)
  expanded_fits xs i o q = expands_fits f q.0 i o q.1 xs refl

-- `then`
pub waiting_handed : {B : Type 0} (ins : List (Poll B)) → Waiting ins → Waiting (map (handed {B = B} Some) ins)
waiting_handed [] w = tt
waiting_handed (Pending ∷ ins) w = waiting_handed ins w
waiting_handed (Ready x ∷ ins) w = absurd w

pub gives_handed : {B : Type 0} (ins : List (Poll B)) (v : B) → Gives ins v → Gives (map (handed Some) ins) (Some v)
gives_handed [] v g = absurd g
gives_handed (Pending ∷ ins) v g = gives_handed ins v g
gives_handed (Ready x ∷ ins) v g = (ap Some g.0, ap (map (handed Some)) g.1)

awaited_fits : {F A V B : Type 0} (call : Question F A V) (run : Runs (Poll B) V) (h : A → B) (f : F)
    → ((x : A) (v : V) (g : F) → call f x v g → (g ≡ f) × HasValue run v (h x))
    → (xs : List A) → Carries (Expanding call (HandsOut run)) (f, None) xs (map h xs)
unfolding HasValue
awaited_fits call run h f acts =
    expanded_fits call (HandsOut run) h f
    (λ x v g c.
    let a = acts x v g c in (
      a.0,
      λ out w s. rw s.3 (waiting_handed s.0 s.1),
      λ out s.
          rw (s.joined, s.later, append-nil, ← a.1 s.ins s.value s.finishes)
          (gives_handed s.ins s.value s.finishes.gives),
    ))

pub awaited_lists : {S F V A B : Type 0} (run : Runs (Answer A) S) (g : Mut F (A × Unit {0}) V) (run' : Runs (Poll B) V)
    (x : Then S F V) (h : A → B) (xs : List A) → x.future ≡ None → Lists run x.stream xs
    → ((y : A) (v : V) (k : F) → Called g x.f (y, tt) v k → (k ≡ x.f) × HasValue run' v (h y))
    → ListsAs (Thens run (Calls g) run') x (map h xs)
awaited_lists run g run' x h xs none lists makes =
    listed_through then_parts run (Expanding (Calls g) (HandsOut run')) x xs (map h xs) lists
    (rw none (awaited_fits (Calls g) run' h x.f makes xs))

-- `cloned`, where a clone is not refused and is equal
module _ {T E : Type 0} (is_clone : T → T → Type 0) (is_infallible : T → Type 0)
    (infallible : (x : T) → is_infallible x)
    (equal : (x y : T) → is_clone x y → y ≡ x) where
  none_refused : (v : Bor T) (l : List (Answer (Result T E)))
      → AllByRecursion (IsCloneRefusal is_clone is_infallible v) l → l ≡ []
  none_refused v [] s = refl
  none_refused v (a ∷ l) s = absurd (s.0.0 (infallible v.now))

  abbrev clone_shown : Bor T → Result T E
  clone_shown x = Ok x.now

  cloned_fits : (xs : List (Bor T))
      → Carries (Expanding Refers (Clones is_clone is_infallible)) (tt, None) xs (map clone_shown xs)
  cloned_fits =
      expanded_fits Refers (Clones is_clone is_infallible) clone_shown tt
      (λ x v g c. (
        refl,
        λ out w s. rw (none_refused v out s.0) tt,
        λ out s. rw (s.4, none_refused v s.0 s.2, ← c) (ap (λ z. Some (Ok z)) (equal v.now s.1 s.3), refl),
      ))

  pub cloned_lists : {S : Type 0} (run : Runs (Answer (Bor T)) S) (x : Cloned S (Bor T)) (xs : List (Bor T))
      → x.held ≡ None → Lists run x.stream xs
      → ListsAs (ClonesAll {E = E} is_clone is_infallible run) x (map (λ y. Ok y.now) xs)
  cloned_lists run x xs none lists =
      listed_through cloned_parts run (Expanding Refers (Clones is_clone is_infallible)) x xs (map clone_shown xs) lists
      (rw none (cloned_fits xs))

-- `flatten` and `flat_map`: the answers, up to their first end, are streams, each with the list that h makes of the
-- item in its place
module _ {A V B : Type 0} (run : Runs (Answer B) V) (h : A → List B) where
  abbrev pub Makes : List (Answer V) → List A → Type 0
  Makes [] xs = ⊤
  Makes (Pending ∷ l) xs = Makes l xs
  Makes (Ready None ∷ l) xs = xs ≡ []
  Makes (Ready (Some v) ∷ l) [] = ⊥
  Makes (Ready (Some v) ∷ l) (x ∷ xs) = Lists run v (h x) × Makes l xs

  pub flat_fits : (m : List (Answer V)) (o : List (Answer B)) (last : Option V) (xs : List A) → Makes m xs
      → Flat run m o last → Fits o (flat_map h xs)
  unfolding Lists
  flat_fits [] (b ∷ o) last xs e t = absurd t
  flat_fits (Pending ∷ m) (b ∷ o) last xs e t = rw t.0 (flat_fits m o last xs e t.1)
  flat_fits (Ready None ∷ m) (b ∷ o) last xs e t = rw (t.0, e)
  flat_fits (Ready (Some v) ∷ m) (b ∷ o) last [] e t = absurd e
  flat_fits (Ready (Some v) ∷ m) (b ∷ o) last (x ∷ xs) e (inl t) =
      endless_fits (b ∷ o) (h x) (flat_map h xs) t.1 (e.0 (b ∷ o) t.2 t.3)
  flat_fits (Ready (Some v) ∷ m) (b ∷ o) last (x ∷ xs) e (inr (own, a, rest, out, endless, c, ran, more)) =
      subst (λ l. Fits l (flat_map h (x ∷ xs))) (sym out)
      (continued_fits own (a ∷ rest) (h x) (flat_map h xs) endless (e.0 (own ++ end ∷ []) c ran)
      (flat_fits m (a ∷ rest) last xs e.1 more))
  flat_fits _ [] last xs e t = tt

  -- by a function
  module _ {F : Type 0} (call : Question F A V) (f : F) where
    called_makes : (p q : F) → ((x : A) (v : V) (g : F) → call f x v g → (g ≡ f) × Lists run v (h x))
        → (i : List (Answer A)) (m : List (Answer V)) (xs : List A) → p ≡ f → Fits i xs
        → Exchanges (Always call) p i m q → Makes m xs
    called_makes p q acts [] (b ∷ m) xs g e t = absurd t
    called_makes p q acts (Pending ∷ i) (b ∷ m) xs g e t = rw t.0 (called_makes p q acts i m xs g e t.1)
    called_makes p q acts (Ready None ∷ i) (b ∷ m) xs g e t = rw t.0 e
    called_makes p q acts (Ready (Some x) ∷ i) (b ∷ m) [] g e t = absurd e
    called_makes p q acts (Ready (Some x) ∷ i) (b ∷ m) (y ∷ xs) g e (None, r, same, called, more) = absurd called
    called_makes p q acts (Ready (Some x) ∷ i) (b ∷ m) (y ∷ xs) g e (Some v, r, same, called, more) =
        let a = acts x v r (rw (← g) called) in
        rw (same, ← e.0) (a.1, called_makes r q acts i m xs a.0 e.1 more)
    called_makes p q acts _ [] xs g e t = tt

pub flat_mapped_lists : {S F V A B : Type 0} (run : Runs (Answer A) S) (g : Mut F (A × Unit {0}) V)
    (run' : Runs (Answer B) V)
    (h : A → List B) (x : FlatMap S V F) (xs : List A) → x.inner_stream ≡ None → Lists run x.stream.stream xs
    → ((y : A) (inner : V) (k : F) → Called g x.stream.f (y, tt) inner k → (k ≡ x.stream.f) × Lists run' inner (h y))
    → ListsAs (FlatMaps run g run') x (flat_map h xs)
unfolding Lists
flat_mapped_lists run g run' h x xs none lists makes =
    listed (FlatMaps run g run') x (flat_map h xs)
    (λ l t r. flat_fits run' h r.ins l t.inner_stream xs
    (called_makes run' h (Calls g) x.stream.f x.stream.f t.stream.f makes r.came.ins r.ins xs refl
    (lists r.came.ins t.stream.stream r.came.came) r.came.related) (rw none at r.related))

-- the streams themselves are the items
module _ {V B : Type 0} (run : Runs (Answer B) V) (h : V → List B) (lists : (v : V) → Lists run v (h v)) where
  itself_makes : (m : List (Answer V)) (xs : List V) → Fits m xs → Makes run h m xs
  itself_makes [] xs e = tt
  itself_makes (Pending ∷ m) xs e = itself_makes m xs e
  itself_makes (Ready None ∷ m) xs e = e
  itself_makes (Ready (Some v) ∷ m) [] e = absurd e
  itself_makes (Ready (Some v) ∷ m) (x ∷ xs) e = (rw (← e.0) (lists v), itself_makes m xs e.1)

  flattened_fits : (xs : List V) → Carries (Flattening run) None xs (flat_map h xs)
  flattened_fits xs i o q e = flat_fits run h i o q xs (itself_makes i xs e)

pub flattened_lists : {S V B : Type 0} (run : Runs (Answer B) V) (outer : Runs (Answer V) S) (x : Flatten S V)
    (h : V → List B) (xs : List V) → x.inner_stream ≡ None → Lists outer x.stream xs → ((v : V) → Lists run v (h v))
    → ListsAs (Flattens run outer) x (flat_map h xs)
flattened_lists run outer x h xs none lists inner =
    listed_through flatten_parts outer (Flattening run) x xs (flat_map h xs) lists
    (rw none (flattened_fits run h inner xs))
