-- The items of `unfold` and `try_unfold`.
use Rattle.std.specs.Prelude.{◌≡◌, List, [], ◌∷◌, ◌++◌, map, flat_map, refl, Option, Some, None, MatchOption, Result}
use Rattle.lite_views.specs.Uses.{Answer, Called, Finishes, FoldsTo, Gives, Mut, Pending, Poll, Ready, Runs, Waiting, handed, inl, inr, subst, sym}
use Rattle.lite_base.specs.FutureLaws.{FutureRunLaws}
use Rattle.lite_base.specs.Laws.Spent.{finishes_later}
use Rattle.lite_source.specs.TryUnfold.{TryUnfoldsBy, try_item_of, try_seed_of}
use Rattle.lite_source.specs.Unfold.{UnfoldsBy, item_of, seed_of}
use Rattle.lite_source.specs.Unfolding.{Holding, Leads, UnfoldPart, comes}
use Rattle.lite_source.specs.declared.try_unfold.TryUnfold.{TryUnfold}
use Rattle.lite_source.specs.declared.unfold.Unfold.{Unfold}
use Rattle.lite_views.specs.Unfold.{GoesOnWith, UnfoldsInto}
use Rattle.lite_views.specs.Views.{Fits, HasValue, ListsAs}
use Rattle.lite_views.proofs.Views.{listed}

module _ {F S V O B : Type 0} (call : Mut F (S × Unit {0}) V) {run : Runs (Poll O) V} (laws : FutureRunLaws run)
    (after : O → Option S) (shown : O → Option B) (f : F) where
  -- what comes of a held value is the list
  abbrev Stands : Holding S V → List B → Type 0
  Stands (Holding.Seed s) xs = UnfoldsInto call run after shown f s xs
  Stands (Holding.Asked v) xs =
      (ins : List (Poll O)) (o : O) → Finishes run v ins o → GoesOnWith call run after shown f xs o
  Stands Holding.Over xs = xs ≡ []

  -- after Pendings nothing has changed
  waiting_fits : (ins : List (Poll O)) (l : List (Answer B)) (xs : List B) → Waiting ins → Fits l xs
      → Fits (map (handed shown) ins ++ l) xs
  waiting_fits [] l xs w e = e
  waiting_fits (Pending ∷ ins) l xs w e = waiting_fits ins l xs w e
  waiting_fits (Ready o ∷ ins) l xs w e = absurd w

  value_fits : (ins : List (Poll O)) (o : O) (l : List (Answer B)) (xs : List B) → Gives ins o
      → Fits (Ready (shown o) ∷ l) xs → Fits (map (handed shown) ins ++ l) xs
  value_fits [] o l xs g e = absurd g
  value_fits (Pending ∷ ins) o l xs g e = value_fits ins o l xs g e
  value_fits (Ready w ∷ ins) o l xs g e = rw (g.0, g.1) e

  -- what a value says, and then what stands for the others
  next_fits : (o : O) (l : List (Answer B)) (xs : List B) → GoesOnWith call run after shown f xs o
      → ((ys : List B) → Stands (comes (after o)) ys → Fits l ys) → Fits (Ready (shown o) ∷ l) xs
  next_fits o l [] goes rest = rw goes refl
  next_fits o l (x ∷ xs) goes rest = rw goes.0 (refl, by (after o) goes.1 rest)
    where
      by : (next : Option S) → MatchOption next (xs ≡ []) (λ s. UnfoldsInto call run after shown f s xs)
          → ((ys : List B) → Stands (comes next) ys → Fits l ys) → Fits l xs
      by None none rest = rest xs none
      by (Some s) makes rest = rest xs makes

  -- the results of a future that was made: so far it is pending, or its value came
  led_fits : (v : V) (ins : List (Poll O)) (xs : List B) (next : Holding S V) (l : List (Answer B))
      → Stands (Holding.Asked v) xs → Leads call run after shown v ins next
      → ((ys : List B) → Stands next ys → Fits l ys) → Fits (map (handed shown) ins ++ l) xs
  led_fits v ins xs next l stands (inl (w, waiting, ran, is)) rest =
      waiting_fits ins l xs waiting
      (rest xs
      (rw is (λ later o finishes. stands (ins ++ later) o (finishes_later laws v w ins later o waiting ran finishes))))
  led_fits v ins xs next l stands (inr (o, finishes, is)) rest =
      value_fits ins o l xs finishes.gives (next_fits o l xs (stands ins o finishes) (rw is at rest))

  made_stands : (s : S) (xs : List B) (v : V) (g : F) → UnfoldsInto call run after shown f s xs
      → Called call f (s, tt) v g → (g ≡ f) × Stands (Holding.Asked v) xs
  unfolding HasValue
  made_stands s xs v g makes called =
      let made = makes v g called in (made.0, λ ins o finishes. rw (made.2 ins o finishes) made.3)

  abbrev part_step : F × Holding S V → Answer B × List (Answer B) → F × Holding S V → Type 0
  part_step s part t = UnfoldPart call run after shown s.0 s.1 (part.0 ∷ part.1) t.0 t.1

  unfolded_fits : (p q : F) (x next : Holding S V) (parts : List (Answer B × List (Answer B))) (xs : List B) → p ≡ f
      → Stands x xs
      → FoldsTo part_step (p, x) parts (q, next)
      → Fits (flat_map (λ part. part.0 ∷ part.1) parts) xs
  unfolded_fits p q x next [] xs same stands h = tt
  unfolded_fits p q (Holding.Seed s) next (c ∷ parts) xs same stands (m, inl (v, ins, called, leads, out), more) =
      let made = made_stands s xs v m.0 stands (rw same at called) in
      subst (λ l. Fits (l ++ flat_map (λ part. part.0 ∷ part.1) parts) xs) (sym out)
      (led_fits v ins xs m.1 (flat_map (λ part. part.0 ∷ part.1) parts) made.1 leads
      (λ ys there. unfolded_fits m.0 q m.1 next parts ys made.0 there more))
  unfolded_fits p q (Holding.Asked w) next (c ∷ parts) xs same stands (m, inl (v, ins, called, leads, out), more) =
      subst (λ l. Fits (l ++ flat_map (λ part. part.0 ∷ part.1) parts) xs) (sym out)
      (led_fits v ins xs m.1 (flat_map (λ part. part.0 ∷ part.1) parts) (rw called.0 stands) leads
      (λ ys there. unfolded_fits m.0 q m.1 next parts ys (rw called.1 same) there more))
  unfolded_fits p q Holding.Over next (c ∷ parts) xs same stands (m, inl (v, ins, called, leads, out), more) = absurd called
  unfolded_fits p q Holding.Over next (c ∷ parts) xs same stands (m, inr (is, stays, ends), more) =
      rw ends.0.0 stands
  unfolded_fits p q x next (c ∷ parts) xs same stands (m, inr (is, stays, ends), more) = cc

pub unfolded_lists : {F S V A : Type 0} (call : Mut F (S × Unit {0}) V) (run : Runs (Poll (Option (A × S))) V)
    (laws : FutureRunLaws run) (x : Unfold S F V) (s : S) (xs : List A) → x.state ≡ Holding.Seed s
    → UnfoldsInto call run seed_of item_of x.f s xs → ListsAs (UnfoldsBy call run) x xs
unfolded_lists call run laws x s xs first makes =
    listed (UnfoldsBy call run) x xs
    (λ l y h.
    rw h.2 (unfolded_fits call laws seed_of item_of x.f x.f y.f x.state y.state h.0 xs refl (rw first makes) h.1))

pub try_unfolded_lists : {F S V A E : Type 0} (call : Mut F (S × Unit {0}) V)
    (run : Runs (Poll (Result (Option (A × S)) E)) V)
    (laws : FutureRunLaws run) (x : TryUnfold S F V) (s : S) (xs : List (Result A E)) → x.state ≡ Holding.Seed s
    → UnfoldsInto call run try_seed_of try_item_of x.f s xs → ListsAs (TryUnfoldsBy call run) x xs
try_unfolded_lists call run laws x s xs first makes =
    listed (TryUnfoldsBy call run) x xs
    (λ l y h.
    rw h.2
    (unfolded_fits call laws try_seed_of try_item_of x.f x.f y.f x.state y.state h.0 xs refl (rw first makes) h.1))
