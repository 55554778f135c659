-- Laws about what `unfold` and `try_unfold` share.
use Rattle.std.specs.Prelude.{◌≡◌, List, [], ◌∷◌, ◌++◌, Option, Some, None}
use Rattle.lite_source.specs.Uses.{inl, inr, refl, sym, Mut, FoldsTo, Poll, Ready, Pending, Answer, end, folds_follow, same_hint, StreamLaws}
use Rattle.lite_source.specs.Uses.{MakesAlways, FutureLaws, NoHint, RunLaws, Runs, always_mut, laws_of, makes_on, mut_next, subst}
use Rattle.std.proofs.lemmas.Grind.{flat_map-append}
use Rattle.std.specs.List.{flat_map}
use Rattle.lite_source.specs.Unfolding.{Holding, IfHeldFuture, IsCurrent, Leads, UnfoldPart, UnfoldStep, Unfolds, comes}

module _ {F S V O B : Type 0} (call : Mut F (S × Unit {0}) V) (gives : Runs (Poll O) V) (after : O → Option S)
    (shown : O → Option B) where
  stays_by : (x y : F × Holding S V) (parts : List (Answer B × List (Answer B)))
      → FoldsTo (λ s part t. UnfoldPart call gives after shown s.0 s.1 (part.0 ∷ part.1) t.0 t.1) x parts y
      → [] ≡ flat_map (λ part. part.0 ∷ part.1) parts → y ≡ x
  stays_by x y [] h e = sym h
  stays_by x y (part ∷ parts) h e = cc

  -- The laws of the runs of a source that holds such a pair and nothing else.
  pub unfolds_runs : {X : Type 0} (pair : X → F × Holding S V) → ((x y : X) → pair y ≡ pair x → y ≡ x)
      → RunLaws (λ x l y. Unfolds call gives after shown (pair x) l (pair y))
  unfolds_runs pair same =
      record {
        rests = λ x. ([], refl, refl);
        stays = λ x y h. same x y (stays_by (pair x) (pair y) h.0 h.1 h.2);
        follows = λ x y z l m h k. (
          h.0 ++ k.0,
          folds_follow _ (pair x) (pair y) (pair z) h.0 k.0 h.1 k.1,
          rw (h.2, k.2, flat_map-append),
        );
      }

  -- If the future is pending, so is the source.
  module _ (p q : F) (x : Holding S V) where
    pub unfolds_wait : (next : Holding S V) → UnfoldStep call gives p x Pending q next
        → Unfolds call gives after shown (p, x) (Pending ∷ []) (q, next)
    unfolds_wait next h =
        ((Pending, []) ∷ [], ((q, next), inl (h.0, Pending ∷ [], h.2, inl (h.1, tt, h.3, h.4), refl), refl), refl)

    -- If the future returns its value, its item is yielded.
    pub unfolds_value : (y next : Holding S V) (o : O) → UnfoldStep call gives p x (Ready (Some o)) q y
        → next ≡ comes (after o) → Unfolds call gives after shown (p, x) (Ready (shown o) ∷ []) (q, next)
    unfolds_value y next o h e =
        ((Ready _, []) ∷ [], ((q, next), inl (h.0, Ready o ∷ [], h.1, inr (o, h.2, e), refl), refl), refl)

    -- If no future is left, the stream has ended.
    pub unfolds_over : (next : Holding S V) → UnfoldStep call gives p x (Ready None) q next
        → Unfolds call gives after shown (p, x) (end ∷ []) (q, next)
    unfolds_over next h = ((end, []) ∷ [], ((q, next), inr (h.0, h.1, ((refl, tt), h.2)), refl), refl)

  -- The results that a poll of the future leads to.
  pub ruleset unfolds_rules = (unfolds_wait, unfolds_over)

-- The function may always be called, what it makes may be polled, and so may the future that is held.
abbrev pub CanUnfold : {F S V : Type 0} → Mut F (S × Unit {0}) V → (V → Type 0) → F × Holding S V → Type 0
CanUnfold call can_poll x = always_mut call x.0 × MakesAlways call can_poll x.0 × IfHeldFuture x.1 can_poll

module _ {F S V O B : Type 0} (call : Mut F (S × Unit {0}) V) (gives : Runs (Poll O) V) (after : O → Option S)
    (shown : O → Option B) {can_poll : V → Type 0} (laws : FutureLaws can_poll gives) where
  current_on : (p q : F) (x : Holding S V) (v : V) → CanUnfold call can_poll (p, x) → IsCurrent call p x q v
      → always_mut call q × MakesAlways call can_poll q × can_poll v
  current_on p q (Holding.Seed s) v c h =
      let made = makes_on call can_poll p (s, tt) v q c.1 h in
      (mut_next call p (s, tt) v q q h refl c.0, made.1, made.0)
  current_on p q (Holding.Asked w) v c h = rw (h.0, h.1) c
  current_on p q Holding.Over v c h = absurd h

  comes_on : (s : Option S) → IfHeldFuture (comes s) can_poll
  comes_on None = tt
  comes_on (Some s) = tt

  leads_on : (v : V) (ins : List (Poll O)) (next : Holding S V) → can_poll v
      → Leads call gives after shown v ins next → IfHeldFuture next can_poll
  leads_on v ins next c (inl d) = rw d.3 (laws.waits_on v d.0 ins d.1 c d.2)
  leads_on v ins next c (inr d) = rw d.2 (comes_on (after d.0))

  part_on : (x y : F × Holding S V) (l : List (Answer B)) → CanUnfold call can_poll x
      → UnfoldPart call gives after shown x.0 x.1 l y.0 y.1 → CanUnfold call can_poll y
  part_on x y l c (inl h) =
      let k = current_on x.0 y.0 x.1 h.0 c h.2 in (k.0, k.1, leads_on h.0 h.1 y.1 k.2 h.3)
  part_on x y l c (inr h) = rw (h.1, h.2.1) (c.0, c.1, tt)

  parts_on : (x y : F × Holding S V) (parts : List (Answer B × List (Answer B))) → CanUnfold call can_poll x
      → FoldsTo (λ s part t. UnfoldPart call gives after shown s.0 s.1 (part.0 ∷ part.1) t.0 t.1) x parts y
      → CanUnfold call can_poll y
  parts_on x y [] c h = subst (CanUnfold call can_poll) h c
  parts_on x y (part ∷ parts) c h = parts_on h.0 y parts (part_on x h.0 _ c h.1) h.2

  -- The laws of a source that holds such a pair and nothing else.
  pub unfolds_laws : {X : Type 0} (pair : X → F × Holding S V) → ((x y : X) → pair y ≡ pair x → y ≡ x)
      → StreamLaws (λ x. CanUnfold call can_poll (pair x)) (λ x l y. Unfolds call gives after shown (pair x) l (pair y)) NoHint
  unfolds_laws pair same =
      laws_of (unfolds_runs call gives after shown pair same) (λ x y hint l e h. same_hint hint (0, None) l e tt)
      (λ x y l c h. parts_on (pair x) (pair y) h.0 c h.1)
