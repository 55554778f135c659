-- Laws about `fuse`: it cuts its source's results off at the first end of stream.
use Rattle.std.specs.Prelude.{◌≡◌, List, [], ◌∷◌, ◌++◌, Some, None, Bool, true, false}
use Rattle.lite_stream.specs.Uses.{◌∙◌, refl, inl, inr, ap, Ready, Pending, Sameness, Answer, end, until_end}
use Rattle.lite_stream.specs.Cutting.{Cuts}
use Rattle.lite_stream.specs.Fuse.{AllEnds, FusesOn}
use Rattle.lite_stream.specs.Laws.Agreeing.{AgreeingOver}
use Rattle.lite_stream.specs.Laws.Arming.{Arming}
use Rattle.lite_stream.specs.Laws.Calming.{Calming}
use Rattle.lite_stream.specs.Laws.Cutting.{cuts_agreeing, cuts_arming, cuts_calming, cuts_relating}
use Rattle.lite_stream.specs.Laws.Through.{Relating, relating_by}

-- Whether the result is the end of the stream.
abbrev pub is_end : {A : Type 0} → Answer A → Bool
is_end Pending = false
is_end (Ready None) = true
is_end (Ready (Some x)) = false

-- It is over if the last result of the source was the end of the stream.
abbrev pub is_over_after : Bool → Type 0
is_over_after ended = ended ≡ true

-- Whether this result is the end of the stream, whatever was before.
abbrev pub ended_after : {A : Type 0} → Answer A → Bool → Bool
ended_after b before = is_end b

not_ended : false ≡ true → ⊥
not_ended e = cc

pends : (A : Type 0) (f : Bool) → (is_over_after f → ⊥) → ended_after {A = A} Pending f ≡ f
pends A true n = absurd (n refl)
pends A false n = refl

module _ {A : Type 0} where
  -- A result that is no end of stream may be put in front of both lists.
  fuses_more : (b : Answer A) (i o : List (Answer A)) (g : Bool)
      → ((l : List (Answer A)) → until_end (b ∷ l) ≡ b ∷ until_end l) → FusesOn false i o g
      → FusesOn false (b ∷ i) (b ∷ o) g
  fuses_more b i o false goes h = (ap (λ l. b ∷ l) h.0, goes i ∙ ap (λ l. b ∷ l) h.1)
  fuses_more b i o true goes h =
      (b ∷ h.0, h.1, ap (λ l. b ∷ l) h.2, goes h.0 ∙ ap (λ l. b ∷ l) h.3, ap (λ l. b ∷ l) h.4, h.5)

  after_end : (i o : List (Answer A)) (f g : Bool) → f ≡ true → Cuts is_over_after ended_after f i o g → (i ≡ [])
      × AllEnds o × (g ≡ true)
  after_end i [] f g e c = (c.0, tt, c.1 ∙ e)
  after_end i (b ∷ o) f g e (inl c) = let d = after_end i o f g e c.2 in (d.0, (c.1, d.1), d.2)
  after_end i (b ∷ o) f g e (inr c) = absurd (c.0 e)

  met_end : (i o : List (Answer A)) (g : Bool) → (i ≡ []) × AllEnds o × (g ≡ true) → FusesOn false (end ∷ i) (end ∷ o) g
  met_end i o true h = ([], o, ap (λ l. end ∷ l) h.0, refl, refl, h.1)
  met_end i o false h = cc

  of_cut : (i o : List (Answer A)) (g : Bool) → Cuts is_over_after ended_after false i o g → FusesOn false i o g
  of_cut i [] g c = rw c.0 (rw c.1 (refl, refl))
  of_cut i (b ∷ o) g (inl c) = absurd (not_ended c.0)
  of_cut i (Pending ∷ o) g (inr c) =
      rw c.2 (fuses_more Pending c.1 o g (λ l. refl) (of_cut c.1 o g c.3))
  of_cut i (Ready None ∷ o) g (inr c) = rw c.2 (met_end c.1 o g (after_end c.1 o true g refl c.3))
  of_cut i (Ready (Some x) ∷ o) g (inr c) =
      rw c.2 (fuses_more _ c.1 o g (λ l. refl) (of_cut c.1 o g c.3))

  of_cuts : (f g : Bool) (i o : List (Answer A)) → Cuts is_over_after ended_after f i o g → FusesOn f i o g
  of_cuts true g i o c = after_end i o true g refl c
  of_cuts false g i o c = of_cut i o g c

  ends_cut : (i o : List (Answer A)) (g : Bool) → i ≡ [] → AllEnds o → g ≡ true
      → Cuts is_over_after ended_after true i o g
  ends_cut i [] g e a d = (e, d)
  ends_cut i (b ∷ o) g e a d = inl (refl, a.0, ends_cut i o g e a.1 d)

  -- The source's results through the first end, and the ends after them, are cut off as `Cuts` says.
  own_cut : (i own later : List (Answer A)) → i ≡ own ++ end ∷ [] → until_end own ≡ own → AllEnds later
      → Cuts is_over_after ended_after false i (own ++ end ∷ later) true
  own_cut i [] later e u a = inr (not_ended, [], e, ends_cut [] later true refl a refl)
  own_cut i (Ready None ∷ own) later e u a = cc
  own_cut i (b ∷ own) later e u a =
      inr (not_ended, own ++ end ∷ [], e, own_cut (own ++ end ∷ []) own later refl (cc u) a)

  -- Results without an end of stream are passed on as they are.
  all_cut : (i : List (Answer A)) → until_end i ≡ i → Cuts is_over_after ended_after false i i false
  all_cut [] u = (refl, refl)
  all_cut (Ready None ∷ i) u = cc
  all_cut (a ∷ i) u = inr (not_ended, i, refl, all_cut i (cc u))

  to_cuts : (f g : Bool) (i o : List (Answer A)) → FusesOn f i o g → Cuts is_over_after ended_after f i o g
  to_cuts true g i o h = ends_cut i o g h.0 h.1 h.2
  to_cuts false false i o h = rw h.0 (all_cut i h.1)
  to_cuts false true i o h = rw h.4 (own_cut i h.0 h.1 h.2 h.3 h.5)

  pub fuses_relating : Relating (FusesOn {A = A})
  fuses_relating = relating_by to_cuts of_cuts (cuts_relating is_over_after ended_after)

  pub fuses_agreeing : (like : Sameness A) → AgreeingOver like like (FusesOn {A = A}) (λ f k. k ≡ f)
  fuses_agreeing like f k g l i j o p a r q =
      cuts_agreeing is_over_after ended_after (pends A) (λ x y h. refl) like f k g l i j o p a (to_cuts f g i o r)
      (to_cuts k l j p q)

  pub fuses_calming : Calming (FusesOn {A = A})
  fuses_calming f g i o r = cuts_calming is_over_after ended_after f g i o (to_cuts f g i o r)

  pub fuses_arming : Arming (FusesOn {A = A})
  fuses_arming f g i o r = cuts_arming is_over_after ended_after f g i o (to_cuts f g i o r)
