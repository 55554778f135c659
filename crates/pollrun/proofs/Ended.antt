-- A script that is fused answers as the script that is cut before its first end.
use Rattle.std.proofs.Common.{◌≡◌, List, [], ◌∷◌, ◌++◌, Bool, true, false, Some, None, refl, sym, ap, subst, ◌∙◌}
use Rattle.futures.specs.declared.task.Poll.TheVariants.{Ready, Pending}
use Rattle.lite_base.specs.Answers.{Answer, end, until_end}
use Rattle.lite_source.specs.Script.{GivesScript}
use Rattle.lite_stream.specs.Fuse.{AllEnds, FusesOn}
use Rattle.lite_stream.specs.Through.{Through}

module _ {A : Type 0} where
  -- an answer that begins a list without an end is no end
  until_end-kept : (a : Answer A) (l m : List (Answer A)) → until_end (a ∷ l) ≡ a ∷ l
      → until_end (a ∷ m) ≡ a ∷ until_end m
  until_end-kept Pending l m e = refl
  until_end-kept (Ready None) l m e = absurd (cc e)
  until_end-kept (Ready (Some x)) l m e = refl

  until_end-tail : (a : Answer A) (l : List (Answer A)) → until_end (a ∷ l) ≡ a ∷ l → until_end l ≡ l
  until_end-tail a l e = let kept = until_end-kept a l l e in cc (kept, e)

  no_end_first : (a : Answer A) (l : List (Answer A)) → until_end (a ∷ l) ≡ a ∷ l → a ≡ end → ⊥
  no_end_first a l e same =
      let ended : until_end (end ∷ l) ≡ end ∷ l = subst (λ (v : Answer A). until_end (v ∷ l) ≡ v ∷ l) same e in cc ended

  -- the script's first answer is the one that was given, and is no end
  first_kept : (a b : Answer A) (s l : List (Answer A)) → a ≡ b → until_end (a ∷ l) ≡ a ∷ l
      → a ∷ until_end s ≡ until_end (b ∷ s)
  first_kept a b s l same e = sym (until_end-kept a l s e) ∙ ap (λ (v : Answer A). until_end (v ∷ s)) same

  given_before_end : (s l t : List (Answer A)) → GivesScript s l t → until_end l ≡ l → (rest : List (Answer A))
      × GivesScript (until_end s) l rest
  given_before_end s [] t came e = (until_end s, refl)
  given_before_end [] (a ∷ l) t came e = absurd (no_end_first a l e came.0)
  given_before_end (b ∷ s) (a ∷ l) t came e =
      let rest = given_before_end s l t came.1 (until_end-tail a l e) in (
        rest.0,
        subst (λ (v : List (Answer A)). GivesScript v (a ∷ l) rest.0) (first_kept a b s l came.0 e)
            (refl, rest.1),
      )

  given_ends : (l : List (Answer A)) → AllEnds l → GivesScript [] l []
  given_ends [] h = refl
  given_ends (a ∷ l) h = (h.0, given_ends l h.1)

  cut_first : (b : Answer A) (s : List (Answer A)) → end ≡ b → [] ≡ until_end (b ∷ s)
  cut_first b s same = ap (λ (v : Answer A). until_end (v ∷ s)) same

  given_past_end : (s own later t : List (Answer A)) → GivesScript s (own ++ end ∷ []) t → until_end own ≡ own
      → AllEnds later → GivesScript (until_end s) (own ++ end ∷ later) []
  given_past_end [] [] later t came e ends = (refl, given_ends later ends)
  given_past_end (b ∷ s) [] later t came e ends =
      subst (λ (v : List (Answer A)). GivesScript v (end ∷ later) []) (cut_first b s came.0)
      (refl, given_ends later ends)
  given_past_end [] (a ∷ own) later t came e ends = absurd (no_end_first a own e came.0)
  given_past_end (b ∷ s) (a ∷ own) later t came e ends =
      let rest = given_past_end s own later t came.1 (until_end-tail a own e) ends in
      subst (λ (v : List (Answer A)). GivesScript v (a ∷ (own ++ end ∷ later)) []) (first_kept a b s own came.0 e)
      (refl, rest)

  pub given_fused : (s l t : List (Answer A)) (done : Bool) → Through GivesScript FusesOn s false l t done
      → (rest : List (Answer A)) × GivesScript (until_end s) l rest
  given_fused s l t false h =
      let open_on = given_before_end s h.ins t h.came h.related.1 in
      (open_on.0, subst (λ (v : List (Answer A)). GivesScript (until_end s) v open_on.0) (sym h.related.0) open_on.1)
  given_fused s l t true h =
      let came : GivesScript s (h.related.0 ++ end ∷ []) t =
      subst (λ (v : List (Answer A)). GivesScript s v t) h.related.2 h.came in
      let past = given_past_end s h.related.0 h.related.1 t came h.related.3 h.related.5 in
      ([], subst (λ (v : List (Answer A)). GivesScript (until_end s) v []) (sym h.related.4) past)
