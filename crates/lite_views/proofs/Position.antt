-- The value of `position`, by the items of the stream.
use Rattle.std.specs.Prelude.{◌≡◌, ℕ, List, [], ◌∷◌, refl, Bool, true, false, cond, nat_lt, Option, Some, None, option_map}
use Rattle.std.proofs.Common.{◌<◌, ◌^◌, ◌+◌}
use Rattle.lite_views.specs.Uses.{◌∙◌, suc, length, inl, inr, ap, sym, arith, Question, fold_of, Answer, Consume, Folds, Hints, Lent, MutBor, Runs, StreamLaws}
use Rattle.lite_consume.specs.Position.{positions}
use Rattle.lite_consume.specs.declared.position.Position.{Position}
use Rattle.std.proofs.Math.Dec.{leb-suc-suc, leb-zero}
use Rattle.std.specs.List.{position, position_or_len}
use Rattle.lite_views.specs.Futures.{RestIfFound, behind_match}
use Rattle.lite_views.specs.Views.{Lists}
use Rattle.lite_views.specs.Answering.{WhenLeft}
use Rattle.lite_views.proofs.Views.{AnswersAs, answered}
use Rattle.lite_views.proofs.Consume.{MakesOnly, asked_left}

module _ {F A : Type 0} (asked : Question F A Bool) (f : F) (test : A → Bool)
    (acts : AnswersAs asked f test) where
  position_later : (x : A) (xs : List A) → test x ≡ false → position test (x ∷ xs) ≡ option_map suc (position test xs)
  position_later x xs h =
      let one : 1 + position_or_len test xs ≡ suc (position_or_len test xs) = omega arith in
      rw (h, one, leb-suc-suc (suc (position_or_len test xs)) (length xs))
      (one_more (nat_lt (position_or_len test xs) (length xs)) (position_or_len test xs))
    where
      one_more : (b : Bool) (n : ℕ) → cond b (Some (suc n)) None ≡ option_map suc (cond b (Some n) None)
      one_more true n = refl
      one_more false n = refl

  positioned_made : (p : Position F) (xs : List A) → p.predicate ≡ f → p.index + length xs < 2 ^ 64
      → MakesOnly (fold_of (λ m. (m.predicate, m.index)) (positions asked)) p xs
      (option_map (λ k. p.index + k) (position test xs))
  positioned_made p [] e b v (q, s) = s.0
  positioned_made p (x ∷ xs) e b v (inr (q, s)) =
      let a = answered asked f test acts p.predicate q.predicate x true e s.1 in
      s.0 ∙ rw (a.1, leb-suc-suc 0 (length xs) ∙ leb-zero (length xs)) (ap Some (omega arith))
  positioned_made p (x ∷ xs) e b v (inl (q, s, more)) =
      let a = answered asked f test acts p.predicate q.predicate x false e s.0 in
      positioned_made q xs a.0 (omega arith) v more ∙ from_next p.index q.index (position test xs)
      (let k = s.1 in omega arith) ∙ ap (option_map (λ k. p.index + k)) (sym (position_later x xs a.1))
    where
      from_next : (i j : ℕ) (o : Option ℕ) → j ≡ i + 1
          → option_map (λ k. j + k) o ≡ option_map (λ k. i + k) (option_map suc o)
      from_next i j None h = refl
      from_next i j (Some k) h = let e : j + k ≡ i + suc k = omega (arith, h) in ap (λ n. Some n) e

  pub position_made : (p : Position F) (xs : List A) → p.predicate ≡ f → p.index ≡ 0 → length xs < 2 ^ 64
      → MakesOnly (fold_of (λ m. (m.predicate, m.index)) (positions asked)) p xs (position test xs)
  position_made p xs e none small v s = positioned_made p xs e (omega arith) v s ∙ from_zero (position test xs)
    where
      from_zero : (o : Option ℕ) → option_map (λ k. p.index + k) o ≡ o
      from_zero None = refl
      from_zero (Some k) = let e : p.index + k ≡ k = omega (arith, none) in ap (λ n. Some n) e

  pub position_left : {S E : Type 0} {run : Runs (Answer A) S} {can_poll : S → Type 0} {hints : Hints S} (laws : StreamLaws can_poll run hints)
      (x : Consume (MutBor S) (Position F)) (xs : List A) → Lists run x.stream.now xs → x.folder.predicate ≡ f
      → x.folder.index ≡ 0 → length xs < 2 ^ 64
      → WhenLeft E (Folds (Lent run) (fold_of (λ m. (m.predicate, m.index)) (positions asked))) x
      (λ y. y.stream.ghost_name ≡ x.stream.ghost_name)
      (λ y v. (v ≡ position test xs) × RestIfFound run y.stream.now v (behind_match test xs))
  position_left laws x xs lists from none small =
      asked_left (fold_of (λ m. (m.predicate, m.index)) (positions asked)) (λ m. m.predicate) asked f test acts
      (behind_match test) (λ p q r s. s.0) (λ p q x xs s. (false, s.0, λ e. rw e))
      (λ p q x r xs s. (true, s.1, λ e. rw e)) laws x xs lists from (position test xs)
      (position_made x.folder xs from none small)
