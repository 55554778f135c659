-- A list of answers that is one longer is spelled with a comma more.
use Rattle.std.proofs.Common.{◌≡◌, ℕ, ◌<◌, List, [], ◌∷◌, ◌++◌, length, map, refl, sym, ap, ◌∙◌, arith, append_assoc}
use Rattle.std.specs.List.{join_with_byte}
use Rattle.std.proofs.lemmas.List.{map-append}
use Rattle.std.proofs.Math.ListN.{length-map}
use Rattle.lite_base.specs.Answers.{Answer}
use Rattle.pollrun.specs.Spelling.{spelled, spelled_list}

join_more : (c : ℕ) (ys : List (List ℕ)) (x : List ℕ) → 0 < length ys
    → join_with_byte c (ys ++ x ∷ []) ≡ join_with_byte c ys ++ c ∷ x
join_more c [] x l = absurd (omega (arith, l))
join_more c (y ∷ []) x l = refl
join_more c (y ∷ z ∷ ys) x l = ap (λ v. y ++ c ∷ v) (join_more c (z ∷ ys) x (omega arith))
    ∙ sym (append_assoc y (c ∷ join_with_byte c (z ∷ ys)) (c ∷ x))

module _ {A : Type 0} (text : A → List ℕ) where
  pub spelled_list-more : (l : List (Answer A)) (a : Answer A) → 0 < length l
      → spelled_list text (l ++ a ∷ []) ≡ spelled_list text l ++ 44 ∷ spelled text a
  spelled_list-more l a long =
      let several : 0 < length (map (spelled text) l) = rw length-map long in
      ap (join_with_byte 44) (map-append (spelled text) l (a ∷ []))
      ∙ join_more 44 (map (spelled text) l) (spelled text a) several

  pub spelled_list-first : (l : List (Answer A)) (a : Answer A) → length l ≡ 0
      → spelled_list text (l ++ a ∷ []) ≡ spelled_list text l ++ spelled text a
  spelled_list-first [] a e = refl
  spelled_list-first (b ∷ l) a e = absurd (omega (arith, e))
