-- Encoding items one behind another.
use Rattle.std.specs.Prelude.{◌≡◌, ℕ, List, [], ◌∷◌, ◌++◌, refl}
use Rattle.std.proofs.Common.{◌∙◌, append-nil, append_assoc, ap, sym}
use Rattle.tokio_util.specs.Codec.Whole.{EncodesAll}

module _ {C X : Type 0} (encodes : C → X → List ℕ → C → Type 0) where
  pub encodes_push : (c d e : C) (xs : List X) (x : X) (bytes frame all : List ℕ) → EncodesAll encodes c xs bytes d
      → encodes d x frame e → all ≡ bytes ++ frame → EncodesAll encodes c (xs ++ x ∷ []) all e
  encodes_push c d e [] x bytes frame all h k is =
      (frame, e, [], rw (← h.1) k, is ∙ ap (λ l. l ++ frame) h.0 ∙ sym (append-nil frame), (refl, refl))
  encodes_push c d e (y ∷ xs) x bytes frame all h k is = (
    h.0,
    h.1,
    h.2 ++ frame,
    h.3,
    is ∙ ap (λ l. l ++ frame) h.4 ∙ append_assoc h.0 h.2 frame,
    encodes_push h.1 d e xs x h.2 frame (h.2 ++ frame) h.5 k refl,
  )

-- one item more
pub cut_on : {X : Type 0} (ys rest more : List X) (x : X) (all : List X) → all ≡ ys ++ rest → rest ≡ x ∷ more
    → all ≡ (ys ++ x ∷ []) ++ more
cut_on ys rest more x all h k = h ∙ ap (λ l. ys ++ l) k ∙ sym (append_assoc ys (x ∷ []) more)
