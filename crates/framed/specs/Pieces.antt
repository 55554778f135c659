-- Decoders that keep no state, by the bytes that a frame may have.
use Rattle.std.specs.Prelude.{◌≡◌, ◌≢◌, ◌⊎◌, ◌<◌, ℕ, List, [], ◌∷◌, ◌++◌, length, Some, None, Ok, Err}
use Rattle.std.specs.List.{All}
use Rattle.std.proofs.Common.{ap, append-nil, append_assoc, arith, refl, subst, sym, ◌∙◌}
use Rattle.std.proofs.lemmas.List.Elements.{All-head, All-tail}
use Rattle.tokio_util.specs.Codec.Next.{EndIsPartial, Gives, IsStable, PartialHasNoFrame, at_end, decoded, partial}
use Rattle.framed.specs.Dialogues.{FrameByFrame}
use Rattle.framed.specs.Prompt.{PromptLaws}
use Rattle.lent_frames.specs.Cutting.{Undecided}
use Rattle.bytes.specs.Filled.{Filled}

-- Fronts of one length of one list are the same, and so is what is behind them.
pub same_fronts : (h k p q : List ℕ) → length h ≡ length k → h ++ p ≡ k ++ q → (h ≡ k) × (p ≡ q)
same_fronts [] [] p q e c = (refl, c)
same_fronts [] (b ∷ k) p q e c = absurd (omega (arith, e))
same_fronts (a ∷ h) [] p q e c = absurd (omega (arith, e))
same_fronts (a ∷ h) (b ∷ k) p q e c =
    let first : a ≡ b = cc c in
    let others : h ++ p ≡ k ++ q = cc c in
    let rest = same_fronts h k p q (omega (arith, e)) others in
    (rw (first, rest.0) refl, rest.1)

-- Texts without the byte `delimiter`, up to the first one, are the same, and so is what is behind it.
pub up_to_delimiter : (delimiter : ℕ) (a b p q : List ℕ) → All (λ x. x ≢ delimiter) a → All (λ x. x ≢ delimiter) b → a ++ delimiter ∷ p ≡ b ++ delimiter ∷ q
    → (a ≡ b) × (p ≡ q)
up_to_delimiter delimiter [] [] p q h k e = (refl, cc e)
up_to_delimiter delimiter [] (y ∷ b) p q h k e =
    let first : delimiter ≡ y = cc e in absurd (All-head (λ x. x ≢ delimiter) y b k (sym first))
up_to_delimiter delimiter (x ∷ a) [] p q h k e =
    let first : x ≡ delimiter = cc e in absurd (All-head (λ x. x ≢ delimiter) x a h first)
up_to_delimiter delimiter (x ∷ a) (y ∷ b) p q h k e =
    let first : x ≡ y = cc e in
    let others : a ++ delimiter ∷ p ≡ b ++ delimiter ∷ q = cc e in
    let rest = up_to_delimiter delimiter a b p q (All-tail (λ x. x ≢ delimiter) x a h) (All-tail (λ x. x ≢ delimiter) y b k) others in
    (rw (first, rest.0) refl, rest.1)

-- An error that `lacks` says that memory was refused, and one that is `cut` that the input ended within a frame.
module _ {C V E : Type 0} (piece : C → V → List ℕ → Type 0) (refuses : C → List ℕ → E → Type 0) (lacks cut : E → Type 0) where
  -- What stops the decoder at the front of the bytes: bytes that it refuses, or a frame for which memory was refused.
  abbrev pub StopsPiece : C → List ℕ → E → Type 0
  StopsPiece c xs e = (front : List ℕ) × (rest : List ℕ) × (xs ≡ front ++ rest)
      × (refuses c front e ⊎ (lacks e × (v : V) × piece c v front))

  -- What such a decoder gives. A refusal takes no bytes.
  abbrev pub gives_pieces : Gives C V E
  gives_pieces c xs (decoded (Ok v) t ys) = (t ≡ c) × (front : List ℕ) × piece c v front × (xs ≡ front ++ ys)
  gives_pieces c xs (decoded (Err e) t ys) = (t ≡ c) × (ys ≡ xs) × StopsPiece c xs e
  gives_pieces c xs partial = Undecided piece refuses c xs
  gives_pieces c xs (at_end (Ok None) t ys) = (t ≡ c) × (ys ≡ xs) × (xs ≡ []) × Undecided piece refuses c xs
  gives_pieces c xs (at_end (Ok (Some v)) t ys) = ⊥
  gives_pieces c xs (at_end (Err e) t ys) = (t ≡ c) × (ys ≡ xs) × (0 < length xs) × cut e × Undecided piece refuses c xs

  -- The laws of a `Decoder` hold of it.
  pub pieces_stable : IsStable gives_pieces
  pieces_stable s xs (Ok v) t ys more h =
      (h.0, h.1, h.2, ap (λ l. l ++ more) h.3 ∙ append_assoc h.1 ys more)
  pieces_stable s xs (Err e) t ys more (same, kept, (front, rest, is, why)) =
      (same, ap (λ l. l ++ more) kept, (front, rest ++ more, ap (λ l. l ++ more) is ∙ append_assoc front rest more, why))

  pub pieces_partial : PartialHasNoFrame gives_pieces
  pieces_partial s xs v t ys none h = (none h.1 ys h.3).0 v h.2

  pub pieces_end : EndIsPartial gives_pieces
  pieces_end s xs (Ok None) t ys h = h.3
  pieces_end s xs (Ok (Some v)) t ys h = absurd h
  pieces_end s xs (Err e) t ys h = h.4

  -- Those of a prompt decoder hold if no frame is empty.
  pub pieces_prompt : ((c : C) (v : V) → piece c v [] → ⊥) → PromptLaws gives_pieces (λ _. 0)
  pieces_prompt some =
      record {
        alone = λ s xs v t ys h. (h.1, h.3, (h.0, h.1, h.2, sym (append-nil h.1)));
        owed = λ s v t h. absurd (none_empty s v t h);
        waits = λ s xs h. refl;
        last = λ s xs v t ys h. absurd h;
      }
    where
      no_front : (front : List ℕ) → [] ≡ front ++ [] → front ≡ []
      no_front [] e = refl
      no_front (b ∷ front) e = cc e

      none_empty : (s : C) (v : V) (t : C) → gives_pieces s [] (decoded (Ok v) t []) → ⊥
      none_empty s v t h = some s v (rw (no_front h.1 h.3) at h.2)

  -- What such a decoder gives in a session is frame by frame, since it keeps no state.
  pub pieces_by_frame : (c : C) → FrameByFrame (piece c) gives_pieces (λ d. d ≡ c)
  pieces_by_frame c =
      record {
        next = λ d xs v t ys is h. (h.0 ∙ is, (h.1, subst (λ e. piece e v h.1) is h.2, h.3));
        last = λ d xs v t ys is h. absurd h;
        end = λ d xs t ys is h. h.2;
      }

-- What is undecided by filled buffers and errors is undecided by lists of bytes and smaller errors.
pub by_bytes : {C E F : Type 0} (piece : C → List ℕ → List ℕ → Type 0) (refuses : C → List ℕ → F → Type 0) (as_error : E → F)
    (c : C) (xs : List ℕ) → Undecided {V = Filled} (λ d v. piece d v.items) refuses c xs
    → Undecided piece (λ d ys e. refuses d ys (as_error e)) c xs
by_bytes piece refuses as_error c xs h front rest is = (
  (λ v p. (h front rest is).0 (record { items = v; spare = 0 }) p),
  (λ e r. (h front rest is).1 (as_error e) r),
)
