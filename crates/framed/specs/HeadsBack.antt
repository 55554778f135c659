-- What is written with a head comes back.
use Rattle.std.specs.Prelude.{◌≡◌, ◌≤◌, ℕ, List, [], ◌∷◌, ◌++◌, length}
use Rattle.std.proofs.Common.{ap, append_assoc, arith, inl, inr, length-append, refl, sym, ◌∙◌}
use Rattle.bytes.specs.Filled.{Filled}
use Rattle.framed.specs.FrameErrors.{SaysOutOfMemory}
use Rattle.framed.specs.Heads.{HeadForm, HeadedFrame, RefusesHeaded, frame_behind, gives_headed, none_empty, refused_behind}
use Rattle.framed.specs.Pieces.{same_fronts}
use Rattle.framed.specs.PiecesBack.{pieces_back}
use Rattle.framed.specs.RoundTrip.{RoundTripLaws}
use Rattle.framed.specs.declared.frame_error.FrameError.{FrameError}
use Rattle.framed.specs.declared.frame_error.FrameError.TheVariants.{CutOff, Io}

-- `body` has the bytes of an item, and what is written for an item is a frame with them. `allows c d` says that a decoder `d`
-- reads all heads that an encoder `c` writes.
module _ {C X : Type 0} (f : HeadForm C) (body : X → List ℕ) (encodes : C → X → List ℕ → C → Type 0) (allows : C → C → Type 0)
    (frames : (c : C) (x : X) (frame : List ℕ) (b : C) → encodes c x frame b → HeadedFrame f c (body x) frame × (b ≡ c))
    (longer : (c d : C) → allows c d → f.longest c ≤ f.longest d)
    (reads : (c d : C) (text : List ℕ) (n : ℕ) → allows c d → f.says c text n → f.says d text n) where
  -- What the decoder `d` may read back.
  abbrev pub AllowsHeads : C → List X → C → Type 0
  AllowsHeads c xs d = allows c d

  -- The frame of an item is no other frame, nor is it refused.
  module _ (c d : C) (within : allows c d) (payload frame : List ℕ) (framed : HeadedFrame f c payload frame) where
    whole : HeadedFrame f d payload frame
    whole = let (text, head, number, is) = framed in
        (text, (omega (arith, head.0, longer c d within), head.1), reads c d text (length payload) within number, is)

    there : (more : List ℕ) → frame ++ more ≡ whole.0 ++ f.delimiter ∷ (payload ++ (f.tail ++ more))
    there more =
        let text = whole.0 in
        ap (λ l. l ++ more) whole.3 ∙ append_assoc text (f.delimiter ∷ (payload ++ f.tail)) more
        ∙ ap (λ l. text ++ f.delimiter ∷ l) (append_assoc payload f.tail more)

    one : (v front more rest : List ℕ) → HeadedFrame f d v front → frame ++ more ≡ front ++ rest → (v ≡ payload) × (rest ≡ more)
    one v front more rest h here =
        let w = frame_behind f d whole.0 (length payload) whole.1 whole.2 (payload ++ (f.tail ++ more)) front rest (sym (there more) ∙ here) v h in
        let parts = same_fronts payload v (f.tail ++ more) (f.tail ++ rest) (sym w.0) w.1 in
        (sym parts.0, sym (same_fronts f.tail f.tail more rest refl parts.1).1)

    right : (e : FrameError) (front more rest : List ℕ) → RefusesHeaded f d front e → frame ++ more ≡ front ++ rest → ⊥
    right e front more rest refused here =
        let (other_body, other, long, as_long, differs, is) =
        refused_behind f d whole.0 (length payload) whole.1 whole.2 (payload ++ (f.tail ++ more)) front rest (sym (there more) ∙ here) e refused in
        let parts = same_fronts payload other_body (f.tail ++ more) (other ++ rest) (sym long) is in
        differs (sym (same_fronts f.tail other more rest (sym as_long) parts.1).0)

  none_refused : (d : C) (e : FrameError) → RefusesHeaded f d [] e → ⊥
  none_refused d e (inl (_, long, _)) = omega (arith, long)
  none_refused d e (inr (inl (text, _, _, is))) = omega (arith, ap length is, length-append text (f.delimiter ∷ []))
  none_refused d e (inr (inr (text, b, other, _, _, _, _, _, is))) = omega (arith, ap length is, length-append text (f.delimiter ∷ (b ++ other)))

  pub headed_back : RoundTripLaws encodes (gives_headed f) (λ cause e. e ≡ Io cause) AllowsHeads (λ x v. v.items ≡ body x)
  headed_back =
      pieces_back {V = Filled} (λ c v. HeadedFrame f c v.items) (RefusesHeaded f) SaysOutOfMemory (λ e. e ≡ CutOff) encodes
      (λ cause e. e ≡ Io cause) AllowsHeads (λ x v. v.items ≡ body x) (record {
        written = λ c x xs d frame b within is.
            let (framed, same) = frames c x frame b is in
            record {
              whole = (record { items = body x; spare = 0 }, whole c d within (body x) frame framed);
              one = λ v front more rest h here. one c d within (body x) frame framed v.items front more rest h here;
              right = λ e front more rest refused here. right c d within (body x) frame framed e front more rest refused here;
              others = rw same within;
            };
        some = λ d v. none_empty f d v.items;
        none_refused = none_refused;
        lacking = λ e lacks. lacks;
      })
