-- What `LineDelimited` writes comes back.
use Rattle.std.specs.Prelude.{◌≡◌, ◌≤◌, ℕ, List, [], ◌∷◌, ◌++◌, length}
use Rattle.std.proofs.Common.{ap, append_assoc, arith, sym, ◌∙◌}
use Rattle.std.proofs.lemmas.List.{append_cancel_right}
use Rattle.bytes.specs.Filled.{Filled}
use Rattle.framed.specs.Uses.{without_return}
use Rattle.lent_frames.specs.Cutting.{OneFrame}
use Rattle.framed.specs.FrameErrors.{SaysOutOfMemory}
use Rattle.framed.specs.LineDelimited.{HasNoNewline, IsLongLine, LineOf, gives_line_delimited, no_line_empty, with_newline}
use Rattle.framed.specs.Heads.{longer_text}
use Rattle.framed.specs.Pieces.{up_to_delimiter}
use Rattle.framed.specs.PiecesBack.{pieces_back}
use Rattle.framed.specs.RoundTrip.{RoundTripLaws}
use Rattle.framed.specs.declared.frame_error.FrameError.TheVariants.{CutOff, Io}
use Rattle.framed.specs.declared.line_delimited.LineDelimited.{LineDelimited}

-- A line and the bytes behind it are no other line with other bytes behind.
one_line : (a b p q : List ℕ) → HasNoNewline a → HasNoNewline b → with_newline a ++ p ≡ with_newline b ++ q → (a ≡ b) × (p ≡ q)
one_line a b p q h k e =
    up_to_delimiter 10 a b p q h k (sym (append_assoc a (10 ∷ []) p) ∙ e ∙ append_assoc b (10 ∷ []) q)

pub one_line_cut : OneFrame LineOf
one_line_cut c v w front other rest more (text, none, _, item, is) (line, lacks, _, found, there) same =
    let parts = one_line text line rest more none lacks (ap (λ l. l ++ rest) (sym is) ∙ same ∙ ap (λ l. l ++ more) there) in
    (item ∙ ap without_return parts.0 ∙ sym found, is ∙ ap with_newline parts.0 ∙ sym there)

-- What is written for a text comes back, if the decoder allows as much as the encoder.
module _ {X : Type 0} (text : X → List ℕ) where
  -- What is written for an item `x`.
  abbrev pub EncodedText : LineDelimited → X → List ℕ → LineDelimited → Type 0
  EncodedText c x frame b = LineOf c (text x) frame × (frame ≡ with_newline (text x)) × (b ≡ c)

  -- The decoder `d` allows as long a line as the encoder `c`.
  abbrev pub AllowsAsLong : LineDelimited → List X → LineDelimited → Type 0
  AllowsAsLong c xs d = c.max ≤ d.max

  -- The text of a line that was written is the item.
  written_text : (c : LineDelimited) (x : X) (frame : List ℕ) → LineOf c (text x) frame → frame ≡ with_newline (text x)
      → HasNoNewline (text x) × (length (text x) ≤ c.max) × (text x ≡ without_return (text x))
  written_text c x frame (t, none, fits, item, is) frame_is =
      let same : t ≡ text x = append_cancel_right t (text x) (10 ∷ []) (sym is ∙ frame_is) in
      (rw same at none, rw same at fits, item ∙ ap without_return same)

  pub line_back : RoundTripLaws EncodedText gives_line_delimited (λ cause e. e ≡ Io cause) AllowsAsLong (λ x v. v.items ≡ text x)
  line_back =
      pieces_back {V = Filled} (λ c v. LineOf c v.items) IsLongLine SaysOutOfMemory (λ e. e ≡ CutOff) EncodedText (λ cause e. e ≡ Io cause)
      AllowsAsLong (λ x v. v.items ≡ text x) (record {
        written = λ c x xs d frame b within (line, is, same).
            let t = written_text c x frame line is in
            record {
              whole = (record { items = text x; spare = 0 }, (text x, t.0, omega (arith, t.1, within), t.2, is));
              one = λ v front more rest (found, none, short, item, front_is) here.
                  let o = one_line (text x) found more rest t.0 none (ap (λ l. l ++ more) (sym is) ∙ here ∙ ap (λ l. l ++ rest) front_is) in
                  (item ∙ ap without_return (sym o.0) ∙ sym t.2, sym o.1);
              right = λ e front more rest (none, long, _) here.
                  longer_text 10 (text x) front more rest none (omega (arith, long, t.1, within))
                  (sym (append_assoc (text x) (10 ∷ []) more) ∙ ap (λ l. l ++ more) (sym is) ∙ here);
              others = rw same within;
            };
        some = λ d v. no_line_empty d v.items;
        none_refused = λ d e (none, long, _). omega (arith, long);
        lacking = λ e lacks. lacks;
      })
