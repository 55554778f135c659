-- What `LengthDelimited` writes comes back.
use Rattle.std.specs.Prelude.{◌≡◌, ◌≤◌, ◌<◌, ◌^◌, ℕ, List, ◌++◌, length}
use Rattle.std.proofs.Common.{ap, append_assoc, arith, sym, ◌∙◌}
use Rattle.bytes.specs.Filled.{Filled}
use Rattle.lent_frames.specs.Cutting.{OneFrame}
use Rattle.framed.specs.FrameErrors.{SaysOutOfMemory}
use Rattle.framed.specs.LengthDelimited.{FrameOf, IsTooLong, frame_bytes, gives_delimited, length_header, no_frame_empty, one_number}
use Rattle.framed.specs.Pieces.{same_fronts}
use Rattle.framed.specs.PiecesBack.{pieces_back}
use Rattle.framed.specs.RoundTrip.{RoundTripLaws}
use Rattle.framed.specs.declared.length_delimited.LengthDelimited.{LengthDelimited}
use Rattle.framed.specs.declared.frame_error.FrameError.TheVariants.{CutOff, Io}

-- A frame and the bytes behind it are no other frame with other bytes behind.
pub one_frame : (p v more rest : List ℕ) → length p < 2 ^ 32 → length v < 2 ^ 32
    → frame_bytes p ++ more ≡ frame_bytes v ++ rest → (v ≡ p) × (rest ≡ more)
one_frame p v more rest small short e =
    let same = one_number (length p) (length v) (p ++ more) (v ++ rest) small short
    (sym (append_assoc (length_header (length p)) p more) ∙ e ∙ append_assoc (length_header (length v)) v rest) in
    let parts = same_fronts p v more rest same.0 same.1 in
    (sym parts.0, sym parts.1)

pub one_frame_cut : OneFrame FrameOf
one_frame_cut c v w front other rest more (_, small, is) (_, short, there) same =
    let parts = one_frame v w rest more small short (ap (λ l. l ++ rest) (sym is) ∙ same ∙ ap (λ l. l ++ more) there) in
    (sym parts.0, is ∙ ap frame_bytes (sym parts.0) ∙ sym there)

-- What is written for a payload comes back, if the decoder allows as much as the encoder.
module _ {X : Type 0} (payload : X → List ℕ) where
  -- What is written for an item `x`.
  abbrev pub Encoded : LengthDelimited → X → List ℕ → LengthDelimited → Type 0
  Encoded c x frame b = FrameOf c (payload x) frame × (b ≡ c)

  -- The decoder `d` allows as long a payload as the encoder `c`.
  abbrev pub AllowsAsMuch : LengthDelimited → List X → LengthDelimited → Type 0
  AllowsAsMuch c xs d = c.max ≤ d.max

  pub delimited_back : RoundTripLaws Encoded gives_delimited (λ cause e. e ≡ Io cause) AllowsAsMuch (λ x v. v.items ≡ payload x)
  delimited_back =
      pieces_back {V = Filled} (λ c v. FrameOf c v.items) IsTooLong SaysOutOfMemory (λ e. e ≡ CutOff) Encoded (λ cause e. e ≡ Io cause)
      AllowsAsMuch (λ x v. v.items ≡ payload x) (record {
        written = λ c x xs d frame b within ((fits, small, is), same).
            record {
              whole = (record { items = payload x; spare = 0 }, (omega (arith, fits, within), small, is));
              one = λ v front more rest (_, short, front_is) here.
                  one_frame (payload x) v.items more rest small short (ap (λ l. l ++ more) (sym is) ∙ here ∙ ap (λ l. l ++ rest) front_is);
              right = λ e front more rest (n, above, short, front_is, _) here.
                  let one = one_number (length (payload x)) n (payload x ++ more) rest small short
                  (sym (append_assoc (length_header (length (payload x))) (payload x) more) ∙ ap (λ l. l ++ more) (sym is) ∙ here ∙ ap (λ l. l ++ rest) front_is) in
                  omega (arith, one.0, above, fits, within);
              others = rw same within;
            };
        some = λ d v. no_frame_empty d v.items;
        none_refused = λ d e (n, above, short, is, _). omega (arith, ap length is);
        lacking = λ e lacks. lacks;
      })
