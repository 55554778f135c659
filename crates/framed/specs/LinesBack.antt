-- What `LinesCodec` writes comes back.
use Rattle.std.specs.Prelude.{◌≡◌, ◌≤◌, ◌<◌, ℕ, false, List, [], ◌∷◌, ◌++◌, length, IsUtf8, String, string_bytes, Option, Some, None, Result, Ok, Err}
use Rattle.std.specs.List.{All}
use Rattle.std.specs.declared.alloc.Global.{Global}
use Rattle.std.proofs.Common.{◌∙◌, ap, append_assoc, arith, inl, inr, length-append, refl, subst}
use Rattle.std.proofs.Math.Seq.{drop-append-add, take-append_seam}
use Rattle.std.proofs.lemmas.List.Elements.{All-head, All-tail}
use Rattle.tokio_util.specs.declared.codec.lines_codec.LinesCodec.{LinesCodec}
use Rattle.tokio_util.specs.declared.codec.lines_codec.LinesCodecError.{LinesCodecError}
use Rattle.tokio_util.specs.declared.codec.lines_codec.LinesCodecError.TheVariants.{Io, MaxLineLengthExceeded}
use Rattle.tokio_util.specs.Codec.Lines.{Answers, AnswersAtEnd, IsUnfinished, at_line_start, gives_lines, line, line_frame, max_length, newline, newline_from, read_line, scan, unfinished, without_carriage_return}
use Rattle.tokio_util.specs.Codec.LinesLaws.{newline_from-append_missing, read_line_found, read_line_short}
use Rattle.tokio_util.specs.Codec.Next.{Next, at_end, decoded, partial}
use Rattle.framed.specs.LinesCodec.{no_text}
use Rattle.framed.specs.RoundTrip.{IsBack, IsNoFrame, RoundTripLaws}

-- A text that is read as one line of at most `max` bytes: it has no newline, and no carriage return at its end.
pub record IsLineText (max : ℕ) (text : List ℕ) : Type 0 where
  pub utf8 : IsUtf8 text
  pub short : length text ≤ max
  pub no_newline : length text ≤ newline_from 0 text
  pub no_return : without_carriage_return text ≡ text

-- No bytes are a text.
no_bytes : IsUtf8 []
no_bytes = ([], (refl, refl))

newline_first : (more : List ℕ) → newline_from 0 (newline ∷ more) ≡ 0
unfolding newline_from
newline_first more = refl

module _ (max : ℕ) (text more : List ℕ) (is : IsLineText max text) where
  -- The newline behind the text is the first one.
  newline_at : newline_from 0 (text ++ newline ∷ more) ≡ length text
  newline_at = newline_from-append_missing 0 text (newline ∷ more) (omega arith) is.no_newline ∙ omega (arith, newline_first more)

  one_scan : read_line max 0 (text ++ newline ∷ more) ≡ line text more
  one_scan =
      let short : newline_from 0 (text ++ newline ∷ more) ≤ max = omega (arith, newline_at, is.short) in
      let found : newline_from 0 (text ++ newline ∷ more) < length (text ++ newline ∷ more) = omega (arith, newline_at, length-append text (newline ∷ more)) in
      read_line_found max 0 (text ++ newline ∷ more) found short
      ∙ rw (newline_at, take-append_seam text (newline ∷ more), is.no_return, drop-append-add text (newline ∷ more) 1) refl

  line_scan : scan (at_line_start max) (line_frame text ++ more) ≡ line text more
  line_scan = ap (read_line max 0) (append_assoc text (newline ∷ []) more) ∙ one_scan

-- What is written for a text comes back, if the decoder is at the start of a line and each text is one line.
module _ {X : Type 0} (text : X → List ℕ) where
  -- What is written for an item `x`.
  abbrev pub EncodedLine : LinesCodec → X → List ℕ → LinesCodec → Type 0
  EncodedLine c x frame b = (frame ≡ line_frame (text x)) × (b ≡ c)

  -- The decoder `d` is at the start of a line, and each text is one line for it.
  abbrev pub ReadsLines : LinesCodec → List X → LinesCodec → Type 0
  ReadsLines c xs d = (d ≡ at_line_start (max_length d)) × All (λ x. IsLineText (max_length d) (text x)) xs

  -- What comes of the frame of an item.
  abbrev LineBack : X → List ℕ → LinesCodec → List X → Next LinesCodec (String Global) LinesCodecError → Type 0
  LineBack = IsBack EncodedLine gives_lines (λ cause e. e ≡ Io cause) ReadsLines (λ x v. string_bytes v ≡ text x)

  -- By what the scan of the frame finds.
  lines_answer : (max : ℕ) (x : X) (xs : List X) (b : LinesCodec) (more : List ℕ) → IsLineText max (text x)
      → All (λ x. IsLineText max (text x)) xs → (r : Result (String Global) LinesCodecError) (t : LinesCodec) (ys : List ℕ)
      → Answers max (line (text x) more) r t ys → LineBack x more b xs (decoded r t ys)
  lines_answer max x xs b more one others (Ok v) t ys (inl (is, at, left)) = (is, left, rw at (refl, others))
  lines_answer max x xs b more one others (Ok v) t ys (inr refused) = absurd refused.0
  lines_answer max x xs b more one others (Err (Io e)) t ys (inl h) = absurd (h.0.1 one.utf8)
  lines_answer max x xs b more one others (Err (Io e)) t ys (inr h) = (e, refl, h.0)
  lines_answer max x xs b more one others (Err MaxLineLengthExceeded) t ys (inl h) = absurd h.0
  lines_answer max x xs b more one others (Err MaxLineLengthExceeded) t ys (inr h) = absurd h.0

  lines_frame : (c : LinesCodec) (x : X) (xs : List X) (d : LinesCodec) (frame : List ℕ) (b : LinesCodec) (more : List ℕ)
      (next : Next LinesCodec (String Global) LinesCodecError) → ReadsLines c (x ∷ xs) d → EncodedLine c x frame b
      → gives_lines d (frame ++ more) next → LineBack x more b xs next
  lines_frame c x xs d frame b more next (at, lines) (is, kept) g =
      let max = max_length d in
      let one = All-head (λ x. IsLineText max (text x)) x xs lines in
      let others = All-tail (λ x. IsLineText max (text x)) x xs lines in
      let found : scan d (frame ++ more) ≡ line (text x) more =
      ap (λ e. scan e (frame ++ more)) at ∙ ap (λ l. scan (at_line_start max) (l ++ more)) is ∙ line_scan max (text x) more one in
      by_next one others found next g
    where
      by_next : IsLineText (max_length d) (text x) → All (λ x. IsLineText (max_length d) (text x)) xs
          → scan d (frame ++ more) ≡ line (text x) more → (next : Next LinesCodec (String Global) LinesCodecError)
          → gives_lines d (frame ++ more) next → LineBack x more b xs next
      by_next one others found (decoded r t ys) g =
          lines_answer (max_length d) x xs b more one others r t ys (subst (λ s. Answers (max_length d) s r t ys) found g)
      by_next one others found partial g = subst (λ s. IsUnfinished s) found g
      by_next one others found (at_end r t ys) g = subst (λ s. AnswersAtEnd (max_length d) s r t ys) found g

  nothing_at_end : (max : ℕ) (r : Result (Option (String Global)) LinesCodecError) (t : LinesCodec) (ys : List ℕ)
      → AnswersAtEnd max (unfinished false []) r t ys
      → IsNoFrame EncodedLine gives_lines (λ cause e. e ≡ Io cause) ReadsLines (λ x v. string_bytes v ≡ text x) (at_end r t ys)
  nothing_at_end max (Ok None) t ys h = tt
  nothing_at_end max (Ok (Some v)) t ys h = omega (arith, h.0.0, ap length no_text)
  nothing_at_end max (Err (Io e)) t ys (inl h, at) = absurd (h.0.1 (rw no_text no_bytes))
  nothing_at_end max (Err (Io e)) t ys (inr h, at) = (e, refl, h.0)
  nothing_at_end max (Err MaxLineLengthExceeded) t ys (inl h, at) = absurd h.0
  nothing_at_end max (Err MaxLineLengthExceeded) t ys (inr h, at) = absurd h.0

  lines_nothing : (c d : LinesCodec) (next : Next LinesCodec (String Global) LinesCodecError) → ReadsLines c [] d
      → gives_lines d [] next
      → IsNoFrame EncodedLine gives_lines (λ cause e. e ≡ Io cause) ReadsLines (λ x v. string_bytes v ≡ text x) next
  lines_nothing c d next (at, lines) g =
      let found : scan d [] ≡ unfinished false [] =
      ap (λ e. scan e []) at ∙ read_line_short (max_length d) 0 [] (omega arith) (omega arith) in
      by_next found next g
    where
      by_next : scan d [] ≡ unfinished false [] → (next : Next LinesCodec (String Global) LinesCodecError) → gives_lines d [] next
          → IsNoFrame EncodedLine gives_lines (λ cause e. e ≡ Io cause) ReadsLines (λ x v. string_bytes v ≡ text x) next
      by_next found (decoded r t ys) g = subst (λ s. Answers (max_length d) s r t ys) found g
      by_next found partial g = tt
      by_next found (at_end r t ys) g =
          nothing_at_end (max_length d) r t ys (subst (λ s. AnswersAtEnd (max_length d) s r t ys) found g)

  pub lines_back : RoundTripLaws EncodedLine gives_lines (λ cause e. e ≡ Io cause) ReadsLines (λ x v. string_bytes v ≡ text x)
  lines_back = record { back = lines_frame; nothing = lines_nothing }
