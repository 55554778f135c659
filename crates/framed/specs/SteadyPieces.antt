-- A decoder of pieces has at most one outcome for any bytes, if at most one piece stands at their front.
use Rattle.std.specs.Prelude.{◌≡◌, ◌⊎◌, ℕ, List, [], ◌∷◌, ◌++◌, length, Option, Some, None, Result, Ok, Err}
use Rattle.std.specs.IoError.{error_kind}
use Rattle.std.specs.declared.io.Error.{Error}
use Rattle.std.proofs.Common.{◌∙◌, ap, append_assoc, arith, inl, inr, sym}
use Rattle.bytes.specs.Filled.{Filled}
use Rattle.lite_base.specs.Alike.{Sameness}
use Rattle.lent_frames.specs.Cutting.{OneFrame}
use Rattle.framed.specs.DelimitedBack.{one_frame_cut}
use Rattle.framed.specs.FrameErrors.{SaysOutOfMemory}
use Rattle.framed.specs.Heads.{longer_text}
use Rattle.framed.specs.LengthDelimited.{FrameOf, IsTooLong, gives_delimited, length_header, one_number}
use Rattle.framed.specs.LineBack.{one_line_cut}
use Rattle.framed.specs.LineDelimited.{IsLongLine, LineOf, gives_line_delimited}
use Rattle.framed.specs.Pieces.{gives_pieces, pieces_end}
use Rattle.lent_frames.specs.Cutting.{Undecided}
use Rattle.framed.specs.SteadyFrames.{RefusesNothing, OneOutcome, SameOutcome}
use Rattle.framed.specs.declared.frame_error.FrameError.{FrameError}
use Rattle.framed.specs.declared.frame_error.FrameError.TheVariants.{CutOff, Io, TooLong}
use Rattle.tokio_util.specs.Codec.Next.{Next, at_end, decoded, partial}

-- Two errors are equal, or both are of errors of a reader that are of one kind.
abbrev pub SameFrameError : FrameError → FrameError → Type 0
SameFrameError d e = (d ≡ e) ⊎ ((a : Error) × (b : Error) × (d ≡ Io a) × (e ≡ Io b) × (error_kind a ≡ error_kind b))

-- Two frames have the same bytes, or two errors are the same.
abbrev pub SameFrame : Result Filled FrameError → Result Filled FrameError → Type 0
SameFrame (Ok v) (Ok w) = v.items ≡ w.items
SameFrame (Err d) (Err e) = SameFrameError d e
SameFrame _ _ = ⊥

same_rest : (front ys zs : List ℕ) → front ++ ys ≡ front ++ zs → ys ≡ zs
same_rest [] ys zs e = e
same_rest (b ∷ front) ys zs e = let rest : front ++ ys ≡ front ++ zs = cc e in same_rest front ys zs rest

module _ {C : Type 0} (piece : C → List ℕ → List ℕ → Type 0) (refuses : C → List ℕ → FrameError → Type 0) where
  -- No frame and no refused bytes stand at the front of the same bytes.
  abbrev pub FrameOrError : Type 0
  FrameOrError = (c : C) (v front other rest more : List ℕ) (e : FrameError) → piece c v front → refuses c other e
      → front ++ rest ≡ other ++ more → ⊥

  -- Bytes are refused with one error.
  abbrev pub OneError : Type 0
  OneError = (c : C) (front other rest more : List ℕ) (d e : FrameError) → refuses c front d → refuses c other e
      → front ++ rest ≡ other ++ more → d ≡ e

  -- What such a decoder gives.
  abbrev GivesPieces : C → List ℕ → Next C Filled FrameError → Type 0
  GivesPieces = gives_pieces (λ c (v : Filled). piece c v.items) refuses SaysOutOfMemory (λ e. e ≡ CutOff)

  module _ (one : OneFrame piece) (either : FrameOrError) (error : OneError) (c : C) (xs : List ℕ) where
    frames : (v w : Filled) (t u : C) (ys zs : List ℕ) → GivesPieces c xs (decoded (Ok v) t ys) → GivesPieces c xs (decoded (Ok w) u zs)
        → SameOutcome (Sameness.by SameFrame) (decoded (Ok v) t ys) (decoded (Ok w) u zs)
    frames v w t u ys zs h k =
        let same = sym h.3 ∙ k.3 in
        let o = one c v.items w.items h.1 k.1 ys zs h.2 k.2 same in
        (o.0, h.0 ∙ sym k.0, same_rest h.1 ys zs (same ∙ ap (λ l. l ++ zs) (sym o.1)))

    -- A frame and an error are not both given.
    clash : (v : Filled) (t u : C) (ys zs : List ℕ) (e : FrameError) → (SaysOutOfMemory e → ⊥) → GivesPieces c xs (decoded (Ok v) t ys)
        → GivesPieces c xs (decoded (Err e) u zs) → ⊥
    clash v t u ys zs e f h (same, kept, (front, rest, is, inl wrong)) = either c v.items h.1 front ys rest e h.2 wrong (sym h.3 ∙ is)
    clash v t u ys zs e f h (same, kept, (front, rest, is, inr (lacks, w, p))) = f lacks

    -- What was given is not undecided.
    not_open : (r : Result Filled FrameError) (t : C) (ys : List ℕ) → RefusesNothing SaysOutOfMemory (decoded r t ys)
        → GivesPieces c xs (decoded r t ys) → Undecided {V = Filled} (λ d v. piece d v.items) refuses c xs → ⊥
    not_open (Ok v) t ys f h k = (k h.1 ys h.3).0 v h.2
    not_open (Err e) t ys f (same, kept, (front, rest, is, inl wrong)) k = (k front rest is).1 e wrong
    not_open (Err e) t ys f (same, kept, (front, rest, is, inr (lacks, w, p))) k = f lacks

    errors : (d e : FrameError) (t u : C) (ys zs : List ℕ) → (SaysOutOfMemory d → ⊥) → (SaysOutOfMemory e → ⊥)
        → GivesPieces c xs (decoded (Err d) t ys) → GivesPieces c xs (decoded (Err e) u zs) → SameFrameError d e
    errors d e t u ys zs f g (_, _, (front, rest, is, inl wrong)) (_, _, (other, more, so, inl bad)) =
        inl (error c front other rest more d e wrong bad (sym is ∙ so))
    errors d e t u ys zs f g (_, _, (front, rest, is, inr (lacks, w, p))) k = absurd (f lacks)
    errors d e t u ys zs f g h (_, _, (front, rest, is, inr (lacks, w, p))) = absurd (g lacks)

    ends : (r : Result (Option Filled) FrameError) (t : C) (ys : List ℕ) → GivesPieces c xs (at_end r t ys)
        → Undecided {V = Filled} (λ d v. piece d v.items) refuses c xs
    ends r t ys h = pieces_end (λ c (v : Filled). piece c v.items) refuses SaysOutOfMemory (λ e. e ≡ CutOff) c xs r t ys h

    last_frames : (r q : Result (Option Filled) FrameError) (t u : C) (ys zs : List ℕ) → GivesPieces c xs (at_end r t ys)
        → GivesPieces c xs (at_end q u zs) → SameOutcome (Sameness.by SameFrame) (at_end r t ys) (at_end q u zs)
    last_frames (Ok None) (Ok None) t u ys zs h k = tt
    last_frames (Ok None) (Err e) t u ys zs h k = absurd (omega (arith, ap length h.2, k.2))
    last_frames (Err d) (Ok None) t u ys zs h k = absurd (omega (arith, ap length k.2, h.2))
    last_frames (Err d) (Err e) t u ys zs h k = inl (h.3 ∙ sym k.3)
    last_frames (Ok (Some v)) q t u ys zs h k = absurd h
    last_frames r (Ok (Some w)) t u ys zs h k = absurd k

    once : (next other : Next C Filled FrameError) → GivesPieces c xs next → GivesPieces c xs other → RefusesNothing SaysOutOfMemory next
        → RefusesNothing SaysOutOfMemory other → SameOutcome (Sameness.by SameFrame) next other
    once (decoded (Ok v) t ys) (decoded (Ok w) u zs) h k f g = frames v w t u ys zs h k
    once (decoded (Ok v) t ys) (decoded (Err e) u zs) h k f g = absurd (clash v t u ys zs e g h k)
    once (decoded (Err d) t ys) (decoded (Ok w) u zs) h k f g = absurd (clash w u t zs ys d f k h)
    once (decoded (Err d) t ys) (decoded (Err e) u zs) h k f g = errors d e t u ys zs f g h k
    once (decoded r t ys) partial h k f g = absurd (not_open r t ys f h k)
    once (decoded r t ys) (at_end q u zs) h k f g = absurd (not_open r t ys f h (ends q u zs k))
    once partial (decoded q u zs) h k f g = absurd (not_open q u zs g k h)
    once (at_end r t ys) (decoded q u zs) h k f g = absurd (not_open q u zs g k (ends r t ys h))
    once partial partial h k f g = tt
    once partial (at_end q u zs) h k f g = tt
    once (at_end (Ok None) t ys) partial h k f g = tt
    once (at_end (Ok (Some v)) t ys) partial h k f g = tt
    once (at_end (Err e) t ys) partial h k f g = tt
    once (at_end r t ys) (at_end q u zs) h k f g = last_frames r q t u ys zs h k

  pub pieces_once : OneFrame piece → FrameOrError → OneError
      → OneOutcome GivesPieces (λ cause e. e ≡ Io cause) SaysOutOfMemory (Sameness.by SameFrame)
  pieces_once one either error =
      record {
        one = once one either error;
        causes = λ d e a b f g same. inr (d, e, f, g, same);
        lacking = λ cause e f is. (cause, f, is);
      }

pub delimited_once : OneOutcome gives_delimited (λ cause e. e ≡ Io cause) SaysOutOfMemory (Sameness.by SameFrame)
delimited_once = pieces_once FrameOf IsTooLong one_frame_cut either error
  where
    either : FrameOrError FrameOf IsTooLong
    either c v front other rest more e (fits, small, is) (n, above, short, so, _) same =
        let one = one_number (length v) n (v ++ rest) more small short
        (sym (append_assoc (length_header (length v)) v rest) ∙ ap (λ l. l ++ rest) (sym is) ∙ same ∙ ap (λ l. l ++ more) so) in
        omega (arith, one.0, above, fits)

    error : OneError FrameOf IsTooLong
    error c front other rest more d e (n, above, small, is, wrong) (m, high, short, so, bad) same =
        let one = one_number n m rest more small short (ap (λ l. l ++ rest) (sym is) ∙ same ∙ ap (λ l. l ++ more) so) in
        wrong ∙ ap TooLong one.0 ∙ sym bad

pub lines_delimited_once : OneOutcome gives_line_delimited (λ cause e. e ≡ Io cause) SaysOutOfMemory (Sameness.by SameFrame)
lines_delimited_once = pieces_once LineOf IsLongLine one_line_cut either error
  where
    either : FrameOrError LineOf IsLongLine
    either c v front other rest more e (text, none, fits, item, is) (lacking, long, _) same =
        longer_text 10 text other rest more lacking (omega (arith, long, fits))
        (sym (append_assoc text (10 ∷ []) rest) ∙ ap (λ l. l ++ rest) (sym is) ∙ same)

    error : OneError LineOf IsLongLine
    error c front other rest more d e (lacking, long, wrong) (none, high, bad) same = wrong ∙ sym bad
