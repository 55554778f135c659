-- `LinesCodec` has at most one outcome for any bytes.
use Rattle.std.specs.Prelude.{◌≡◌, ◌⊎◌, ℕ, List, length, IsUtf8, String, string_bytes, Option, Some, None, Result, Ok, Err}
use Rattle.std.specs.IoError.{error_kind}
use Rattle.std.specs.declared.alloc.Global.{Global}
use Rattle.std.specs.declared.io.Error.{Error}
use Rattle.std.specs.declared.io.ErrorKind.TheVariants.{OutOfMemory}
use Rattle.std.proofs.Common.{◌∙◌, ap, arith, inl, inr, refl, subst, sym}
use Rattle.std.proofs.lemmas.Str.{IsUtf8-nil, IsUtf8-string_bytes}
use Rattle.lite_base.specs.Alike.{Sameness}
use Rattle.framed.specs.SteadyFrames.{RefusesNothing, OneOutcome, SameOutcome}
use Rattle.tokio_util.specs.Codec.Lines.{Answers, AnswersAtEnd, AnswersLast, IsOutOfMemory, IsTextOf, IsUnfinished, Scan, gives_lines, line, max_length, scan, too_long, unfinished, without_carriage_return}
use Rattle.tokio_util.specs.Codec.Next.{Next, at_end, decoded, partial}
use Rattle.tokio_util.specs.declared.codec.lines_codec.LinesCodec.{LinesCodec}
use Rattle.tokio_util.specs.declared.codec.lines_codec.LinesCodecError.{LinesCodecError}
use Rattle.tokio_util.specs.declared.codec.lines_codec.LinesCodecError.TheVariants.{Io, MaxLineLengthExceeded}

-- The error says that memory was refused.
abbrev pub LacksLine : LinesCodecError → Type 0
LacksLine e = (cause : Error) × (e ≡ Io cause) × (error_kind cause ≡ OutOfMemory)

-- Two errors are equal, or both are `io::Error`s of one kind.
abbrev pub SameLineError : LinesCodecError → LinesCodecError → Type 0
SameLineError d e = (d ≡ e) ⊎ ((a : Error) × (b : Error) × (d ≡ Io a) × (e ≡ Io b) × (error_kind a ≡ error_kind b))

-- Two lines have the same bytes, or two errors are the same.
abbrev pub SameLine : Result (String Global) LinesCodecError → Result (String Global) LinesCodecError → Type 0
SameLine (Ok v) (Ok w) = string_bytes v ≡ string_bytes w
SameLine (Err d) (Err e) = SameLineError d e
SameLine _ _ = ⊥

-- A line or an error.
abbrev LineResult : Type 0
LineResult = Result (String Global) LinesCodecError

-- What the end of the input gives.
abbrev LastResult : Type 0
LastResult = Result (Option (String Global)) LinesCodecError

-- A text that was read is UTF-8.
is_utf8 : (text : List ℕ) (v : String Global) → string_bytes v ≡ text → IsUtf8 text
is_utf8 text v e = subst IsUtf8 e (IsUtf8-string_bytes v)

text_once : (text : List ℕ) (r q : LineResult) → IsTextOf text r → IsTextOf text q → SameLine r q
text_once text (Ok v) (Ok w) h k = h ∙ sym k
text_once text (Ok v) (Err (Io e)) h k = absurd (k.1 (is_utf8 text v h))
text_once text (Ok v) (Err MaxLineLengthExceeded) h k = absurd k
text_once text (Err (Io d)) (Ok w) h k = absurd (h.1 (is_utf8 text w k))
text_once text (Err (Io d)) (Err (Io e)) h k = inr (d, e, refl, refl, h.0 ∙ sym k.0)
text_once text (Err (Io d)) (Err MaxLineLengthExceeded) h k = absurd k
text_once text (Err MaxLineLengthExceeded) q h k = absurd h

not_refused : (T : Type 0) (e : LinesCodecError) → (LacksLine e → ⊥) → IsOutOfMemory {T = T} (Err e) → ⊥
not_refused T (Io e) f h = f (e, refl, h)
not_refused T MaxLineLengthExceeded f h = h

line_not_refused : (r : LineResult) (t : LinesCodec) (ys : List ℕ) → RefusesNothing LacksLine (decoded r t ys) → IsOutOfMemory r → ⊥
line_not_refused (Ok v) t ys f h = h
line_not_refused (Err e) t ys f h = not_refused (String Global) e f h

module _ (t u : LinesCodec) (ys zs : List ℕ) where
  as_next : (r q : LineResult) → SameLine r q → t ≡ u → ys ≡ zs → SameOutcome (Sameness.by SameLine) (decoded r t ys) (decoded q u zs)
  as_next (Ok v) (Ok w) s e d = (s, e, d)
  as_next (Ok v) (Err e) s _ _ = absurd s
  as_next (Err e) (Ok w) s _ _ = absurd s
  as_next (Err d) (Err e) s _ _ = s

  line_once : (max : ℕ) (s : Scan) (r q : LineResult) → RefusesNothing LacksLine (decoded r t ys) → RefusesNothing LacksLine (decoded q u zs)
      → Answers max s r t ys → Answers max s q u zs → SameOutcome (Sameness.by SameLine) (decoded r t ys) (decoded q u zs)
  line_once max (line text rest) r q f g (inl h) (inl k) =
      as_next r q (text_once text r q h.0 k.0) (h.1 ∙ sym k.1) (h.2 ∙ sym k.2)
  line_once max (line text rest) r q f g (inr h) k = absurd (line_not_refused r t ys f h.0)
  line_once max (line text rest) r q f g h (inr k) = absurd (line_not_refused q u zs g k.0)
  line_once max (too_long rest) r q f g h k = as_next r q (rw (h.0, k.0) (inl refl)) (h.1 ∙ sym k.1) (h.2 ∙ sym k.2)
  line_once max (unfinished is_dropped kept) r q f g h k = absurd h

  last_once : (kept : List ℕ) (r q : LastResult) → t ≡ u → RefusesNothing {X = String Global} LacksLine (at_end r t ys)
      → RefusesNothing {X = String Global} LacksLine (at_end q u zs) → AnswersLast kept r ys → AnswersLast kept q zs
      → SameOutcome (Sameness.by SameLine) (at_end r t ys) (at_end q u zs)
  last_once kept (Ok None) (Ok None) e f g h k = tt
  last_once kept (Ok None) (Ok (Some w)) e f g h k = absurd (omega (arith, ap length h.0, k.0))
  last_once kept (Ok None) (Err (Io c)) e f g h (inl k) = absurd (k.0.1 (subst IsUtf8 (sym h.0) IsUtf8-nil))
  last_once kept (Ok None) (Err MaxLineLengthExceeded) e f g h (inl k) = absurd k.0
  last_once kept (Ok (Some v)) (Ok None) e f g h k = absurd (omega (arith, ap length k.0, h.0))
  last_once kept (Ok (Some v)) (Ok (Some w)) e f g h k = (h.1 ∙ sym k.1, e, h.2 ∙ sym k.2)
  last_once kept (Ok (Some v)) (Err (Io c)) e f g h (inl k) = absurd (k.0.1 (is_utf8 _ v h.1))
  last_once kept (Ok (Some v)) (Err MaxLineLengthExceeded) e f g h (inl k) = absurd k.0
  last_once kept (Err (Io c)) (Ok None) e f g (inl h) k = absurd (h.0.1 (subst IsUtf8 (sym k.0) IsUtf8-nil))
  last_once kept (Err MaxLineLengthExceeded) (Ok None) e f g (inl h) k = absurd h.0
  last_once kept (Err (Io c)) (Ok (Some w)) e f g (inl h) k = absurd (h.0.1 (is_utf8 _ w k.1))
  last_once kept (Err MaxLineLengthExceeded) (Ok (Some w)) e f g (inl h) k = absurd h.0
  last_once kept (Err c) (Err d) e f g (inl h) (inl k) = text_once (without_carriage_return kept) (Err c) (Err d) h.0 k.0
  last_once kept (Err c) q e f g (inr h) k = absurd (not_refused ℕ c f h.0)
  last_once kept r (Err d) e f g h (inr k) = absurd (not_refused ℕ d g k.0)

  end_once : (max : ℕ) (s : Scan) (r q : LastResult) → RefusesNothing {X = String Global} LacksLine (at_end r t ys)
      → RefusesNothing {X = String Global} LacksLine (at_end q u zs) → AnswersAtEnd max s r t ys → AnswersAtEnd max s q u zs
      → SameOutcome (Sameness.by SameLine) (at_end r t ys) (at_end q u zs)
  end_once max (line text rest) r q f g h k = absurd h
  end_once max (too_long rest) r q f g h k = absurd h
  end_once max (unfinished is_dropped kept) r q f g h k = last_once kept r q (h.1 ∙ sym k.1) f g h.0 k.0

-- Where a line is, none is unfinished.
clash : (max : ℕ) (s : Scan) (r : LineResult) (t : LinesCodec) (ys : List ℕ) → Answers max s r t ys → IsUnfinished s → ⊥
clash max (line text rest) r t ys h k = k
clash max (too_long rest) r t ys h k = k
clash max (unfinished is_dropped kept) r t ys h k = h

ends_open : (max : ℕ) (s : Scan) (r : LastResult) (t : LinesCodec) (ys : List ℕ) → AnswersAtEnd max s r t ys → IsUnfinished s
ends_open max (line text rest) r t ys h = absurd h
ends_open max (too_long rest) r t ys h = absurd h
ends_open max (unfinished is_dropped kept) r t ys h = tt

module _ (c : LinesCodec) (xs : List ℕ) where
  once : (next other : Next LinesCodec (String Global) LinesCodecError) → gives_lines c xs next → gives_lines c xs other
      → RefusesNothing LacksLine next → RefusesNothing LacksLine other → SameOutcome (Sameness.by SameLine) next other
  once (decoded r t ys) (decoded q u zs) h k f g = line_once t u ys zs (max_length c) (scan c xs) r q f g h k
  once (decoded r t ys) partial h k f g = absurd (clash (max_length c) (scan c xs) r t ys h k)
  once (decoded r t ys) (at_end q u zs) h k f g =
      absurd (clash (max_length c) (scan c xs) r t ys h (ends_open (max_length c) (scan c xs) q u zs k))
  once partial (decoded q u zs) h k f g = absurd (clash (max_length c) (scan c xs) q u zs k h)
  once (at_end r t ys) (decoded q u zs) h k f g =
      absurd (clash (max_length c) (scan c xs) q u zs k (ends_open (max_length c) (scan c xs) r t ys h))
  once partial partial h k f g = tt
  once partial (at_end q u zs) h k f g = tt
  once (at_end (Ok None) t ys) partial h k f g = tt
  once (at_end (Ok (Some v)) t ys) partial h k f g = tt
  once (at_end (Err e) t ys) partial h k f g = tt
  once (at_end r t ys) (at_end q u zs) h k f g = end_once t u ys zs (max_length c) (scan c xs) r q f g h k

pub lines_once : OneOutcome gives_lines (λ cause e. e ≡ Io cause) LacksLine (Sameness.by SameLine)
lines_once =
    record {
      one = once;
      causes = λ d e a b f g same. inr (d, e, f, g, same);
      lacking = λ cause e f is. (cause, f, is);
    }
