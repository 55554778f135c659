-- Frames with a head: a text up to a delimiter, which says how many bytes follow, then these bytes, and a tail.
use Rattle.std.specs.Prelude.{◌≡◌, ◌≢◌, ◌⊎◌, ◌≤◌, ◌<◌, ◌+◌, ◌^◌, ℕ, List, [], ◌∷◌, ◌++◌}
use Rattle.std.specs.Prelude.{Option, Some, None, Result, Ok, Err, decimal, drop, length, slice_index, take}
use Rattle.std.specs.Char.{digit_value}
use Rattle.std.specs.List.{All, Contains}
use Rattle.std.specs.Option.{MatchOption}
use Rattle.std.specs.Str.Parse.{AllDigits}
use Rattle.std.proofs.Common.{Bor, ap, append_assoc, arith, inl, inr, length-append, refl, sym, ◌∙◌}
use Rattle.std.proofs.lemmas.List.{take_at}
use Rattle.std.proofs.lemmas.Fmt.{decimal_is_IsNumeral, length-decimal-le}
use Rattle.std.proofs.lemmas.List.Elements.{All-cons, All-contains, All-nil, All-tail, Contains-append_right}
use Rattle.bytes.specs.Filled.{Filled}
use Rattle.tokio_util.specs.Codec.Next.{Decodes, EndIsPartial, Gives, IsStable, PartialHasNoFrame}
use Rattle.framed.specs.FrameErrors.{SaysOutOfMemory}
use Rattle.framed.specs.Pieces.{gives_pieces, pieces_end, pieces_partial, pieces_prompt, pieces_stable, up_to_delimiter}
use Rattle.lent_frames.specs.Cutting.{Undecided}
use Rattle.framed.specs.Prompt.{PromptLaws}
use Rattle.lent_frames.specs.declared.cut.Cut.{Cut}
use Rattle.lent_frames.specs.declared.cut.Cut.TheVariants.{More, Refused, Whole}
use Rattle.framed.specs.declared.cut_error.CutError.{CutError}
use Rattle.framed.specs.declared.cut_error.CutError.TheVariants as small
use Rattle.framed.specs.declared.delimiter.Delimiter.{Delimiter}
use Rattle.framed.specs.declared.delimiter.Delimiter.TheVariants.{At, Missing, TooFar}
use Rattle.framed.specs.declared.frame_error.FrameError.{FrameError}
use Rattle.framed.specs.declared.frame_error.FrameError.TheVariants.{CutOff, Malformed}

-- A text without the byte `other`.
abbrev pub HasNo : ℕ → List ℕ → Type 0
HasNo other text = All (λ b. b ≢ other) text

-- The first `byte` has this index.
abbrev pub FirstAt : ℕ → List ℕ → Option ℕ → Type 0
FirstAt byte xs None = HasNo byte xs
FirstAt byte xs (Some at) = (at < length xs) × (slice_index xs at ≡ byte) × HasNo byte (take at xs)

-- Where the first delimiter is, behind at most `max` bytes.
abbrev pub FindsDelimiter : ℕ → ℕ → List ℕ → Delimiter → Type 0
FindsDelimiter delimiter max xs (At n) =
    (n ≤ max) × (text rest : List ℕ) × (length text ≡ n) × HasNo delimiter text × (xs ≡ text ++ delimiter ∷ rest)
FindsDelimiter delimiter max xs Missing = HasNo delimiter xs × (length xs ≤ max)
FindsDelimiter delimiter max xs TooFar =
    (text rest : List ℕ) × (length text ≡ max + 1) × HasNo delimiter text × (xs ≡ text ++ rest)

-- The number that a text is, in digits, without a zero or a plus before them.
abbrev pub ReadsDecimal : List ℕ → Option ℕ → Type 0
ReadsDecimal text (Some n) = (n < 2 ^ 64) × (text ≡ decimal n)
ReadsDecimal text None = (n : ℕ) → n < 2 ^ 64 → text ≢ decimal n

-- The head without the `\r` (13) that ends it, or none if it ends otherwise.
abbrev pub StripsReturn : List ℕ → Option (Bor (List ℕ)) → Type 0
StripsReturn head r = MatchOption r ((text : List ℕ) → head ≢ text ++ 13 ∷ []) (λ text. head ≡ text.now ++ 13 ∷ [])

-- A numeral has no other byte than digits.
pub digits_have_none : (base other : ℕ) (text : List ℕ) → base ≤ digit_value other → AllDigits base text → HasNo other text
digits_have_none base other [] no_digit all = All-nil (λ b. b ≢ other)
digits_have_none base other (d ∷ ds) no_digit all =
    All-cons (λ b. b ≢ other) d ds (λ same. omega (arith, no_digit, all.0, ap digit_value same)) (digits_have_none base other ds no_digit all.1)

-- A decimal number has at most 20 digits, and no other byte.
pub few_digits : (n : ℕ) → n < 2 ^ 64 → length (decimal n) ≤ 20
few_digits n small = length-decimal-le 20 n (omega arith) (omega (arith, small)) small

pub decimal_has_none : (other n : ℕ) → 10 ≤ digit_value other → n < 2 ^ 64 → HasNo other (decimal n)
decimal_has_none other n no_digit small = digits_have_none 10 other (decimal n) no_digit (decimal_is_IsNumeral n small).0.1

-- Behind `start` bytes stand a body of `n` bytes and a tail, or other bytes than the tail, or fewer bytes.
abbrev pub TakesBody : ℕ → ℕ → List ℕ → List ℕ → Result (Option Filled) FrameError → List ℕ → Type 0
TakesBody start n tail xs (Ok (Some v)) ys =
    (length v.items ≡ n) × (front : List ℕ) × (length front ≡ start) × (xs ≡ front ++ (v.items ++ (tail ++ ys)))
TakesBody start n tail xs (Ok None) ys = (ys ≡ xs) × (length xs < start + n + length tail)
TakesBody start n tail xs (Err e) ys = (ys ≡ xs) × (front body other rest : List ℕ) × (length front ≡ start) × (length body ≡ n)
    × (length other ≡ length tail) × (xs ≡ front ++ (body ++ (other ++ rest)))
    × (((other ≢ tail) × (e ≡ Malformed)) ⊎ ((other ≡ tail) × SaysOutOfMemory e))

-- The same for bytes that are not taken: where the body and the frame stand, or how many bytes are needed at least.
abbrev pub CutsBody : ℕ → ℕ → List ℕ → List ℕ → Cut CutError → Type 0
CutsBody start n tail xs (Whole s) = (s ≡ record { from = start; to = start + n; size = start + n + length tail })
    × (start + n + length tail ≤ length xs) × (take (length tail) (drop (start + n) xs) ≡ tail)
CutsBody start n tail xs (More least) = (length xs < least) × (least ≤ start + n + length tail)
CutsBody start n tail xs (Refused e) =
    (e ≡ small.Malformed) × (start + n + length tail ≤ length xs) × (take (length tail) (drop (start + n) xs) ≢ tail)

-- What a codec `C` of such frames is.
pub record HeadForm (C : Type 0) : Type 1 where
  -- The byte that ends a head.
  pub delimiter : ℕ
  -- How many bytes may be before it.
  pub longest : C → ℕ
  -- The text of a head says that so many bytes follow.
  pub says : C → List ℕ → ℕ → Type 0
  -- The text is no head, and the decoder stops with this error.
  pub denies : C → List ℕ → FrameError → Type 0
  -- What stands behind the bytes.
  pub tail : List ℕ
  -- A text says one number at most, and none if it is denied.
  pub one : (c : C) (text : List ℕ) (n m : ℕ) → says c text n → says c text m → n ≡ m
  pub sure : (c : C) (text : List ℕ) (n : ℕ) (e : FrameError) → says c text n → denies c text e → ⊥

-- A list without a delimiter has it nowhere.
pub none_within : (delimiter : ℕ) (xs text rest : List ℕ) → HasNo delimiter xs → xs ≡ text ++ delimiter ∷ rest → ⊥
none_within delimiter xs text rest none is =
    let there : Contains (text ++ delimiter ∷ rest) delimiter = Contains-append_right text (delimiter ∷ rest) delimiter (0, omega arith, refl) in
    All-contains (λ b. b ≢ delimiter) xs delimiter none (rw is there) refl

-- A text without a delimiter that is longer than that before the first one is not at the front.
pub longer_text : (delimiter : ℕ) (a front p q : List ℕ) → HasNo delimiter front → length a < length front → a ++ delimiter ∷ p ≡ front ++ q → ⊥
longer_text delimiter a [] p q h short e = omega (arith, short)
longer_text delimiter [] (x ∷ front) p q h short e =
    let first : x ≡ delimiter = cc e in none_within delimiter (x ∷ front) [] front h (ap (λ b. b ∷ front) first)
longer_text delimiter (x ∷ a) (y ∷ front) p q h short e =
    let others : a ++ delimiter ∷ p ≡ front ++ q = cc e in
    longer_text delimiter a front p q (All-tail (λ b. b ≢ delimiter) y front h) (omega (arith, short)) others

-- A delimiter that was found, and the text before it.
module _ (delimiter max : ℕ) (xs : List ℕ) (at : ℕ) (found : FindsDelimiter delimiter max xs (At at)) where
  text_at : take at xs ≡ found.1
  text_at = ap (take at) found.5 ∙ take_at found.1 (delimiter ∷ found.2) at found.3

  pub text_has_none : HasNo delimiter (take at xs)
  text_has_none = rw text_at found.4

  pub text_length : length (take at xs) ≡ at
  text_length = ap length text_at ∙ found.3

  pub up_to_text : xs ≡ take at xs ++ delimiter ∷ found.2
  up_to_text = rw text_at found.5

  pub with_delimiter : take (at + 1) xs ≡ take at xs ++ delimiter ∷ []
  with_delimiter =
      ap (take (at + 1)) (up_to_text ∙ sym (append_assoc (take at xs) (delimiter ∷ []) found.2))
      ∙ take_at (take at xs ++ delimiter ∷ []) found.2 (at + 1) (omega (arith, text_length, length-append (take at xs) (delimiter ∷ [])))

module _ {C : Type 0} (f : HeadForm C) where
  -- The text of a head.
  abbrev pub IsHead : C → List ℕ → Type 0
  IsHead c text = (length text ≤ f.longest c) × HasNo f.delimiter text

  -- A head, the bytes of which it says the number, and the tail.
  abbrev pub HeadedFrame : C → List ℕ → List ℕ → Type 0
  HeadedFrame c body xs =
      (text : List ℕ) × IsHead c text × f.says c text (length body) × (xs ≡ text ++ f.delimiter ∷ (body ++ f.tail))

  -- A head that is too long.
  abbrev pub IsLongHead : C → List ℕ → FrameError → Type 0
  IsLongHead c xs e = HasNo f.delimiter xs × (length xs ≡ f.longest c + 1) × (e ≡ Malformed)

  -- A head that is denied.
  abbrev pub IsDeniedHead : C → List ℕ → FrameError → Type 0
  IsDeniedHead c xs e = (text : List ℕ) × IsHead c text × f.denies c text e × (xs ≡ text ++ f.delimiter ∷ [])

  -- As many bytes as the tail has, and others.
  abbrev pub IsOtherTail : C → List ℕ → FrameError → Type 0
  IsOtherTail c xs e = (text body other : List ℕ) × IsHead c text × f.says c text (length body)
      × (length other ≡ length f.tail) × (other ≢ f.tail) × (e ≡ Malformed) × (xs ≡ text ++ f.delimiter ∷ (body ++ other))

  -- Why bytes are refused.
  abbrev pub RefusesHeaded : C → List ℕ → FrameError → Type 0
  RefusesHeaded c xs e = IsLongHead c xs e ⊎ IsDeniedHead c xs e ⊎ IsOtherTail c xs e

  -- What the decoder gives.
  abbrev pub gives_headed : Gives C Filled FrameError
  gives_headed = gives_pieces (λ c v. HeadedFrame c v.items) RefusesHeaded SaysOutOfMemory (λ e. e ≡ CutOff)

  -- The laws of a `Decoder`, and of a `PromptDecoder`.
  pub headed_stable : IsStable gives_headed
  headed_stable = pieces_stable (λ c v. HeadedFrame c v.items) RefusesHeaded SaysOutOfMemory (λ e. e ≡ CutOff)

  pub headed_partial : PartialHasNoFrame gives_headed
  headed_partial = pieces_partial (λ c v. HeadedFrame c v.items) RefusesHeaded SaysOutOfMemory (λ e. e ≡ CutOff)

  pub headed_end : EndIsPartial gives_headed
  headed_end = pieces_end (λ c v. HeadedFrame c v.items) RefusesHeaded SaysOutOfMemory (λ e. e ≡ CutOff)

  pub none_empty : (c : C) (body : List ℕ) → HeadedFrame c body [] → ⊥
  none_empty c body (text, _, _, is) = omega (arith, ap length is, length-append text (f.delimiter ∷ (body ++ f.tail)))

  pub headed_prompt : PromptLaws gives_headed (λ _. 0)
  headed_prompt =
      pieces_prompt (λ c v. HeadedFrame c v.items) RefusesHeaded SaysOutOfMemory (λ e. e ≡ CutOff) (λ c v. none_empty c v.items)

  module _ (c : C) where
    -- No front of the bytes is a frame or is refused.
    abbrev pub IsOpen : List ℕ → Type 0
    IsOpen = Undecided {V = Filled} (λ c v. HeadedFrame c v.items) RefusesHeaded c

    -- Without a delimiter nothing is decided while there is room for a head.
    pub open_head : (xs : List ℕ) → HasNo f.delimiter xs → length xs ≤ f.longest c → IsOpen xs
    open_head xs none short front rest is = (λ v. no_frame v.items, not_refused)
      where
        has_none : (text behind : List ℕ) → front ≡ text ++ f.delimiter ∷ behind → ⊥
        has_none text behind same =
            none_within f.delimiter xs text (behind ++ rest) none (is ∙ ap (λ l. l ++ rest) same ∙ append_assoc text (f.delimiter ∷ behind) rest)

        no_frame : (body : List ℕ) → HeadedFrame c body front → ⊥
        no_frame body (text, _, _, same) = has_none text (body ++ f.tail) same

        not_refused : (e : FrameError) → RefusesHeaded c front e → ⊥
        not_refused e (inl long) = omega (arith, short, long.1, ap length is, length-append front rest)
        not_refused e (inr (inl (text, _, _, same))) = has_none text [] same
        not_refused e (inr (inr (text, body, other, _, _, _, _, _, same))) = has_none text (body ++ other) same

    -- Behind a head that says `n` a frame has `n` bytes, and bytes are refused only for their tail.
    module _ (text : List ℕ) (n : ℕ) (head : IsHead c text) (number : f.says c text n) (behind front more : List ℕ)
        (is : text ++ f.delimiter ∷ behind ≡ front ++ more) where
      -- As the text of another head is the same, so is the number that it says.
      same_head : (other tail : List ℕ) (m : ℕ) → IsHead c other → f.says c other m → front ≡ other ++ f.delimiter ∷ tail
          → (n ≡ m) × (behind ≡ tail ++ more)
      same_head other tail m there says_m e =
          let parts = up_to_delimiter f.delimiter text other behind (tail ++ more) head.1 there.1
          (is ∙ ap (λ l. l ++ more) e ∙ append_assoc other (f.delimiter ∷ tail) more) in
          (f.one c text n m number (rw parts.0 says_m), parts.1)

      pub frame_behind : (body : List ℕ) → HeadedFrame c body front → (length body ≡ n) × (behind ≡ body ++ (f.tail ++ more))
      frame_behind body (other, there, says_m, e) =
          let same = same_head other (body ++ f.tail) (length body) there says_m e in
          (sym same.0, same.1 ∙ append_assoc body f.tail more)

      pub refused_behind : (e : FrameError) → RefusesHeaded c front e → (body other : List ℕ) × (length body ≡ n)
          × (length other ≡ length f.tail) × (other ≢ f.tail) × (behind ≡ body ++ (other ++ more))
      refused_behind e (inl (none, long, _)) =
          absurd (longer_text f.delimiter text front behind more none (omega (arith, long, head.0)) is)
      refused_behind e (inr (inl (other, there, denied, e_is))) =
          let parts = up_to_delimiter f.delimiter text other behind more head.1 there.1
          (is ∙ ap (λ l. l ++ more) e_is ∙ append_assoc other (f.delimiter ∷ []) more) in
          absurd (f.sure c text n e number (rw parts.0 denied))
      refused_behind e (inr (inr (t, body, other, there, says_m, as_long, differs, _, e_is))) =
          let same = same_head t (body ++ other) (length body) there says_m e_is in
          (body, other, sym same.0, as_long, differs, same.1 ∙ append_assoc body other more)

    -- Behind a head nothing is decided until there are all bytes of the body and the tail.
    pub open_body : (text behind : List ℕ) (n : ℕ) → IsHead c text → f.says c text n → length behind < n + length f.tail
        → IsOpen (text ++ f.delimiter ∷ behind)
    open_body text behind n head number short front more is = (
      (λ v h.
          let b = frame_behind text n head number behind front more is v.items h in
          omega (arith, short, b.0, ap length b.1, length-append v.items (f.tail ++ more), length-append f.tail more)),
      (λ e h.
          let b = refused_behind text n head number behind front more is e h in
          omega (arith, short, b.2, b.3, ap length b.5, length-append b.0 (b.1 ++ more), length-append b.1 more)),
    )

    -- What is decoded of bytes without a delimiter, of a head that is too long, and of one that is denied.
    pub head_missing : (xs : List ℕ) → FindsDelimiter f.delimiter (f.longest c) xs Missing → Decodes gives_headed c xs (Ok None) c xs
    head_missing xs (none, short) = (open_head xs none short, λ more next h. h)

    pub head_too_long : (xs : List ℕ) → FindsDelimiter f.delimiter (f.longest c) xs TooFar → Decodes gives_headed c xs (Err Malformed) c xs
    head_too_long xs (text, rest, long, none, is) = (refl, refl, (text, rest, is, inl (inl (none, long, refl))))

    module _ (xs : List ℕ) (at : ℕ) (found : FindsDelimiter f.delimiter (f.longest c) xs (At at)) where
      -- The text of the head.
      abbrev head_text : List ℕ
      head_text = take at xs

      pub is_head : IsHead c head_text
      is_head = (omega (arith, text_length f.delimiter (f.longest c) xs at found, found.0), text_has_none f.delimiter (f.longest c) xs at found)

      pub head_denied : (e : FrameError) → f.denies c (take at xs) e → Decodes gives_headed c xs (Err e) c xs
      head_denied e denied = (
        refl,
        refl,
        (
          head_text ++ f.delimiter ∷ [],
          found.2,
          up_to_text f.delimiter (f.longest c) xs at found ∙ sym (append_assoc head_text (f.delimiter ∷ []) found.2),
          inl (inr (inl (head_text, is_head, denied, refl))),
        ),
      )

      -- What is decoded where a body is taken behind the head.
      module _ (n : ℕ) (number : f.says c head_text n) where
        framed : (body : List ℕ) → length body ≡ n → HeadedFrame c body (head_text ++ f.delimiter ∷ (body ++ f.tail))
        framed body long = (head_text, is_head, rw long number, refl)

        split : (front body tail ys : List ℕ) → length front ≡ at + 1 → xs ≡ front ++ (body ++ (tail ++ ys))
            → xs ≡ (head_text ++ f.delimiter ∷ (body ++ tail)) ++ ys
        split front body tail ys long is =
            let up_to : front ≡ head_text ++ f.delimiter ∷ [] =
            sym (ap (take (at + 1)) is ∙ take_at front (body ++ (tail ++ ys)) (at + 1) long) ∙ with_delimiter f.delimiter (f.longest c) xs at found in
            is ∙ ap (λ l. l ++ (body ++ (tail ++ ys))) up_to
            ∙ append_assoc head_text (f.delimiter ∷ []) (body ++ (tail ++ ys))
            ∙ ap (λ l. head_text ++ f.delimiter ∷ l) (sym (append_assoc body tail ys))
            ∙ sym (append_assoc head_text (f.delimiter ∷ (body ++ tail)) ys)

        still_open : length xs < at + 1 + n + length f.tail → IsOpen xs
        still_open short =
            let there = up_to_text f.delimiter (f.longest c) xs at found in
            let long = text_length f.delimiter (f.longest c) xs at found in
            rw there (open_body head_text found.2 n is_head number
            (omega (arith, short, long, ap length there, length-append head_text (f.delimiter ∷ found.2))))

        pub body_taken : (r : Result (Option Filled) FrameError) (ys : List ℕ) → TakesBody (at + 1) n f.tail xs r ys
            → Decodes gives_headed c xs r c ys
        body_taken (Ok (Some v)) ys (long, front, before, is) =
            (refl, head_text ++ f.delimiter ∷ (v.items ++ f.tail), framed v.items long, split front v.items f.tail ys before is)
        body_taken (Ok None) ys (same, short) = rw same (still_open short, λ more next h. h)
        body_taken (Err e) ys (same, front, body, other, rest, before, long, as_long, is, why) =
            (refl, same, (head_text ++ f.delimiter ∷ (body ++ other), rest, split front body other rest before is, refused why))
          where
            refused : ((other ≢ f.tail) × (e ≡ Malformed)) ⊎ ((other ≡ f.tail) × SaysOutOfMemory e)
                → RefusesHeaded c (head_text ++ f.delimiter ∷ (body ++ other)) e
                ⊎ (SaysOutOfMemory e × (v : Filled) × HeadedFrame c v.items (head_text ++ f.delimiter ∷ (body ++ other)))
            refused (inl (differs, is_malformed)) =
                inl (inr (inr (head_text, body, other, is_head, rw long number, as_long, differs, is_malformed, refl)))
            refused (inr (tail_is, lacks)) = inr (lacks, record { items = body; spare = 0 }, rw tail_is (framed body long))
