-- One step of a poll of a framed reader.
use Rattle.std.specs.Prelude.{◌≡◌, ◌⊎◌, ◌≤◌, ◌+◌, ◌-◌, ◌<◌, ℕ, List, [], ◌∷◌, ◌++◌, length, take, drop, Option, Some, None, Result, Ok, Err}
use Rattle.std.specs.IoError.{error_kind}
use Rattle.std.specs.List.{FoldsTo}
use Rattle.std.specs.declared.io.Error.{Error}
use Rattle.std.proofs.Common.{◌∙◌, ap, append-nil, append_assoc, arith, drop_at, inl, inr, length-append, length-take-le, refl, subst, sym, take-append-drop, take_at}
use Rattle.std.proofs.lemmas.List.{map-append}
use Rattle.framed.specs.Uses.{Answer, MarkLaws, Pending, Reaches, ReadMark, Ready, Runs, bytes}
use Rattle.tokio_util.specs.Codec.Next.{Gives, IsStable, PartialHasNoFrame, Resumes, at_end as last_frame, decoded, partial}
use Rattle.framed.specs.FrameLaws.{TakesMore, frame_ran, goes_on, joined, last_on, not_after, polled_on}
use Rattle.framed.specs.Frames.{FrameStep, Framed, InHand, InStep, Last, Looks, PollGives, NoFrame, ended, held_at, phase_of, reading}
use Rattle.framed.specs.Prompt.{PromptLaws}
use Rattle.framed.specs.declared.framed_read.Stage.{Stage}
use Rattle.framed.specs.declared.framed_read.Stage.TheVariants.{AtEnd, Done, Fresh, Open}

-- One list cut in two ways: the first front goes on, or the second does.
data Cuts (h s f ys : List ℕ) : Type 0 where
  within : (zs : List ℕ) → f ≡ h ++ zs → s ≡ zs ++ ys → Cuts h s f ys
  before : (z : ℕ) (zs : List ℕ) → h ≡ f ++ z ∷ zs → Cuts h s f ys

more_cuts : (x : ℕ) (h s f ys : List ℕ) → Cuts h s f ys → Cuts (x ∷ h) s (x ∷ f) ys
more_cuts x h s f ys (within zs e k) = within zs (ap (λ l. x ∷ l) e) k
more_cuts x h s f ys (before z zs e) = before z zs (ap (λ l. x ∷ l) e)

cuts : (h s f ys : List ℕ) → h ++ s ≡ f ++ ys → Cuts h s f ys
cuts [] s f ys e = within f refl e
cuts (x ∷ h) s [] ys e = before x h refl
cuts (x ∷ h) s (y ∷ f) ys e =
    let same : x ≡ y = cc e in
    let rest : h ++ s ≡ f ++ ys = cc e in
    subst (λ z. Cuts (x ∷ h) s (z ∷ f) ys) same (more_cuts x h s f ys (cuts h s f ys rest))

-- What of the bytes `s` belongs to the frame.
pub record Splits {D X E : Type 0} (gives : Gives D X E) (c : D) (h s : List ℕ) (v : X) (t : D) (ys : List ℕ) : Type 0 where
  pub xs : List ℕ
  pub cut : s ≡ xs ++ ys
  pub some : xs ≡ [] → h ≡ []
  pub frame : gives c (h ++ xs) (decoded (Ok v) t [])

module _ {D X E : Type 0} {gives : Gives D X E} {owes : D → ℕ} (laws : PromptLaws gives owes) (stable : IsStable gives)
    (no_frame : PartialHasNoFrame gives) (c : D) (h s : List ℕ) (v : X) (t : D) (ys : List ℕ) where
  split_at : (f : List ℕ) → gives c f (decoded (Ok v) t []) → (h ≡ []) ⊎ gives c h partial → Cuts h s f ys
      → Splits gives c h s v t ys
  split_at f alone known (within zs e k) =
      record {
        xs = zs;
        cut = k;
        some = λ none. elim known [ inl n ↦ n | inr p ↦ absurd (no_frame c h v t [] p (rw (e, none, append-nil) at alone)) ];
        frame = rw e at alone;
      }
  split_at f alone (inl none) (before z zs e) = let longer : [] ≡ f ++ z ∷ zs = sym none ∙ e in absurd (nothing f longer)
    where
      nothing : (f : List ℕ) → [] ≡ f ++ z ∷ zs → ⊥
      nothing [] e = cc e
      nothing (x ∷ f) e = cc e
  split_at f alone (inr p) (before z zs e) =
      absurd (no_frame c h v t (z ∷ zs) p (rw (← e) at (stable c f (Ok v) t [] (z ∷ zs) alone)))

  -- A frame takes the bytes held and some of those that are shown.
  splits : (h ≡ []) ⊎ gives c h partial → gives c (h ++ s) (decoded (Ok v) t ys) → Splits gives c h s v t ys
  splits known found =
      let one = laws.alone c (h ++ s) v t ys found in
      split_at one.0 one.2 known (cuts h s one.0 ys one.1)

-- Within a frame its bytes are no whole frame, and before one there are none.
held_known : {D X E : Type 0} (gives : Gives D X E) (c : D) (stage : Stage) (buffer shown : List ℕ)
    → phase_of stage ≡ reading → InStep gives c stage buffer shown
    → (held_at stage buffer ≡ []) ⊎ gives c (held_at stage buffer) partial
held_known gives c Fresh buffer shown e h = inl refl
held_known gives c Open buffer shown e h = inr h
held_known gives c AtEnd buffer shown e h = cc e
held_known gives c Done buffer shown e h = cc e

-- Where nothing is shown, the reader may come to show anything.
pub still_in_step : {D X E : Type 0} (gives : Gives D X E) (c : D) (stage : Stage) (buffer shown later : List ℕ)
    → shown ≡ [] → InStep gives c stage buffer shown → InStep gives c stage buffer later
still_in_step gives c Fresh [] shown later none h = (later, refl)
still_in_step gives c Fresh (b ∷ buffer) shown later none h = let longer = sym none ∙ h.1 in cc longer
still_in_step gives c Open buffer shown later none h = h
still_in_step gives c AtEnd buffer shown later none h = tt
still_in_step gives c Done buffer shown later none h = tt

pub look_refused : {D X E : Type 0} (gives : Gives D X E) (c : D) (held shown whole : List ℕ) (e : E) (t : D) (ys : List ℕ)
    → whole ≡ held ++ shown → gives c whole (decoded (Err e) t ys) → gives c (held ++ shown) (decoded (Err e) t ys)
look_refused gives c held shown whole e t ys is found = rw is at found

-- A frame that was found in the buffer takes the bytes held and some of the piece of those shown that was looked at.
pub look_splits : {D X E : Type 0} {gives : Gives D X E} {owes : D → ℕ} → PromptLaws gives owes → IsStable gives
    → PartialHasNoFrame gives → (c : D) (stage : Stage) (buffer shown piece whole : List ℕ) (v : X) (t : D) (ys : List ℕ)
    → phase_of stage ≡ reading → InStep gives c stage buffer shown → whole ≡ held_at stage buffer ++ piece
    → gives c whole (decoded (Ok v) t ys) → Splits gives c (held_at stage buffer) piece v t ys
look_splits {gives} laws stable no_frame c stage buffer shown piece whole v t ys was sound is found =
    splits laws stable no_frame c (held_at stage buffer) piece v t ys (held_known gives c stage buffer shown was sound)
    (rw is at found)

-- Of the first `n` of the bytes shown, `s`, the frame takes `xs`.
module _ (s xs ys : List ℕ) (n : ℕ) (fits : n ≤ length s) (cut : take n s ≡ xs ++ ys) where
  both_length : n ≡ length xs + length ys
  both_length = omega (arith, length-take-le n s fits, ap length cut, length-append xs ys)

  pub rest_within : length ys ≤ n
  rest_within = omega (arith, both_length)

  front_length : n - length ys ≡ length xs
  front_length = omega (arith, both_length)

  pub front_cut : s ≡ xs ++ (ys ++ drop n s)
  front_cut = sym (take-append-drop n s) ∙ ap (λ l. l ++ drop n s) cut ∙ append_assoc xs ys (drop n s)

  -- Without the bytes behind it, those that were looked at are those of the frame.
  pub front_taken : take (n - length ys) s ≡ xs
  front_taken = rw (front_length, front_cut) (take_at xs (ys ++ drop n s) (length xs) refl)

  pub rest_left : drop (n - length ys) s ≡ ys ++ drop n s
  rest_left = ap (λ k. drop k s) front_length ∙ ap (drop (length xs)) front_cut ∙ drop_at xs (ys ++ drop n s) (length xs) refl

-- Only of no bytes is a front of some bytes empty.
pub none_looked : (n : ℕ) (s : List ℕ) → n ≤ length s → (n ≡ 0 → s ≡ []) → take n s ≡ [] → s ≡ []
none_looked n s fits none e = none (omega (arith, length-take-le n s fits, ap length e))

more_length : (xs ys : List ℕ) → 0 < length ys → 0 < length (xs ++ ys)
more_length xs ys some = omega (arith, length-append xs ys, some)

-- Of some of the bytes shown came no frame, and `x` became `m`.
module _ {T D X E : Type 0} (gives : Gives D X E) (from_gives : Error → E → Type 0) (reads : Runs ReadMark T)
    (laws : MarkLaws reads) (no_frame : PartialHasNoFrame gives) (buffer_of : T → List ℕ) (x m : Framed T D)
    (was : x.phase ≡ reading) (h : Looks gives from_gives reads buffer_of x Pending m) where
  both_came : (xs : List ℕ) (s : T) → reads m.reader (bytes xs) s → reads x.reader (bytes (h.0 ++ xs)) s
  both_came xs s came =
      subst (λ l. reads x.reader l s) (sym (map-append ReadMark.byte h.0 xs)) (laws.follows _ _ _ _ _ h.1 came)

  -- What is in hand at `m` is in hand at `x`.
  pub looked_on : (a : Answer (Result X E)) (z : Framed T D) → InHand gives from_gives reads buffer_of m a z
      → InHand gives from_gives reads buffer_of x a z
  looked_on Pending z k = (
    was,
    subst (λ l. reads x.reader (bytes l) z.reader) (sym h.2) (both_came _ _ k.1),
    k.2,
    (k.3.0, k.3.1, subst (λ l. Resumes gives x.decoder (x.held ++ l) z.decoder z.held) (sym h.2) (goes_on gives x m z h.0 h.4.2 _ k.3.2)),
  )
  looked_on (Ready r) z (inl after) = absurd (not_after gives m z r h.4.0 after)
  looked_on (Ready r) z (inr k) =
      inr (
        was,
        h.0 ++ k.1,
        both_came _ _ k.2,
        (k.3.0, h.2 ∙ ap (λ l. h.0 ++ l) k.3.1 ∙ sym (append_assoc h.0 k.1 k.3.0)),
        polled_on gives x m z h.0 h.4.2 no_frame h.4.1 from_gives k.1 [] (Ready r) k.4,
      )

  -- Nothing more is shown.
  pub looked_all : buffer_of m.reader ≡ [] → InHand gives from_gives reads buffer_of x Pending m
  looked_all none =
      let all : buffer_of x.reader ≡ h.0 = h.2 ∙ ap (λ l. h.0 ++ l) none ∙ append-nil h.0 in (
        was,
        subst (λ l. reads x.reader (bytes l) m.reader) (sym all) h.1,
        none,
        (h.4.0, h.4.1, subst (λ l. Resumes gives x.decoder (x.held ++ l) m.decoder m.held) (sym all) h.4.2),
      )

  less_by : (xs ys zs : List ℕ) → ys ≡ xs ++ zs → (xs ≡ [] → ys ≡ []) → 0 < length zs → length zs < length ys
  less_by [] ys zs e none some = absurd (omega (arith, ap length e, ap length (none refl), some))
  less_by (a ∷ xs) ys zs e none some = omega (arith, ap length e, length-append (a ∷ xs) zs)

  pub less_shown : 0 < length (buffer_of m.reader) → length (buffer_of m.reader) < length (buffer_of x.reader)
  less_shown some = less_by h.0 _ _ h.2 h.3 some

-- No frame was in hand at `x`, which became `m`. Then the reader of `m` was filled.
module _ {T D X E : Type 0} (gives : Gives D X E) (from_gives : Error → E → Type 0) (reads : Runs ReadMark T)
    (laws : MarkLaws reads) (no_frame : PartialHasNoFrame gives) (buffer_of : T → List ℕ) (x m y : Framed T D)
    (h : InHand gives from_gives reads buffer_of x Pending m) where
  after_mark : (last : List ReadMark) → reads m.reader last y.reader
      → reads x.reader (bytes (buffer_of x.reader) ++ last) y.reader
  after_mark last came = laws.follows _ _ _ _ _ h.1 came

  pub at_end : (r : Option (Result X E)) (s : T) → reads m.reader (ReadMark.end ∷ []) s → y.reader ≡ s
      → Last gives (record m { reader = s }) [] r y → FrameStep gives from_gives reads x (Ready r) y
  at_end r s came same last =
      inr (h.0, buffer_of x.reader, ReadMark.end ∷ [], after_mark _ (rw same came), by r last given)
    where
      -- No whole frame was held, so a frame is one that the end gives.
      only_last : (v : X) → Last gives (record m { reader = s }) [] (Some (Ok v)) y
          → gives x.decoder (x.held ++ buffer_of x.reader) (last_frame (Ok (Some v)) y.decoder y.held)
      only_last v k =
          elim k.1 [
            | inl p ↦ absurd (no_frame m.decoder m.held v y.decoder y.held h.3.1 (rw (append-nil m.held) at p))
            | inr q ↦ rw (append-nil (x.held ++ buffer_of x.reader)) at (h.3.2 [] _ q)
          ]

      given : Last gives x (buffer_of x.reader) r y
      given = subst (λ l. Last gives x l r y) (append-nil (buffer_of x.reader)) (last_on gives x m y (buffer_of x.reader) h.3.2 [] r last)

      by : (q : Option (Result X E)) → Last gives (record m { reader = s }) [] q y → Last gives x (buffer_of x.reader) q y
          → PollGives gives from_gives x (buffer_of x.reader) (ReadMark.end ∷ []) (Ready q) y
      by None l k = (refl, k)
      by (Some (Ok v)) l k = inr (refl, (k.0, only_last v l))
      by (Some (Err e)) l k = inr (inl (refl, k))

  pub failed : (cause : Error) (e : E) (s : T) → reads m.reader (ReadMark.fault (error_kind cause) ∷ []) s
      → from_gives cause e → y ≡ record m { reader = s; phase = ended }
      → FrameStep gives from_gives reads x (Ready (Some (Err e))) y
  failed cause e s came made is =
      inr (
        h.0,
        buffer_of x.reader,
        ReadMark.fault (error_kind cause) ∷ [],
        after_mark _ (rw is came),
        inr (inr ((cause, made, inl refl), (rw is refl), (rw is h.3.2), (λ _. rw is h.3.1))),
      )

  pub pended : (s : T) → reads m.reader (ReadMark.pending ∷ []) s → y ≡ record m { reader = s }
      → FrameStep gives from_gives reads x Pending y
  pended s came is = inr (h.0, buffer_of x.reader, ReadMark.pending ∷ [], after_mark _ (rw is came), (refl, rw is h.3))

  -- Then the bytes that the reader showed were looked at.
  module _ (s : T) (came : reads m.reader [] s) where
    waits_at : (reads x.reader (bytes (buffer_of x.reader)) s) × NoFrame gives x (buffer_of x.reader) (record m { reader = s })
    waits_at = (subst (λ l. reads x.reader l s) (append-nil _) (laws.follows _ _ _ _ _ h.1 came), h.3)

    in_hand_step : (r : Option (Result X E)) → InHand gives from_gives reads buffer_of (record m { reader = s }) (Ready r) y
        → FrameStep gives from_gives reads (record m { reader = s }) (Ready r) y
    in_hand_step r (inl after) = inl (r, refl, after)
    in_hand_step r (inr k) =
        inr (k.0, k.1, [], subst (λ l. reads s l y.reader) (sym (append-nil _)) k.2, k.4)

    pub answered : (r : Option (Result X E)) → InHand gives from_gives reads buffer_of (record m { reader = s }) (Ready r) y
        → FrameStep gives from_gives reads x (Ready r) y
    answered r k =
        joined gives from_gives reads laws no_frame x _ y (Ready r) (buffer_of x.reader) h.0 waits_at.1 waits_at.0
        (in_hand_step r k)

    pub took : 0 < length (buffer_of s) → InHand gives from_gives reads buffer_of (record m { reader = s }) Pending y
        → TakesMore gives reads x y
    took some k =
        record {
          taken = buffer_of x.reader ++ buffer_of s;
          some = more_length (buffer_of x.reader) (buffer_of s) some;
          came = subst (λ l. reads x.reader l y.reader) (sym (map-append ReadMark.byte (buffer_of x.reader) (buffer_of s)))
              (laws.follows _ s _ _ _ waits_at.0 k.1);
          was = h.0;
          waits = (k.3.0, k.3.1, goes_on gives x (record m { reader = s }) y (buffer_of x.reader) waits_at.1.2 (buffer_of s) k.3.2);
        }

module _ {T D X E : Type 0} (gives : Gives D X E) (from_gives : Error → E → Type 0) (reads : Runs ReadMark T)
    (laws : MarkLaws reads) (no_frame : PartialHasNoFrame gives) (x z : Framed T D) (a : Answer (Result X E)) where
  pub polled_once : (y : Framed T D) × Reaches (TakesMore gives reads) x y × FrameStep gives from_gives reads y a z
      → FoldsTo (FrameStep gives from_gives reads) x (a ∷ []) z
  polled_once h = (z, frame_ran gives from_gives reads laws no_frame h, refl)
