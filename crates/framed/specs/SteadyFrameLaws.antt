-- The frames of readers that are alike are the same.
use Rattle.std.specs.Prelude.{◌≡◌, ◌⊎◌, ℕ, List, [], ◌∷◌, ◌++◌, Option, Some, None, Result, Ok, Err, refl}
use Rattle.std.specs.IoError.{error_kind}
use Rattle.std.specs.List.{FoldsTo}
use Rattle.std.specs.declared.io.Error.{Error}
use Rattle.std.specs.declared.io.ErrorKind.{ErrorKind}
use Rattle.std.proofs.Common.{◌∙◌, ap, append-nil, append_assoc, inl, inr, subst, sym}
use Rattle.framed.specs.Uses.{Answer, Pending, ReadMark, Ready, Runs, ToldStripped, bytes}
use Rattle.lite_base.specs.Alike.{SameAnswer, SameItem, Sameness}
use Rattle.lite_base.specs.Answers.{Comparable, ComparableBy, strip}
use Rattle.lite_base.specs.Laws.Alike.{ends_same, same_answer}
use Rattle.lite_base.specs.Laws.StreamLaws.{runs_of}
use Rattle.lite_base.specs.Laws.Streams.{stream_by_steps}
use Rattle.lite_base.specs.Steady.{SteadinessBy, SteadyLawsBy}
use Rattle.lite_io_base.specs.Laws.Steady.{comparable_rest}
use Rattle.lite_io_base.specs.Steady.{SteadyReadLaws}
use Rattle.framed.specs.Frames.{Found, FrameStep, Framed, Last, Phase, PollGives, ended, ending, reading}
use Rattle.framed.specs.SteadyFrames.{AmpleFrames, FramesAlike, RefusesNothing, IsUnrefused, OneOutcome, SameOutcome}
use Rattle.framed.specs.ToldLaws.{pending_told, ready_told, stripped_laws}
use Rattle.tokio_util.specs.Codec.Next.{Gives, IsStable, Next, PartialHasNoFrame, Resumes, decoded, partial}

-- What may stand behind the bytes of a poll that was ready.
abbrev StopMarks : List ReadMark → Type 0
StopMarks l = (l ≡ []) ⊎ ((l ≡ ReadMark.end ∷ []) ⊎ ((kind : ErrorKind) × (l ≡ ReadMark.fault kind ∷ [])))

-- Of two polls at the same place one saw a front of what the other saw, and found something there; or both saw the same, and
-- then the same end or error.
abbrev Parted : List ℕ → List ℕ → List ReadMark → List ReadMark → Type 0
Parted xs ys l m =
    ((more : List ℕ) × (ys ≡ xs ++ more) × (l ≡ []))
    ⊎ (((more : List ℕ) × (xs ≡ ys ++ more) × (m ≡ []))
    ⊎ ((xs ≡ ys) × (l ≡ m)))

no_front : (l m : List ReadMark) → StopMarks l → StopMarks m → Comparable l m → Parted [] [] l m
no_front l m (inl e) k c = inl ([], refl, e)
no_front l m (inr h) (inl e) c = inr (inl ([], refl, e))
no_front l m (inr (inl e)) (inr (inl d)) c = inr (inr (refl, e ∙ sym d))
no_front l m (inr (inl e)) (inr (inr (kind, d))) c = let k = rw (e, d) at c in absurd (cc k.0)
no_front l m (inr (inr (kind, e))) (inr (inl d)) c = let k = rw (e, d) at c in absurd (cc k.0)
no_front l m (inr (inr (kind, e))) (inr (inr (next, d))) c =
    let k = rw (e, d) at c in inr (inr (refl, e ∙ ap (λ s. s ∷ []) k.0 ∙ sym d))

parted : (xs ys : List ℕ) (l m : List ReadMark) → StopMarks l → StopMarks m → Comparable (bytes xs ++ l) (bytes ys ++ m)
    → Parted xs ys l m
parted [] [] l m h k c = no_front l m h k c
parted [] (y ∷ ys) l m (inl e) k c = inl (y ∷ ys, refl, e)
parted [] (y ∷ ys) l m (inr (inl e)) k c = let d = rw e at c in absurd (cc d.0)
parted [] (y ∷ ys) l m (inr (inr (kind, e))) k c = let d = rw e at c in absurd (cc d.0)
parted (x ∷ xs) [] l m h (inl e) c = inr (inl (x ∷ xs, refl, e))
parted (x ∷ xs) [] l m h (inr (inl e)) c = let d = rw e at c in absurd (cc d.0)
parted (x ∷ xs) [] l m h (inr (inr (kind, e))) c = let d = rw e at c in absurd (cc d.0)
parted (x ∷ xs) (y ∷ ys) l m h k c =
    let same : x ≡ y = cc c.0 in
    elim (parted xs ys l m h k c.1) [
      | inl (more, e, none) ↦ inl (more, rw (same, e) refl, none)
      | inr p ↦ elim p [
        | inl (more, e, none) ↦ inr (inl (more, rw (same, e) refl, none))
        | inr (e, d) ↦ inr (inr (rw (same, e) refl, d))
      ]
    ]

module _ {A : Type 0} (same : Sameness A) where
  -- Two results are the same, in either order.
  abbrev BothWays : Option A → Option A → Type 0
  BothWays r s = SameAnswer same r s × SameAnswer same s r

  both_ends : BothWays None None
  both_ends = (ends_same same, ends_same same)

  both_items : (v w : A) → SameItem same v w → SameItem same w v → BothWays (Some v) (Some w)
  both_items v w e d = (same_answer same v w e, same_answer same w v d)

module _ {T D X E : Type 0} {gives : Gives D X E} {from_gives : Error → E → Type 0} {lacks : E → Type 0}
    {same : Sameness (Result X E)} (outcome : OneOutcome gives from_gives lacks same) where
  -- The decoders and the bytes held are equal.
  abbrev Level : Framed T D → Framed T D → Type 0
  Level x y = (x.decoder ≡ y.decoder) × (x.held ≡ y.held)

  -- After both the input is over.
  abbrev BothOver : Framed T D → Framed T D → Type 0
  BothOver x y = (x.phase ≡ ended) × (y.phase ≡ ended)

  -- After both the last frames of the input are given, out of equal bytes.
  abbrev BothEnding : Framed T D → Framed T D → Type 0
  BothEnding x y = (x.phase ≡ ending) × (y.phase ≡ ending) × Level x y

  module _ (x y m n : Framed T D) (level : Level x y) where
    at_first : (xs : List ℕ) (next : Next D X E) → gives y.decoder (y.held ++ xs) next
        → gives x.decoder (x.held ++ xs) next
    at_first xs next h =
        subst (λ d. gives d (x.held ++ xs) next) (sym level.0)
        (subst (λ l. gives y.decoder (l ++ xs) next) (sym level.1) h)

    -- What the end of the input says is the same.
    module _ (xs : List ℕ) where
      one : (next other : Next D X E) → gives x.decoder (x.held ++ xs) next → gives y.decoder (y.held ++ xs) other
          → RefusesNothing lacks next → RefusesNothing lacks other → SameOutcome same next other
      one next other h k = outcome.one x.decoder (x.held ++ xs) next other h (at_first xs other k)

      one_back : (next other : Next D X E) → gives x.decoder (x.held ++ xs) next → gives y.decoder (y.held ++ xs) other
          → RefusesNothing lacks next → RefusesNothing lacks other → SameOutcome same other next
      one_back next other h k a b = outcome.one x.decoder (x.held ++ xs) other next (at_first xs other k) h b a

      last_frames : (v w : X) → Last gives x xs (Some (Ok v)) m → Last gives y xs (Some (Ok w)) n
          → BothWays same (Some (Ok v)) (Some (Ok w)) × BothEnding m n
      last_frames v w (p, inl a) (q, inl b) =
          let k = one _ _ a b tt tt in
          let l = one_back _ _ a b tt tt in
          (both_items same _ _ k.0 l.0, (p, q, (k.1, k.2)))
      last_frames v w (p, inl a) (q, inr b) = absurd (one _ _ a b tt tt)
      last_frames v w (p, inr a) (q, inl b) = absurd (one _ _ a b tt tt)
      last_frames v w (p, inr a) (q, inr b) =
          let k = one _ _ a b tt tt in
          let l = one_back _ _ a b tt tt in
          (both_items same _ _ k.0 l.0, (p, q, (k.1, k.2)))

      last_errors : (d e : E) → (lacks d → ⊥) → (lacks e → ⊥) → Last gives x xs (Some (Err d)) m
          → Last gives y xs (Some (Err e)) n → BothWays same (Some (Err d)) (Some (Err e)) × BothOver m n
      last_errors d e f g (p, inl a) (q, inl b) = (both_items same _ _ (one _ _ a b f g) (one_back _ _ a b f g), (p, q))
      last_errors d e f g (p, inl a) (q, inr b) = absurd (one _ _ a b f g)
      last_errors d e f g (p, inr a) (q, inl b) = absurd (one _ _ a b f g)
      last_errors d e f g (p, inr a) (q, inr b) = (both_items same _ _ (one _ _ a b f g) (one_back _ _ a b f g), (p, q))

      pub last_both : (r s : Option (Result X E)) → IsUnrefused lacks (Ready r) → IsUnrefused lacks (Ready s)
          → Last gives x xs r m → Last gives y xs s n → BothWays same r s × (BothOver m n ⊎ BothEnding m n)
      last_both None None f g h k = (both_ends same, inl (h.0, k.0))
      last_both None (Some (Ok w)) f g h (q, inl b) = absurd (one _ _ h.1 b tt tt)
      last_both None (Some (Ok w)) f g h (q, inr b) = absurd (one _ _ h.1 b tt tt)
      last_both None (Some (Err e)) f g h (q, inl b) = absurd (one _ _ h.1 b tt g)
      last_both None (Some (Err e)) f g h (q, inr b) = absurd (one _ _ h.1 b tt g)
      last_both (Some (Ok v)) None f g (p, inl a) k = absurd (one _ _ a k.1 tt tt)
      last_both (Some (Ok v)) None f g (p, inr a) k = absurd (one _ _ a k.1 tt tt)
      last_both (Some (Ok v)) (Some (Ok w)) f g h k = let l = last_frames v w h k in (l.0, inr l.1)
      last_both (Some (Ok v)) (Some (Err e)) f g (p, inl a) (q, inl b) = absurd (one _ _ a b tt g)
      last_both (Some (Ok v)) (Some (Err e)) f g (p, inl a) (q, inr b) = absurd (one _ _ a b tt g)
      last_both (Some (Ok v)) (Some (Err e)) f g (p, inr a) (q, inl b) = absurd (one _ _ a b tt g)
      last_both (Some (Ok v)) (Some (Err e)) f g (p, inr a) (q, inr b) = absurd (one _ _ a b tt g)
      last_both (Some (Err d)) None f g (p, inl a) k = absurd (one _ _ a k.1 f tt)
      last_both (Some (Err d)) None f g (p, inr a) k = absurd (one _ _ a k.1 f tt)
      last_both (Some (Err d)) (Some (Ok w)) f g (p, inl a) (q, inl b) = absurd (one _ _ a b f tt)
      last_both (Some (Err d)) (Some (Ok w)) f g (p, inl a) (q, inr b) = absurd (one _ _ a b f tt)
      last_both (Some (Err d)) (Some (Ok w)) f g (p, inr a) (q, inl b) = absurd (one _ _ a b f tt)
      last_both (Some (Err d)) (Some (Ok w)) f g (p, inr a) (q, inr b) = absurd (one _ _ a b f tt)
      last_both (Some (Err d)) (Some (Err e)) f g h k = let l = last_errors d e f g h k in (l.0, inl l.1)

  module _ (stable : IsStable gives) (x y m n : Framed T D) (level : Level x y) where
    -- Both found something at the same place, or both are done.
    abbrev FoundBoth : List ℕ → List ReadMark → Type 0
    FoundBoth more last =
        BothOver m n ⊎ ((m.phase ≡ reading) × (n.phase ≡ reading) × Level m n × (more ≡ []) × (last ≡ []))

    module _ (xs more : List ℕ) (last : List ReadMark) where
      -- What was found in a front of the bytes is found in all of them.
      longer : (r : Result X E) (d : D) (rest : List ℕ) → gives x.decoder (x.held ++ xs) (decoded r d rest)
          → gives x.decoder (x.held ++ (xs ++ more)) (decoded r d (rest ++ more))
      longer r d rest h =
          subst (λ l. gives x.decoder l (decoded r d (rest ++ more))) (append_assoc x.held xs more)
          (stable x.decoder (x.held ++ xs) r d rest more h)

      -- Behind the bytes the reader failed, and so they are no whole frame.
      none_whole : gives n.decoder n.held partial → Resumes gives y.decoder (y.held ++ (xs ++ more)) n.decoder n.held
          → gives y.decoder (y.held ++ (xs ++ more)) partial
      none_whole h k =
          subst (λ l. gives y.decoder l partial) (append-nil (y.held ++ (xs ++ more)))
          (k [] partial (subst (λ l. gives n.decoder l partial) (sym (append-nil n.held)) h))

      frame_both : (v : X) (s : Option (Result X E)) → IsUnrefused lacks (Ready s) → Found gives x xs (Some (Ok v)) m
          → PollGives gives from_gives y (xs ++ more) last (Ready s) n → BothWays same (Some (Ok v)) s × FoundBoth more last
      frame_both v None g h k =
          absurd (one x y m n level (xs ++ more) _ _ (longer _ _ _ h.3) k.1.1 tt tt)
      frame_both v (Some (Ok w)) g h (inl k) =
          let a = longer _ _ _ h.3 in
          let e = one x y m n level (xs ++ more) _ _ a k.1.3 tt tt in
          let d = one_back x y m n level (xs ++ more) _ _ a k.1.3 tt tt in
          (both_items same _ _ e.0 d.0, inr (h.0, k.1.0, (e.1, h.1 ∙ sym k.1.1), e.2, k.0))
      frame_both v (Some (Ok w)) g h (inr k) =
          absurd (one x y m n level (xs ++ more) _ _ (longer _ _ _ h.3) k.1.1 tt tt)
      frame_both v (Some (Err e)) g h (inl k) =
          absurd (one x y m n level (xs ++ more) _ _ (longer _ _ _ h.3) k.1.1 tt g)
      frame_both v (Some (Err e)) g h (inr (inl (is, (q, inl b)))) =
          absurd (one x y m n level (xs ++ more) _ _ (longer _ _ _ h.3) b tt g)
      frame_both v (Some (Err e)) g h (inr (inl (is, (q, inr b)))) =
          absurd (one x y m n level (xs ++ more) _ _ (longer _ _ _ h.3) b tt g)
      frame_both v (Some (Err e)) g h (inr (inr ((cause, made, inl is), q, goes, none))) =
          absurd (one x y m n level (xs ++ more) _ _ (longer _ _ _ h.3) (none_whole (none (λ no. cc (sym is ∙ no))) goes) tt tt)
      frame_both v (Some (Err e)) g h (inr (inr ((cause, made, inr is), q, goes, none))) =
          absurd (g (outcome.lacking cause e made is.1))

      error_both : (d : E) (s : Option (Result X E)) → (lacks d → ⊥) → IsUnrefused lacks (Ready s)
          → Found gives x xs (Some (Err d)) m → PollGives gives from_gives y (xs ++ more) last (Ready s) n
          → BothWays same (Some (Err d)) s × FoundBoth more last
      error_both d None f g h k = absurd (one x y m n level (xs ++ more) _ _ (longer _ _ _ h.1) k.1.1 f tt)
      error_both d (Some (Ok w)) f g h (inl k) =
          absurd (one x y m n level (xs ++ more) _ _ (longer _ _ _ h.1) k.1.3 f tt)
      error_both d (Some (Ok w)) f g h (inr k) =
          absurd (one x y m n level (xs ++ more) _ _ (longer _ _ _ h.1) k.1.1 f tt)
      error_both d (Some (Err e)) f g h (inl k) =
          let a = longer _ _ _ h.1 in (
            both_items same _ _ (one x y m n level (xs ++ more) _ _ a k.1.1 f g)
                (one_back x y m n level (xs ++ more) _ _ a k.1.1 f g),
            inl (h.0, k.1.0),
          )
      error_both d (Some (Err e)) f g h (inr (inl (is, (q, inl b)))) =
          let a = longer _ _ _ h.1 in (
            both_items same _ _ (one x y m n level (xs ++ more) _ _ a b f g)
                (one_back x y m n level (xs ++ more) _ _ a b f g),
            inl (h.0, q),
          )
      error_both d (Some (Err e)) f g h (inr (inl (is, (q, inr b)))) =
          absurd (one x y m n level (xs ++ more) _ _ (longer _ _ _ h.1) b f g)
      error_both d (Some (Err e)) f g h (inr (inr ((cause, made, inl is), q, goes, none))) =
          absurd (one x y m n level (xs ++ more) _ _ (longer _ _ _ h.1) (none_whole (none (λ no. cc (sym is ∙ no))) goes) f tt)
      error_both d (Some (Err e)) f g h (inr (inr ((cause, made, inr is), q, goes, none))) =
          absurd (g (outcome.lacking cause e made is.1))

      -- The one poll found something in a front of the bytes of the other.
      front_both : (r s : Option (Result X E)) → IsUnrefused lacks (Ready r) → IsUnrefused lacks (Ready s)
          → PollGives gives from_gives x xs [] (Ready r) m → PollGives gives from_gives y (xs ++ more) last (Ready s) n
          → BothWays same r s × FoundBoth more last
      front_both None s f g h k = absurd (cc h.0)
      front_both (Some (Ok v)) s f g (inl h) k = frame_both v s g h.1 k
      front_both (Some (Ok v)) s f g (inr h) k = absurd (cc h.0)
      front_both (Some (Err d)) s f g (inl h) k = error_both d s f g h.1 k
      front_both (Some (Err d)) s f g (inr (inl h)) k = absurd (cc h.0)
      front_both (Some (Err d)) s f g (inr (inr ((cause, made, inl is), q, goes, none))) k = absurd (cc is)
      front_both (Some (Err d)) s f g (inr (inr ((cause, made, inr is), q, goes, none))) k = absurd (f (outcome.lacking cause d made is.1))

  moved : (x m : Framed T D) (r : Option (Result X E)) (xs ys : List ℕ) (l k : List ReadMark) → xs ≡ ys → l ≡ k
      → PollGives gives from_gives x xs l (Ready r) m → PollGives gives from_gives x ys k (Ready r) m
  moved x m r xs ys l k e d h =
      subst (λ z. PollGives gives from_gives x ys z (Ready r) m) d
      (subst (λ z. PollGives gives from_gives x z l (Ready r) m) e h)

  -- A poll that met the end of the input.
  end_last : (x m : Framed T D) (xs : List ℕ) (r : Option (Result X E))
      → PollGives gives from_gives x xs (ReadMark.end ∷ []) (Ready r) m → Last gives x xs r m
  end_last x m xs None h = h.1
  end_last x m xs (Some (Ok v)) (inl h) = absurd (cc h.0)
  end_last x m xs (Some (Ok v)) (inr h) = (h.1.0, inr h.1.1)
  end_last x m xs (Some (Err e)) (inl h) = absurd (cc h.0)
  end_last x m xs (Some (Err e)) (inr (inl h)) = h.1
  end_last x m xs (Some (Err e)) (inr (inr ((cause, made, inl is), q, goes, none))) = absurd (cc is)
  end_last x m xs (Some (Err e)) (inr (inr ((cause, made, inr is), q, goes, none))) = absurd (cc is.0)

  -- A poll in which the reader failed.
  record FailedPoll (kind : ErrorKind) (m : Framed T D) (r : Option (Result X E)) : Type 0 where
    error : E
    cause : Error
    is : r ≡ Some (Err error)
    made : from_gives cause error
    of : error_kind cause ≡ kind
    over : m.phase ≡ ended

  fault_fails : (x m : Framed T D) (xs : List ℕ) (kind : ErrorKind) (r : Option (Result X E))
      → PollGives gives from_gives x xs (ReadMark.fault kind ∷ []) (Ready r) m → FailedPoll kind m r
  fault_fails x m xs kind None h = absurd (cc h.0)
  fault_fails x m xs kind (Some (Ok v)) (inl h) = absurd (cc h.0)
  fault_fails x m xs kind (Some (Ok v)) (inr h) = absurd (cc h.0)
  fault_fails x m xs kind (Some (Err e)) (inl h) = absurd (cc h.0)
  fault_fails x m xs kind (Some (Err e)) (inr (inl h)) = absurd (cc h.0)
  fault_fails x m xs kind (Some (Err e)) (inr (inr ((cause, made, inl is), q, goes, none))) =
      record { error = e; cause = cause; is = refl; made = made; of = cc is; over = q }
  fault_fails x m xs kind (Some (Err e)) (inr (inr ((cause, made, inr is), q, goes, none))) = absurd (cc is.0)

  fails_both : (kind : ErrorKind) (m n : Framed T D) (r s : Option (Result X E)) → FailedPoll kind m r → FailedPoll kind n s
      → BothWays same r s × BothOver m n
  fails_both kind m n r s h k =
      let e = outcome.causes h.cause k.cause h.error k.error h.made k.made (h.of ∙ sym k.of) in
      let d = outcome.causes k.cause h.cause k.error h.error k.made h.made (k.of ∙ sym h.of) in
      (rw (h.is, k.is) (both_items same _ _ e d), (h.over, k.over))

  -- What stands behind the bytes of a poll that was ready.
  stops : (x m : Framed T D) (xs : List ℕ) (last : List ReadMark) (r : Option (Result X E))
      → PollGives gives from_gives x xs last (Ready r) m → StopMarks last
  stops x m xs last None h = inr (inl h.0)
  stops x m xs last (Some (Ok v)) (inl h) = inl h.0
  stops x m xs last (Some (Ok v)) (inr h) = inr (inl h.0)
  stops x m xs last (Some (Err e)) (inl h) = inl h.0
  stops x m xs last (Some (Err e)) (inr (inl h)) = inr (inl h.0)
  stops x m xs last (Some (Err e)) (inr (inr ((cause, made, inl is), q, goes, none))) = inr (inr (error_kind cause, is))
  stops x m xs last (Some (Err e)) (inr (inr ((cause, made, inr is), q, goes, none))) = inl is.0

  module _ (stable : IsStable gives) (no_frame : PartialHasNoFrame gives) {ample : Runs ReadMark T} {needs_none : Type 0}
      {alike : T → T → Type 0} {reads : Runs ReadMark T} (s : SteadyReadLaws reads ample needs_none alike) where
    -- A poll that was ready, with those before it that were pending, by the marks without the `Pending`s.
    abbrev ToldPoll : Framed T D → Option (Result X E) → Framed T D → Type 0
    ToldPoll x r y = FrameStep gives from_gives (ToldStripped ample) x (Ready r) y × IsUnrefused lacks (Ready r)

    -- A poll to which no memory was refused.
    abbrev PollsAmply : Framed T D → Answer (Result X E) → Framed T D → Type 0
    PollsAmply x a y = FrameStep gives from_gives ample x a y × IsUnrefused lacks a

    -- The first result that is ready comes of all bytes from the first poll on.
    told_on : (x m z : Framed T D) (l : List (Option (Result X E))) → PollsAmply x Pending m → FoldsTo ToldPoll m l z
        → (y : Framed T D) × FoldsTo ToldPoll x l y
    told_on x m z [] h k = (x, refl)
    told_on x m z (r ∷ l) h k =
        (z, (k.0, (pending_told gives from_gives ample no_frame s.laws x m k.0 r h.0 k.1.0, k.1.1), k.2))

    told : (x z : Framed T D) (l : List (Answer (Result X E))) → FoldsTo PollsAmply x l z
        → (y : Framed T D) × FoldsTo ToldPoll x (strip l) y
    told x z [] h = (x, refl)
    told x z (Pending ∷ l) h = let k = told h.0 z l h.2 in told_on x h.0 k.0 (strip l) h.1 k.1
    told x z (Ready r ∷ l) h =
        let k = told h.0 z l h.2 in (k.0, (h.0, (ready_told gives from_gives ample x h.0 r h.1.0, h.1.1), k.1))

    -- Two values that were alike have given the same so far.
    module _ (a b : T) (are_alike : alike a b) where
      -- Both read on, and have taken the same marks of their readers, apart from `Pending`s.
      abbrev ReadsLevel : Framed T D → Framed T D → Type 0
      ReadsLevel x y =
          (x.phase ≡ reading) × (y.phase ≡ reading) × Level x y
          × (p : List ReadMark) × ToldStripped ample a p x.reader × ToldStripped ample b p y.reader

      -- Both have given the same so far, and stand at the same place.
      abbrev Alongside : Framed T D → Framed T D → Type 0
      Alongside x y = BothOver x y ⊎ (BothEnding x y ⊎ ReadsLevel x y)

      marks_agree : (x y : T) (l m : List ReadMark) → ToldStripped ample a l x → ToldStripped ample b m y → Comparable l m
      marks_agree x y l m h k = rw (h.2, k.2) at (s.steady a b x y h.0 k.0 are_alike h.1 k.1)

      -- After the end or an error nothing but the end is given.
      after_over : (x m : Framed T D) (r : Option (Result X E)) → x.phase ≡ ended → ToldPoll x r m → (r ≡ None) × (m.phase ≡ ended)
      after_over x m r e (inl (q, is, inl h), f) = (cc (is, h.1), rw h.2 e)
      after_over x m r e (inl (q, is, inr h), f) = let d = h.0 in cc
      after_over x m r e (inr h, f) = let d = h.0 in cc

      after_end : (x m : Framed T D) (r : Option (Result X E)) → x.phase ≡ ending → ToldPoll x r m → Last gives x [] r m
      after_end x m r e (inl (q, is, inl h), f) = let d = h.0 in cc
      after_end x m r e (inl (q, is, inr h), f) = let d : q ≡ r = cc is in subst (λ o. Last gives x [] o m) d h.1
      after_end x m r e (inr h, f) = let d = h.0 in cc

      -- A poll of a value that reads on.
      record ReadPoll (x : Framed T D) (r : Option (Result X E)) (m : Framed T D) : Type 0 where
        taken : List ℕ
        last : List ReadMark
        came : ToldStripped ample x.reader (bytes taken ++ last) m.reader
        gave : PollGives gives from_gives x taken last (Ready r) m

      while_reading : (x m : Framed T D) (r : Option (Result X E)) → x.phase ≡ reading → ToldPoll x r m → ReadPoll x r m
      while_reading x m r e (inl (q, is, inl h), f) = let d = h.0 in cc
      while_reading x m r e (inl (q, is, inr h), f) = let d = h.0 in cc
      while_reading x m r e (inr (was, xs, last, came, gave), f) =
          record { taken = xs; last = last; came = came; gave = gave }

      same_marks : (xs ys more : List ℕ) (l m : List ReadMark) → ys ≡ xs ++ more → more ≡ [] → l ≡ [] → m ≡ []
          → bytes ys ++ m ≡ bytes xs ++ l
      same_marks xs ys more l m is empty none nil = rw (is, empty, none, nil, append-nil xs) refl

      module _ (x y m n : Framed T D) (r q : Option (Result X E)) (f : IsUnrefused lacks (Ready r)) (g : IsUnrefused lacks (Ready q))
          (level : Level x y) (p : List ReadMark) (came : ToldStripped ample a p x.reader) (went : ToldStripped ample b p y.reader)
          (h : ReadPoll x r m) (k : ReadPoll y q n) where
        on_first : ToldStripped ample a (p ++ (bytes h.taken ++ h.last)) m.reader
        on_first = (stripped_laws s.laws).follows _ _ _ _ _ came h.came

        on_second : ToldStripped ample b (p ++ (bytes k.taken ++ k.last)) n.reader
        on_second = (stripped_laws s.laws).follows _ _ _ _ _ went k.came

        reads_on : (m.phase ≡ reading) → (n.phase ≡ reading) → Level m n → bytes k.taken ++ k.last ≡ bytes h.taken ++ h.last
            → Alongside m n
        reads_on e d l same =
            inr (inr (
              e,
              d,
              l,
              p ++ (bytes h.taken ++ h.last),
              on_first,
              subst (λ o. ToldStripped ample b (p ++ o) n.reader) same on_second,
            ))

        by_first : (more : List ℕ) → k.taken ≡ h.taken ++ more → h.last ≡ [] → BothWays same r q × Alongside m n
        by_first more is none =
            let both = front_both stable x y m n level h.taken more k.last r q f g
            (moved x m r _ _ _ _ refl none h.gave) (moved y n q _ _ _ _ is refl k.gave) in (
              both.0,
              elim both.1 [
                | inl o ↦ inl o
                | inr (e, d, l, empty, nil) ↦ reads_on e d l (same_marks h.taken k.taken more h.last k.last is empty none nil)
              ],
            )

        by_second : (more : List ℕ) → h.taken ≡ k.taken ++ more → k.last ≡ [] → BothWays same r q × Alongside m n
        by_second more is none =
            let both = front_both stable y x n m (sym level.0, sym level.1) k.taken more h.last q r g f
            (moved y n q _ _ _ _ refl none k.gave) (moved x m r _ _ _ _ is refl h.gave) in (
              (both.0.1, both.0.0),
              elim both.1 [
                | inl o ↦ inl (o.1, o.0)
                | inr (e, d, l, empty, nil) ↦
                    reads_on d e (sym l.0, sym l.1) (sym (same_marks k.taken h.taken more k.last h.last is empty none nil))
              ],
            )

        by_both : h.taken ≡ k.taken → h.last ≡ k.last → StopMarks h.last → BothWays same r q × Alongside m n
        by_both is same (inl none) = by_first [] (sym is ∙ sym (append-nil h.taken)) none
        by_both is same (inr (inl e)) =
            let both = last_both x y m n level h.taken r q f g (end_last x m h.taken r (moved x m r _ _ _ _ refl e h.gave))
            (end_last y n h.taken q (moved y n q _ _ _ _ (sym is) (sym same ∙ e) k.gave)) in
            (both.0, elim both.1 [ inl o ↦ inl o | inr o ↦ inr (inl o) ])
        by_both is same (inr (inr (kind, e))) =
            let both = fails_both kind m n r q (fault_fails x m h.taken kind r (moved x m r _ _ _ _ refl e h.gave))
            (fault_fails y n k.taken kind q (moved y n q _ _ _ _ refl (sym same ∙ e) k.gave)) in
            (both.0, inl both.1)

        read_both : BothWays same r q × Alongside m n
        read_both =
            let c = comparable_rest p _ _ (marks_agree m.reader n.reader _ _ on_first on_second) in
            let e = stops x m h.taken h.last r h.gave in
            elim (parted h.taken k.taken h.last k.last e (stops y n k.taken k.last q k.gave) c) [
              | inl (more, is, none) ↦ by_first more is none
              | inr o ↦ elim o [
                | inl (more, is, none) ↦ by_second more is none
                | inr (is, same) ↦ by_both is same e
              ]
            ]

      step_both : (x y m n : Framed T D) (r q : Option (Result X E)) → Alongside x y → ToldPoll x r m → ToldPoll y q n
          → BothWays same r q × Alongside m n
      step_both x y m n r q (inl o) h k =
          let e = after_over x m r o.0 h in
          let d = after_over y n q o.1 k in
          (rw (e.0, d.0) (both_ends same), inl (e.1, d.1))
      step_both x y m n r q (inr (inl o)) h k =
          let both = last_both x y m n o.2 [] r q h.1 k.1 (after_end x m r o.0 h) (after_end y n q o.1 k) in
          (both.0, elim both.1 [ inl o ↦ inl o | inr o ↦ inr (inl o) ])
      step_both x y m n r q (inr (inr (e, d, level, p, came, went))) h k =
          read_both x y m n r q h.1 k.1 level p came went (while_reading x m r e h) (while_reading y n q d k)

      both : (x y z w : Framed T D) (l m : List (Option (Result X E))) → Alongside x y → FoldsTo ToldPoll x l z → FoldsTo ToldPoll y m w
          → ComparableBy (SameAnswer same) l m
      both x y z w [] m t h k = tt
      both x y z w (r ∷ l) [] t h k = tt
      both x y z w (r ∷ l) (q ∷ m) t h k =
          let o = step_both x y h.0 k.0 r q t h.1 k.1 in (o.0.0, both h.0 k.0 z w l m o.1 h.2 k.2)

    begins : (x y : Framed T D) (e : FramesAlike alike x y) (p : Phase) → x.phase ≡ p → Alongside x.reader y.reader e.0 x y
    begins x y e reading is =
        inr (inr (is, sym e.3 ∙ is, (e.1, e.2), [], (stripped_laws s.laws).rests x.reader, (stripped_laws s.laws).rests y.reader))
    begins x y e ending is = inr (inl (is, sym e.3 ∙ is, (e.1, e.2)))
    begins x y e ended is = inl (is, sym e.3 ∙ is)

    same_frames : SteadinessBy (SameAnswer same) (AmpleFrames gives from_gives lacks ample) (FramesAlike alike)
    same_frames x y e l m x' y' h k =
        let t = told x x' l h in
        let u = told y y' m k in
        both x.reader y.reader e.0 x y t.0 u.0 (strip l) (strip m) (begins x y e x.phase refl) t.1 u.1

    -- The frames of readers that are alike are the same, if the decoder has one outcome for any bytes.
    pub frames_steady : SteadyLawsBy same (FoldsTo (FrameStep gives from_gives reads)) (AmpleFrames gives from_gives lacks ample)
        ⊥ (FramesAlike alike)
    frames_steady =
        record {
          laws = runs_of (stream_by_steps (λ x a y. FrameStep gives from_gives ample x a y × IsUnrefused lacks a));
          steady = same_frames;
          found = λ n. absurd n;
        }
