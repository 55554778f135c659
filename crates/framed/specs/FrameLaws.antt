-- Laws of the frames of a reader.
use Rattle.std.specs.Prelude.{◌≡◌, ◌⊎◌, ◌<◌, ℕ, zero, suc, List, [], ◌∷◌, ◌++◌, length, Option, Some, None, Result, Ok, Err}
use Rattle.std.specs.List.{FoldsTo}
use Rattle.std.specs.declared.io.Error.{Error}
use Rattle.std.proofs.Common.{◌∙◌, ap, append-nil, append_assoc, arith, inl, inr, length-append, refl, subst, sym}
use Rattle.std.proofs.lemmas.List.{nil_from_length}
use Rattle.framed.specs.Uses.{Answer, MarkLaws, Pending, Ranks, Reaches, ReadCounting, ReadMark, Ready, Runs, bytes}
use Rattle.lite_base.specs.Answers.{end, item, items}
use Rattle.lite_io_base.specs.Marks.{given_count}
use Rattle.lite_base.specs.Laws.Ranks.{AtMost-both, Below-after, Below-first}
use Rattle.lite_base.specs.Ranks.{AtMost, Below, Lowers, OkCounting}
use Rattle.lite_base.specs.Ranks.{all_ok}
use Rattle.lite_base.specs.Laws.Ranks.{AtMost-then_below, Lowers-at_most, Lowers-then_at_most}
use Rattle.lite_io_base.specs.Counting.{Falls}
use Rattle.lite_io_base.specs.Laws.Counting.{GivenRun}
use Rattle.lite_io_base.specs.Laws.Marks.{given_count-append, given_count-bytes}
use Rattle.lite_io_base.specs.Laws.Counting.{given_of}
use Rattle.lite_base.specs.Laws.Chain.{steps_answer}
use Rattle.tokio_util.specs.Codec.Next.{Gives, Next, PartialHasNoFrame, Resumes, at_end, decoded, partial}
use Rattle.tokio_util.proofs.CodecLemmas.Next.{Resumes-append, Resumes_trans}
pub use Rattle.lent_frames.specs.LendingLaws.{join_marks}
use Rattle.framed.specs.Frames.{AfterEnd, Found, FrameStep, Framed, ResumesAt, Last, Phase, PollGives, NoFrame, ended, ending, frame_ranks, phase_rank, reading}
use Rattle.framed.specs.Prompt.{PromptLaws}

module _ {T D X E : Type 0} (gives : Gives D X E) (reads : Runs ReadMark T) where
  -- A step within a poll: some bytes were taken, and there is no whole frame yet.
  pub record TakesMore (x y : Framed T D) : Type 0 where
    pub taken : List ℕ
    pub some : 0 < length taken
    pub came : reads x.reader (bytes taken) y.reader
    pub was : x.phase ≡ reading
    pub waits : NoFrame gives x taken y

module _ {T D X E : Type 0} {gives : Gives D X E} {reads : Runs ReadMark T} where
  -- Such a step lowers the reader's rank.
  pub takes_given : (x y : Framed T D) → TakesMore gives reads x y → GivenRun reads x.reader y.reader
  takes_given x y t = given_of reads _ _ t.taken t.some t.came

-- If two lists together are empty, the second one is.
nothing_after : (ys xs : List ℕ) → ys ++ xs ≡ [] → xs ≡ []
nothing_after [] xs e = e
nothing_after (y ∷ ys) xs e = cc e

module _ {T D X E : Type 0} (gives : Gives D X E) (x m z : Framed T D) (ys : List ℕ) (goes : ResumesAt gives x ys m) where
  -- What comes out of `m` after the bytes `xs` comes out of `x` after `ys` and then `xs`.
  comes : (xs : List ℕ) (next : Next D X E) → gives m.decoder (m.held ++ xs) next
      → gives x.decoder (x.held ++ (ys ++ xs)) next
  comes xs next h = subst (λ l. gives x.decoder l next) (append_assoc x.held ys xs) (goes xs next h)

  pub goes_on : (xs : List ℕ) → ResumesAt gives m xs z → ResumesAt gives x (ys ++ xs) z
  goes_on xs k =
      subst (λ l. Resumes gives x.decoder l z.decoder z.held) (append_assoc x.held ys xs)
      (Resumes_trans gives _ _ m.decoder (m.held ++ xs) _ _ (Resumes-append gives _ _ _ _ xs goes) k)

  pub last_on : (xs : List ℕ) (r : Option (Result X E)) → Last gives m xs r z → Last gives x (ys ++ xs) r z
  last_on xs None k = (k.0, comes xs _ k.1)
  last_on xs (Some (Ok v)) k =
      (k.0, elim k.1 [ inl p ↦ inl (comes xs _ p) | inr q ↦ inr (comes xs _ q) ])
  last_on xs (Some (Err e)) k =
      (k.0, elim k.1 [ inl p ↦ inl (comes xs _ p) | inr q ↦ inr (comes xs _ q) ])

  module _ (no_frame : PartialHasNoFrame gives) (none : gives m.decoder m.held partial) where
    -- If `m` holds no whole frame, a frame that is found has a byte of `xs`.
    found_on : (xs : List ℕ) (r : Option (Result X E)) → Found gives m xs r z → Found gives x (ys ++ xs) r z
    found_on xs None k = k
    found_on xs (Some (Ok v)) k = (
      k.0,
      k.1,
      (λ empty. absurd (no_frame m.decoder m.held v z.decoder [] none
          (rw (nothing_after ys xs empty, append-nil m.held) at k.3))),
      comes xs _ k.3,
    )
    found_on xs (Some (Err e)) k = (k.0, comes xs _ k.1)

    pub polled_on : (from_gives : Error → E → Type 0) (xs : List ℕ) (last : List ReadMark) (a : Answer (Result X E))
        → PollGives gives from_gives m xs last a z → PollGives gives from_gives x (ys ++ xs) last a z
    polled_on from_gives xs last Pending k = (k.0, (k.1.0, k.1.1, goes_on xs k.1.2))
    polled_on from_gives xs last (Ready None) k = (k.0, last_on xs None k.1)
    polled_on from_gives xs last (Ready (Some (Ok v))) k =
        elim k [ inl p ↦ inl (p.0, found_on xs (Some (Ok v)) p.1) | inr q ↦ inr (q.0, (q.1.0, comes xs _ q.1.1)) ]
    polled_on from_gives xs last (Ready (Some (Err e))) k =
        elim k [
          | inl p ↦ inl (p.0, found_on xs (Some (Err e)) p.1)
          | inr q ↦ elim q [
            | inl p ↦ inr (inl (p.0, last_on xs (Some (Err e)) p.1))
            | inr p ↦ inr (inr (p.0, p.1, goes_on xs p.2, p.3))
          ]
        ]

-- after the end nothing is read
pub not_after : {T D X E : Type 0} (gives : Gives D X E) (x y : Framed T D) (r : Option (Result X E)) → x.phase ≡ reading
    → AfterEnd gives x r y → ⊥
not_after gives x y r was (inl k) = let e = k.0 in cc
not_after gives x y r was (inr k) = let e = k.0 in cc

module _ {T D X E : Type 0} (gives : Gives D X E) (from_gives : Error → E → Type 0) (reads : Runs ReadMark T)
    (laws : MarkLaws reads) (no_frame : PartialHasNoFrame gives) where
  -- Some bytes were taken, of which no frame came, and then came the poll result.
  pub joined : (x m z : Framed T D) (a : Answer (Result X E)) (taken : List ℕ) → x.phase ≡ reading → NoFrame gives x taken m
      → reads x.reader (bytes taken) m.reader → FrameStep gives from_gives reads m a z
      → FrameStep gives from_gives reads x a z
  joined x m z a taken was waits came (inl (r, is, after)) = absurd (not_after gives m z r waits.0 after)
  joined x m z a taken was waits came (inr (_, xs, last, more, polled)) =
      inr (
        was,
        taken ++ xs,
        last,
        subst (λ l. reads x.reader l z.reader) (join_marks taken xs last) (laws.follows _ _ _ _ _ came more),
        polled_on gives x m z taken waits.2 no_frame waits.1 from_gives xs last a polled,
      )

  frame_before : (x m z : Framed T D) (a : Answer (Result X E)) → TakesMore gives reads x m
      → FrameStep gives from_gives reads m a z → FrameStep gives from_gives reads x a z
  frame_before x m z a t h = joined x m z a t.taken t.was t.waits t.came h

  -- Steps that take bytes, followed by a poll result, are one step with that result.
  pub frame_ran : {x z : Framed T D} {a : Answer (Result X E)}
      → (y : Framed T D) × Reaches (TakesMore gives reads) x y × FrameStep gives from_gives reads y a z
      → FrameStep gives from_gives reads x a z
  frame_ran = steps_answer frame_before

module _ {T D X E : Type 0} (gives : Gives D X E) (from_gives : Error → E → Type 0) (reads : Runs ReadMark T) where
  -- A fact about the reader that its runs keep is kept by a poll.
  pub step_keeps : (P : T → Type 0) → ((s t : T) (l : List ReadMark) → P s → reads s l t → P t) → (x y : Framed T D)
      (a : Answer (Result X E)) → P x.reader → FrameStep gives from_gives reads x a y → P y.reader
  step_keeps P keeps x y a c (inl (r, is, inl h)) = rw h.2 c
  step_keeps P keeps x y a c (inl (r, is, inr h)) = rw h.2 c
  step_keeps P keeps x y a c (inr h) = keeps _ _ _ c h.3

  module _ {r : Ranks T} (counting : ReadCounting reads r) where
    pub frame_counts : (x y : Framed T D) (a : Answer (Result X E)) → r.counts x.reader
        → FrameStep gives from_gives reads x a y → r.counts y.reader
    frame_counts = step_keeps r.counts counting.counts_on

    frame_firm : (x y : Framed T D) (a : Answer (Result X E)) → r.firm x.reader
        → FrameStep gives from_gives reads x a y → r.firm y.reader
    frame_firm = step_keeps r.firm counting.firm_on

    run_firm : (x y : Framed T D) (l : List (Answer (Result X E))) → r.firm x.reader
        → FoldsTo (FrameStep gives from_gives reads) x l y → r.firm y.reader
    run_firm x y [] c h = rw (← h) c
    run_firm x y (a ∷ l) c h = run_firm h.0 y l (frame_firm x h.0 a c h.1) h.2

rank_falls : (k : ℕ) (rs ss us vs : List ℕ) → Falls k rs ss → length us ≡ length vs → (k ≡ 0 → Below us vs)
    → Below (rs ++ us) (ss ++ vs)
rank_falls zero rs ss us vs h e b = Below-after rs ss us vs h (b refl)
rank_falls (suc k) rs ss us vs h e b = Below-first rs ss us vs h e

rank_stays : (k : ℕ) (rs ss us vs : List ℕ) → Falls k rs ss → length us ≡ length vs → (k ≡ 0 → AtMost us vs)
    → AtMost (rs ++ us) (ss ++ vs)
rank_stays zero rs ss us vs h e b = AtMost-both rs ss us vs h (b refl)
rank_stays (suc k) rs ss us vs h e b = inr (Below-first rs ss us vs h e)

no_bytes : (xs : List ℕ) (last : List ReadMark) → given_count (bytes xs ++ last) ≡ 0 → xs ≡ []
no_bytes xs last e = nil_from_length xs (omega (arith, given_count-append (bytes xs) last, given_count-bytes xs))

zeros_low : (n k : ℕ) → AtMost (0 ∷ 0 ∷ 0 ∷ []) (0 ∷ n ∷ k ∷ [])
zeros_low (suc n) k = inr (inr (refl, inl (omega arith, refl)))
zeros_low zero (suc k) = inr (inr (refl, inr (refl, inl (omega arith, refl))))
zeros_low zero zero = inl refl

no_debt : (n k : ℕ) → n ≡ 0 → AtMost (1 ∷ 0 ∷ n ∷ []) (1 ∷ 0 ∷ k ∷ [])
no_debt n zero e = inl (rw e refl)
no_debt n (suc k) e = inr (inr (refl, inr (refl, inl (omega (arith, e), refl))))

module _ {D : Type 0} (owes : D → ℕ) where
  rank_width : (s : Phase) (c : D) (xs : List ℕ) → length (phase_rank owes s c xs) ≡ 3
  rank_width reading c xs = refl
  rank_width ending c xs = refl
  rank_width ended c xs = refl

module _ {D X E : Type 0} (gives : Gives D X E) (owes : D → ℕ) (laws : PromptLaws gives owes) where
  shorter : (c d : D) (xs ys : List ℕ) (v : X) (frame : List ℕ) → xs ≡ frame ++ ys → gives c frame (decoded (Ok v) d [])
      → Below (0 ∷ length ys ∷ owes d ∷ []) (0 ∷ length xs ∷ owes c ∷ [])
  shorter c d xs ys v [] e h = inr (refl, inr (ap length (sym e), inl (laws.owed c v d h, refl)))
  shorter c d xs ys v (b ∷ frame) e h =
      inr (refl, inl (omega (arith, ap length e, length-append (b ∷ frame) ys), refl))

  at_last : (c d : D) (xs ys : List ℕ) (v : X) → gives c xs (decoded (Ok v) d ys) ⊎ gives c xs (at_end (Ok (Some v)) d ys)
      → Below (0 ∷ length ys ∷ owes d ∷ []) (0 ∷ length xs ∷ owes c ∷ [])
  at_last c d xs ys v (inl h) = let one = laws.alone c xs v d ys h in shorter c d xs ys v one.0 one.1 one.2
  at_last c d xs ys v (inr h) = inr (refl, inl (laws.last c xs v d ys h, refl))

module _ {T D : Type 0} (owes : D → ℕ) where
  -- the part of the rank that is not the reader's
  abbrev own : Framed T D → List ℕ
  own x = phase_rank owes x.phase x.decoder x.held

  own_width : (x y : Framed T D) → length (own x) ≡ length (own y)
  own_width x y = rank_width owes x.phase x.decoder x.held ∙ sym (rank_width owes y.phase y.decoder y.held)

  own_at : (x : Framed T D) (s : Phase) → x.phase ≡ s → own x ≡ phase_rank owes s x.decoder x.held
  own_at x s e = ap (λ t. phase_rank owes t x.decoder x.held) e

  leaves_reading : (y : Framed T D) (n k : ℕ) → (y.phase ≡ ending) ⊎ (y.phase ≡ ended) → Below (own y) (1 ∷ n ∷ k ∷ [])
  leaves_reading y n k (inl e) = rw (own_at y ending e) (inl (omega arith, refl))
  leaves_reading y n k (inr e) = rw (own_at y ended e) (inl (omega arith, refl))

module _ {T D X E : Type 0} (gives : Gives D X E) (owes : D → ℕ) (laws : PromptLaws gives owes) where
  module _ (from_gives : Error → E → Type 0) (reads : Runs ReadMark T) {r : Ranks T}
      (counting : ReadCounting reads r) where
    -- The rank of a framed reader.
    abbrev whole : Framed T D → List ℕ
    whole x = (frame_ranks owes r).rank x

    fallen : (x y : Framed T D) (l : List ReadMark) → r.firm x.reader → reads x.reader l y.reader
        → (given_count l ≡ 0 → Below (own owes y) (own owes x)) → Below (whole y) (whole x)
    fallen x y l f came b = rank_falls (given_count l) _ _ _ _ (counting.lowers _ _ l f came) (own_width owes y x) b

    stayed : (x y : Framed T D) (l : List ReadMark) → r.firm x.reader → reads x.reader l y.reader
        → (given_count l ≡ 0 → AtMost (own owes y) (own owes x)) → AtMost (whole y) (whole x)
    stayed x y l f came b = rank_stays (given_count l) _ _ _ _ (counting.lowers _ _ l f came) (own_width owes y x) b

    kept_falls : (x y : Framed T D) → y.reader ≡ x.reader → Below (own owes y) (own owes x) → Below (whole y) (whole x)
    kept_falls x y e b = rank_falls zero _ _ _ _ (inl (ap r.rank e)) (own_width owes y x) (λ _. b)

    kept_stays : (x y : Framed T D) → y.reader ≡ x.reader → AtMost (own owes y) (own owes x) → AtMost (whole y) (whole x)
    kept_stays x y e b = rank_stays zero _ _ _ _ (inl (ap r.rank e)) (own_width owes y x) (λ _. b)

    -- a frame of no byte that was read
    found_none : (x y : Framed T D) (xs : List ℕ) (v : X) → x.phase ≡ reading → Found gives x xs (Some (Ok v)) y → xs ≡ []
        → Below (own owes y) (own owes x)
    found_none x y xs v was h none =
        rw (own_at owes x reading was, own_at owes y reading h.0)
        (inr (refl, inr (refl, inl (laws.owed x.decoder v y.decoder (rw (none, h.2 none) at h.3), refl))))

    step_item : (x y : Framed T D) (v : X) → r.firm x.reader → FrameStep gives from_gives reads x (item (Ok v)) y
        → Below (whole y) (whole x)
    step_item x y v f (inl (Some (Ok w), is, inl h)) = let e = h.1 in cc
    step_item x y v f (inl (Some (Ok w), is, inr h)) =
        kept_falls x y h.2
        (rw (own_at owes x ending h.0, own_at owes y ending h.1.0)
        (at_last gives owes laws x.decoder y.decoder x.held y.held w (rw (append-nil x.held) at h.1.1)))
    step_item x y v f (inl (Some (Err e), is, h)) = cc is
    step_item x y v f (inl (None, is, h)) = cc is
    step_item x y v f (inr (was, xs, last, came, inl polled)) =
        fallen x y _ f came (λ none. found_none x y xs v was polled.1 (no_bytes xs last none))
    step_item x y v f (inr (was, xs, last, came, inr polled)) =
        fallen x y _ f came (λ none. rw (own_at owes x reading was) (leaves_reading owes y _ _ (inl polled.1.0)))

    step_end : (x y : Framed T D) → r.firm x.reader → FrameStep gives from_gives reads x end y
        → AtMost (whole y) (whole x)
    step_end x y f (inl (None, is, inl h)) = inl (ap whole h.2)
    step_end x y f (inl (None, is, inr h)) =
        kept_stays x y h.2 (rw (own_at owes x ending h.0, own_at owes y ended h.1.0) (zeros_low _ _))
    step_end x y f (inl (Some v, is, h)) = cc is
    step_end x y f (inr (was, xs, last, came, polled)) =
        stayed x y _ f came (λ none. rw (own_at owes x reading was) (inr (leaves_reading owes y _ _ (inr polled.1.0))))

    step_pending : (x y : Framed T D) → r.firm x.reader → FrameStep gives from_gives reads x Pending y
        → AtMost (whole y) (whole x)
    step_pending x y f (inl (v, is, h)) = cc is
    step_pending x y f (inr (was, xs, last, came, polled)) =
        stayed x y _ f came (λ none. rw (own_at owes x reading was, own_at owes y reading polled.1.0)
        (no_debt _ _ (laws.waits _ _ polled.1.1)))

    run_lowers : (x y : Framed T D) (l : List (Answer X)) → r.firm x.reader
        → FoldsTo (FrameStep gives from_gives reads) x (all_ok l) y → Lowers l (whole y) (whole x)
    run_lowers x y [] f h = inl (ap whole (sym h))
    run_lowers x y (Pending ∷ l) f h =
        let firm = frame_firm gives from_gives reads counting x h.0 _ f h.1 in
        Lowers-then_at_most l _ _ _ (run_lowers h.0 y l firm h.2) (step_pending x h.0 f h.1)
    run_lowers x y (Ready None ∷ l) f h =
        let firm = frame_firm gives from_gives reads counting x h.0 _ f h.1 in
        Lowers-then_at_most l _ _ _ (run_lowers h.0 y l firm h.2) (step_end x h.0 f h.1)
    run_lowers x y (Ready (Some v) ∷ l) f h =
        let firm = frame_firm gives from_gives reads counting x h.0 _ f h.1 in
        AtMost-then_below _ _ _ (Lowers-at_most l _ _ (run_lowers h.0 y l firm h.2)) (step_item x h.0 v f h.1)

    -- Each frame lowers the rank.
    pub frames_counting : OkCounting (FoldsTo (FrameStep gives from_gives reads)) (frame_ranks owes r)
    frames_counting =
        record {
          sized = λ x. length-append _ (own owes x)
              ∙ omega (arith, counting.sized x.reader, rank_width owes x.phase x.decoder x.held);
          counts_on = run_firm gives from_gives reads counting;
          firm_on = run_firm gives from_gives reads counting;
          falls = λ x y a more f h. run_lowers x y (items (a ∷ more)) f h;
          lowers = run_lowers;
        }
