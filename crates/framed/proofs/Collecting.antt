-- Collecting the frames of a reader.
use Rattle.std.specs.Prelude.{◌≡◌, ◌⊎◌, Bool, true, false, ℕ, List, [], ◌∷◌, ◌++◌, map, Option, Some, None, Result, Ok, Err}
use Rattle.std.specs.declared.io.Error.{Error}
use Rattle.std.proofs.Common.{◌∙◌, ap, append-nil, append_assoc, inl, inr, refl, subst, sym}
use Rattle.framed.specs.Uses.{MarkLaws, ReadMark, Ready, Runs, bytes}
use Rattle.tokio_util.specs.Codec.Next.{Gives, IsStable, Resumes, at_end, decoded}
use Rattle.tokio_util.specs.Codec.Whole.{ReadsAll, last_frame, no_frame, whole_frame}
use Rattle.tokio_util.proofs.CodecLemmas.Next.{Resumes-append, Resumes_now}
use Rattle.framed.specs.FrameLaws.{not_after}
use Rattle.lent_frames.specs.LendingLaws.{join_marks}
use Rattle.framed.specs.Frames.{FrameStep, Framed, ended, ending, reading}
use Rattle.framed.specs.declared.collect_error.CollectError.TheVariants.{Input, Memory}
use Rattle.framed.specs.Whole.{Collects, CollectsLast, ReadsTo, at_last, goes_on, whole}

module _ {D X E : Type 0} {gives : Gives D X E} where
  -- Bytes that follow are left behind the frames.
  reads_append : IsStable gives → (c : D) (xs : List ℕ) (items : List X) (d : D) (ys more : List ℕ)
      → ReadsTo gives false c xs items d ys → ReadsTo gives false c (xs ++ more) items d (ys ++ more)
  reads_append stable c xs items d ys more (goes_on _ _ _ _ _ h) =
      goes_on false c (xs ++ more) d (ys ++ more) (Resumes-append gives c xs d ys more h)
  reads_append stable c xs items d ys more (whole _ _ _ v t zs rest _ _ g h) =
      whole false c (xs ++ more) v t (zs ++ more) rest d (ys ++ more) (stable c xs (Ok v) t zs more g)
      (reads_append stable t zs rest d ys more h)

  reads_ended : (c : D) (xs : List ℕ) (items : List X) (d : D) (ys : List ℕ) → ReadsTo gives false c xs items d ys
      → ReadsTo gives true c xs items d ys
  reads_ended c xs items d ys (goes_on _ _ _ _ _ h) = goes_on true c xs d ys h
  reads_ended c xs items d ys (whole _ _ _ v t zs rest _ _ g h) =
      whole true c xs v t zs rest d ys g (reads_ended t zs rest d ys h)

  -- One more frame.
  reads_one : (b : Bool) (c : D) (xs : List ℕ) (items : List X) (d : D) (ys : List ℕ) (v : X) (t : D) (zs : List ℕ)
      → ReadsTo gives b c xs items d ys → gives d ys (decoded (Ok v) t zs) → ReadsTo gives b c xs (items ++ v ∷ []) t zs
  reads_one b c xs items d ys v t zs (goes_on _ _ _ _ _ h) g =
      whole b c xs v t zs [] t zs (Resumes_now gives c xs d ys (decoded (Ok v) t zs) h g) (goes_on b t zs t zs (λ more next k. k))
  reads_one b c xs items d ys v t zs (whole _ _ _ w u us rest _ _ f h) g =
      whole b c xs w u us (rest ++ v ∷ []) t zs f (reads_one b u us rest d ys v t zs h g)
  reads_one b c xs items d ys v t zs (at_last _ _ w u us rest _ _ f h) g =
      at_last c xs w u us (rest ++ v ∷ []) t zs f (reads_one true u us rest d ys v t zs h g)

  reads_last : (b : Bool) → b ≡ true → (c : D) (xs : List ℕ) (items : List X) (d : D) (ys : List ℕ) (v : X) (t : D) (zs : List ℕ)
      → ReadsTo gives b c xs items d ys → gives d ys (at_end (Ok (Some v)) t zs)
      → ReadsTo gives true c xs (items ++ v ∷ []) t zs
  reads_last b e c xs items d ys v t zs (goes_on _ _ _ _ _ h) g =
      at_last c xs v t zs [] t zs (Resumes_now gives c xs d ys (at_end (Ok (Some v)) t zs) h g)
      (goes_on true t zs t zs (λ more next k. k))
  reads_last b e c xs items d ys v t zs (whole _ _ _ w u us rest _ _ f h) g =
      whole true c xs w u us (rest ++ v ∷ []) t zs f (reads_last b e u us rest d ys v t zs h g)
  reads_last b e c xs items d ys v t zs (at_last _ _ w u us rest _ _ f h) g =
      at_last c xs w u us (rest ++ v ∷ []) t zs f (reads_last true refl u us rest d ys v t zs h g)

  resumed : (c : D) (xs : List ℕ) (d : D) (ys : List ℕ) (l : List (Result X E)) → Resumes gives c xs d ys
      → ReadsAll gives d ys l → ReadsAll gives c xs l
  resumed c xs d ys l h (whole_frame _ _ r t zs rest g k) =
      whole_frame c xs r t zs rest (Resumes_now gives c xs d ys _ h g) k
  resumed c xs d ys l h (last_frame _ _ r t zs rest g k) =
      last_frame c xs r t zs rest (Resumes_now gives c xs d ys _ h g) k
  resumed c xs d ys l h (no_frame _ _ t zs g) = no_frame c xs t zs (Resumes_now gives c xs d ys _ h g)

  -- After these frames come all those of the bytes that are left.
  reads_all : (b : Bool) (c : D) (xs : List ℕ) (items : List X) (d : D) (ys : List ℕ) (rest : List (Result X E))
      → ReadsTo gives b c xs items d ys → ReadsAll gives d ys rest → ReadsAll gives c xs (map Ok items ++ rest)
  reads_all b c xs items d ys rest (goes_on _ _ _ _ _ h) k = resumed c xs d ys rest h k
  reads_all b c xs items d ys rest (whole _ _ _ v t zs more _ _ g h) k =
      whole_frame c xs (Ok v) t zs (map Ok more ++ rest) g (reads_all b t zs more d ys rest h k)
  reads_all b c xs items d ys rest (at_last _ _ v t zs more _ _ g h) k =
      last_frame c xs (Ok v) t zs (map Ok more ++ rest) g (reads_all true t zs more d ys rest h k)

-- These frames were collected from `x` on, and the stream became `y`.
module _ {T D X E : Type 0} (gives : Gives D X E) (told : Runs ReadMark T) (x : Framed T D) where
  pub data Collected (items : List X) (y : Framed T D) : Type 0 where
    still : (xs : List ℕ) → y.phase ≡ reading → told x.reader (bytes xs) y.reader
        → ReadsTo gives false x.decoder (x.held ++ xs) items y.decoder y.held → Collected items y
    at_the_end : (xs : List ℕ) → y.phase ≡ ending → told x.reader (bytes xs ++ ReadMark.end ∷ []) y.reader
        → ReadsTo gives true x.decoder (x.held ++ xs) items y.decoder y.held → Collected items y

-- The end of the input was read before. These frames were collected from `x` on, and the stream became `y`.
abbrev pub LastCollected : {T D X E : Type 0} → Gives D X E → Framed T D → List X → Framed T D → Type 0
LastCollected gives x items y = (y.phase ≡ ending) × (y.reader ≡ x.reader) × ReadsTo gives true x.decoder x.held items y.decoder y.held

module _ {T D X E : Type 0} (gives : Gives D X E) (from_gives : Error → E → Type 0) (told : Runs ReadMark T)
    (laws : MarkLaws told) (stable : IsStable gives) (x : Framed T D) where
  join : (m y : Framed T D) (xs ys : List ℕ) (last : List ReadMark) → told x.reader (bytes xs) m.reader
      → told m.reader (bytes ys ++ last) y.reader → told x.reader (bytes (xs ++ ys) ++ last) y.reader
  join m y xs ys last h k =
      subst (λ l. told x.reader l y.reader) (join_marks xs ys last) (laws.follows _ _ _ _ _ h k)

  more_bytes : (m : Framed T D) (xs ys : List ℕ) (items : List X)
      → ReadsTo gives false x.decoder (x.held ++ xs) items m.decoder m.held
      → ReadsTo gives false x.decoder (x.held ++ (xs ++ ys)) items m.decoder (m.held ++ ys)
  more_bytes m xs ys items h =
      subst (λ l. ReadsTo gives false x.decoder l items m.decoder (m.held ++ ys)) (append_assoc x.held xs ys)
      (reads_append stable _ _ items _ _ ys h)

  one_at_end : (m y : Framed T D) (xs zs : List ℕ) (items : List X) (v : X) → ReadsTo gives true x.decoder xs items m.decoder zs
      → gives m.decoder zs (decoded (Ok v) y.decoder y.held) ⊎ gives m.decoder zs (at_end (Ok (Some v)) y.decoder y.held)
      → ReadsTo gives true x.decoder xs (items ++ v ∷ []) y.decoder y.held
  one_at_end m y xs zs items v h (inl g) = reads_one true _ _ items _ _ v _ _ h g
  one_at_end m y xs zs items v h (inr g) = reads_last true refl _ _ items _ _ v _ _ h g

  pub more : (items : List X) (m y : Framed T D) (v : X) → Collected gives told x items m
      → FrameStep gives from_gives told m (Ready (Some (Ok v))) y → Collected gives told x (items ++ v ∷ []) y
  more items m y v (still xs phase came reads) (inl (r, is, after)) = absurd (not_after gives m y r phase after)
  more items m y v (still xs phase came reads) (inr (_, ys, last, next, inl k)) =
      still (xs ++ ys) k.1.0
      (subst (λ l. told x.reader l y.reader) (append-nil _) (join m y xs ys [] came (rw k.0 at next)))
      (rw k.1.1 (reads_one false _ _ items _ _ v _ _ (more_bytes m xs ys items reads) k.1.3))
  more items m y v (still xs phase came reads) (inr (_, ys, last, next, inr k)) =
      at_the_end (xs ++ ys) k.1.0 (join m y xs ys (ReadMark.end ∷ []) came (rw k.0 at next))
      (one_at_end m y _ _ items v (reads_ended _ _ _ _ _ (more_bytes m xs ys items reads)) (inr k.1.1))
  more items m y v (at_the_end xs phase came reads) (inl (r, is, inl after)) = let e = after.0 in cc
  more items m y v (at_the_end xs phase came reads) (inl (None, is, inr after)) = cc is
  more items m y v (at_the_end xs phase came reads) (inl (Some (Err e), is, inr after)) = cc is
  more items m y v (at_the_end xs phase came reads) (inl (Some (Ok w), is, inr after)) =
      let same : w ≡ v = cc is in
      at_the_end xs after.1.0 (rw after.2 came)
      (one_at_end m y _ _ items v reads (rw (append-nil m.held, same) at after.1.1))
  more items m y v (at_the_end xs phase came reads) (inr h) = let e = h.0 in cc

  all : (items : List X) (m y : Framed T D) → Collected gives told x items m → FrameStep gives from_gives told m (Ready None) y
      → (xs : List ℕ) × told x.reader (bytes xs ++ ReadMark.end ∷ []) y.reader
      × ReadsAll gives x.decoder (x.held ++ xs) (map Ok items)
  all items m y (still xs phase came reads) (inl (r, is, after)) = absurd (not_after gives m y r phase after)
  all items m y (still xs phase came reads) (inr (_, ys, last, next, k)) = (
    xs ++ ys,
    join m y xs ys (ReadMark.end ∷ []) came (rw k.0 at next),
    rw (append-nil _) at (reads_all false _ _ items _ _ [] (more_bytes m xs ys items reads) (no_frame _ _ _ _ k.1.1)),
  )
  all items m y (at_the_end xs phase came reads) (inl (r, is, inl after)) = let e = after.0 in cc
  all items m y (at_the_end xs phase came reads) (inl (Some v, is, inr after)) = cc is
  all items m y (at_the_end xs phase came reads) (inl (None, is, inr after)) = (
    xs,
    rw after.2 came,
    rw (append-nil _) at (reads_all true _ _ items _ _ [] reads (no_frame _ _ _ _ (rw (append-nil m.held) at after.1.1))),
  )
  all items m y (at_the_end xs phase came reads) (inr h) = let e = h.0 in cc

  pub all_frames : (items : List X) (m y : Framed T D) → Collected gives told x items m → FrameStep gives from_gives told m (Ready None) y
      → (l : List ReadMark) × told x.reader l y.reader × Collects gives from_gives x.decoder x.held l items (Ok tt)
  all_frames items m y h k = let a = all items m y h k in (_, a.1, (a.0, refl, a.2))

  pub stops : (items : List X) (m y : Framed T D) (e : E) → Collected gives told x items m
      → FrameStep gives from_gives told m (Ready (Some (Err e))) y
      → (l : List ReadMark) × told x.reader l y.reader × Collects gives from_gives x.decoder x.held l items (Err (Input e))
  stops items m y e (still xs phase came reads) (inl (r, is, after)) = absurd (not_after gives m y r phase after)
  stops items m y e (still xs phase came reads) (inr (_, ys, last, next, inl k)) = (
    _,
    join m y xs ys last came next,
    (xs ++ ys, last, refl, m.decoder, m.held ++ ys, false, more_bytes m xs ys items reads, inl (k.0, _, _, k.1.1)),
  )
  stops items m y e (still xs phase came reads) (inr (_, ys, last, next, inr (inl k))) = (
    _,
    join m y xs ys last came next,
    (xs ++ ys, last, refl, m.decoder, m.held ++ ys, true, reads_ended _ _ _ _ _ (more_bytes m xs ys items reads), (k.0, (_, _, k.1.1))),
  )
  stops items m y e (still xs phase came reads) (inr (_, ys, last, next, inr (inr k))) = (
    _,
    join m y xs ys last came next,
    (xs ++ ys, last, refl, m.decoder, m.held ++ ys, false, more_bytes m xs ys items reads, inr k.0),
  )
  stops items m y e (at_the_end xs phase came reads) (inl (r, is, inl after)) = let e = after.0 in cc
  stops items m y e (at_the_end xs phase came reads) (inl (None, is, inr after)) = cc is
  stops items m y e (at_the_end xs phase came reads) (inl (Some (Ok w), is, inr after)) = cc is
  stops items m y e (at_the_end xs phase came reads) (inl (Some (Err f), is, inr after)) =
      let same : f ≡ e = cc is in (
        _,
        rw after.2 came,
        (xs, ReadMark.end ∷ [], refl, m.decoder, m.held, true, reads, (refl, (_, _, rw (append-nil m.held, same) at after.1.1))),
      )
  stops items m y e (at_the_end xs phase came reads) (inr h) = let e = h.0 in cc

  -- The vector had no room for the last frame.
  pub refused : (items : List X) (v w : X) (y : Framed T D) → w ≡ v → Collected gives told x (items ++ v ∷ []) y
      → (l : List ReadMark) × told x.reader l y.reader × Collects gives from_gives x.decoder x.held l items (Err (Memory w))
  refused items v w y same (still xs phase came reads) = (
    _,
    subst (λ l. told x.reader l y.reader) (sym (append-nil _)) came,
    (xs, [], refl, y.decoder, y.held, false, rw same reads, refl),
  )
  refused items v w y same (at_the_end xs phase came reads) =
      (_, came, (xs, ReadMark.end ∷ [], refl, y.decoder, y.held, true, rw same reads, refl))

  pub none_yet : x.phase ≡ reading → Collected gives told x [] x
  none_yet phase =
      still [] phase (laws.rests x.reader)
      (subst (λ l. ReadsTo gives false x.decoder l [] x.decoder x.held) (sym (append-nil x.held))
      (goes_on false x.decoder x.held x.decoder x.held (λ l next h. h)))

  pub none_left : x.phase ≡ ending → LastCollected gives x [] x
  none_left phase = (phase, refl, goes_on true x.decoder x.held x.decoder x.held (λ l next h. h))

  pub last_more : (items : List X) (m y : Framed T D) (v : X) → LastCollected gives x items m
      → FrameStep gives from_gives told m (Ready (Some (Ok v))) y → LastCollected gives x (items ++ v ∷ []) y
  last_more items m y v (phase, same, reads) (inl (r, is, inl after)) = let e = after.0 in cc
  last_more items m y v (phase, same, reads) (inl (None, is, inr after)) = cc is
  last_more items m y v (phase, same, reads) (inl (Some (Err e), is, inr after)) = cc is
  last_more items m y v (phase, same, reads) (inl (Some (Ok w), is, inr after)) =
      let one : w ≡ v = cc is in
      (after.1.0, after.2 ∙ same, one_at_end m y _ _ items v reads (rw (append-nil m.held, one) at after.1.1))
  last_more items m y v (phase, same, reads) (inr h) = let e = h.0 in cc

  pub all_left : (items : List X) (m y : Framed T D) → LastCollected gives x items m
      → FrameStep gives from_gives told m (Ready None) y
      → (y.reader ≡ x.reader) × CollectsLast gives from_gives x.decoder x.held items (Ok tt)
  all_left items m y (phase, same, reads) (inl (r, is, inl after)) = let e = after.0 in cc
  all_left items m y (phase, same, reads) (inl (Some v, is, inr after)) = cc is
  all_left items m y (phase, same, reads) (inl (None, is, inr after)) =
      let whole = reads_all true _ _ items _ _ [] reads (no_frame _ _ _ _ (rw (append-nil m.held) at after.1.1)) in
      (after.2 ∙ same, rw (append-nil _) at whole)
  all_left items m y (phase, same, reads) (inr h) = let e = h.0 in cc

  pub last_stops : (items : List X) (m y : Framed T D) (e : E) → LastCollected gives x items m
      → FrameStep gives from_gives told m (Ready (Some (Err e))) y
      → (y.reader ≡ x.reader) × CollectsLast gives from_gives x.decoder x.held items (Err (Input e))
  last_stops items m y e (phase, same, reads) (inl (r, is, inl after)) = let k = after.0 in cc
  last_stops items m y e (phase, same, reads) (inl (None, is, inr after)) = cc is
  last_stops items m y e (phase, same, reads) (inl (Some (Ok w), is, inr after)) = cc is
  last_stops items m y e (phase, same, reads) (inl (Some (Err f), is, inr after)) =
      let one : f ≡ e = cc is in
      (after.2 ∙ same, (m.decoder, m.held, reads, (_, _, rw (append-nil m.held, one) at after.1.1)))
  last_stops items m y e (phase, same, reads) (inr h) = let k = h.0 in cc

  pub last_refused : (items : List X) (v w : X) (y : Framed T D) → w ≡ v → LastCollected gives x (items ++ v ∷ []) y
      → (y.reader ≡ x.reader) × CollectsLast gives from_gives x.decoder x.held items (Err (Memory w))
  last_refused items v w y is (phase, same, reads) = (same, (y.decoder, y.held, rw is reads))

  -- Behind the end nothing is given.
  pub nothing_left : (m y : Framed T D) (r : Option (Result X E)) → m ≡ x → x.phase ≡ ended
      → FrameStep gives from_gives told m (Ready r) y → (r ≡ None) × (y ≡ x)
  nothing_left m y r unmoved phase (inl (q, is, inl after)) = (cc (is, after.1), after.2 ∙ unmoved)
  nothing_left m y r unmoved phase (inl (q, is, inr after)) =
      let e = after.0 in let k = ap (λ f. f.phase) unmoved ∙ phase in cc
  nothing_left m y r unmoved phase (inr h) = let e = h.0 in let k = ap (λ f. f.phase) unmoved ∙ phase in cc
