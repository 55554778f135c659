-- What an encoder wrote is what a decoder reads.
use Rattle.std.specs.Prelude.{◌≡◌, Bool, true, false, ℕ, List, [], ◌∷◌, ◌++◌, map, Some, None, Result, Ok, Err, ⊤}
use Rattle.std.specs.List.{AllZip}
use Rattle.std.specs.declared.io.Error.{Error}
use Rattle.std.proofs.Common.{◌∙◌, ap, append-nil, append_assoc, inl, inr, refl, sym}
use Rattle.framed.specs.Uses.{ReadMark, bytes}
use Rattle.tokio_util.specs.Codec.Next.{Gives, IsStable, Next, at_end, decoded, partial}
use Rattle.tokio_util.specs.Codec.Whole.{EncodesAll, ReadsAll, last_frame, no_frame, whole_frame}
use Rattle.framed.specs.RoundTrip.{CollectsBack, ComesBack, FirstBack, IsBack, IsNoFrame, RoundTripLaws}
use Rattle.framed.specs.Whole.{Collects, LacksMemory, NothingElse, ReadsTo, StopsAt, at_last, goes_on, whole}
use Rattle.framed.specs.declared.collect_error.CollectError.{CollectError}
use Rattle.framed.specs.declared.collect_error.CollectError.TheVariants.{Input, Memory}

-- If some bytes and the end begin with the bytes `xs`, so do the bytes alone.
cut_bytes : (ys xs : List ℕ) (m : List ReadMark) → bytes ys ++ ReadMark.end ∷ [] ≡ bytes xs ++ m
    → (more : List ℕ) × (ys ≡ xs ++ more) × (m ≡ bytes more ++ ReadMark.end ∷ [])
cut_bytes ys [] m e = (ys, refl, sym e)
cut_bytes [] (x ∷ xs) m e = cc e
cut_bytes (y ∷ ys) (x ∷ xs) m e =
    let first : y ≡ x = cc e in
    let others : bytes ys ++ ReadMark.end ∷ [] ≡ bytes xs ++ m = cc e in
    let rest = cut_bytes ys xs m others in
    (rest.0, rw first (ap (λ l. x ∷ l) rest.1), rest.2)

-- Behind the last byte comes the end.
at_the_end : (more : List ℕ) (after : List ReadMark) → ReadMark.end ∷ after ≡ bytes more ++ ReadMark.end ∷ [] → more ≡ []
at_the_end [] after e = refl
at_the_end (b ∷ more) after e = cc e

no_fault : {k : _} (more : List ℕ) (after : List ReadMark) → ReadMark.fault k ∷ after ≡ bytes more ++ ReadMark.end ∷ [] → ⊥
no_fault [] after e = cc e
no_fault (b ∷ more) after e = cc e

module _ {C D X V E : Type 0} (encodes : C → X → List ℕ → C → Type 0) (gives : Gives D V E) (from_gives : Error → E → Type 0)
    (readable : C → List X → D → Type 0) (means : X → V → Type 0) where
  -- The laws of an encoder and a decoder.
  abbrev TripLaws : Type 0
  TripLaws = RoundTripLaws encodes gives from_gives readable means

  module _ (laws : TripLaws) where
    come_from : (items : List X) (c : C) (d : D) (bytes : List ℕ) (b : C) (out : List V) (l : List (Result V E)) → l ≡ map Ok out
        → readable c items d → EncodesAll encodes c items bytes b → ReadsAll gives d bytes l → AllZip means items out
    come_from [] c d bytes b [] l is fits written read = tt
    come_from [] c d bytes b (v ∷ out) _ is fits written (whole_frame _ _ r t ys rest g more) =
        absurd (laws.nothing c d (decoded r t ys) fits (rw written.0 at g))
    come_from [] c d bytes b (v ∷ out) _ is fits written (last_frame _ _ (Ok w) t ys rest g more) =
        absurd (laws.nothing c d (at_end (Ok (Some w)) t ys) fits (rw written.0 at g))
    come_from [] c d bytes b (v ∷ out) _ is fits written (last_frame _ _ (Err e) t ys rest g more) = cc is
    come_from [] c d bytes b (v ∷ out) _ is fits written (no_frame _ _ t ys g) = cc is
    come_from (x ∷ items) c d bytes b [] _ is fits written (whole_frame _ _ r t ys rest g more) = cc is
    come_from (x ∷ items) c d bytes b [] _ is fits written (last_frame _ _ r t ys rest g more) = cc is
    come_from (x ∷ items) c d bytes b [] _ is fits (frame, next, rest, one, cut, others) (no_frame _ _ t ys g) =
        absurd (laws.back c x items d frame next rest (at_end (Ok None) t ys) fits one (rw cut at g))
    come_from (x ∷ items) c d bytes b (v ∷ out) _ is fits (frame, next, rest, one, cut, others) (whole_frame _ _ (Err e) t ys l g more) = cc is
    come_from (x ∷ items) c d bytes b (v ∷ out) _ is fits (frame, next, rest, one, cut, others) (whole_frame _ _ (Ok w) t ys l g more) =
        let h = laws.back c x items d frame next rest (decoded (Ok w) t ys) fits one (rw cut at g) in
        let same : w ≡ v = cc is in
        let left : l ≡ map Ok out = cc is in
        (rw same at h.0, come_from items next t rest b out l left h.2 others (rw h.1 at more))
    come_from (x ∷ items) c d bytes b (v ∷ out) _ is fits (frame, next, rest, one, cut, others) (last_frame _ _ r t ys l g more) =
        absurd (laws.back c x items d frame next rest _ fits one (rw cut at g))
    come_from (x ∷ items) c d bytes b (v ∷ out) _ is fits (frame, next, rest, one, cut, others) (no_frame _ _ t ys g) = cc is

    -- What was written for the items is read as these items, in order.
    pub come_back : (c : C) (items : List X) (d : D) (bytes : List ℕ) (b : C) (out : List V) → readable c items d
        → EncodesAll encodes c items bytes b → ReadsAll gives d bytes (map Ok out) → AllZip means items out
    come_back c items d bytes b out fits written read =
        come_from items c d bytes b out (map Ok out) refl fits written read

  -- An error says that memory was refused.
  abbrev ErrorsLack : Next D V E → Type 0
  ErrorsLack (decoded (Ok v) d ys) = ⊤
  ErrorsLack (decoded (Err e) d ys) = LacksMemory from_gives e
  ErrorsLack partial = ⊤
  ErrorsLack (at_end (Ok v) d ys) = ⊤
  ErrorsLack (at_end (Err e) d ys) = LacksMemory from_gives e

  module _ (laws : TripLaws) (stable : IsStable gives) where
    back_lacks : (x : X) (more : List ℕ) (c : C) (xs : List X) (next : Next D V E) → IsBack encodes gives from_gives readable means x more c xs next → ErrorsLack next
    back_lacks x more c xs (decoded (Ok v) d ys) h = tt
    back_lacks x more c xs (decoded (Err e) d ys) h = h
    back_lacks x more c xs partial h = tt
    back_lacks x more c xs (at_end r d ys) h = absurd h

    nothing_lacks : (next : Next D V E) → IsNoFrame encodes gives from_gives readable means next → ErrorsLack next
    nothing_lacks (decoded r d ys) h = absurd h
    nothing_lacks partial h = tt
    nothing_lacks (at_end (Ok v) d ys) h = tt
    nothing_lacks (at_end (Err e) d ys) h = h

    first_lacks : (items : List X) (c : C) (d : D) (frames : List ℕ) (b : C) (next : Next D V E) → readable c items d
        → EncodesAll encodes c items frames b → gives d frames next → ErrorsLack next
    first_lacks [] c d frames b next fits written g = nothing_lacks next (laws.nothing c d next fits (rw written.0 at g))
    first_lacks (x ∷ items) c d frames b next fits (frame, m, rest, one, cut, others) g =
        back_lacks x rest m items next (laws.back c x items d frame m rest next fits one (rw cut at g))

    -- Whatever comes after some frames is no other error.
    stops_lack : (ended : Bool) (d : D) (xs : List ℕ) (out : List V) (t : D) (ys : List ℕ) → ReadsTo gives ended d xs out t ys
        → (more : List ℕ) → (ended ≡ true → more ≡ []) → (items : List X) (c b : C) → readable c items d
        → EncodesAll encodes c items (xs ++ more) b → (next : Next D V E) → gives t (ys ++ more) next → ErrorsLack next
    stops_lack ended d xs out t ys (goes_on _ _ _ _ _ resumes) more last items c b fits written next g =
        first_lacks items c d (xs ++ more) b next fits written (resumes more next g)
    stops_lack ended d xs out t ys (whole _ _ _ v u zs vs _ _ one h) more last [] c b fits written next g =
        absurd (laws.nothing c d _ fits (rw written.0 at (stable d xs (Ok v) u zs more one)))
    stops_lack ended d xs out t ys (whole _ _ _ v u zs vs _ _ one h) more last (x ∷ items) c b fits (frame, m, rest, w, cut, others) next g =
        let came = laws.back c x items d frame m rest _ fits w (rw cut at (stable d xs (Ok v) u zs more one)) in
        stops_lack ended u zs vs t ys h more last items m b came.2 (rw (sym came.1) at others) next g
    stops_lack ended d xs out t ys (at_last _ _ v u zs vs _ _ one h) more last [] c b fits written next g =
        let none : xs ≡ [] = rw (last refl, append-nil xs) at written.0 in
        absurd (laws.nothing c d _ fits (rw none at one))
    stops_lack ended d xs out t ys (at_last _ _ v u zs vs _ _ one h) more last (x ∷ items) c b fits (frame, m, rest, w, cut, others) next g =
        let all : xs ≡ frame ++ rest = rw (last refl, append-nil xs) at cut in
        absurd (laws.back c x items d frame m rest _ fits w (rw all at one))

    -- One item more comes back.
    one_more : (x : X) (v : V) (items : List X) (out : List V) → means x v → FirstBack encodes gives from_gives readable means items out
        → FirstBack encodes gives from_gives readable means (x ∷ items) (v ∷ out)
    one_more x v items out is (front, rest, cut, same) = (x ∷ front, rest, ap (λ l. x ∷ l) cut, (is, same))

    -- The frames that were read are those of the first items.
    first_back : (ended : Bool) (d : D) (xs : List ℕ) (out : List V) (t : D) (ys : List ℕ) → ReadsTo gives ended d xs out t ys
        → (more : List ℕ) → (ended ≡ true → more ≡ []) → (items : List X) (c b : C) → readable c items d
        → EncodesAll encodes c items (xs ++ more) b → FirstBack encodes gives from_gives readable means items out
    first_back ended d xs out t ys (goes_on _ _ _ _ _ resumed) more last items c b fits written = ([], items, refl, tt)
    first_back ended d xs out t ys (whole _ _ _ v u zs vs _ _ one h) more last [] c b fits written =
        absurd (laws.nothing c d _ fits (rw written.0 at (stable d xs (Ok v) u zs more one)))
    first_back ended d xs out t ys (whole _ _ _ v u zs vs _ _ one h) more last (x ∷ items) c b fits (frame, m, rest, w, cut, others) =
        let came = laws.back c x items d frame m rest _ fits w (rw cut at (stable d xs (Ok v) u zs more one)) in
        one_more x v items vs came.0 (first_back ended u zs vs t ys h more last items m b came.2 (rw (sym came.1) at others))
    first_back ended d xs out t ys (at_last _ _ v u zs vs _ _ one h) more last [] c b fits written =
        let none : xs ≡ [] = rw (last refl, append-nil xs) at written.0 in
        absurd (laws.nothing c d _ fits (rw none at one))
    first_back ended d xs out t ys (at_last _ _ v u zs vs _ _ one h) more last (x ∷ items) c b fits (frame, m, rest, w, cut, others) =
        let all : xs ≡ frame ++ rest = rw (last refl, append-nil xs) at cut in
        absurd (laws.back c x items d frame m rest _ fits w (rw all at one))

    -- The marks that were told begin the bytes `frames` and the end. They have the bytes `xs`, and then `last`.
    cut_told : (frames xs : List ℕ) (told after last : List ReadMark) → told ≡ bytes xs ++ last
        → bytes frames ++ ReadMark.end ∷ [] ≡ told ++ after
        → (more : List ℕ) × (frames ≡ xs ++ more) × (last ++ after ≡ bytes more ++ ReadMark.end ∷ [])
    cut_told frames xs told after last is e =
        cut_bytes frames xs (last ++ after) (e ∙ ap (λ l. l ++ after) is ∙ append_assoc (bytes xs) last after)

    -- Whatever is collected of these bytes: the items, or an error that says that memory was refused.
    module _ (c : C) (items : List X) (b : C) (frames : List ℕ) (written : EncodesAll encodes c items frames b) (d : D)
        (fits : readable c items d) where
      all_back : (out : List V) (xs more : List ℕ) (after : List ReadMark) → frames ≡ xs ++ more
          → ReadMark.end ∷ after ≡ bytes more ++ ReadMark.end ∷ [] → ReadsAll gives d xs (map Ok out) → AllZip means items out
      all_back out xs more after cut rest reads =
          let all : frames ≡ xs = cut ∙ rw (at_the_end more after rest) (append-nil xs) in
          come_back laws c items d frames b out fits written (rw all reads)

      stops_at : (ended : Bool) (xs more : List ℕ) (out : List V) (t : D) (ys : List ℕ) → ReadsTo gives ended d xs out t ys
          → frames ≡ xs ++ more → (ended ≡ true → more ≡ []) → (next : Next D V E) → gives t (ys ++ more) next → ErrorsLack next
      stops_at ended xs more out t ys reads cut last next g =
          stops_lack ended d xs out t ys reads more last items c b fits (rw cut at written) next g

      error_lacks : (e : E) (xs more : List ℕ) (last after : List ReadMark) (out : List V) (t : D) (ys : List ℕ) (ended : Bool)
          → ReadsTo gives ended d xs out t ys → frames ≡ xs ++ more → last ++ after ≡ bytes more ++ ReadMark.end ∷ []
          → StopsAt gives from_gives ended t ys last e → LacksMemory from_gives e
      error_lacks e xs more last after out t ys true reads cut rest (is, (u, zs, inl g)) =
          let none = at_the_end more after (rw is at rest) in
          stops_at true xs more out t ys reads cut (λ _. none) (decoded (Err e) u zs) (rw (none, append-nil ys) g)
      error_lacks e xs more last after out t ys true reads cut rest (is, (u, zs, inr g)) =
          let none = at_the_end more after (rw is at rest) in
          stops_at true xs more out t ys reads cut (λ _. none) (at_end (Err e) u zs) (rw (none, append-nil ys) g)
      error_lacks e xs more last after out t ys false reads cut rest (inl (is, u, zs, g)) =
          stops_at false xs more out t ys reads cut (λ e. cc e) (decoded (Err e) u (zs ++ more)) (stable t ys (Err e) u zs more g)
      error_lacks e xs more last after out t ys false reads cut rest (inr (cause, made, inl is)) =
          absurd (no_fault more after (rw is at rest))
      error_lacks e xs more last after out t ys false reads cut rest (inr (cause, made, inr (is, kind))) = (cause, made, kind)

      -- Behind the end no byte comes.
      none_after : (ended : Bool) (more : List ℕ) (last after : List ReadMark) → last ++ after ≡ bytes more ++ ReadMark.end ∷ []
          → NothingElse ended last → ended ≡ true → more ≡ []
      none_after true more last after rest is e = at_the_end more after (rw is at rest)
      none_after false more last after rest is e = cc e

      none_behind : (e : E) (t : D) (ys : List ℕ) (ended : Bool) (more : List ℕ) (last after : List ReadMark)
          → last ++ after ≡ bytes more ++ ReadMark.end ∷ [] → StopsAt gives from_gives ended t ys last e → ended ≡ true → more ≡ []
      none_behind e t ys true more last after rest h is = at_the_end more after (rw h.0 at rest)
      none_behind e t ys false more last after rest h is = cc is

      first_of : (ended : Bool) (xs more : List ℕ) (out : List V) (t : D) (ys : List ℕ) → ReadsTo gives ended d xs out t ys
          → frames ≡ xs ++ more → (ended ≡ true → more ≡ []) → FirstBack encodes gives from_gives readable means items out
      first_of ended xs more out t ys reads cut last =
          first_back ended d xs out t ys reads more last items c b fits (rw cut at written)

      collected : (told after : List ReadMark) → bytes frames ++ ReadMark.end ∷ [] ≡ told ++ after
          → (out : List V) (r : Result (Unit {0}) (CollectError V E)) → Collects gives from_gives d [] told out r
          → CollectsBack encodes gives from_gives readable means items out r
      collected told after is out (Ok u) (xs, told_is, reads) =
          let (more, cut, rest) = cut_told frames xs told after (ReadMark.end ∷ []) told_is is in
          all_back out xs more after cut rest reads
      collected told after is out (Err (Input e)) (xs, last, told_is, t, ys, ended, reads, stops) =
          let (more, cut, rest) = cut_told frames xs told after last told_is is in (
            error_lacks e xs more last after out t ys ended reads cut rest stops,
            first_of ended xs more out t ys reads cut (none_behind e t ys ended more last after rest stops),
          )
      collected told after is out (Err (Memory v)) (xs, last, told_is, t, ys, ended, reads, nothing) =
          let (more, cut, rest) = cut_told frames xs told after last told_is is in
          first_of ended xs more (out ++ v ∷ []) t ys reads cut (none_after ended more last after rest nothing)

    pub collects_back : (c : C) (items : List X) (b : C) → ComesBack encodes gives from_gives readable means c items b
    collects_back c items b frames written d fits told after is out r h =
        collected c items b frames written d fits told after is out r h
