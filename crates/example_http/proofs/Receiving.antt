-- What the reader shows, after a fill or without one, is received.
use Rattle.std.specs.Prelude.{◌≡◌, ◌≢◌, ◌⊎◌, ℕ, List, [], ◌∷◌, ◌++◌, Result, Ok, Err, refl}
use Rattle.std.specs.declared.io.Error.{Error}
use Rattle.std.proofs.Common.{ap, inl, inr, subst, sym, ◌∙◌}
use Rattle.futures_lite.specs.Laws.Told.{told_follow, told_none}
use Rattle.futures_lite.specs.Marks.{ReadMark, WriteMark, bytes, filled_marks}
use Rattle.futures_lite.specs.Own.{MarkLaws, Runs}
use Rattle.futures_lite.specs.Readers.{StandsFirst, ToldStripped, strip_marks}
use Rattle.http_server.specs.History.{History}
use Rattle.example_http.specs.Moving.{FlushesOutput, Moved, ReceivesBytes, Refills, TakesInput, arrived}
use Rattle.example_http.specs.declared.http_error.HttpError.{HttpError}
use Rattle.example_http.specs.declared.http_error.HttpError.TheVariants.{Input, Memory, Output}

strip_bytes : (xs : List ℕ) → strip_marks (bytes xs) ≡ bytes xs
strip_bytes [] = refl
strip_bytes (x ∷ xs) = ap (λ l. ReadMark.byte x ∷ l) (strip_bytes xs)

-- A fill leaves no mark or an end of file.
one_mark : (shown : List ℕ) → (filled_marks shown ≡ []) ⊎ (filled_marks shown ≡ ReadMark.end ∷ [])
one_mark [] = inr refl
one_mark (x ∷ xs) = inl refl

-- The marks of the fill, and then of what was taken.
filled_then : (shown xs : List ℕ) → StandsFirst xs shown → (xs ≡ [] → shown ≡ []) → filled_marks shown ++ bytes xs ≡ arrived xs
filled_then shown [] front none = rw (none refl) refl
filled_then shown (x ∷ xs) front none = rw front.1 refl

module _ {T O : Type 0} (reads : Runs ReadMark T) (buffer_of : T → List ℕ) (writes : Runs WriteMark O) (laws : MarkLaws reads)
  where
    abbrev Received : T → O → History → Result (Unit {0}) HttpError → T → O → History → Type 0
    Received x w h r y v k = (moved : Moved) × ReceivesBytes reads buffer_of writes x w h moved r y v k

    told_bytes : (x y : T) (xs : List ℕ) → reads x (bytes xs) y → ToldStripped reads x (bytes xs) y
    told_bytes x y xs ran = (bytes xs, ran, strip_bytes xs)

    -- The reader showed bytes, and the first of them were taken.
    pub shown_taken : (x y : T) (w : O) (h k : History) (u : Unit {0}) → buffer_of x ≢ []
        → TakesInput reads buffer_of x h (Ok u) y k → Received x w h (Ok u) y w k
    shown_taken x y w h k u some ([], ran, front, none, is) = absurd (some (none refl))
    shown_taken x y w h k u some (a ∷ xs, ran, front, none, is) =
        (record { told = bytes (a ∷ xs); took = [] }, (a ∷ xs, inr (some, refl, refl), told_bytes x y (a ∷ xs) ran, refl, is))

    -- Memory for them was refused, and then the writer was flushed.
    pub shown_refused : (x y : T) (w v : O) (h k : History) (took : List WriteMark) (e : HttpError)
        → TakesInput reads buffer_of x h (Err e) y k → FlushesOutput writes w took (Ok tt) v → Received x w h (Err e) y v k
    shown_refused x y w v h k took Memory t flushed =
        let told = subst (ToldStripped reads x []) (sym t.0) (told_none laws x) in
        (record { told = []; took = took }, (flushed, told, inl refl, t.1))
    shown_refused x y w v h k took (Input e) t flushed = absurd t
    shown_refused x y w v h k took (Output e) t flushed = absurd t

    -- Or its flush failed.
    pub shown_unflushed : (x y : T) (w v : O) (h k : History) (took : List WriteMark) (e : HttpError) (f : Error)
        → TakesInput reads buffer_of x h (Err e) y k → FlushesOutput writes w took (Err f) v → Received x w h (Err (Output f)) y v k
    shown_unflushed x y w v h k took Memory f t failed = (record { told = []; took = took }, (failed, t.0, refl, t.1))
    shown_unflushed x y w v h k took (Input e) f t failed = absurd t
    shown_unflushed x y w v h k took (Output e) f t failed = absurd t

    -- The reader was filled before.
    pub refilled_taken : (x m y : T) (w v : O) (h k : History) (moved : Moved) (u : Unit {0}) (r : Result (Unit {0}) HttpError)
        → Refills reads buffer_of writes x w moved (Ok u) m v → TakesInput reads buffer_of m h r y k → Received x w h r y v k
    refilled_taken x m y w v h k moved u (Ok z) fill t =
        let xs = t.0 in (
          record { told = moved.told ++ bytes xs; took = moved.took },
          (
            xs,
            inl fill.0,
            told_follow laws x m y moved.told (bytes xs) fill.1 (told_bytes m y xs t.1),
            ap (λ l. l ++ bytes xs) fill.2 ∙ filled_then (buffer_of m) xs t.2 t.3,
            t.4,
          ),
        )
    refilled_taken x m y w v h k moved u (Err Memory) fill t =
        (moved, (fill.0, rw t.0 fill.1, rw fill.2 (one_mark (buffer_of m)), t.1))
    refilled_taken x m y w v h k moved u (Err (Input e)) fill t = absurd t
    refilled_taken x m y w v h k moved u (Err (Output e)) fill t = absurd t
