-- `cycle`: a stream's results before its first end, and then those of one clone after the other. A clone's first result
-- is returned even if it is the end of the stream.
use Rattle.std.specs.Prelude.{◌≡◌, List, [], ◌∷◌, ◌++◌, Option, Some, None, IfSome, Result, Ok, Err}
use Rattle.lite_merge.specs.Uses.{Answer, Endless, end, item, all_ok, Runs}
use Rattle.lite_merge.specs.declared.cycle.Cycle.{Cycle}

module _ {S A : Type 0} (run : Runs (Answer A) S) where
  -- A part of a stream's results before its next end. After an allocation failure there is no stream, and so no result.
  abbrev pub Lap : Runs (Answer A) (Option S)
  Lap (Some s) own (Some t) = run s own t × Endless own
  Lap None own None = own ≡ []
  Lap x own y = ⊥

  -- All of a stream's results before its next end, which it has reached. After an allocation failure there is no
  -- stream, and so no result.
  abbrev pub LapOver : Option S → List (Answer A) → Type 0
  LapOver (Some s) own = (t : S) × run s (own ++ end ∷ []) t × Endless own
  LapOver None own = own ≡ []

module _ {S A E : Type 0} (run : Runs (Answer A) S) where
  -- The first result of a clone is returned as it is, as an `Ok` item if it is an item.
  abbrev pub BeginsCopy : S → List (Answer (Result A E)) → Option S → Type 0
  BeginsCopy copy out (Some s) = (first : Answer A) × run copy (first ∷ []) s × (out ≡ all_ok (first ∷ []))
  BeginsCopy copy out None = ⊥

  module _ (is_clone : S → S → Type 0) (is_infallible : S → Type 0) (original : S) where
    -- What is returned when a clone is needed: the clone's first result, or the allocation failure as an `Err` item.
    -- The failure occurs only if cloning the original may fail.
    abbrev pub Renews : Result S E → List (Answer (Result A E)) → Option S → Type 0
    Renews (Ok copy) out s = is_clone original copy × BeginsCopy copy out s
    Renews (Err e) out s = ¬ (is_infallible original) × (out ≡ item (Err e) ∷ []) × (s ≡ None)

    -- A lap that is over, and what came of cloning the original. The poll that meets the end of the lap returns the
    -- result after it. `Rest` says what follows.
    pub record LapThen (asked : Result S E) (Rest : Option S → List (Answer (Result A E)) → Type 0) (x : Option S)
        (out : List (Answer (Result A E))) : Type 0 where
      pub own : List (Answer A)
      pub over : LapOver run x own
      pub anew : List (Answer (Result A E))
      pub next : Option S
      pub renews : Renews asked anew next
      pub rest : List (Answer (Result A E))
      pub goes_on : Rest next rest
      pub joined : out ≡ all_ok own ++ (anew ++ rest)

    -- The results, lap by lap. The first list has, for each lap that is over, what came of cloning the original.
    abbrev pub Laps : List (Result S E) → Runs (Answer (Result A E)) (Option S)
    Laps [] x out y = (own : List (Answer A)) × Lap run x own y × (out ≡ all_ok own)
    Laps (asked ∷ more) x out y = LapThen asked (λ s rest. Laps more s rest y) x out

-- The stream's results before its first end, then those of each fresh clone of the original. The clone's first result
-- is returned whatever it is, and the rest before its next end. A failed clone is an `Err` item in its place. The
-- original stays as it is.
abbrev pub Cycles : {S A E : Type 0} → Runs (Answer A) S → (S → S → Type 0) → (S → Type 0)
    → Runs (Answer (Result A E)) (Cycle S)
Cycles {S} {A} {E} run is_clone is_infallible x out y =
    (asked : List (Result S E)) × Laps run is_clone is_infallible x.original asked x.stream out y.stream
    × (y.original ≡ x.original)

-- A new `cycle` polls the stream first, and keeps a clone of it as the original.
abbrev pub CycleOf : {S : Type 0} → (S → S → Type 0) → S → Cycle S → Type 0
CycleOf is_clone stream made = (made.stream ≡ Some stream) × is_clone stream made.original

-- `Fact` holds of the stream that is polled, if any, and of each clone of the original.
abbrev pub AllCopies : {S : Type 0} → (S → Type 0) → (S → S → Type 0) → Cycle S → Type 0
AllCopies {S} Fact is_clone m = IfSome m.stream Fact × ((copy : S) → is_clone m.original copy → Fact copy)
