-- Waiting for a fill.
use Rattle.std.specs.Prelude.{◌≡◌, ℕ, List, [], ◌∷◌, Result, Ok, Err, refl}
use Rattle.std.specs.List.{FoldsTo}
use Rattle.std.specs.declared.io.Error.{Error}
use Rattle.std.proofs.Common.{◌∙◌}
use Rattle.futures_lite.specs.Answers.{Gives, Pending, Poll, Ready, UpToValue}
use Rattle.futures_lite.specs.Marks.{ReadMark, filled_marks}
use Rattle.futures_lite.specs.Own.{MarkLaws, Runs}
use Rattle.futures_lite.specs.Readers.{ToldStripped, strip_marks}
use Rattle.example_http.specs.Filling.{FillStep, FilledUp}
use Rattle.example_http.specs.declared.filling.Filling.{Filling}

pub up_one : {A : Type 0} (a : Poll A) → UpToValue (a ∷ [])
up_one Pending = tt
up_one (Ready v) = refl

-- What is known of a value is known of one that equals it.
pub at_value : {S : Type 0} (P : S → Type 0) {x y : S} → P x → y ≡ x → P y
at_value P h e = rw e h

strip_filled : (shown : List ℕ) → strip_marks (filled_marks shown) ≡ filled_marks shown
strip_filled [] = refl
strip_filled (x ∷ xs) = refl

module _ {T : Type 0} (reads : Runs ReadMark T) (buffer_of : T → List ℕ) where
  -- A fill that was waited for.
  abbrev pub WaitedFill : T → Result (Unit {0}) Error → T → Type 0
  WaitedFill x v y = (told : List ReadMark) × ToldStripped reads x told y × FilledUp told (buffer_of y) v

  ready_fill : (x y : Filling T) (v : Result (Unit {0}) Error) → FillStep reads buffer_of x (Ready v) y
      → WaitedFill x.reader.now v y.reader.now
  ready_fill x y (Ok u) h = (_, (_, h.0, strip_filled (buffer_of y.reader.now)), refl)
  ready_fill x y (Err e) h = (_, (_, h.0, refl), refl)

  pub fill_waited : MarkLaws reads → (x y : Filling T) (l : List (Poll (Result (Unit {0}) Error)))
      (v : Result (Unit {0}) Error) → Gives l v → FoldsTo (FillStep reads buffer_of) x l y
      → WaitedFill x.reader.now v y.reader.now × (y.reader.ghost_name ≡ x.reader.ghost_name)
  fill_waited laws x y [] v g h = absurd g
  fill_waited laws x y (Pending ∷ l) v g h =
      let more = fill_waited laws h.0 y l v g h.2 in
      let told = more.0.1 in (
        (more.0.0, (_, laws.follows _ _ _ _ told.0 h.1.0 told.1, told.2), more.0.2),
        more.1 ∙ h.1.1,
      )
  fill_waited laws x y (Ready w ∷ l) v g h =
      let same : h.0 ≡ y = rw g.1 at h.2 in
      let step = rw (g.0, same) at h.1 in
      (ready_fill x y v step, step.1)
