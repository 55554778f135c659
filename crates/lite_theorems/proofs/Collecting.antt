-- What `try_collect` makes of the answers of `lines`.
use Rattle.std.specs.Prelude.{string_bytes, ◌≡◌, List, [], ◌∷◌, ◌++◌, Some, None, Result, Ok, Err}
use Rattle.lite_theorems.specs.Uses.{◌∙◌, Option, Global, refl, ap, sym, subst, append-nil, append_assoc, Error, String, Poll, Ready, Answer, Gives}
use Rattle.lite_theorems.specs.Uses.{item, Consumes, Decides, Fold, fold_of, consumes_steps, tries_collect, TryCollectError, Source, Memory, ReadMark}
use Rattle.lite_consume.specs.Consuming.{TakesIn}
use Rattle.lite_theorems.specs.Laws.Collected.{Has, held_by}
use Rattle.lite_theorems.specs.Lines.{CollectsOf, Line, StandsFor, as_lines, lines_told}
use Rattle.lite_theorems.proofs.Telling.{Given, Text}

module _ {C : Type 0} (holds : C → List (String Global) → Type 0) where
  abbrev pub Value : Type 0
  Value = Result C (TryCollectError C (String Global) Error)

  -- what the value says of the lines that P holds of, where the collection held the texts `before`
  abbrev pub Says : List (String Global) → (List Line → Type 0) → Value → Type 0
  Says before P (Ok c) =
      (texts : List (String Global)) × holds c (before ++ texts) × ((l : List Line) → P l → l ≡ as_lines texts)
  Says before P (Err (Source e)) =
      (texts : List (String Global))
      × ((l : List Line) → P l → (rest : List Line) × (l ≡ as_lines texts ++ rest) × StandsFor e rest)
  Says before P (Err (Memory m)) =
      (texts : List (String Global)) × holds m.collected (before ++ texts)
      × ((l : List Line) → P l → (rest : List Line) × (l ≡ as_lines texts ++ Ok (string_bytes m.item) ∷ rest))

  -- one text more
  one_more : (text : String Global) (before : List (String Global)) (ins : List (Answer Text)) (v : Value)
      → Says (before ++ text ∷ []) (Given ins) v
      → Says before (Given (Ready (Some (Ok text)) ∷ ins)) v
  one_more text before ins (Ok c) h = (
    text ∷ h.0,
    subst (holds c) (append_assoc before (text ∷ []) h.0) h.1,
    λ l g. g.1
        ∙ ap (λ k. Ok (string_bytes text) ∷ k) (h.2 g.0 g.2),
  )
  one_more text before ins (Err (Source e)) h =
      (text ∷ h.0, λ l g. let r = h.1 g.0 g.2 in (r.0, g.1 ∙ ap (λ k. Ok (string_bytes text) ∷ k) r.1, r.2))
  one_more text before ins (Err (Memory m)) h = (
    text ∷ h.0,
    subst (holds m.collected) (append_assoc before (text ∷ []) h.0) h.1,
    λ l g. let r = h.2 g.0 g.2 in (r.0, g.1 ∙ ap (λ k. Ok (string_bytes text) ∷ k) r.1),
  )

  -- lines of which P holds, whatever is told behind them
  pub collects_so : (marks : List ReadMark) (P : List Line → Type 0) (v : Value) → Says [] P v
      → ((more : List ReadMark) → P (lines_told [] (marks ++ more)))
      → CollectsOf holds marks v
  collects_so marks P (Ok c) h each = (h.0, h.1, λ more. h.2 (lines_told [] (marks ++ more)) (each more))
  collects_so marks P (Err (Source e)) h each =
      let r = h.1 (lines_told [] marks) (subst (λ k. P (lines_told [] k)) (append-nil marks) (each [])) in
      (h.0, r.0, r.1, r.2)
  collects_so marks P (Err (Memory m)) h each =
      let r = h.2 (lines_told [] marks) (subst (λ k. P (lines_told [] k)) (append-nil marks) (each [])) in
      (h.0, r.0, h.1, r.1)

  module _ {N : Type 0} (may_refuse : C → String Global → Type 0) (part : N → Option C) where
    abbrev Collecting : Fold N Text Value
    Collecting = fold_of part (tries_collect may_refuse holds)

    -- of what is still to come, whatever the collection has
    abbrev SaysOn : Value → N → List (Answer Text) → Type 0
    SaysOn v p ins = (before : List (String Global)) → Has holds (part p) before → Says before (Given ins) v

    one_taken : (v : Value) (p m : N) (x : Text) (ins : List (Answer Text)) → TakesIn Collecting p x m → SaysOn v m ins
        → SaysOn v p (item x ∷ ins)
    one_taken v p m (Ok text) ins t next before has =
        one_more text before ins v
        (next (before ++ text ∷ []) (t.1, t.4, t.3 before (held_by holds (part p) before t.0 has t.2)))
    one_taken v p m (Err e) ins t next before has = absurd t

    -- the answer that decides
    decides : (v : Value) (p q : N) (o : Option Text) → Decides Collecting p (Ready o) (Ready v) q
        → SaysOn v p (Ready o ∷ [])
    decides v p q None d before has =
        rw d.2 ([], subst (holds d.0) (sym (append-nil before)) (held_by holds (part p) before d.0 has d.1), λ l g. g)
    decides v p q (Some (Err e)) d before has = rw d.0 ([], λ l g. (l, refl, g))
    decides v p q (Some (Ok text)) d before has =
        rw d.5 (
          [],
          subst (holds d.1) (sym (append-nil before)) (d.4 before (held_by holds (part p) before d.0 has d.2)),
          λ l g. (g.0, g.1),
        )

    pub says : (out : List (Poll Value)) (p q : N) (ins : List (Answer Text)) (before : List (String Global))
        (v : Value) → Has holds (part p) before
        → Consumes Collecting p ins out q
        → Gives out v → Says before (Given ins) v
    says out p q ins before v has k g =
        consumes_steps Collecting (λ p ins out. Gives out v → SaysOn v p ins)
        (λ p m x i b l t k g. one_taken v p m x i t (k g)) (λ p i l k. k) q
        (λ p o r d g. subst (λ w. SaysOn w p (Ready o ∷ [])) g.0 (decides r p q o d)) p ins out (λ g. absurd g) k g
        before has
