-- Streams whose memory may be refused in fewer cases.
use Rattle.std.specs.Prelude.{◌≡◌, ◌≤◌, ℕ, List, [], ◌∷◌, ⊤, Option, Some, None, Result}
use Rattle.lite_read.specs.Uses.{Poll, Reaches, Runs, ReadMark, MarkLaws, Global, inl, inr, Error, String, Ready, Pending, Answer, steps_answer}
use Rattle.lite_read.specs.Laws.Refusals.{pieces_weaker, segmented_weaker, takes_alike}
use Rattle.lite_read.specs.Laws.Segments.{step_before}
use Rattle.lite_read.specs.Pieces.{Cut, pieces, CutsPiece, Itemised}
use Rattle.lite_read.specs.PollSteps.{TakesPieceIn}
use Rattle.lite_read.specs.Segments.{Flows, StreamOver}
use Rattle.lite_base.specs.Laws.Segments.{segment_gives, segments_map}
use Rattle.lite_base.specs.Steady.{TakesNone}
use Rattle.lite_read.specs.Lines.{GivesLines, lines_over}
use Rattle.lite_read.specs.ReadFold.{AnswerMarks}
use Rattle.lite_read.specs.NoneRefused.{NoneRefused, NotRefused}
use Rattle.lite_read.specs.Texts.{IsText}
use Rattle.lite_read.specs.declared.lines.Lines.{Lines}

-- a stream of pieces
module _ {X S K R : Type 0} (over : StreamOver X S (List ℕ) K) (byte : K → ℕ)
    (becomes : Cut → List ℕ → R → List ℕ → Type 0) (reads : Runs ReadMark S) where
  -- whose memory may be refused if m is true
  abbrev FlowsIf : Type 0 → X → List (Poll R) → X → Type 0
  FlowsIf m = Flows over (λ k. pieces (byte k) (λ held. m) becomes) reads

module _ {X S K R : Type 0} {over : StreamOver X S (List ℕ) K} {byte : K → ℕ}
    {becomes : Cut → List ℕ → R → List ℕ → Type 0} {reads : Runs ReadMark S} where
  pub flow_weaker : (m n : Type 0) (x y : X) (l : List (Poll R)) → (m → n) → FlowsIf over byte becomes reads m x l y
      → FlowsIf over byte becomes reads n x l y
  flow_weaker m n x y l more h =
      record {
        segmented =
            segmented_weaker (pieces_weaker _ (λ held. m) (λ held. n) becomes (λ held. more)) reads _ _ _ _ l
            h.segmented;
        stays = h.stays;
        idle = h.idle;
      }

  -- an answer after some steps
  pub flow_full : MarkLaws reads → (m : X → X → Type 0)
      → ((x y z : X) → over.kept y ≡ over.kept x → over.room x ≤ over.room y → m y z → m x z)
      → {x z : X} {a : Poll R}
      → (y : X) × Reaches (TakesPieceIn over (λ k. pieces (byte k) (λ held. ⊤) becomes) reads) x y
      × FlowsIf over byte becomes reads (m y z) y (a ∷ []) z → FlowsIf over byte becomes reads (m x z) x (a ∷ []) z
  flow_full laws m sooner =
      steps_answer {answers = λ x a z. FlowsIf over byte becomes reads (m x z) x (a ∷ []) z} (λ x y z a t h.
      step_before over _ laws x y z a (takes_alike (λ v p q b h. h) x y t)
      (flow_weaker (m y z) (m x z) y z (a ∷ []) (sooner x y z t.stays.0 t.stays.1) h))

-- Runs of `split` and `lines` without a refusal are runs in which memory was found, where the reader asks for none.

module _ {A : Type 0} (whole final : List ℕ → Result A Error → Type 0) where
  -- an item that is no refusal comes of a mark
  module _ (byte : ℕ) (held after : List ℕ) (marks : List ReadMark) where
    cuts_found : (cut : Cut) (v : Option (Result A Error)) → NotRefused (Ready v) → CutsPiece byte ⊤ held marks cut
        → Itemised whole final cut held v after → CutsPiece byte ⊥ held marks cut
    cuts_found (Cut.failed e) v none (inl c) made = inl c
    cuts_found (Cut.failed e) None none (inr c) made = absurd made
    cuts_found (Cut.failed e) (Some r) none (inr c) made = absurd (none e (rw made.0) c.2)
    cuts_found _ v none c made = c

  answer_found : (byte : ℕ) (p q : List ℕ) (marks : List ReadMark) (a : Answer (Result A Error)) → NotRefused a
      → AnswerMarks (pieces byte (λ held. ⊤) (Itemised whole final)) p marks a q
      → AnswerMarks (pieces byte (λ held. ⊥) (Itemised whole final)) p marks a q
  answer_found byte p q marks Pending none h = segment_gives p q q marks Pending Pending (λ m last g. g) h
  answer_found byte p q marks (Ready v) none h =
      segment_gives p q q marks _ _ (λ m last g. (g.0, cuts_found byte m q last g.0 v none g.1 g.2, g.2)) h

  module _ {X S K : Type 0} (over : StreamOver X S (List ℕ) K) (byte : K → ℕ) {reads ample : Runs ReadMark S} where
    flow_found : TakesNone reads ample → (x y : X) (out : List (Answer (Result A Error))) → NoneRefused out
        → Flows over (λ k. pieces (byte k) (λ held. ⊤) (Itemised whole final)) reads x out y
        → Flows over (λ k. pieces (byte k) (λ held. ⊥) (Itemised whole final)) ample x out y
    flow_found all x y out none h =
        let s = h.segmented in
        let came = all _ _ s.marks s.came in
        let at = byte (over.kept x) in
        let cut = segments_map (AnswerMarks _) (AnswerMarks _) NotRefused (answer_found at) _ _
        s.marks out none s.cut in
        record { segmented = record { marks = s.marks; came = came; cut = cut }; stays = h.stays; idle = h.idle }

module _ {R : Type 0} {reads ample : Runs ReadMark R} where
  pub lines_ample : TakesNone reads ample → (x y : Lines R) (out : List (Answer (Result (String Global) Error)))
      → NoneRefused out
      → GivesLines reads ⊤ x out y → GivesLines ample ⊥ x out y
  lines_ample = flow_found (λ xs. IsText _) IsText lines_over (λ u. 10)
