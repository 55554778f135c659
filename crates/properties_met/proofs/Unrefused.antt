-- Reads in which nothing was refused: the marks are made into the same value where no memory is refused at all.
use Rattle.std.specs.Prelude.{⊤, Result, Ok, Err}
use Rattle.std.proofs.Common.{◌≡◌, ℕ, Global, List, [], ◌∷◌, Option, Some, None, Vec, inl, inr, refl}
use Rattle.std.specs.declared.io.Error.{Error}
use Rattle.futures.specs.declared.task.Poll.{Poll}
use Rattle.futures.specs.declared.task.Poll.TheVariants.{Ready, Pending}
use Rattle.lite_base.specs.Answers.{Answer}
use Rattle.lite_base.specs.Laws.Segments.{segment_gives, segments_map}
use Rattle.lite_base.specs.Runs.{Question, Runs}
use Rattle.lite_base.specs.Steady.{TakesNone}
use Rattle.lite_io_base.specs.Marks.{ReadMark}
use Rattle.lite_read.specs.NoneRefused.{NoneRefused, NotRefused}
use Rattle.lite_read.specs.Pieces.{Cut, CutsPiece, Itemised, pieces}
use Rattle.lite_read.specs.ReadFold.{AnswerMarks, Gathers, ReadFold}
use Rattle.lite_read.specs.ReadToEnd.{Appended, appends_where}
use Rattle.lite_read.specs.ReadUntil.{CountsPiece, until_where}
use Rattle.lite_read.specs.Split.{IsVec, Splits}
use Rattle.lite_read.specs.declared.split.Split.{Split}
use Rattle.lite_read.specs.Texts.{ValueOf, in_text}
use Rattle.properties_met.specs.Unrefused.{NoValueRefused, Unrefused}

-- the values of the one that are no refusals are those of the other
abbrev pub GivesToo : {M A : Type 0} → Question M (List ReadMark) (Result A Error)
    → Question M (List ReadMark) (Result A Error) → Type 0
GivesToo {M} {A} gives more =
    (p q : M) (l : List ReadMark) (r : Result A Error) → Unrefused r → gives p l r q → more p l r q

module _ (may : Type 0) where
  appended_found : (start : ℕ) (g : List ℕ) (l : List ReadMark) (r : Result ℕ Error) → Unrefused r
      → Appended may start g l r → Appended ⊥ start g l r
  appended_found start g (ReadMark.end ∷ []) (Ok n) none h = h
  appended_found start g (ReadMark.fault kind ∷ []) (Err e) none h = h
  appended_found start g [] (Err e) none h = absurd (none e refl h.1)
  appended_found start g l r none h = absurd h

  cut_found : (byte : ℕ) (held after : List ℕ) (l : List ReadMark) (cut : Cut) (r : Result ℕ Error) → Unrefused r
      → CutsPiece byte may held l cut → CountsPiece byte cut held r after → CutsPiece byte ⊥ held l cut
  cut_found byte held after l (Cut.failed e) r none (inl c) made = inl c
  cut_found byte held after l (Cut.failed e) r none (inr c) made = absurd (none e made.1 c.2)
  cut_found byte held after l cut r none c made = c

module _ (may : List ℕ → Type 0) where
  pub appends_found : (start : ℕ) → GivesToo (appends_where may start).gives (appends_where (λ g. ⊥) start).gives
  appends_found start p q l r none h = (appended_found (may p) start p l r none h.0, h.1)

  pub until_found : (byte : ℕ) → GivesToo (until_where byte may).gives (until_where byte (λ held. ⊥)).gives
  until_found byte p q l r none h = (h.0, cut_found (may p) byte p q l h.0 r none h.1 h.2, h.2)

-- a value that goes into a text with one that is no refusal is none
value_unrefused : (xs : List ℕ) (v r : Result ℕ Error) → ValueOf xs v r → Unrefused r → Unrefused v
value_unrefused xs (Ok n) r h none e same = cc same
value_unrefused xs (Err f) r h none e same = none e (cc (h, same))

module _ (fold more : ReadFold (List ℕ) (Result ℕ Error)) (gives : GivesToo fold.gives more.gives) where
  pub text_found : GivesToo (in_text fold).gives (in_text more).gives
  text_found p q l r none h =
      (h.0, h.1, gives p.read h.1 l h.0 (value_unrefused h.1 h.0 r h.3 none) h.2, h.3, h.4, h.5)

module _ {M A : Type 0} where
  -- what is taken in and when more is asked for, and then the values
  abbrev pub giving : (M → ℕ → M → Type 0) → (M → Type 0) → Question M (List ReadMark) (Result A Error)
      → ReadFold M (Result A Error)
  giving takes asks gives = record { takes = takes; asks = asks; gives = gives }

  answer_found : (takes : M → ℕ → M → Type 0) (asks : M → Type 0)
      (gives more : Question M (List ReadMark) (Result A Error)) → GivesToo gives more → (p q : M) (l : List ReadMark)
      (a : Poll (Result A Error)) → ((r : Result A Error) → a ≡ Ready r → Unrefused r)
      → AnswerMarks (giving takes asks gives) p l a q → AnswerMarks (giving takes asks more) p l a q
  answer_found takes asks gives more found p q l Pending none h =
      segment_gives p q q l Pending Pending (λ m last g. g) h
  answer_found takes asks gives more found p q l (Ready r) none h =
      segment_gives p q q l (Ready r) (Ready r) (λ m last g. found m q last r (none r refl) g) h

-- the same of all answers of a future, whose reader asks for no memory
pub gathers_found : {X S M A : Type 0} {reader : X → S} {held : X → M} {takes : X → M → ℕ → M → Type 0}
    {asks : X → M → Type 0} {gives more : X → Question M (List ReadMark) (Result A Error)} {Keeps : X → X → Type 0}
    {reads ample : Runs ReadMark S}
    → TakesNone reads ample → ((x : X) → GivesToo (gives x) (more x)) → (x y : X)
    (out : List (Poll (Result A Error))) → NoValueRefused out
    → Gathers reader held (λ v. giving (takes v) (asks v) (gives v)) Keeps reads x out y
    → Gathers reader held (λ v. giving (takes v) (asks v) (more v)) Keeps ample x out y
gathers_found {takes} {asks} {gives} {more} all found x y out none h =
    let s = h.folded in
    let each = answer_found (takes x) (asks x) (gives x) (more x) (found x) in
    let cut = segments_map (AnswerMarks _) (AnswerMarks _) _ each _ _ s.marks out none s.cut in
    record {
      folded = record { marks = s.marks; came = all _ _ s.marks s.came; cut = cut };
      ends = h.ends;
      stays = h.stays;
      idle = h.idle;
    }

-- an item that is no refusal comes of a mark
module _ {A : Type 0} (whole final : List ℕ → Result A Error → Type 0) (byte : ℕ) where
  item_found : (held after : List ℕ) (l : List ReadMark) (cut : Cut) (v : Option (Result A Error))
      → NotRefused (Ready v) → CutsPiece byte ⊤ held l cut → Itemised whole final cut held v after
      → CutsPiece byte ⊥ held l cut
  item_found held after l (Cut.failed e) v none (inl c) made = inl c
  item_found held after l (Cut.failed e) None none (inr c) made = absurd made
  item_found held after l (Cut.failed e) (Some r) none (inr c) made = absurd (none e (rw made.0) c.2)
  item_found held after l cut v none c made = c

  piece_found : (p q : List ℕ) (l : List ReadMark) (a : Answer (Result A Error)) → NotRefused a
      → AnswerMarks (pieces byte (λ held. ⊤) (Itemised whole final)) p l a q
      → AnswerMarks (pieces byte (λ held. ⊥) (Itemised whole final)) p l a q
  piece_found p q l Pending none h = segment_gives p q q l Pending Pending (λ m last g. g) h
  piece_found p q l (Ready v) none h =
      segment_gives p q q l (Ready v) (Ready v) (λ m last g. (g.0, item_found m q last g.0 v none g.1 g.2, g.2)) h

pub split_ample : {R : Type 0} {reads ample : Runs ReadMark R} → TakesNone reads ample → (x y : Split R)
    (out : List (Answer (Result (Vec ℕ Global) Error))) → NoneRefused out → Splits reads ⊤ x out y
    → Splits ample ⊥ x out y
split_ample all x y out none h =
    let s = h.segmented in
    let each = piece_found IsVec IsVec x.byte in
    let cut = segments_map (AnswerMarks _) (AnswerMarks _) NotRefused each _ _ s.marks out none s.cut in
    record {
      segmented = record { marks = s.marks; came = all _ _ s.marks s.came; cut = cut };
      stays = h.stays;
      idle = h.idle;
    }
