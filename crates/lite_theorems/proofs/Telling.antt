-- What the answers of `lines` say of the lines that are told.
use Rattle.std.specs.Prelude.{⊤, string_bytes, ◌≡◌, ◌≢◌, ◌==◌, ℕ, List, [], ◌∷◌, ◌++◌, Some, None, Result, Ok, Err, Bool, true, false}
use Rattle.lite_theorems.specs.Uses.{◌∙◌, inl, inr, Option, Global, arith, refl, ap, sym, subst, append_assoc}
use Rattle.lite_theorems.specs.Uses.{error_kind, FoldsTo, Error, OutOfMemory, String, Ready, Pending, Answer}
use Rattle.lite_theorems.specs.Uses.{segment_front, ReadMark, bytes, line_fold, Cut, PieceSegments, without_return}
use Rattle.lite_read.specs.Texts.{IsText}
use Rattle.std.proofs.Common.{eqb-true}
use Rattle.lite_theorems.specs.Lines.{Line, StandsFor, lines_told}

abbrev pub Text : Type 0
Text = Result (String Global) Error

-- these lines are told where these answers are given, and others behind them; of what comes behind an error nothing is
-- said
abbrev pub Given : List (Answer Text) → List Line → Type 0
Given [] l = ⊤
Given (Pending ∷ ins) l = Given ins l
Given (Ready None ∷ ins) l = l ≡ []
Given (Ready (Some (Ok text)) ∷ ins) l = (rest : List Line) × (l ≡ Ok (string_bytes text) ∷ rest) × Given ins rest
Given (Ready (Some (Err e)) ∷ ins) l = StandsFor e l

-- bytes other than the newline
not_true : (c : Bool) → (c ≡ true → ⊥) → c ≡ false
not_true true n = absurd (n refl)
not_true false n = refl

other_byte : (b : ℕ) → b ≢ 10 → (b == 10) ≡ false
other_byte b n = not_true (b == 10) (λ e. n (eqb-true b 10 e))

taken_in : (p q xs : List ℕ) (l : List ReadMark) → FoldsTo (line_fold ⊤ tt).takes p xs q
    → lines_told p (bytes xs ++ l) ≡ lines_told q l
taken_in p q [] l f = rw f refl
taken_in p q (x ∷ xs) l f =
    let here : lines_told p (ReadMark.byte x ∷ (bytes xs ++ l)) ≡ lines_told (p ++ x ∷ []) (bytes xs ++ l) =
    (rw (other_byte x f.1.0) refl) in
    here ∙ taken_in (p ++ x ∷ []) q xs l (subst (λ m. FoldsTo (line_fold ⊤ tt).takes m xs q) f.1.1 f.2)

refused : (e : Error) (l : List Line) → error_kind e ≡ OutOfMemory → StandsFor e l
refused e [] is = is
refused e (Ok xs ∷ l) is = inl is
refused e (Err kind ∷ l) is = inl is

-- a line and its item
line_given : (xs : List ℕ) (r : Text) (ins : List (Answer Text)) (l : List Line) → IsText xs r → Given ins l
    → Given (Ready (Some r) ∷ ins) (Ok xs ∷ l)
line_given xs (Ok text) ins l is g = (l, rw is refl, g)
line_given xs (Err e) ins l is g = inr is

cut_given : (p q : List ℕ) (last : List ReadMark) (r : Option Text) (ins : List (Answer Text)) (l : List ReadMark)
    → (line_fold ⊤ tt).gives p last r q
    → Given ins (lines_told q l)
    → Given (Ready r ∷ ins) (lines_told p (last ++ l))
cut_given p q last (Some r) ins l (Cut.piece xs, is, becomes) g =
    rw is.0 (line_given (without_return p) r ins (lines_told [] l)
    (subst (λ ys. IsText (without_return ys) r) is.1 becomes.0)
    (subst (λ m. Given ins (lines_told m l)) becomes.1 g))
cut_given [] q last (Some r) ins l (Cut.last xs, is, becomes) g = absurd (omega (arith, is.1))
cut_given (b ∷ p) q last (Some r) ins l (Cut.last xs, is, becomes) g =
    rw is.0 (line_given (b ∷ p) r ins (lines_told [] l) (subst (λ ys. IsText ys r) is.2 becomes.0)
    (subst (λ m. Given ins (lines_told m l)) becomes.1 g))
cut_given p q last None ins l (Cut.nothing, is, becomes) g = rw (is.0, is.1) refl
cut_given p q last (Some r) ins l (Cut.failed e, inl is, becomes) g = rw (is, becomes.0) (inr refl)
cut_given p q last (Some r) ins l (Cut.failed e, inr is, becomes) g =
    rw becomes.0 (refused e (lines_told p (last ++ l)) is.2)
cut_given p q last r ins l (cut, is, becomes) g = absurd becomes

pub given : (p q : List ℕ) (ms : List ReadMark) (ins : List (Answer Text)) → PieceSegments (line_fold ⊤ tt) p ms ins q
    → (l : List ReadMark)
    → Given ins (lines_told p (ms ++ l))
given p q ms [] h l = tt
given p q ms (Pending ∷ ins) h l =
    let w = h.4 in
    let rest = subst (λ m. Given ins (lines_told m (h.1 ++ l))) w.given.2 (given h.2 q h.1 ins h.5 l) in
    let here = taken_in p w.between w.taken (ReadMark.pending ∷ (h.1 ++ l)) w.folds in
    let same = segment_front p h.2 (ms ++ l) h.0 (h.1 ++ l) Pending w (ap (λ k. k ++ l) h.3 ∙ append_assoc h.0 h.1 l)
    ∙ ap (λ k. bytes w.taken ++ (k ++ (h.1 ++ l))) w.given.0 in
    subst (Given ins) (sym (ap (lines_told p) same ∙ here)) rest
given p q ms (Ready r ∷ ins) h l =
    let c = h.4 in
    let rest = given h.2 q h.1 ins h.5 l in
    let here = taken_in p c.between c.taken (c.last ++ (h.1 ++ l)) c.folds in
    let same = segment_front p h.2 (ms ++ l) h.0 (h.1 ++ l) (Ready r) c
    (ap (λ k. k ++ l) h.3 ∙ append_assoc h.0 h.1 l) in
    subst (Given (Ready r ∷ ins)) (sym (ap (lines_told p) same ∙ here))
    (cut_given c.between h.2 c.last r ins (h.1 ++ l) c.given rest)
