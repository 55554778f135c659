-- The pieces that are cut out of marks do not depend on their `Pending`s.
use Rattle.std.specs.Prelude.{⊤, ◌≡◌, ◌<◌, ℕ, List, [], ◌∷◌, Option, Some, None, Result, length}
use Rattle.lite_read.specs.Uses.{◌∙◌, inl, inr, refl, ap, sym, arith, error_kind, Error, ErrorKind, OptionBy, Sameness, CalmLaws, SteadyLawsBy, Runs}
use Rattle.lite_read.specs.Uses.{ReadMark, CalmReadLaws, SteadyReadLaws, SameOr}
use Rattle.lite_read.specs.ReadFold.{ReadFold}
use Rattle.lite_read.specs.Laws.Deterministic.{GivenBy, TakenAt, deterministic_by, segmented_alike, segmented_calm}
use Rattle.lite_read.specs.Deterministic.{IsDeterministic}
use Rattle.lite_read.specs.Laws.Segments.{flow_runs}
use Rattle.lite_read.specs.Pieces.{Cut, CutsPiece, Itemised, pieces}
use Rattle.lite_read.specs.Segments.{Flows, StreamOver}

-- Two cuts are of one kind, and of equal bytes, or both are errors of one kind.
abbrev pub SameCut : Cut → Cut → Type 0
SameCut (Cut.piece xs) (Cut.piece ys) = xs ≡ ys
SameCut (Cut.last xs) (Cut.last ys) = xs ≡ ys
SameCut Cut.nothing Cut.nothing = ⊤
SameCut (Cut.failed e) (Cut.failed f) = error_kind e ≡ error_kind f
SameCut a b = ⊥

-- The four ways in which the bytes held are cut if no allocation fails: a delimiter, end of file with some bytes held,
-- end of file with none, or an error of the reader.
data CutsNow (byte : ℕ) (held : List ℕ) : List ReadMark → Cut → Type 0 where
  piece : (b : ℕ) → b ≡ byte → CutsNow byte held (ReadMark.byte b ∷ []) (Cut.piece held)
  last : 0 < length held → CutsNow byte held (ReadMark.end ∷ []) (Cut.last held)
  nothing : held ≡ [] → CutsNow byte held (ReadMark.end ∷ []) Cut.nothing
  failed : (e : Error) (kind : ErrorKind) → error_kind e ≡ kind
      → CutsNow byte held (ReadMark.fault kind ∷ []) (Cut.failed e)

cuts_now : (byte : ℕ) (held : List ℕ) (l : List ReadMark) (cut : Cut) → CutsPiece byte ⊥ held l cut
    → CutsNow byte held l cut
cuts_now byte held l (Cut.piece xs) h = rw (h.0, h.1) (CutsNow.piece _ refl)
cuts_now byte held l (Cut.last xs) h = rw (h.0, h.2) (CutsNow.last h.1)
cuts_now byte held l Cut.nothing h = rw h.0 (CutsNow.nothing h.1)
cuts_now byte held l (Cut.failed e) (inl h) = rw h (CutsNow.failed e _ refl)
cuts_now byte held l (Cut.failed e) (inr h) = absurd h.1

given_by : {R : Type 0} (byte : ℕ) (becomes : Cut → List ℕ → R → List ℕ → Type 0) (held : List ℕ) (l : List ReadMark)
    (cut : Cut) → CutsNow byte held l cut → GivenBy ⊥ (TakenAt (pieces byte (λ held. ⊥) becomes) held) l
given_by byte becomes held _ _ (CutsNow.piece b e) = GivenBy.at_mark _ (λ n. n) (λ t. t.3.0 (cc (t.2, e))) tt
given_by byte becomes held _ _ _ = GivenBy.at_mark _ (λ n. n) (λ t. cc t.2) tt

one_cut : (byte : ℕ) (held : List ℕ) (l : List ReadMark) (a b : Cut) → CutsNow byte held l a → CutsNow byte held l b
    → SameCut a b
one_cut byte held _ _ _ (CutsNow.piece b e) (CutsNow.piece _ f) = refl
one_cut byte held _ _ _ (CutsNow.last some) (CutsNow.last more) = refl
one_cut byte held _ _ _ (CutsNow.nothing none) (CutsNow.nothing again) = tt
one_cut byte held _ _ _ (CutsNow.failed e kind h) (CutsNow.failed f _ k) = h ∙ sym k
one_cut byte held _ _ _ (CutsNow.last some) (CutsNow.nothing none) = absurd (omega (arith, ap length none))
one_cut byte held _ _ _ (CutsNow.nothing none) (CutsNow.last some) = absurd (omega (arith, ap length none))

-- Cuts that are the same become values that `same` relates, and leave equal bytes held.
abbrev pub BecomesOne : {R : Type 0} → (R → R → Type 0) → (Cut → List ℕ → R → List ℕ → Type 0) → Type 0
BecomesOne {R} same becomes = (a b : Cut) (held : List ℕ) (v w : R) (p q : List ℕ) → SameCut a b → becomes a held v p
    → becomes b held w q → same v w × (p ≡ q)

pub pieces_deterministic : {R : Type 0} {same : R → R → Type 0} (byte : ℕ)
    (becomes : Cut → List ℕ → R → List ℕ → Type 0) → BecomesOne same becomes
    → IsDeterministic same (pieces byte (λ held. ⊥) becomes)
pieces_deterministic byte becomes one =
    deterministic_by _ (λ p. ⊥) (λ p q r b h k. h.1 ∙ sym k.1) (λ p r b h n. n)
    (λ p q l v h. given_by byte becomes p l h.0 (cuts_now byte p l h.0 h.1))
    (λ p q r l v w h k.
    one h.0 k.0 p v w q r (one_cut byte p l h.0 k.0 (cuts_now byte p l h.0 h.1) (cuts_now byte p l k.0 k.1)) h.2 k.2)

-- The results that `makes` allows for the same bytes are the same: both `Ok` with values that `same` relates, or both
-- errors of one kind.
abbrev pub MakesOne : {A : Type 0} → (A → A → Type 0) → (List ℕ → Result A Error → Type 0) → Type 0
MakesOne {A} same makes = (xs : List ℕ) (r s : Result A Error) → makes xs r → makes xs s → SameOr same r s

module _ {A : Type 0} {same : A → A → Type 0} {whole final : List ℕ → Result A Error → Type 0}
    (one : MakesOne same whole) (end : MakesOne same final) where
  -- What a poll result of a stream of pieces holds if it is ready: a piece, an error, or `None` at the end.
  abbrev PieceItem : Type 0
  PieceItem = Option (Result A Error)

  -- The item that a cut becomes, with the bytes held before and after it.
  abbrev PieceMade : Cut → List ℕ → PieceItem → List ℕ → Type 0
  PieceMade = Itemised whole final

  both_made : (makes : List ℕ → Result A Error → Type 0) → MakesOne same makes → (xs ys : List ℕ) (r s : Result A Error)
      → xs ≡ ys → makes xs r → makes ys s → SameOr same r s
  both_made makes m xs ys r s e h = m ys r s (rw (← e) h)

  itemised_one : BecomesOne (OptionBy (SameOr same)) PieceMade
  itemised_one (Cut.piece xs) (Cut.piece ys) held (Some r) (Some s) p q e h k =
      (both_made whole one xs ys r s e h.0 k.0, h.1 ∙ sym k.1)
  itemised_one (Cut.last xs) (Cut.last ys) held (Some r) (Some s) p q e h k =
      (both_made final end xs ys r s e h.0 k.0, h.1 ∙ sym k.1)
  itemised_one Cut.nothing Cut.nothing held None None p q e h k = (tt, h ∙ sym k)
  itemised_one (Cut.failed a) (Cut.failed b) held (Some r) (Some s) p q e h k = rw (h.0, k.0) (e, h.1 ∙ sym k.1)
  itemised_one (Cut.piece xs) (Cut.piece ys) held None w p q e h k = absurd h
  itemised_one (Cut.piece xs) (Cut.piece ys) held (Some r) None p q e h k = absurd k
  itemised_one (Cut.last xs) (Cut.last ys) held None w p q e h k = absurd h
  itemised_one (Cut.last xs) (Cut.last ys) held (Some r) None p q e h k = absurd k
  itemised_one Cut.nothing Cut.nothing held (Some r) w p q e h k = absurd h
  itemised_one Cut.nothing Cut.nothing held None (Some s) p q e h k = absurd k
  itemised_one (Cut.failed a) (Cut.failed b) held None w p q e h k = absurd h
  itemised_one (Cut.failed a) (Cut.failed b) held (Some r) None p q e h k = absurd k
  itemised_one _ _ held v w p q e h k = absurd e

  pub items_deterministic : (byte : ℕ)
      → IsDeterministic (OptionBy (SameOr same)) (pieces byte (λ held. ⊥) (Itemised whole final))
  items_deterministic byte = pieces_deterministic byte _ itemised_one

module _ {X S M K : Type 0} (over : StreamOver X S M K) where
  -- Two streams of pieces hold equal bytes and have equal settings, over readers that are alike.
  abbrev pub FlowAlike : (S → S → Type 0) → X → X → Type 0
  FlowAlike alike x y =
      alike (over.reader x) (over.reader y) × (over.held x ≡ over.held y) × (over.kept x ≡ over.kept y)

module _ {X S M K A : Type 0} (over : StreamOver X S M K) where
  pub flow_steady : {same : A → A → Type 0} {reads ample : Runs ReadMark S} {needs_none : Type 0}
      {alike : S → S → Type 0} (refusing fold : K → ReadFold M (Option A))
      → ((k : K) → IsDeterministic (OptionBy same) (fold k)) → SteadyReadLaws reads ample needs_none alike
      → SteadyLawsBy (Sameness.by same) (Flows over refusing reads) (Flows over fold ample) ⊥ (FlowAlike over alike)
  flow_steady refusing fold deterministic s =
      record {
        laws = flow_runs over fold s.laws;
        steady = λ x y e l m x' y' h k.
            segmented_alike _ (deterministic _) s _ _ _ _ _ _ _ l m e.0 h.segmented (rw (← e.1, ← e.2) at k.segmented);
        found = λ n. absurd n;
      }

  pub flow_calm : {reads : Runs ReadMark S} {is_calm : S → Type 0} (fold : K → ReadFold M (Option A))
      → CalmReadLaws reads is_calm
      → CalmLaws (Flows over fold reads) (λ x. is_calm (over.reader x))
  flow_calm fold c =
      record {
        no_pending = λ x y l k h. (segmented_calm _ _ _ _ _ l c k h.segmented).0;
        calm_on = λ x y l k h. (segmented_calm _ _ _ _ _ l c k h.segmented).1;
      }
