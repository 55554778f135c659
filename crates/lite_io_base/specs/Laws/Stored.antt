-- What a vector stores, and what a writer behind a mutable reference stores.
use Rattle.std.specs.Prelude.{◌≡◌, List, ℕ, [], ◌∷◌, ◌++◌, refl, ⊤}
use Rattle.lite_io_base.specs.Uses.{◌∙◌, append-nil, ErrorKind, MutBor, Lent, Runs}
use Rattle.std.proofs.Common.{append_assoc}
use Rattle.lite_io_base.specs.WriteMarks.{WriteMark, bytes_taken}
use Rattle.lite_io_base.specs.Runs.{MarkLaws}
use Rattle.lite_io_base.specs.Steady.{CalmWriteLaws, NoPendingWrite, SteadyWriteLaws}
use Rattle.lite_io_base.specs.Stored.{Grows, GrowsWhere, IsRefusal, Stored, Stores}

-- Laws of a vector as a writer. Two vectors are alike if their bytes are equal.

-- For a vector that may return errors of these kinds.
module _ (may : ErrorKind → Type 0) where
  grows_follows : (x y z : List ℕ) (l m : List WriteMark) → GrowsWhere may x l y → GrowsWhere may y m z
      → GrowsWhere may x (l ++ m) z
  grows_follows x y z [] m h k = rw (← h) k
  grows_follows x y z (WriteMark.wrote xs ∷ l) m h k = grows_follows _ y z l m h k
  grows_follows x y z (WriteMark.fault kind ∷ l) m h k = (h.0, grows_follows x y z l m h.1 k)
  grows_follows x y z (WriteMark.pending ∷ l) m h k = absurd h
  grows_follows x y z (_ ∷ l) m h k = grows_follows x y z l m h k

  pub growing_laws : MarkLaws (GrowsWhere may)
  growing_laws = record { rests = λ x. refl; follows = grows_follows }

  -- All bytes that it took are appended.
  pub grows_all : (x y : List ℕ) (l : List WriteMark) → GrowsWhere may x l y → y ≡ x ++ bytes_taken l
  grows_all x y [] h = rw (h, append-nil)
  grows_all x y (WriteMark.wrote xs ∷ l) h = grows_all _ y l h ∙ append_assoc x xs _
  grows_all x y (WriteMark.fault kind ∷ l) h = grows_all x y l h.1
  grows_all x y (WriteMark.pending ∷ l) h = absurd h
  grows_all x y (_ ∷ l) h = grows_all x y l h

  pub grows_no_pending : (x y : List ℕ) (l : List WriteMark) → GrowsWhere may x l y → NoPendingWrite l
  grows_no_pending x y [] h = tt
  grows_no_pending x y (WriteMark.wrote xs ∷ l) h = grows_no_pending _ y l h
  grows_no_pending x y (WriteMark.fault kind ∷ l) h = grows_no_pending x y l h.1
  grows_no_pending x y (WriteMark.pending ∷ l) h = absurd h
  grows_no_pending x y (_ ∷ l) h = grows_no_pending x y l h

module _ {S : Type 0} (items : S → List ℕ) where
  pub grows_laws : MarkLaws (λ x l y. Grows (items x) l (items y))
  grows_laws = record {
    rests = λ x. refl;
    follows = λ x y z. grows_follows IsRefusal _ _ _;
  }

  pub grows_steady : SteadyWriteLaws (λ x l y. Grows (items x) l (items y)) (λ x y. items x ≡ items y) items
  grows_steady =
      record {
        steady = λ x y x' y' l m e h k a b f g same.
            let one : items x' ≡ items y' = rw (grows_all IsRefusal _ _ l h, grows_all IsRefusal _ _ m k, e, same) in
            (one, one);
      }

  pub grows_calm : CalmWriteLaws (λ x l y. Grows (items x) l (items y)) (λ x. ⊤)
  grows_calm = record { no_pending = λ x y l c h. grows_no_pending IsRefusal _ _ l h; calm_on = λ x y l c h. tt }

pub stores_kept : {S : Type 0} (writes : Runs WriteMark S) (stored : Stored S) (x y : S) (l : List WriteMark)
    → Stores writes stored x → writes x l y
    → stored.kept y ≡ stored.kept x ++ bytes_taken l
stores_kept writes stored x y l k h = (stored.tells x y l k.0 (k.1 l y h)).1

-- A value that appends the bytes it takes to those that it holds.
abbrev pub grows_stored : {S : Type 0} (held : S → List ℕ) → Stored S
grows_stored held = record {
  told = λ x l y. Grows (held x) l (held y);
  stores = λ x. ⊤;
  kept = held;
  arrived = held;
  arrives = λ x y l m k h a. refl;
  tells = λ x y l k h. (tt, grows_all IsRefusal (held x) (held y) l h);
}

-- What is known of a mutable reference to a writer: the same as of the writer.
abbrev pub lent_stored : {S : Type 0} → Stored S → Stored (MutBor S)
lent_stored {S} k = record {
  told = Lent k.told;
  stores = λ x. k.stores x.now;
  kept = λ x. k.kept x.now;
  arrived = λ x. k.arrived x.now;
  arrives = λ x y l m know h a. k.arrives x.now y.now l m know h.0 a;
  tells = λ x y l know h. k.tells x.now y.now l know h.0;
}
