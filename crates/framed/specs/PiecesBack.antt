-- What an encoder writes comes back, by a decoder of pieces.
use Rattle.std.specs.Prelude.{◌≡◌, ℕ, List, [], ◌∷◌, ◌++◌, Some, None, Ok, Err}
use Rattle.std.specs.declared.io.Error.{Error}
use Rattle.std.proofs.Common.{arith, inl, inr, refl}
use Rattle.tokio_util.specs.Codec.Next.{Next, at_end, decoded, partial}
use Rattle.framed.specs.Pieces.{gives_pieces}
use Rattle.framed.specs.RoundTrip.{IsBack, IsNoFrame, RoundTripLaws}
use Rattle.framed.specs.Whole.{LacksMemory}

no_front : (front rest : List ℕ) → [] ≡ front ++ rest → front ≡ []
no_front [] rest e = refl
no_front (b ∷ front) rest e = cc e

module _ {C D V E X : Type 0} (piece : D → V → List ℕ → Type 0) (refuses : D → List ℕ → E → Type 0) (lacks cut : E → Type 0)
    (encodes : C → X → List ℕ → C → Type 0) (from_gives : Error → E → Type 0) (readable : C → List X → D → Type 0)
    (means : X → V → Type 0) where
  -- The bytes that an encoder `c` writes for an item `x`, if a decoder `d` reads them back.
  pub record WrittenFrame (c : C) (x : X) (xs : List X) (d : D) (frame : List ℕ) (b : C) : Type 0 where
    -- They are a frame.
    pub whole : (v : V) × piece d v frame
    -- Any other frame in their place is the same, and has the item.
    pub one : (v : V) (front more rest : List ℕ) → piece d v front → frame ++ more ≡ front ++ rest → means x v × (rest ≡ more)
    -- None of their fronts is refused.
    pub right : (e : E) (front more rest : List ℕ) → refuses d front e → frame ++ more ≡ front ++ rest → ⊥
    -- The items behind it can be read back, too.
    pub others : readable b xs d

  -- What is to show of an encoder and a decoder of pieces. No frame is empty, and the empty list is not refused.
  pub record PiecesBack : Type 0 where
    pub written : (c : C) (x : X) (xs : List X) (d : D) (frame : List ℕ) (b : C) → readable c (x ∷ xs) d → encodes c x frame b
        → WrittenFrame c x xs d frame b
    pub some : (d : D) (v : V) → piece d v [] → ⊥
    pub none_refused : (d : D) (e : E) → refuses d [] e → ⊥
    pub lacking : (e : E) → lacks e → LacksMemory from_gives e

  module _ (laws : PiecesBack) where
    -- One item and what follows it.
    abbrev Back : X → List ℕ → C → List X → Next D V E → Type 0
    Back = IsBack encodes (gives_pieces piece refuses lacks cut) from_gives readable means

    item_back : (c : C) (x : X) (xs : List X) (d : D) (frame : List ℕ) (b : C) (more : List ℕ) (next : Next D V E)
        → WrittenFrame c x xs d frame b → gives_pieces piece refuses lacks cut d (frame ++ more) next → Back x more b xs next
    item_back c x xs d frame b more (decoded (Ok v) t ys) w (kept, front, is, here) =
        let o = w.one v front more ys is here in (o.0, o.1, rw kept w.others)
    item_back c x xs d frame b more (decoded (Err e) t ys) w (_, _, (front, rest, here, inl bad)) = absurd (w.right e front more rest bad here)
    item_back c x xs d frame b more (decoded (Err e) t ys) w (_, _, (front, rest, here, inr bad)) = laws.lacking e bad.0
    item_back c x xs d frame b more partial w none = (none frame more refl).0 w.whole.0 w.whole.1
    item_back c x xs d frame b more (at_end (Ok None) t ys) w h = (h.3 frame more refl).0 w.whole.0 w.whole.1
    item_back c x xs d frame b more (at_end (Ok (Some v)) t ys) w h = h
    item_back c x xs d frame b more (at_end (Err e) t ys) w h = (h.4 frame more refl).0 w.whole.0 w.whole.1

    nothing_back : (c : C) (d : D) (next : Next D V E) → gives_pieces piece refuses lacks cut d [] next
        → IsNoFrame encodes (gives_pieces piece refuses lacks cut) from_gives readable means next
    nothing_back c d (decoded (Ok v) t ys) (kept, front, is, here) = laws.some d v (rw (no_front front ys here) at is)
    nothing_back c d (decoded (Err e) t ys) (_, _, (front, rest, here, inl bad)) = laws.none_refused d e (rw (no_front front rest here) at bad)
    nothing_back c d (decoded (Err e) t ys) (_, _, (front, rest, here, inr (lack, v, is))) = laws.some d v (rw (no_front front rest here) at is)
    nothing_back c d partial h = tt
    nothing_back c d (at_end (Ok None) t ys) h = tt
    nothing_back c d (at_end (Ok (Some v)) t ys) h = absurd h
    nothing_back c d (at_end (Err e) t ys) h = absurd (omega (arith, h.2))

    -- The laws of `RoundTrip` hold.
    pub pieces_back : RoundTripLaws encodes (gives_pieces piece refuses lacks cut) from_gives readable means
    pieces_back =
        record {
          back = λ c x xs d frame b more next fits is g. item_back c x xs d frame b more next (laws.written c x xs d frame b fits is) g;
          nothing = λ c d next fits g. nothing_back c d next g;
        }
