-- The bytes known to come from a cursor, which are those from its position on. And those that a cursor at their end
-- keeps as a writer.
use Rattle.std.specs.Prelude.{◌≡◌, ℕ, ◌+◌, ◌-◌, List, [], ◌∷◌, ◌++◌, length, ⊤}
use Rattle.lite_bridge.specs.Uses.{take_all, ◌∙◌, ap, refl, sym, arith, append-nil, length-append, WriteMark, bytes_taken}
use Rattle.lite_io_base.specs.Known.{Known}
use Rattle.lite_io_base.specs.Laws.Known.{told_spends}
use Rattle.lite_io_base.specs.Stored.{Stored}
use Rattle.std.proofs.lemmas.List.{drop_all}
use Rattle.lite_bridge.specs.Cursor.{CursorReads, CursorWrites, bytes_left}
use Rattle.lite_bridge.specs.Laws.Cursor.{cursor_told}
use Rattle.lite_bridge.specs.Laws.SteadyWrite.{puts_all}
use Rattle.lite_bridge.specs.Put.{Puts}
use Rattle.lite_bridge.specs.declared.cursor.Cursor.{Cursor}

module _ {T : Type 0} (bytes : T → List ℕ) where
  -- What is known of a cursor as a reader: the bytes from its position on.
  abbrev pub cursor_known : Known (Cursor T)
  cursor_known =
      record {
        told = CursorReads bytes;
        knows = λ x. ⊤;
        left = bytes_left bytes;
        tells = λ x y l k h. (tt, told_spends (bytes_left bytes x) (bytes_left bytes y) l (cursor_told bytes x y l h));
      }

-- Bytes that are put at the end of a list are appended to it.
put_behind : (xs new ys : List ℕ) (at : ℕ) → at ≡ length xs → Puts xs at new ys → ys ≡ xs ++ new
put_behind xs [] ys at e h = h ∙ sym (append-nil xs)
put_behind xs (b ∷ new) ys at e h =
    let none : at - length xs ≡ 0 = omega (arith, e) in
    let behind = drop_all (at + length (b ∷ new)) xs (omega (arith, e)) in
    h ∙ rw (take_all at xs (omega (arith, e)), none, behind) (simp append-nil)

module _ {T : Type 0} (bytes : T → List ℕ) (puts : T → ℕ → List ℕ → T → Type 0) (refuses : T → T → Type 0) where
  -- A write puts the bytes at its position, as `Puts` says, and one whose allocation failed changes no byte.
  abbrev pub PutsBytes : Type 0
  PutsBytes = ((x y : T) (at : ℕ) (new : List ℕ) → puts x at new y → Puts (bytes x) at new (bytes y))
      × ((x y : T) → refuses x y → bytes y ≡ bytes x)

  -- The cursor's position is behind its last byte.
  abbrev pub CursorAtEnd : Cursor T → Type 0
  CursorAtEnd x = x.position ≡ length (bytes x.inner)

  pub overwrites_kept : (x y : Cursor T) (l : List WriteMark) → PutsBytes → CursorAtEnd x
      → CursorWrites puts refuses x l y
      → CursorAtEnd y × (bytes y.inner ≡ bytes x.inner ++ bytes_taken l)
  overwrites_kept x y l law at h =
      let p = puts_all bytes (λ x at new y. law.0 x y at new) law.1 x y l h in
      let all = put_behind _ _ _ x.position at p.all in
      (omega (arith, p.place, at, ap length all, length-append (bytes x.inner) (bytes_taken l)), all)

  -- What is known of a cursor as a writer: if it is at the end of its bytes, it keeps them, and appends what it takes.
  abbrev pub cursor_stored : Stored (Cursor T)
  cursor_stored = record {
    told = CursorWrites puts refuses;
    stores = λ x. PutsBytes × CursorAtEnd x;
    kept = λ x. bytes x.inner;
    arrived = λ x. bytes x.inner;
    arrives = λ x y l m k h a. refl;
    tells = λ x y l know h. let k = overwrites_kept x y l know.0 know.1 h in ((know.0, k.0), k.1);
  }
