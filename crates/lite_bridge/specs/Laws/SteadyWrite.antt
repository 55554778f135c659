-- Cursors over equal bytes, at one position, leave equal bytes, and none is ever pending.
use Rattle.std.specs.Prelude.{◌≡◌, ◌+◌, ℕ, List, [], ◌∷◌, length, ⊤}
use Rattle.lite_bridge.specs.Uses.{◌∙◌, ap, sym, arith, add-zero, length-append, Global, CalmWriteLaws, NoPendingWrite}
use Rattle.lite_bridge.specs.Uses.{SteadyWriteLaws, WriteMark, bytes_taken, Vec, MutBor}
use Rattle.lite_bridge.specs.declared.cursor.Cursor.{Cursor}
use Rattle.lite_bridge.specs.Cursor.{CursorWrites}
use Rattle.lite_bridge.specs.Laws.Put.{puts_more}
use Rattle.lite_bridge.specs.Put.{CursorWritesLent, Puts, PutsVec, PutsVecLent, VecStays, VecStaysLent}

-- Two cursors have equal bytes and one position.
abbrev pub SamePlace : {T : Type 0} → (T → List ℕ) → Cursor T → Cursor T → Type 0
SamePlace bytes x y = (bytes x.inner ≡ bytes y.inner) × (x.position ≡ y.position)

-- A write has only one outcome.
puts_one : (a b c : List ℕ) (at : ℕ) (xs : List ℕ) → Puts a at xs b → Puts a at xs c → b ≡ c
puts_one a b c at [] h k = h ∙ sym k
puts_one a b c at (x ∷ xs) h k = h ∙ sym k

module _ {T : Type 0} (bytes : T → List ℕ) {puts : T → ℕ → List ℕ → T → Type 0} {refuses : T → T → Type 0}
    (put : (x : T) (at : ℕ) (xs : List ℕ) (y : T) → puts x at xs y → Puts (bytes x) at xs (bytes y))
    (stays : (x y : T) → refuses x y → bytes y ≡ bytes x) where
  -- All bytes taken are put at the position that the cursor `x` had, and the position of `y` is behind them.
  pub record PutsAll (x : Cursor T) (taken : List ℕ) (y : Cursor T) : Type 0 where
    pub all : Puts (bytes x.inner) x.position taken (bytes y.inner)
    pub place : y.position ≡ x.position + length taken

  pub puts_all : (x y : Cursor T) (l : List WriteMark) → CursorWrites puts refuses x l y → PutsAll x (bytes_taken l) y
  puts_all x y [] h =
      record {
        all = ap (λ c. bytes c.inner) h;
        place = ap (λ c. c.position) h ∙ sym (add-zero x.position);
      }
  puts_all x y (WriteMark.wrote xs ∷ l) h =
      let rest = puts_all h.0 y l h.2 in
      let first = put x.inner x.position xs h.0.inner h.1.0 in
      let at : h.0.position ≡ x.position + length xs = h.1.1 in
      record {
        all = puts_more _ _ _ x.position xs _ first (rw (← at) rest.all);
        place = omega (arith, rest.place, at, length-append xs (bytes_taken l));
      }
  puts_all x y (WriteMark.fault kind ∷ l) h =
      let rest = puts_all h.0 y l h.2 in
      let same = stays x.inner h.0.inner h.1.1 in
      let at : h.0.position ≡ x.position = h.1.2 in
      record {
        all = rw (← at) (rw (← same) rest.all);
        place = omega (arith, rest.place, at);
      }
  puts_all x y (WriteMark.nothing ∷ l) h =
      let rest = puts_all h.0 y l h.2 in
      let same = put x.inner x.position [] h.0.inner h.1.0 in
      let at : h.0.position ≡ x.position = h.1.1 in
      record {
        all = rw (← at) (rw (← same) rest.all);
        place = omega (arith, rest.place, at);
      }
  puts_all x y (WriteMark.pending ∷ l) h = absurd h.1
  puts_all x y (_ ∷ l) h = rw h.1 at (puts_all h.0 y l h.2)

  no_pending : (x y : Cursor T) (l : List WriteMark) → CursorWrites puts refuses x l y → NoPendingWrite l
  no_pending x y [] h = tt
  no_pending x y (WriteMark.pending ∷ l) h = absurd h.1
  no_pending x y (_ ∷ l) h = no_pending h.0 y l h.2

  pub cursor_steady_write : SteadyWriteLaws (CursorWrites puts refuses) (SamePlace bytes) (λ x. bytes x.inner)
  cursor_steady_write =
      record {
        steady = λ x y x' y' l m e h k a b f g same.
            let p = puts_all x x' l h in
            let q = puts_all y y' m k in
            let one = puts_one _ _ _ y.position _ (rw (e.0, e.1, same) at p.all) q.all in
            let place : x'.position ≡ y'.position = omega (arith, p.place, q.place, e.1, ap length same) in
            (one, (one, place));
      }

  pub cursor_calm_write : CalmWriteLaws (CursorWrites puts refuses) (λ x. ⊤)
  cursor_calm_write = record { no_pending = λ x y l c h. no_pending x y l h; calm_on = λ x y l c h. tt }

-- A cursor over a slice behind a mutable reference is steady.
pub slice_steady_write : SteadyWriteLaws CursorWritesLent (SamePlace (λ s. s.now)) (λ x. x.inner.now)
slice_steady_write = cursor_steady_write (λ (s : MutBor _). s.now) (λ x at xs y h. h.0) (λ x y h. absurd h)

pub slice_calm_write : CalmWriteLaws CursorWritesLent (λ x. ⊤)
slice_calm_write = cursor_calm_write (λ (s : MutBor _). s.now) (λ x at xs y h. h.0) (λ x y h. absurd h)

-- A cursor over a vector is steady.
pub vec_steady_write : SteadyWriteLaws (CursorWrites PutsVec VecStays) (SamePlace (λ v. v.items)) (λ x. x.inner.items)
vec_steady_write = cursor_steady_write (λ (v : Vec ℕ Global). v.items) (λ x at xs y h. h) (λ x y h. h)

pub vec_calm_write : CalmWriteLaws (CursorWrites PutsVec VecStays) (λ x. ⊤)
vec_calm_write = cursor_calm_write (λ (v : Vec ℕ Global). v.items) (λ x at xs y h. h) (λ x y h. h)

-- A cursor over a vector behind a mutable reference is steady.
pub lent_vec_steady_write : SteadyWriteLaws (CursorWrites PutsVecLent VecStaysLent) (SamePlace (λ v. v.now.items))
    (λ x. x.inner.now.items)
lent_vec_steady_write =
    cursor_steady_write (λ (v : MutBor _). v.now.items) (λ x at xs y h. h.0) (λ x y h. h.0)

pub lent_vec_calm_write : CalmWriteLaws (CursorWrites PutsVecLent VecStaysLent) (λ x. ⊤)
lent_vec_calm_write = cursor_calm_write (λ (v : MutBor _). v.now.items) (λ x at xs y h. h.0) (λ x y h. h.0)
