-- Adapters that replace each item by a list of results. Such an adapter holds the value that is made of the current
-- item.
use Rattle.std.specs.Prelude.{◌≡◌, ◌⊎◌, List, [], ◌∷◌, ◌++◌, Option, Some, None}
use Rattle.lite_reshape.specs.Uses.{Ready, Pending, Answer, end, Question, Relates, Lasting}

-- `call p x v q`: the call with the item `x` makes `v`, and takes the closure from `p` to `q`. `gives v out left`: `v`
-- yielded the results `out`, and `left` remains of it, or nothing if it is done.
module _ {F A V B : Type 0} (call : Question F A V) (gives : V → List (Answer B) → Option V → Type 0) where
  -- The value `v` is still held at the end of the run: all results are made by it, and the source is not polled.
  abbrev pub StillHeld : F → V → List (Answer A) → List (Answer B) → F → Option V → Type 0
  StillHeld p v ins out q last = (ins ≡ []) × (q ≡ p) × (w : V) × gives v out (Some w) × (last ≡ Some w)

  -- The results of `v` until it is done, and then those that follow.
  abbrev pub HeldDone : V → (List (Answer B) → F → Option V → Type 0) → List (Answer B) → F → Option V → Type 0
  HeldDone v follows out q last =
      (own : List (Answer B)) × (rest : List (Answer B)) × (out ≡ own ++ rest) × gives v own None × follows rest q last

  -- The adapter holds nothing at first. Each item of the source is replaced by the results of what is made of it.
  -- `Pending` and the end of the stream are passed on.
  abbrev pub Expands : F → List (Answer A) → List (Answer B) → F → Option V → Type 0
  Expands p [] [] q last = (q ≡ p) × (last ≡ None)
  Expands p [] (b ∷ out) q last = ⊥
  Expands p (a ∷ ins) [] q last = ⊥
  Expands p (Pending ∷ ins) (b ∷ out) q last = (b ≡ Pending) × Expands p ins out q last
  Expands p (Ready None ∷ ins) (b ∷ out) q last = (b ≡ end) × Expands p ins out q last
  Expands p (Ready (Some x) ∷ ins) (b ∷ out) q last =
      (v : V) × (r : F) × call p x v r
      × (StillHeld r v ins (b ∷ out) q last ⊎ HeldDone v (Expands r ins) (b ∷ out) q last)

  -- Each item is replaced by the list of what is made of it. The results of a value that the adapter holds come before
  -- those of further items.
  abbrev pub Expanding : Relates (F × Option V) A B
  Expanding (p, None) ins out t = Expands p ins out t.0 t.1
  Expanding (p, Some v) ins out t = StillHeld p v ins out t.0 t.1 ⊎ HeldDone v (Expands p ins) out t.0 t.1

-- What an adapter that may hold a future or a stream registers when it returns `Pending`.

-- What a poll that returns `Pending` registers: what the held value registers, or what the source does if nothing is
-- held.
abbrev pub HeldRegisters : {S V : Type 0} → (S → Lasting → Type 0) → (V → Lasting → Type 0) → S → Option V → Lasting
    → Type 0
HeldRegisters registers registers' s None fact = registers s fact
HeldRegisters registers registers' s (Some v) fact = registers' v fact
