-- The rank of a server falls.
use Rattle.std.specs.Prelude.{◌≡◌, ◌⊎◌, ◌≤◌, ◌<◌, ◌+◌, ◌-◌, ℕ, zero, suc, List, [], ◌∷◌, drop, length, take}
use Rattle.std.specs.Prelude.{Option, Some, None}
use Rattle.std.proofs.lemmas.List.{length-drop}
use Rattle.std.proofs.lemmas.Bool.{cases_lt}
use Rattle.lite_base.specs.Laws.Ranks.{Below-after}
use Rattle.lite_io_base.specs.Counting.{Falls}
use Rattle.lite_io_base.specs.Laws.Marks.{bytes_given}
use Rattle.serving.specs.Uses.{AtMost, AtMost-both, Below, Below-first, Lending, NoneEmpty, Ranks, ReadCounting}
use Rattle.serving.specs.Uses.{ReadMark, Runs, StandsIn, ap, arith, bytes, inl, inr, kept, length-append, length-take-le, refl, sym, untaken, ◌∙◌}
use Rattle.serving.specs.ServingSteps.{lending_rank, one_if_none, one_if_zero}

-- Bytes that come lower a rank. If none came, the rank is not higher.
some_or_none : (zs : List ℕ) (us vs : List ℕ) → Falls (length (bytes zs)) us vs → ((zs ≡ []) × AtMost us vs) ⊎ Below us vs
some_or_none [] us vs h = inl (refl, h)
some_or_none (z ∷ zs) us vs h = inr h

-- The first number falls, or it stays and those behind it fall.
pub lower_behind : {A : Type 0} (stop : Option A) (us vs : List ℕ) → length us ≡ length vs → (stop ≡ None → Below us vs)
    → Below (one_if_none stop ∷ us) (1 ∷ vs)
lower_behind None us vs same h = inr (refl, h refl)
lower_behind (Some a) us vs same h = inl (omega arith, same)

module _ {T C E : Type 0} (piece : C → List ℕ → List ℕ → Type 0) (refuses : C → List ℕ → E → Type 0) (cut_off : C → List ℕ → E → Type 0)
    (reads : Runs ReadMark T) (buffer_of : T → List ℕ) (some : NoneEmpty piece) where
  -- A frame that is lent is not empty.
  pub not_empty : (n : ℕ) (c : C) (body xs : List ℕ) → piece c body (take n xs) → one_if_zero n ≡ 0
  not_empty zero c body xs h = absurd (some c body h)
  not_empty (suc n) c body xs h = refl

  -- If no byte was taken, no frame had been lent, or it stood among the bytes held.
  none_taken : (x : Lending T C) → StandsIn x.span x.held (buffer_of x.reader) → untaken buffer_of x ≡ []
      → (x.span.size ≡ 0) ⊎ (length (kept x) < length x.held)
  none_taken x stands none = elim (cases_lt 0 x.span.size) [ inl lent ↦ inr (by lent stands.1) | inr few ↦ inl (omega (arith, few)) ]
    where
      by : 0 < x.span.size → (x.held ≡ []) ⊎ (x.span.size ≤ length x.held) → length (kept x) < length x.held
      by lent (inl empty) =
          let shown = buffer_of x.reader in
          let fits : x.span.size - length x.held ≤ length shown = omega (arith, stands.0.2, length-append x.held shown) in
          absurd (omega (arith, lent, ap length none, ap length empty, length-take-le (x.span.size - length x.held) shown fits))
      by lent (inr long) = omega (arith, lent, long, length-drop x.span.size x.held)

  module _ {r : Ranks T} (counting : ReadCounting reads r) where
    pub same_size : (x y : Lending T C) → length (lending_rank r y) ≡ length (lending_rank r x)
    same_size x y =
        length-append (r.rank y.reader) _ ∙ ap (λ n. n + 2) (counting.sized y.reader ∙ sym (counting.sized x.reader))
        ∙ sym (length-append (r.rank x.reader) _)

    -- The reader gave the bytes `zs`.
    module _ (x y : Lending T C) (zs : List ℕ) (stands : StandsIn x.span x.held (buffer_of x.reader)) (counts : r.counts x.reader)
        (ran : reads x.reader (bytes zs) y.reader) where
      reader_falls : ((zs ≡ []) × AtMost (r.rank y.reader) (r.rank x.reader)) ⊎ Below (r.rank y.reader) (r.rank x.reader)
      reader_falls = some_or_none zs _ _ (counting.falls x.reader y.reader (bytes zs) counts (bytes_given zs) ran)

      pub lends_lower : (zs ≡ [] → (untaken buffer_of x ≡ []) × (y.held ≡ kept x)) → one_if_zero y.span.size ≡ 0
          → Below (lending_rank r y) (lending_rank r x)
      lends_lower held lent =
          elim reader_falls [
            | inr below ↦ Below-first _ _ _ _ below refl
            | inl k ↦ Below-after _ _ _ _ k.1 (by (held k.0))
          ]
        where
          by : (untaken buffer_of x ≡ []) × (y.held ≡ kept x)
              → Below (length y.held ∷ one_if_zero y.span.size ∷ []) (length x.held ∷ one_if_zero x.span.size ∷ [])
          by (none, same) =
              elim (none_taken x stands none) [
                | inr less ↦ inl (omega (arith, less, ap length same), refl)
                | inl none_lent ↦ inr (
                  ap length (same ∙ ap (λ n. drop n x.held) none_lent),
                  inl (omega (arith, lent, ap one_if_zero none_lent), refl),
                )
              ]

      pub looks_lower : (zs ≡ [] → (untaken buffer_of x ≡ []) × (y.held ≡ kept x)) → y.span.size ≡ 0
          → AtMost (lending_rank r y) (lending_rank r x)
      looks_lower held rest =
          elim reader_falls [
            | inr below ↦ inr (Below-first _ _ _ _ below refl)
            | inl k ↦ AtMost-both _ _ _ _ k.1 (by (held k.0))
          ]
        where
          by : (untaken buffer_of x ≡ []) × (y.held ≡ kept x)
              → AtMost (length y.held ∷ one_if_zero y.span.size ∷ []) (length x.held ∷ one_if_zero x.span.size ∷ [])
          by (none, same) =
              elim (none_taken x stands none) [
                | inr less ↦ inr (inl (omega (arith, less, ap length same), refl))
                | inl none_lent ↦
                    let held : length y.held ≡ length x.held = ap length (same ∙ ap (λ n. drop n x.held) none_lent) in
                    inl (rw (held, rest, none_lent) refl)
              ]
