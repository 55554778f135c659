-- The lines of what a reader tells through a limit and a buffer.
use Rattle.std.specs.Prelude.{◌≡◌, ℕ, zero, suc, List, [], ◌∷◌, ◌++◌}
use Rattle.lite_theorems.specs.Uses.{◌∙◌, arith, refl, ap, sym, append_assoc, append-nil, LimitEnds, WithinLimit, ReadMark}
use Rattle.lite_theorems.specs.Lines.{limited, lines_told}

-- marks that fit
fitted : (n rest : ℕ) (front l : List ReadMark) → WithinLimit n front rest
    → limited n (front ++ l) ≡ front ++ limited rest l
fitted n rest [] l f = rw f refl
fitted zero rest (m ∷ front) l f = absurd f
fitted (suc n) rest (ReadMark.byte b ∷ front) l f = ap (λ k. ReadMark.byte b ∷ k) (fitted n rest front l f)
fitted (suc n) rest (m ∷ front) l f = ap (λ k. m ∷ k) (fitted (suc n) rest front l f)

-- nothing is told behind two ends
two_ends : (held : List ℕ) (front l m : List ReadMark)
    → lines_told held (front ++ ReadMark.end ∷ ReadMark.end ∷ l) ≡ lines_told held
    (front ++ ReadMark.end ∷ ReadMark.end ∷ m)
two_ends [] [] l m = refl
two_ends (b ∷ held) [] l m = refl
two_ends held (ReadMark.byte b ∷ front) l m = rw (two_ends [] front l m, two_ends (held ++ b ∷ []) front l m) refl
two_ends held (ReadMark.pending ∷ front) l m = two_ends held front l m
two_ends held (ReadMark.fault kind ∷ front) l m = rw (two_ends held front l m) refl
two_ends [] (ReadMark.end ∷ front) l m = refl
two_ends (b ∷ held) (ReadMark.end ∷ front) l m = rw (two_ends [] front l m) refl

-- ends, and two more
more_ends : (ends : List ReadMark) → LimitEnds 0 ends → (l : List ReadMark)
    × (ends ++ ReadMark.end ∷ ReadMark.end ∷ [] ≡ ReadMark.end ∷ ReadMark.end ∷ l)
more_ends [] h = ([], refl)
more_ends (m ∷ ends) h =
    let rest = more_ends ends h.2 in
    (ReadMark.end ∷ rest.0, rw h.1 (ap (λ k. ReadMark.end ∷ k) rest.1))

no_ends : (n : ℕ) (ends : List ReadMark) → LimitEnds (suc n) ends → ends ≡ []
no_ends n [] h = refl
no_ends n (m ∷ ends) h = absurd (omega (arith, h.0))

-- The lines through the limit are those of what was told, and of something more.
pub told_through : (n rest : ℕ) (told front ends after : List ReadMark) → told ≡ front ++ ends
    → WithinLimit n front rest → LimitEnds rest ends
    → (more : List ReadMark) → (l : List ReadMark)
    × (lines_told [] (limited n (front ++ after) ++ more) ≡ lines_told [] (told ++ l))
told_through n zero told front ends after cut fits over more =
    let two = more_ends ends over in
    let whole = ap (λ k. k ++ more) (fitted n 0 front after fits)
    ∙ append_assoc front (ReadMark.end ∷ ReadMark.end ∷ []) more in
    let other = ap (λ k. k ++ ReadMark.end ∷ ReadMark.end ∷ []) cut
    ∙ append_assoc front ends (ReadMark.end ∷ ReadMark.end ∷ []) ∙ ap (λ k. front ++ k) two.1 in (
      ReadMark.end ∷ ReadMark.end ∷ [],
      ap (lines_told []) whole ∙ two_ends [] front more two.0
          ∙ sym (ap (lines_told []) other),
    )
told_through n (suc rest) told front ends after cut fits over more =
    let whole = ap (λ k. k ++ more) (fitted n (suc rest) front after fits)
    ∙ append_assoc front (limited (suc rest) after) more in
    let none = cut ∙ ap (λ k. front ++ k) (no_ends rest ends over) ∙ append-nil front in (
      limited (suc rest) after ++ more,
      ap (lines_told []) (whole ∙ sym (ap (λ k. k ++ (limited (suc rest) after ++ more)) none)),
    )
