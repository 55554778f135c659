-- What reading a `Dots` returns.
use Rattle.std.specs.Prelude.{◌≡◌, ℕ, ◌-◌, ◌<◌}
use Rattle.std.proofs.Common.{arith}
use Rattle.futures_lite.specs.Marks.{ReadMark}
use Rattle.futures_lite.specs.Own.{MarksLower}
use Rattle.example_own.specs.declared.dots.Dots.{Dots}

-- A byte is a dot and leaves one fewer, and the end of file comes if none is left.
abbrev pub DotsStep : Dots → ReadMark → Dots → Type 0
DotsStep x (ReadMark.byte b) y = (0 < x.left) × (b ≡ 46) × (y ≡ record x { left = x.left - 1 })
DotsStep x ReadMark.end y = (x.left ≡ 0) × (y ≡ x)
DotsStep x ReadMark.pending y = ⊥
DotsStep x (ReadMark.fault kind) y = ⊥

-- How many bytes are to come.
abbrev pub dots_left : Dots → ℕ
dots_left x = x.left

pub dots_lower : MarksLower DotsStep dots_left
dots_lower =
    record {
      by_byte = λ x y b h. rw h.2 (omega (arith, h.0));
      by_fault = λ x y kind h. absurd h;
      by_pending = λ x y h. absurd h;
      by_end = λ x y h. rw h.1 (omega arith);
    }
