-- The lengths of lines, and which of them are kept.
use Rattle.std.specs.Prelude.{◌≡◌, ℕ, Result, Bool, true, nat_lt, length, string_bytes, MatchResult}
use Rattle.std.proofs.Common.{Ok, Err, Global, Some}
use Rattle.std.specs.declared.io.Error.{Error}
use Rattle.std.specs.declared.string.String.{String}
use Rattle.lite_future.specs.declared.ready.Ready.{Ready}

-- The length of a line, or the same error.
abbrev pub IsLength : Result (String Global) Error → Result ℕ Error → Type 0
IsLength x y = MatchResult x (λ text. y ≡ Ok (length (string_bytes text))) (λ e. y ≡ Err e)

-- A length is kept if it is not 0, and an error is kept.
abbrev pub IsTested : Result ℕ Error → Bool → Type 0
IsTested x b = MatchResult x (λ n. b ≡ nat_lt 0 n) (λ e. b ≡ true)

-- The future returns the length of a line, or 0 for an error.
abbrev pub WillGiveLength : Result (String Global) Error → Ready ℕ → Type 0
WillGiveLength x v = MatchResult x (λ text. v.value ≡ Some (length (string_bytes text))) (λ e. v.value ≡ Some 0)
