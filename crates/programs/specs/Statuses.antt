-- The statuses that programs end with.
use Rattle.std.specs.Prelude.{◌≡◌, ◌≢◌, ◌⊎◌}
use Rattle.std.specs.IoError.{error_kind}
use Rattle.std.specs.Process.{exit_status}
use Rattle.std.specs.declared.io.Error.{Error}
use Rattle.std.specs.declared.io.ErrorKind.TheVariants.{BrokenPipe, InvalidData}
use Rattle.std.specs.declared.process.ExitCode.{ExitCode}

-- Nobody reads the output any more.
abbrev pub IsBrokenPipe : Error → Type 0
IsBrokenPipe e = error_kind e ≡ BrokenPipe

-- The error wraps another, and that one says so.
abbrev pub WrapsBrokenPipe : {E : Type 0} → (Error → E) → E → Type 0
WrapsBrokenPipe wrap e = (cause : Error) × (e ≡ wrap cause) × IsBrokenPipe cause

-- The status after an error: 141 if it is a broken pipe, and 1 if it is none.
abbrev pub EndsAtError : Type 0 → ExitCode → Type 0
EndsAtError broken status = (broken × (exit_status status ≡ 141)) ⊎ ((¬ broken) × (exit_status status ≡ 1))

-- The status if the usage was asked for: 0 if it was printed, 141 if nobody reads the output, and 1 if it failed otherwise.
abbrev pub EndsHelped : ExitCode → Type 0
EndsHelped status = (exit_status status ≡ 0) ⊎ (exit_status status ≡ 141) ⊎ (exit_status status ≡ 1)

-- The status if the words were not read with this error: 2 if one of them is not UTF-8, and 1 if not.
abbrev pub EndsUnread : Error → ExitCode → Type 0
EndsUnread e status = ((error_kind e ≡ InvalidData) × (exit_status status ≡ 2)) ⊎ ((error_kind e ≢ InvalidData) × (exit_status status ≡ 1))

-- The status if a program does not run: 2 if it was called in a wrong way, 1 if its words were not read, and those behind `--help`.
abbrev pub EndsUnstarted : ExitCode → Type 0
EndsUnstarted status = (exit_status status ≡ 2) ⊎ EndsHelped status
