-- Errors of frames and lines.
use Rattle.std.specs.Prelude.{◌≡◌}
use Rattle.std.specs.IoError.{error_kind}
use Rattle.std.specs.declared.io.Error.{Error}
use Rattle.std.specs.declared.io.ErrorKind.TheVariants.{OutOfMemory}
use Rattle.framed.specs.declared.cut_error.CutError.{CutError}
use Rattle.framed.specs.declared.cut_error.CutError.TheVariants as small
use Rattle.framed.specs.declared.frame_error.FrameError.{FrameError}
use Rattle.framed.specs.declared.frame_error.FrameError.TheVariants.{CutOff, Io, Malformed, TooLong}

-- The error says that memory was refused.
abbrev pub SaysOutOfMemory : FrameError → Type 0
SaysOutOfMemory e = (cause : Error) × (e ≡ Io cause) × (error_kind cause ≡ OutOfMemory)

-- The error with the same name.
abbrev pub as_frame_error : CutError → FrameError
as_frame_error (small.TooLong n) = TooLong n
as_frame_error small.Malformed = Malformed
as_frame_error small.CutOff = CutOff
