-- What the words of a program ask for, and how it starts.
use Rattle.std.specs.Prelude.{◌≡◌, ◌≢◌, ◌&&◌, ◌==◌, Bool, true, false, List, Result, Ok, Err, codes, length, String, not, string_bytes, ⊤}
use Rattle.std.specs.List.{AllByRecursion, filter, list_any}
use Rattle.std.specs.Str.{bytes_eq}
use Rattle.std.specs.declared.alloc.Global.{Global}
use Rattle.std.specs.declared.io.Error.{Error}
use Rattle.std.specs.declared.process.ExitCode.{ExitCode}
use Rattle.programs.specs.Statuses.{EndsHelped, EndsUnread}
use Rattle.programs.specs.declared.command.Asked.{Asked}
use Rattle.programs.specs.declared.command.Asked.TheVariants.{Help, Run}
use Rattle.programs.specs.declared.command.Command.{Command}

-- None of the words is `--quiet` or `--help`.
abbrev pub AreOthers : List (String Global) → Type 0
AreOthers words = AllByRecursion (λ word. (string_bytes word ≢ codes "--quiet") × (string_bytes word ≢ codes "--help")) words

-- The words with which the program is to run are others.
abbrev pub HasOthers : Asked → Type 0
HasOthers (Run command) = AreOthers command.words.items
HasOthers Help = ⊤

-- The word asks for no messages.
abbrev pub is_quiet : String Global → Bool
is_quiet word = bytes_eq (string_bytes word) (codes "--quiet")

-- The word asks for the usage.
abbrev pub is_help : String Global → Bool
is_help word = bytes_eq (string_bytes word) (codes "--help")

-- What words ask for. If `--help` is among them, they ask for the usage. If not, they ask for a run with all of them but `--quiet`, in their
-- order, which is quiet if that is among them.
abbrev pub AsksFor : List (String Global) → Asked → Type 0
AsksFor words (Run command) = (list_any is_help words ≡ false) × (command.words.items ≡ filter (λ word. not (is_quiet word)) words)
    × (command.quiet ≡ list_any is_quiet words)
AsksFor words Help = list_any is_help words ≡ true

-- Words to run with are returned. If the usage is asked for, or the words were not read, the status says so.
abbrev pub StartsBy : Result Asked Error → Result Command ExitCode → Type 0
StartsBy (Ok (Run command)) (Ok started) = started ≡ command
StartsBy (Ok Help) (Err status) = EndsHelped status
StartsBy (Err e) (Err status) = EndsUnread e status
StartsBy _ _ = ⊥

-- There were no words at all.
abbrev pub has_none : Command → Bool
has_none command = not command.quiet && length command.words.items == 0
