-- What the program prints at a fault, and its exit status.
use Rattle.std.specs.Prelude.{ℕ, List, [], codes}
use Rattle.pollrun.specs.declared.fault.Fault.{Fault}
use Rattle.pollrun.specs.declared.fault.Fault.TheVariants.{Arguments, Memory, Output, BrokenPipe}

-- The line that the program prints. At a broken pipe it prints nothing.
abbrev pub line_of : Fault → List ℕ
line_of Arguments = codes "pollrun: bad arguments\n"
line_of Memory = codes "pollrun: out of memory\n"
line_of Output = codes "pollrun: output failed\n"
line_of BrokenPipe = []

-- The exit status of the program.
abbrev pub status_of : Fault → ℕ
status_of Arguments = 2
status_of Memory = 1
status_of Output = 1
status_of BrokenPipe = 141
