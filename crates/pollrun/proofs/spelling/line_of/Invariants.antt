use Rattle.std.proofs.Common.{◌≡◌, take, string_bytes}
use Rattle.pollrun.specs.Spelling.{spelled_list}
use Rattle.pollrun.proofs.spelling.line_of.Given as goal

abbrev pub invariant-loop-place : goal.invariant-loop-place
invariant-loop-place g l = string_bytes l.line ≡ spelled_list g.I.HasText.text (take l.place l.answers)
