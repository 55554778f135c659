use Rattle.std.specs.Prelude.{◌≡◌, ◌+◌, vec_len}
use Rattle.lite_halves.specs.Uses.{Keeps}
use Rattle.lite_halves.specs.Entry.{asked_of}
use Rattle.lite_halves.proofs.Driven.{Driven, JournalMade}
use Rattle.lite_halves.proofs.journal.Journal.drive.Given as goal

abbrev pub invariant-loop-call : goal.invariant-loop-call
invariant-loop-call g l =
    Driven (JournalMade g.T.ReadSpec.reads g.T.WriteSpec.writes asked_of l.calls l.initial.self l.self)
    l.initial.out.items l.out.items l.call-index × Keeps l.initial.cx l.cx
    × (vec_len l.out ≡ vec_len l.initial.out + l.call-index)
