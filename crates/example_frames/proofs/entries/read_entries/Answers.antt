use Rattle.std.specs.Prelude.{◌≡◌, ◌++◌, ◌∷◌, [], Err, None, Ok, Some, refl}
use Rattle.std.proofs.Common.{rules}
use Rattle.example_frames.proofs.Reading.{all_read, no_room, one_more, stopped}
use Rattle.example_frames.proofs.entries.read_entries.Goals as goal

pub returns-then-is_err-clause-read : goal.returns-then-is_err-clause-read
returns-then-is_err-clause-read g c =
    let is : c.read_entry-entry.result.0 ≡ Ok (Some c.in-Ok-Some.entry) = search rules in
    no_room g.T.ReadSpec.reads g.T.ReadSpec.read_laws _ _ _ c.loop.entries.items c.loop.invariant.1 c.in-Ok-Some.entry
    (rw is at c.read_entry-entry.ensures.read)

pub loop-preserved : goal.loop-preserved
loop-preserved g c =
    let is : c.read_entry-entry.result.0 ≡ Ok (Some c.in-Ok-Some.entry) = search rules in
    let pushed : c.push.new.self.items ≡ c.loop.entries.items ++ c.in-Ok-Some.entry ∷ [] = search rules in (
      c.read_entry-entry.ensures.again,
      rw pushed (one_more g.T.ReadSpec.reads g.T.ReadSpec.read_laws _ _ _ c.loop.entries.items c.loop.invariant.1 c.in-Ok-Some.entry
          (rw is at c.read_entry-entry.ensures.read)),
    )

pub returns-in-Ok-None-clause-read : goal.returns-in-Ok-None-clause-read
returns-in-Ok-None-clause-read g c =
    let is : c.read_entry-entry.result.0 ≡ Ok None = search rules in
    all_read g.T.ReadSpec.reads g.T.ReadSpec.read_laws _ _ _ c.loop.entries.items c.loop.invariant.1 c.loop.entries refl
    (rw is at c.read_entry-entry.ensures.read)

pub returns-in-Err-clause-read : goal.returns-in-Err-clause-read
returns-in-Err-clause-read g c =
    let is : c.read_entry-entry.result.0 ≡ Err c.in-Err.e = search rules in
    stopped g.T.ReadSpec.reads g.T.ReadSpec.read_laws _ _ _ c.loop.entries.items c.loop.invariant.1 c.in-Err.e
    (rw is at c.read_entry-entry.ensures.read)
