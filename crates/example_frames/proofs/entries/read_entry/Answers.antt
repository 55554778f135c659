use Rattle.std.specs.Prelude.{◌≡◌, Ok}
use Rattle.std.proofs.Common.{inl, rules}
use Rattle.example_frames.specs.declared.entries.First.TheVariants.{Broken, Frame}
use Rattle.example_frames.proofs.Reading.{behind_line}
use Rattle.example_frames.proofs.entries.read_entry.Goals as goal

pub returns-in-Ok-Frame-clause-read : goal.returns-in-Ok-Frame-clause-read
returns-in-Ok-Frame-clause-read g c =
    let is : c.read_first-first.result.0 ≡ Ok (Frame c.in-Ok-Frame.name) = search rules in
    let first = rw (is, c.new_with_max_length-lines.ensures) at c.read_first-first.ensures.read in
    behind_line g.T.ReadSpec.reads g.T.ReadSpec.read_laws c.in-Ok-Frame.name _ _ _ first.0 _ first.1 (first.2, first.3)
    c.read_body.ensures.read

pub returns-in-Ok-Broken-clause-read : goal.returns-in-Ok-Broken-clause-read
returns-in-Ok-Broken-clause-read g c =
    let is : c.read_first-first.result.0 ≡ Ok Broken = search rules in
    let first = rw (is, c.new_with_max_length-lines.ensures) at c.read_first-first.ensures.read in
    (first.0, first.1, (first.2, inl (first.3, first.4, first.5)))
