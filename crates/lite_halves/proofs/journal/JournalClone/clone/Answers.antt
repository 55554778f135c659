use Rattle.lite_halves.specs.Laws.Journal.{sound_clone}
use Rattle.lite_halves.proofs.Clones.{entries_clone}
use Rattle.lite_halves.proofs.journal.JournalClone.clone.Goals as goal

pub invariant_of-result : goal.invariant_of-result
invariant_of-result g c =
    sound_clone g.T.ReadSpec.reads g.T.WriteSpec.writes g.T.Clone.is_clone _ _ c.self.invariant c.in_ok-start.ensures.cases
    c.in_ok-stream.ensures.cases (entries_clone _ _ c.in_ok-entries.ensures.cases.0)

pub returns : goal.returns
returns g c = record {
  cases = (
    rw (← c.self.view_is) (entries_clone _ _ c.in_ok-entries.ensures.cases.0),
    rw (← c.self.view_is) c.in_ok-start.ensures.cases,
    rw (← c.self.view_is) c.in_ok-stream.ensures.cases,
  );
}
