use Rattle.lite_halves.specs.Laws.Journal.{sound_replays}
use Rattle.lite_halves.proofs.journal.Journal.entries.Goals as goal

pub returns-clause-replays : goal.returns-clause-replays
returns-clause-replays g c =
    rw (← c.self.view_is) (sound_replays g.T.ReadSpec.reads g.T.WriteSpec.writes g.T.Clone.is_clone _ c.self.invariant)
