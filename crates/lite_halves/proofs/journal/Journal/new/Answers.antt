use Rattle.lite_halves.specs.Laws.Journal.{sound_new}
use Rattle.lite_halves.proofs.journal.Journal.new.Goals as goal

pub invariant_of-result : goal.invariant_of-result
invariant_of-result g c =
    rw c.new.ensures.items (sound_new g.T.ReadSpec.reads g.T.WriteSpec.writes g.T.Clone.is_clone _ _ _ c.in-Ok.ensures.cases)
