use Rattle.lite_theorems.specs.Uses.{rules}
use Rattle.lite_theorems.proofs.BothReaders.{lent_on, read_up}
use Rattle.lite_theorems.proofs.both_readers.read_up.Goals as goal

pub returns-clause-read : goal.returns-clause-read
returns-clause-read g c =
    let begins = c.read_to_end.ensures in
    let waited = c.wait_for.ensures in
    let lends = lent_on g.T.ReadSpec.reads _ _ _ _ _ begins (waited.gave, waited.unchanged) in
    read_up g.T.ReadSpec.reads _ _ _ _ _ begins (waited.gave, waited.unchanged) _ _ (search rules) (search rules)
