use Rattle.std.proofs.Common.{rules}
use Rattle.lite_source.specs.Laws.Iterators.{array_alike}
use Rattle.nests_agree.proofs.iterators.arrays_agree.Goals as goal

pub both_appended-requires-clause-alike : goal.both_appended-requires-clause-alike
both_appended-requires-clause-alike c = array_alike _ _ _ _ (search rules)
