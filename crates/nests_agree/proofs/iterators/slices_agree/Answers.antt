use Rattle.std.proofs.Common.{rules}
use Rattle.lite_source.specs.Laws.Iterators.{slice_alike}
use Rattle.nests_agree.proofs.iterators.slices_agree.Goals as goal

pub both_appended-requires-clause-alike : goal.both_appended-requires-clause-alike
both_appended-requires-clause-alike c = slice_alike _ _ _ _ (search rules)
