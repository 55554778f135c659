use Rattle.lite_views.proofs.Empty.{empty_lists}
use Rattle.futures_lite.proofs.stream.empty.Goals as goal

pub returns-clause-lists : goal.returns-clause-lists
returns-clause-lists g c = empty_lists _
