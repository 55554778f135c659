use Rattle.std.proofs.lemmas.Iterator.Consumers.{map_from_collect}
use Rattle.std.proofs.lemmas.Iterator.{YieldsList-from_take}
use Rattle.std.proofs.lemmas.Iterator.Splits.{YieldsList-from_str_split}
use Rattle.std.proofs.Common.{lit<}
use Rattle.pollrun.proofs.request.pieces_of.Goals as goal

pub returns : goal.returns
returns c =
    let parts = YieldsList-from_str_split {s = c.split.result} 44 c.args.word.now
    (lit< tt) c.split.ensures.text c.split.ensures.has_more c.split.ensures.pattern in
    map_from_collect _ c.collect.ensures.ran
    (YieldsList-from_take {s = c.take.result} 1001 (rw (← c.take.ensures.source) at parts) c.take.ensures.count)
