use Rattle.std.proofs.Common.{[], append-nil, sym}
use Rattle.nests_agree.proofs.reads.reads_agree.Goals as goal

pub returns-in_default-new : goal.returns-in_default-new
returns-in_default-new g c =
    ([], [], sym (append-nil c.args.out.now.items), sym (append-nil c.args.out_more.now.items), tt)
