use Rattle.std.proofs.Common.{rules}
use Rattle.framed.proofs.Heads.{body_refused, body_there, other_there}
use Rattle.framed.proofs.head.take_body.Goals as goal

pub returns-then-ne : goal.returns-then-ne
returns-then-ne c =
    other_there c.args.start c.args.length c.args.tail.now c.args.src.now.items (search rules) c.in-Some-checked_add.size c.in-Some.end
    (search rules) (search rules) c.ne.result (rw c.as_slice-there.ensures at c.ne.ensures) c.if-ne.true

pub returns-in_err-body : goal.returns-in_err-body
returns-in_err-body c =
    body_refused c.args.start c.args.length c.args.tail.now c.args.src.now.items (search rules) c.in-Some-checked_add.size c.in-Some.end
    (search rules) (search rules) c.ne.result (rw c.as_slice-there.ensures at c.ne.ensures) c.if-ne.false c.from_residual.result
    c.from_residual.ensures.0 c.from_residual.ensures.1 c.split_to.new.self.items (search rules)

pub returns : goal.returns
returns c =
    body_there c.args.start c.args.length c.args.tail.now c.args.src.now.items (search rules) c.in-Some-checked_add.size c.in-Some.end
    (search rules) (search rules) c.ne.result (rw c.as_slice-there.ensures at c.ne.ensures) c.if-ne.false c.advance.new.self.items
    (search rules) c.split_to.new.self.items (search rules)
