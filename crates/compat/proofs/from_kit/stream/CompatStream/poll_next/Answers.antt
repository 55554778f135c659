use Rattle.std.proofs.Common.{inl, inr, refl, rules, true}
use Rattle.compat.proofs.from_kit.stream.CompatStream.poll_next.Goals as goal

pub returns-then-self-clause-ran : goal.returns-then-self-clause-ran
returns-then-self-clause-ran g c = (c.args.self.now, (c.if-self.true, inr (c.if-self.true, refl)), refl)

pub returns-in-Ready-Some-clause-ran : goal.returns-in-Ready-Some-clause-ran
returns-in-Ready-Some-clause-ran g c = (
  record c.args.self.now { inner = c.poll_next.new.self },
  (c.if-self.false, c.if-self.false, search rules, search rules, search rules),
  refl,
)

pub returns-in-Ready-None-clause-ran : goal.returns-in-Ready-None-clause-ran
returns-in-Ready-None-clause-ran g c = (
  record c.args.self.now { inner = c.poll_next.new.self; ended = true },
  (refl, inl (c.if-self.false, search rules)),
  refl,
)

pub returns-in-Pending-clause-ran : goal.returns-in-Pending-clause-ran
returns-in-Pending-clause-ran g c = (
  record c.args.self.now { inner = c.poll_next.new.self },
  (c.if-self.false, c.if-self.false, search rules, search rules),
  refl,
)
