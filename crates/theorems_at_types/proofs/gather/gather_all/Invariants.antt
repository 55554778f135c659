use Rattle.theorems_at_types.proofs.gather.gather_all.Given as goal

abbrev pub invariant-loop-item : goal.invariant-loop-item
invariant-loop-item g l = g.C.Gather.holds l.all l.yielded
