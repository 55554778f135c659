use Rattle.std.proofs.Common.{◌≡◌, ◌∙◌, ◌<◌, ◌+◌, ◌++◌, IfErr, IsErrAnd, Result, Ok, Err, arith, drop, length, take}
use Rattle.std.specs.Prelude.{⊤}
use Rattle.std.proofs.lemmas.Grind.{common_steps}
use Rattle.example_executor.proofs.PollLimits.{each_outcome, may_run, none_finished}
use Rattle.example_executor.specs.Tasks.{StopsWhere, finished}
use Rattle.example_executor.specs.declared.fault.RunError.{RunError}
use Rattle.example_executor.specs.declared.fault.RunError.TheVariants.{Memory, Queue, TooFew}
use Rattle.example_executor.proofs.outcomes.run_each.Goals as goal

pub run-requires : goal.run-requires
run-requires g c =
    rw (c.deref_mut.ensures.value, c.in_ok-tasks.ensures)
    (may_run g.F.Future.run c.args.polls g.F.Future.can_poll c.args.futures.items c.requires)

pub returns-clause-each : goal.returns-clause-each
returns-clause-each g c =
    let first = c.deref_mut.ensures.value ∙ c.in_ok-tasks.ensures in
    let ran = rw first at c.in_ok-run.ensures.ran in
    let none : finished c.deref_mut.result.now ≡ 0 =
    rw first (none_finished g.F.Future.run c.args.polls c.args.futures.items) in
    let all : finished c.run.new.tasks ≡ length c.args.futures.items =
    omega (arith, none, c.in_ok-run.ensures.came, c.len-wanted.ensures) in
    let whole : take c.in_ok-tasks.tasks.len (c.run.new.tasks ++ drop (length c.run.new.tasks) c.in_ok-tasks.tasks.items)
    ≡ c.run.new.tasks = grind (arith, common_steps) in
    rw (c.append_values.ensures, c.in_ok-outcomes.ensures.items, whole)
    (each_outcome g.F.Future.run c.args.polls c.args.futures.items c.run.new.tasks ran all)

follows : (e : RunError) (P Q same : Type 0) → (P → Q) → StopsWhere e P same → StopsWhere e Q ⊤
follows (Queue e) P Q same f h = tt
follows Memory P Q same f h = tt
follows TooFew P Q same f h = f h

handed_on : {V : Type 0} (r : Result V RunError) (e : RunError) (P : Type 0) → IsErrAnd r (λ x. x ≡ e) → StopsWhere e P ⊤
    → IfErr r (λ x. StopsWhere x P ⊤)
handed_on (Ok v) e P is h = tt
handed_on (Err x) e P is h = rw is h

pub returns-in_err-run-clause-stopped : goal.returns-in_err-run-clause-stopped
returns-in_err-run-clause-stopped g c =
    let first = c.deref_mut.ensures.value ∙ c.in_ok-tasks.ensures in
    let none : finished c.deref_mut.result.now ≡ 0 =
    rw first (none_finished g.F.Future.run c.args.polls c.args.futures.items) in
    let some : finished c.run.new.tasks < c.len-wanted.result + finished c.deref_mut.result.now
    → 0 < length c.args.futures.items =
    λ less. omega (arith, less, none, c.len-wanted.ensures) in
    handed_on c.from_residual-in_err-run.result c.in_err-run.field-0.0 _ c.from_residual-in_err-run.ensures.1
    (follows c.in_err-run.field-0.0 _ _ _ some c.in_err-run.ensures.stopped)
