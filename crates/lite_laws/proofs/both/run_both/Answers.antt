use Rattle.std.specs.Prelude.{IfOk, IfErr, Result, []}
use Rattle.lite_laws.specs.Uses.{rules}
use Rattle.std.proofs.Common.{Err, Ok, inl, inr, refl}
use Rattle.std.proofs.lemmas.Result.{IfErr-at_err, on_err_weaker}
use Rattle.lite_laws.specs.Waits.{HoldsEach}
use Rattle.lite_laws.proofs.Waits.{waits_on}
use Rattle.lite_laws.proofs.both.run_both.Goals as goal

both_ok : {A E P : Type 0} (Q : Type 0) (r : Result A E) → P → IfOk r (λ _. Q) → IfOk r (λ _. P × Q)
both_ok Q (Ok a) p q = (p, q)
both_ok Q (Err e) p q = tt

err_holds : {A E : Type 0} (Q : Type 0) (r : Result A E) → Q → IfErr r (λ _. Q)
err_holds Q (Ok a) q = tt
err_holds Q (Err e) q = q

pub returns-in_err-run-clause-agree : goal.returns-in_err-run-clause-agree
returns-in_err-run-clause-agree g c =
    let ran = c.run.ensures.ran in
    let steady = g.met.S.SteadyStream.steady in
    let rests = g.met.S.Stream.laws.rests c.args.y.now in
    let same = steady.steady c.args.x.now c.args.y.now c.requires.alike ran.0 [] c.run.new.s c.args.y.now in (
      ran.0,
      [],
      ran.1,
      search rules,
      record {
        first = ran.2;
        second = rests;
        found = same;
        always = λ n. same (steady.found n _ _ _ ran.2) (steady.found n _ _ _ rests);
      },
      search rules,
      ran.5,
      tt,
      err_holds _ c.from_residual.result (inl (IfErr-at_err _ c.in_err-run.was ran.4, refl)),
    )

pub returns-clause-agree : goal.returns-clause-agree
returns-clause-agree g c =
    let one = c.run.ensures.ran in
    let two = c.run-2.ensures.ran in
    let steady = g.met.S.SteadyStream.steady in
    let same = steady.steady c.args.x.now c.args.y.now c.requires.alike one.0 two.0 c.run.new.s c.run-2.new.s in (
      one.0,
      two.0,
      one.1,
      two.1,
      record {
        first = one.2;
        second = two.2;
        found = same;
        always = λ n. same (steady.found n _ _ _ one.2) (steady.found n _ _ _ two.2);
      },
      both_ok _ c.run-2.result (search rules) two.3,
      waits_on {P = HoldsEach (g.S.Stream.registers c.run.new.s) c.run.new.cx}
          (HoldsEach (g.S.Stream.registers c.run.new.s) c.run-2.new.cx) one.0
          (λ left fact h. c.run-2.ensures.context fact (left fact h)) one.5,
      two.5,
      on_err_weaker c.run-2.result (λ few. inr (search rules, few)) two.4,
    )
