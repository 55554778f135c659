use Rattle.lite_laws.proofs.calm.run_calm.Goals as goal

pub returns : goal.returns
returns g c =
    let ran = c.run.ensures.ran in
    let calm = g.met.S.CalmStream.calm in
    record {
      no_pending = (ran.0, ran.1, ran.2, calm.no_pending _ _ ran.0 c.requires.calm ran.2, ran.3, ran.4);
      full = c.run.ensures.full;
      again = (c.run.ensures.again, calm.calm_on _ _ ran.0 c.requires.calm ran.2);
      context = c.run.ensures.context;
    }
