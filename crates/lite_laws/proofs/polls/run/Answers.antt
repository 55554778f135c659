use Rattle.std.specs.Prelude.{◌+◌, [], ◌∷◌, ◌++◌}
use Rattle.lite_laws.specs.Uses.{rules}
use Rattle.std.proofs.Common.{ap, append_assoc, arith, length-append, ◌∙◌}
use Rattle.std.proofs.lemmas.Grind.{common_steps}
use Rattle.lite_laws.proofs.Waits.{waits_last}
use Rattle.lite_laws.proofs.polls.run.Goals as goal

pub loop-preserved : goal.loop-preserved
loop-preserved g c =
    let ran = c.loop.invariant.ran in
    let last = c.poll_next.result ∷ [] in
    record {
      ready = c.poll_next.ensures.again;
      kept = search rules;
      grown = grind (arith, common_steps);
      ran = (
        ran.0 ++ last,
        rw (c.push_reserved.ensures.items, c.reserve.ensures.items, ran.1, append_assoc),
        g.met.S.Stream.laws.follows _ _ _ ran.0 last ran.2 c.poll_next.ensures.ran,
        length-append ran.0 last ∙ ap (λ k. k + 1) ran.3,
        waits_last ran.0 c.poll_next.result _ c.poll_next.ensures.registered,
      );
    }
