use Rattle.std.specs.Prelude.{◌≡◌, ◌≤◌, Ok, Err, length, take}
use Rattle.lite_buffered.specs.Uses.{ap, refl, rules, subst, sym, arith, moved_marks, common_steps, Pending, Ready}
use Rattle.std.specs.Vec.{with_items}
use Rattle.lite_buffered.proofs.Reading.{through_fill, through_past}
use Rattle.lite_buffered.proofs.buf_reader.BufReader.refill.Goals as goal

pub returns-clause-ran : goal.returns-clause-ran
returns-clause-ran g c =
    let got : c.poll_read.result ≡ Pending = search rules in
    through_past g.R.ReadSpec.reads _ _ _ (rw got at c.poll_read.ensures.ran) (grind (arith, common_steps)) c.requires refl

pub returns-in-Ok-clause-ran : goal.returns-in-Ok-clause-ran
returns-in-Ok-clause-ran g c =
    let n = c.in-Ok.n in
    let reads = g.R.ReadSpec.reads in
    let buf = c.poll_read.new.buf in
    let all = (with_items c.args.self.now.buf buf).items in
    let whole : all ≡ buf = grind (arith, common_steps) in
    let got : c.poll_read.result ≡ Ready (Ok n) = search rules in
    let fits : n ≤ length buf = rw got at c.poll_read.ensures.bound in
    let ran = subst (λ b. reads c.args.self.now.inner (moved_marks b (take n b)) c.poll_read.new.self) (sym whole)
    (rw got at c.poll_read.ensures.ran) in
    through_fill reads _ _ n c.requires refl refl (omega (arith, ap length whole, fits)) (grind (arith, common_steps)) ran

pub returns-in-Err-clause-ran : goal.returns-in-Err-clause-ran
returns-in-Err-clause-ran g c =
    let got : c.poll_read.result ≡ Ready (Err c.in-Err.e) = search rules in
    through_past g.R.ReadSpec.reads _ _ _ (rw got at c.poll_read.ensures.ran) (grind (arith, common_steps)) c.requires refl
