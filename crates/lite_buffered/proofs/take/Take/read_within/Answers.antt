use Rattle.std.specs.Prelude.{◌≡◌, ◌≤◌, ◌<◌, ◌-◌, [], Ok, length, take}
use Rattle.lite_buffered.specs.Uses.{rules, arith, sym, append-nil, length-take-le, subst, common_steps, Ready, moved_marks}
use Rattle.lite_buffered.specs.Take.{WithinLimit}
use Rattle.lite_buffered.proofs.Reading.{fits_moved}
use Rattle.lite_buffered.proofs.take.Take.read_within.Goals as goal

pub returns-in-Ok-clause-ran : goal.returns-in-Ok-clause-ran
returns-in-Ok-clause-ran g c =
    let n = c.in-Ok.n in
    let buf = c.poll_read.new.buf in
    let limit = c.args.self.now.limit in
    let got : c.poll_read.result ≡ Ready (Ok n) = search rules in
    let ran = rw got at c.poll_read.ensures.ran in
    let fits : n ≤ length buf = rw got at c.poll_read.ensures.bound in
    let some : 0 < length buf = grind (arith, common_steps) in
    let within : n ≤ limit = grind (arith, common_steps) in
    let len : length (take n buf) ≡ n = length-take-le n buf fits in
    let above : 0 < limit = grind (arith, common_steps) in
    record {
      front = moved_marks buf (take n buf);
      ends = [];
      cut = sym (append-nil (moved_marks buf (take n buf)));
      ran = ran;
      fits = subst (λ k. WithinLimit limit (moved_marks buf (take n buf)) (limit - k)) len
          (fits_moved limit buf (take n buf) (omega (arith, len)) (omega arith) some);
      used_up = tt;
      still = λ none. absurd (omega (arith, none, above));
    }
