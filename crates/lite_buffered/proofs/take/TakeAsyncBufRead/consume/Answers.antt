use Rattle.std.specs.Prelude.{◌≡◌, ◌≤◌, ◌+◌, ◌-◌, [], length, take, drop}
use Rattle.lite_buffered.specs.Uses.{◌∙◌, sym, ap, subst, arith, append-nil, length-take, length-take-le, take-take, drop-take, bytes}
use Rattle.lite_buffered.specs.Take.{WithinLimit}
use Rattle.lite_buffered.proofs.Reading.{fits_bytes}
use Rattle.lite_buffered.proofs.take.TakeAsyncBufRead.consume.Goals as goal

pub returns-clause-ran : goal.returns-clause-ran
returns-clause-ran g c =
    let n = c.args.amount in
    let limit = c.args.self.now.limit in
    let shown = g.R.AsyncBufRead.buffer_of c.args.self.now.inner in
    let fits : n ≤ limit = omega (arith, c.requires, length-take limit shown) in
    let within : n ≤ length shown = omega (arith, c.requires, length-take limit shown) in
    let same : take n (take limit shown) ≡ take n shown = grind (arith, take-take) in
    let len : length (take n shown) ≡ n = length-take-le n shown within in
    rw same
    (record {
      front = bytes (take n shown);
      ends = [];
      cut = sym (append-nil (bytes (take n shown)));
      ran = c.consume.ensures.ran;
      fits = subst (λ k. WithinLimit limit (bytes (take n shown)) (limit - k)) len
          (fits_bytes limit (take n shown) (omega (arith, len)));
      used_up = tt;
      still = λ none. absurd (omega (arith, none, fits, c.if-amount-eq0.false));
    })

pub returns-clause-rest : goal.returns-clause-rest
returns-clause-rest g c =
    let n = c.args.amount in
    let limit = c.args.self.now.limit in
    let shown = g.R.AsyncBufRead.buffer_of c.args.self.now.inner in
    let whole : n + (limit - n) ≡ limit = omega (arith, c.requires, length-take limit shown) in
    ap (take (limit - n)) c.consume.ensures.rest ∙ sym (drop-take n (limit - n) shown)
    ∙ ap (λ k. drop n (take k shown)) whole
