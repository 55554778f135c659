use Rattle.std.proofs.Common.{rules, ◌≡◌, ◌<◌, arith, length, inl, inr, Ok, Err, None}
use Rattle.tokio_util.specs.Codec.Next.{at_end}
use Rattle.tokio_util.proofs.CodecLemmas.Next.{Resumes_now}
use Rattle.example_redis.specs.Laws.Decoding.{cut_off, ended}
use Rattle.example_redis.specs.Laws.Numbers.{zero_or_more}
use Rattle.example_redis.specs.Requests.{gives_requests}
use Rattle.example_redis.specs.declared.error.RequestError.TheVariants.{Cut}
use Rattle.example_redis.proofs.requests.decoding.RequestsDecoder.decode_eof.Goals as goal
use Rattle.example_redis.proofs.requests.decoding.RequestsDecoder.decode_eof.Goals.{then-is_idle+else-is_empty, else-is_idle}

pub returns-in-None : goal.returns-in-None
returns-in-None c =
    let t = c.decode.new in
    let none : length t.src.items ≡ 0 = search rules in
    let idle = c.is_idle.ensures.0 c.if-is_idle.true in
    let (begun, resumes) = rw c.in-None.is at c.in_ok-request.ensures in
    Resumes_now gives_requests c.args.self.now c.args.src.now.items t.self t.src.items (at_end (Ok None) t.self t.src.items) resumes
    (ended t.self t.src.items idle.0 idle.1 none)

pub returns-in-None-2 : goal.returns-in-None-2
returns-in-None-2 c =
    let t = c.decode.new in
    let (begun, resumes) = rw c.in-None-2.is at c.in_ok-request.ensures in
    inr (Resumes_now gives_requests c.args.self.now c.args.src.now.items t.self t.src.items (at_end (Err Cut) t.self t.src.items) resumes
    (cut_off t.self t.src.items (λ none. elim c.if-is_idle.branch [
      | then-is_idle+else-is_empty w ↦ let some : 0 < length t.src.items = search rules in omega (arith, some)
      | else-is_idle w ↦ elim (zero_or_more (length t.self.line.items)) [
        | inl empty ↦ let idle = c.is_idle.ensures.1 (none, empty) in absurd (cc (idle, w.if-is_idle.false))
        | inr some ↦ omega (arith, some)
      ]
    ]) begun))
