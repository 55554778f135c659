use Rattle.example_redis.specs.Laws.Requests.{requests_last, requests_whole}
use Rattle.example_redis.proofs.requests.decoding.takes_bytes.Goals as goal

pub returns : goal.returns
returns c = record { whole = λ s xs v t ys h. requests_whole s xs v t ys h; last = λ s xs v t ys h. requests_last s xs v t ys h }
