use Rattle.std.proofs.Common.{rules, length, nat_lt}
use Rattle.std.specs.Char.{is_ascii_whitespace}
use Rattle.std.proofs.lemmas.Iterator.Consumers.{YieldsList-at, YieldsList-from_filter, map_from_collect}
use Rattle.std.proofs.lemmas.Iterator.Splits.{YieldsList-from_slice_split}
use Rattle.example_redis.proofs.requests.lines.split_words.Goals as goal

pub returns : goal.returns
returns c =
    map_from_collect _ c.collect.ensures.ran
    (YieldsList-from_filter _ (λ w. nat_lt 0 (length w)) (YieldsList-at c.filter.ensures.source
    (YieldsList-from_slice_split _ is_ascii_whitespace c.args.line.now c.split.ensures.rest c.split.ensures.done c.split.ensures.closure
    (λ x r q k. search rules)))
    c.filter.ensures.closure (λ x r q k. search rules))
