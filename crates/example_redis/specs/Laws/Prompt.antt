-- A request is given at its last byte.
use Rattle.std.specs.Prelude.{◌≡◌, ◌<◌, ℕ, List, [], ◌∷◌, ◌++◌, length}
use Rattle.std.proofs.Common.{arith, refl}
use Rattle.framed.specs.Prompt.{PromptLaws}
use Rattle.example_redis.specs.Laws.Requests.{requests_last, requests_whole}
use Rattle.example_redis.specs.Requests.{gives_requests}

none_used : (used : List ℕ) → 0 < length used → [] ≡ used ++ [] → ⊥
none_used [] some e = omega (arith, some)
none_used (b ∷ used) some e = cc e

pub requests_prompt : PromptLaws gives_requests (λ _. 0)
requests_prompt =
    record {
      alone = λ s xs v t ys h. let one = requests_whole s xs v t ys h in (one.0, one.2, one.3);
      owed = λ s v t h. let one = requests_whole s [] v t [] h in absurd (none_used one.0 one.1 one.2);
      waits = λ s xs h. refl;
      last = requests_last;
    }
