use Rattle.std.proofs.Common.{subst, Err, ℕ, List}
use Rattle.example_redis.specs.Laws.Taking.{not_whole, refused_as}
use Rattle.example_redis.specs.Reading.{ReadsWord}
use Rattle.example_redis.proofs.requests.Requests.take_word.Goals as goal

pub returns-in_default : goal.returns-in_default
returns-in_default c =
    let none = rw c.in_default.is at c.in_ok-place.ensures in
    not_whole c.args.self.now c.args.src.now.items c.requires (rw c.as_slice.ensures at none)

pub returns-in_err-place : goal.returns-in_err-place
returns-in_err-place c =
    let s = c.args.self.now in
    refused_as s c.args.src.now.items c.from_residual.result c.in_err-place.field-0.0 c.requires c.from_residual.ensures.1
    (subst (λ (l : List ℕ). ReadsWord s.limits s.room l (Err c.in_err-place.field-0.0)) c.as_slice.ensures c.in_err-place.ensures)
