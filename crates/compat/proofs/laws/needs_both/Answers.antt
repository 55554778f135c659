use Rattle.std.proofs.Common.{inl, inr, refl}
use Rattle.compat.proofs.laws.needs_both.Goals as goal

pub returns : goal.returns
returns g c s (inl need) = inl (inr (s, need, refl))
returns g c s (inr need) = inr (inr (s, need, refl))
