-- A number of at most six digits fits 32 bits.
use Rattle.std.proofs.Common.{◌<◌, ◌^◌, ℤ, pos, negsuc, w32, FitsSigned, arith}
use Rattle.std.proofs.lemmas.Int.{ints}
use lib.Signed.{mag}
use Rattle.pollrun.specs.Request.{IsShort}

pub IsShort-fits : (z : ℤ) → IsShort z → FitsSigned w32 z
IsShort-fits z h = omega (arith, ints, h.0, h.1)

pub IsShort-mag : (z : ℤ) → IsShort z → mag z < 2 ^ 63
IsShort-mag (pos n) h = omega (arith, ints, h.1)
IsShort-mag (negsuc n) h = omega (arith, ints, h.0)
