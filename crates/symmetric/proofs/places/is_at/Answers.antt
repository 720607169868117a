-- `places::is_at`: the values are tested by their bits.
use native.Mathlib.Omega.{arith}
use Rattle.std.proofs.lemmas.Grind.{common_steps}
use Rattle.symmetric.proofs.Bits.{bits-same}
use Rattle.symmetric.proofs.places.is_at.Goals as goal

pub returns-then-m-p : goal.returns-then-m-p
returns-then-m-p c = grind (arith, common_steps, bits-same)
