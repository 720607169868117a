-- `integer_width` meets its contract.
use mathlib.Core.Path.{◌≡◌, ap}
use Prim.Native.Nat.{ℕ, ◌+◌}
use native.Mathlib.Omega.{arith}
use lib.IntN.{pos, nat_abs}
use lib.Signed.{lt_z}
use lib.ListN.{length}
use mir.Val.{bool_byte}
use mir.Facts.{to_z-of_z}
use Rattle.market.specs.Text.{natural, integer}
use Rattle.writer.proofs.puts.Digits.{integer-few}
use Rattle.writer.proofs.puts.Signs.{length-integer}
use Rattle.writer.proofs.puts.integer_width.Goals as goal

pub overflow_add-result : goal.overflow_add-result
overflow_add-result c =
    let whole : let v = c.args.v in c.width.result + bool_byte (lt_z v (pos 0)) ≡ length (integer v) = let e : c.unsigned_abs.result ≡ nat_abs c.args.v = simp (to_z-of_z c.ranges.v) at c.unsigned_abs.ensures.value in
    omega (arith, c.width.ensures, ap (λ (k : ℕ). length (natural k)) e, length-integer c.args.v) in
    simp (to_z-of_z c.ranges.v) (omega (arith, whole, integer-few c.args.v))
