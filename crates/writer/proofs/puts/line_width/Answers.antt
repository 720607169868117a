-- `line_width` meets its contract.
use mathlib.Core.Path.{◌≡◌}
use native.Mathlib.Omega.{arith}
use lib.ListN.{length}
use mir.Facts.{to_z-of_z}
use Rattle.market.specs.Text.{integer}
use Rattle.writer.proofs.puts.Digits.{natural-few, integer-few}
use Rattle.writer.proofs.puts.line_width.Goals as goal

pub overflow_add-result : goal.overflow_add-result
overflow_add-result c = let s = c.args in omega (arith, c.width-2.ensures, c.width.ensures, natural-few s.r, natural-few s.c)

pub overflow_add-result-2 : goal.overflow_add-result-2
overflow_add-result-2 c =
    let e : c.integer_width.result ≡ length (integer c.args.v) = simp (to_z-of_z c.ranges.v) at c.integer_width.ensures in
    omega (arith, c.width-2.ensures, c.width.ensures, natural-few c.args.r, natural-few c.args.c, integer-few c.args.v)

pub overflow_add-result-3 : goal.overflow_add-result-3
overflow_add-result-3 c =
    let e : c.integer_width.result ≡ length (integer c.args.v) = simp (to_z-of_z c.ranges.v) at c.integer_width.ensures in
    omega (arith, c.width-2.ensures, c.width.ensures, natural-few c.args.r, natural-few c.args.c, integer-few c.args.v)
