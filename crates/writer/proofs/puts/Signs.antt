-- A value and its sign.
use mathlib.Core.Path.{◌≡◌}
use mathlib.Core.List.{List}
use Prim.Native.Nat.{ℕ, ◌+◌, ◌≤◌}
use native.Mathlib.Omega.{arith}
use lib.IntN.{ℤ, pos, negsuc, nat_abs}
use lib.ListN.{length, set}
use lib.Signed.{lt_z}
use mir.Val.{bool_byte}
use borrow.Author.Tests.{le-ltb}
use Rattle.market.specs.Bytes.{minus}
use Rattle.market.specs.Text.{natural, integer}
use Rattle.writer.specs.Code.Puts.{Put}
use Rattle.market.proofs.Decimal.{decimal-some}
use Rattle.writer.proofs.puts.Putting.{put_one, put_then, put_over}

-- how many bytes it is written in: the digits, and one for a sign
pub length-integer : (z : ℤ) → length (integer z) ≡ length (natural (nat_abs z)) + bool_byte (lt_z z (pos 0))
length-integer (pos n) = rw (le-ltb n 0 (omega arith)) (omega arith)
length-integer (negsuc n) = omega arith

-- the digits put over a sign, or after it
pub put_value : (z : ℤ) {at r : ℕ} {old new : List ℕ} → at + length (integer z) ≤ length old → Put (natural (nat_abs z)) (at + bool_byte (lt_z z (pos 0))) r (set old at minus) new → Put (integer z) at r old new
put_value (pos n) {at} h p =
    let e : at + 0 ≡ at = omega arith in
    put_over minus (decimal-some 9 n) (rw (le-ltb n 0 (omega arith), e) at p)
put_value (negsuc n) {at} {old = old} h p = put_then (omega arith) (put_one old at minus (omega arith)) p
