-- A number's digits put before a place, as they are put from one on.
use mathlib.Core.Path.{◌≡◌, sym, ap, ◌∙◌}
use mathlib.Core.List.{List, ◌++◌}
use Prim.Native.Nat.{ℕ, ◌+◌, ◌<◌}
use native.Mathlib.Omega.{arith}
use lib.ListN.{length, take, drop, take-append-drop}
use Rattle.market.specs.Text.{decimal, natural}
use Rattle.market.specs.Code.Puts.{PutBefore}
use Rattle.market.proofs.Decimal.{decimal-same}
use Rattle.writer.specs.Code.Puts.{Put}

-- as many digits as the number has
pub digits-natural : (v : ℕ) → v < 10000000000 → decimal 19 v ≡ natural v
digits-natural v h = decimal-same 19 10 v (omega arith) (omega arith) (omega arith) h

pub digits_put : (v at : ℕ) {end r : ℕ} {old new : List ℕ} → v < 10000000000 → end ≡ at + length (natural v) → PutBefore (decimal 19 v) end r old new → take r new ≡ take r old → Put (natural v) at end old new
digits_put v at {end} {r} {old} {new} h e p b =
    let same = digits-natural v h in
    let place : r ≡ at = omega (arith, p.begins, ap length same, e) in
    let tail : drop at new ≡ natural v ++ drop (at + length (natural v)) old = rw (place, same, e) at p.text in
    let front : take at new ≡ take at old = rw place at b in
    record { next = e; long = p.long; text = sym (take-append-drop at new) ∙ rw (tail, front) }
