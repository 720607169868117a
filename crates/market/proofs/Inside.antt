-- What it is to be an entry.
use mathlib.Core.Path.{◌≡◌}
use mathlib.Core.Bool.{true, ◌&&◌}
use Prim.Native.Nat.{ℕ, ◌≤◌}
use native.Mathlib.Omega.{arith}
use lib.Dec.{leb}
use lib.IntN.{ℤ, nat_abs}
use mir.Syntax.{w32}
use mir.Val.{SFits}
use borrow.Author.Tests.{leb-true}
use Rattle.base.specs.Integers.{within}
use Rattle.base.proofs.Booleans.{and_left, and_right}
use Rattle.base.proofs.Integers.{fits-abs}
use Rattle.matrix.specs.Limits.{max_value}
use Rattle.market.specs.Parse.{is_entry}

-- what `is_entry` says
pub record Inside (n r c : ℕ) (v : ℤ) : Type 0 where
  pub first : 1 ≤ c
  pub below : c ≤ r
  pub last : r ≤ n
  pub small : nat_abs v ≤ max_value

pub inside : (n r c : ℕ) (v : ℤ) → is_entry n r c v ≡ true → Inside n r c v
unfolding within
inside n r c v h =
    let p = and_left (leb 1 c && leb c r && leb r n) (within max_value v) h in
    let q = and_left (leb 1 c && leb c r) (leb r n) p in
    record {
      first = leb-true 1 c (and_left (leb 1 c) (leb c r) q);
      below = leb-true c r (and_right (leb 1 c) (leb c r) q);
      last = leb-true r n (and_right (leb 1 c && leb c r) (leb r n) p);
      small = leb-true (nat_abs v) max_value (and_right (leb 1 c && leb c r && leb r n) (within max_value v) h);
    }

-- the value of an entry has 32 bits
pub inside-fits : (n r c : ℕ) (v : ℤ) → Inside n r c v → SFits w32 v
inside-fits n r c v i = fits-abs (omega (arith, i.small))
