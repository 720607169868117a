-- Lists that hold each row at most once.
use mathlib.Core.List.{List, ◌++◌}
use Prim.Native.Nat.{ℕ}
use native.Mathlib.Omega.{arith}
use Rattle.base.specs.Lists.{range}
use Rattle.base.proofs.Lists.{range_in}
use Rattle.base.proofs.Counts.{Same, count-append, count-in, in_count, count-range}
pub use Rattle.levels.specs.Code.Group.{Proper}

pub proper-range : (n : ℕ) → Proper n (range 0 n)
proper-range n = record { once = λ v. count-range v 0 n; inside = λ v h. omega (arith, (range_in v 0 n h).1) }

-- what holds the same as a proper list is one
pub proper-same : (n : ℕ) (xs ys : List ℕ) → Same xs ys → Proper n ys → Proper n xs
proper-same n xs ys s pr = record {
  once = λ v. omega (arith, s v, pr.once v);
  inside = λ v h. pr.inside v (count-in v ys (omega (arith, s v, in_count v xs h)));
}

-- so is a first part
pub proper-left : (n : ℕ) (xs ys : List ℕ) → Proper n (xs ++ ys) → Proper n xs
proper-left n xs ys pr = record {
  once = λ v. omega (arith, pr.once v, count-append v xs ys);
  inside = λ v h. pr.inside v (count-in v (xs ++ ys) (omega (arith, count-append v xs ys, in_count v xs h)));
}

-- .. and what is left
pub proper-right : (n : ℕ) (xs ys : List ℕ) → Proper n (xs ++ ys) → Proper n ys
proper-right n xs ys pr = record {
  once = λ v. omega (arith, pr.once v, count-append v xs ys);
  inside = λ v h. pr.inside v (count-in v (xs ++ ys) (omega (arith, count-append v xs ys, in_count v ys h)));
}
