-- `accesses` meets its contract.
use Prim.Native.Nat.{◌+◌}
use native.Mathlib.Omega.{arith}
use borrow.Author.Rules.{rules}
use Rattle.steps.proofs.accesses.Goals as goal

pub overflow_sub-result : goal.overflow_sub-result
overflow_sub-result c = let h = c.requires.1.rises c.args.w c.requires.0 in search rules

pub overflow_mul-result : goal.overflow_mul-result
overflow_mul-result c = let h = c.requires.1.few (c.args.w + 1) (omega arith) in search rules
