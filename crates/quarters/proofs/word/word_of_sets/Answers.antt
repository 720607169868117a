-- `word_of_sets` meets its contract, case by case.
use native.Mathlib.Omega.{arith}
use Rattle.quarters.proofs.word.word_of_sets.Goals as goal

pub overflow_mul-result-in-Ok : goal.overflow_mul-result-in-Ok
overflow_mul-result-in-Ok c = let few = c.requires _ c.in-Ok.is in omega (arith, few.0, few.1)

pub overflow_add-result-in-Ok : goal.overflow_add-result-in-Ok
overflow_add-result-in-Ok c = let few = c.requires _ c.in-Ok.is in omega (arith, few.0, few.1)

pub overflow_mul-result-in-Ok-2 : goal.overflow_mul-result-in-Ok-2
overflow_mul-result-in-Ok-2 c = let few = c.requires _ c.in-Ok.is in omega (arith, few.0, few.1)

pub overflow_add-result-in-Ok-2 : goal.overflow_add-result-in-Ok-2
overflow_add-result-in-Ok-2 c = let few = c.requires _ c.in-Ok.is in omega (arith, few.0, few.1)
