-- `word::set_of`: a preview's set, and none of any other answer.
use mathlib.Core.Path.{◌≡◌, refl}
use mathlib.Core.List.{[]}
use native.Mathlib.Omega.{arith}
use Rattle.std.proofs.Common.{Ok}
use Rattle.calls.specs.Performed.{as_answer}
use Rattle.calls.specs.declared.Response.TheVariants.{Previewed}
use Rattle.answers.proofs.word.set_of.Goals as goal
use Rattle.answers.proofs.word.set_of.Goals.{In-Previewed}

parts : (c : In-Previewed) → let p = c.in-Previewed in as_answer c.args.answer [] ≡ as_answer (Ok (Previewed p.field-0 p.field-1 p.bits p.count)) []
parts c = rw (c.in-Ok.is, c.in-Previewed.is) refl

pub overflow_mul-result : goal.overflow_mul-result
overflow_mul-result c = let g = c.requires _ _ _ _ _ (parts (goal.at.overflow_mul-result c).In-Previewed) in omega (arith, g.count_low)

pub overflow_add-result : goal.overflow_add-result
overflow_add-result c = let g = c.requires _ _ _ _ _ (parts (goal.at.overflow_add-result c).In-Previewed) in omega (arith, g.count_low, g.bits_low)
