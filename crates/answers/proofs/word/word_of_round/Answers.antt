-- `word_of_round`: the parts together have 64 bits.
use mathlib.Core.Path.{◌≡◌, refl}
use mathlib.Core.List.{[]}
use native.Mathlib.Omega.{arith}
use Rattle.std.proofs.Common.{Ok}
use Rattle.calls.specs.Performed.{as_answer}
use Rattle.calls.specs.declared.Response.TheVariants.{Picked}
use Rattle.answers.proofs.word.word_of_round.Goals as goal
use Rattle.answers.proofs.word.word_of_round.Goals.{In-Picked}

has : (c : In-Picked) → as_answer c.args.answer [] ≡ as_answer (Ok (Picked c.in-Picked.taken c.in-Picked.stop)) []
has c = rw (c.in-Ok.is, c.in-Picked.is) refl

pub overflow_mul-moves : goal.overflow_mul-moves
overflow_mul-moves c = let g = c.requires.0 _ _ _ (has (goal.at.overflow_mul-moves c).In-Picked) in omega (arith, g.0)

pub overflow_add-result : goal.overflow_add-result
overflow_add-result c = let g = c.requires.0 _ _ _ (has (goal.at.overflow_add-result c).In-Picked) in omega (arith, g.0)

pub overflow_add-result-3 : goal.overflow_add-result-3
overflow_add-result-3 c =
    let g = c.requires.0 _ _ _ (has (goal.at.overflow_add-result-3 c).In-Picked) in
    omega (arith, g.0, rw c.in-Some.is at g.1, c.number-why.ensures)
