-- `updates::product` meets its contract: two numbers of 32 bits have a product of 64 bits.
use borrow.Author.Rules.{rules}
use Rattle.steps.proofs.Products.{Fitting, fitting}
use Rattle.steps.proofs.updates.product.Goals as goal

pub overflow_cast-result : goal.overflow_cast-result
overflow_cast-result c =
    let fits : Fitting c.ranges.entry c.ranges.displacement = fitting c.ranges.entry c.ranges.displacement in
    let f = fits in search rules

pub overflow_cast-result-2 : goal.overflow_cast-result-2
overflow_cast-result-2 c =
    let fits : Fitting c.ranges.entry c.ranges.displacement = fitting c.ranges.entry c.ranges.displacement in
    let f = fits in search rules

pub overflow_mul-result : goal.overflow_mul-result
overflow_mul-result c =
    let fits : Fitting c.ranges.entry c.ranges.displacement = fitting c.ranges.entry c.ranges.displacement in
    let f = fits in search rules

pub returns : goal.returns
returns c =
    let fits : Fitting c.ranges.entry c.ranges.displacement = fitting c.ranges.entry c.ranges.displacement in
    let f = fits in search rules
