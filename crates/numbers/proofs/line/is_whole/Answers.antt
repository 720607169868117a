-- `is_whole` meets its contract.
use Rattle.std.proofs.Common.{drop, arith}
use Rattle.market.specs.Fields.{digits}
use Rattle.scan.proofs.numbers.Scanning.{first_digit}
use Rattle.numbers.proofs.line.Wholes.{whole-none, whole-one, whole_more}
use Rattle.numbers.proofs.line.is_whole.Goals as goal

pub returns-then-next-at : goal.returns-then-next-at
returns-then-next-at c = let a = c.args in whole-none (digits (drop a.at a.text.now)) (omega arith)

pub returns-then-next-at-le1 : goal.returns-then-next-at-le1
returns-then-next-at-le1 c = let a = c.args in whole-one (digits (drop a.at a.text.now)) (omega arith) (omega arith)

pub bounds-text-at : goal.bounds-text-at
bounds-text-at c = let a = c.args in (first_digit a.text.now a.at (omega arith)).0

pub returns : goal.returns
returns c = let a = c.args in rw (← (first_digit a.text.now a.at (omega arith)).1) (whole_more (digits (drop a.at a.text.now)) (omega arith))
