-- `ended` meets its contract.
use Rattle.reader.proofs.entries.Turns.{too_many, no_more}
use Rattle.reader.proofs.entries.ended.Goals as goal

pub returns-then-pos-s : goal.returns-then-pos-s
returns-then-pos-s c es all = let a = c.args in too_many a.s.now a.pos a.size.now es all c.if-pos-s.true

pub returns : goal.returns
returns c es all = let a = c.args in no_more a.s.now a.pos a.size.now es all c.if-pos-s.false
