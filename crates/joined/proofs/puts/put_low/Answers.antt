-- `put_low`: nothing above the diagonal.
use borrow.Author.Tests.{lt-leb}
use Rattle.joined.proofs.Emitting.{added_none}
use Rattle.joined.proofs.puts.put_low.Goals as goal

pub returns-then-i-j : goal.returns-then-i-j
returns-then-i-j c = rw (lt-leb c.args.j c.args.i c.if-i-j.true) (added_none _)
