use Rattle.std.proofs.Common.{arith}
use native.Mathlib.Nat.{add-zero}
use Rattle.words.proofs.Digits.{number_at}
use Rattle.words.proofs.word.U64Word.read.Goals as goal

pub returns : goal.returns
returns c = let a = c.args in omega (arith, c.from_le_bytes.ensures, rw (add-zero a.at) at (number_at 8 a.bytes.now a.at c.requires))
