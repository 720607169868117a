use Rattle.std.proofs.Common.{rules, refl}
use mir.Syntax.{w64}
use Rattle.words.proofs.Twos.{of_signed-is}
use Rattle.words.proofs.word.I64Word.write.Goals as goal

pub returns : goal.returns
returns c = rw (of_signed-is w64 8 refl c.args.self) (search rules)
