use Rattle.std.proofs.Common.{rules, refl}
use mir.Syntax.{w32}
use Rattle.words.proofs.Twos.{of_signed-is}
use Rattle.words.proofs.word.I32Word.write.Goals as goal

pub returns : goal.returns
returns c = rw (of_signed-is w32 4 refl c.args.self) (search rules)
