use Rattle.std.proofs.Common.{rules, refl}
use mir.Syntax.{w64}
use Rattle.words.proofs.Twos.{to_signed-is}
use Rattle.numbers.proofs.width.magnitude.Goals as goal

pub returns : goal.returns
returns c = rw (to_signed-is w64 8 refl c.args.bits) (search rules)
