use Rattle.std.proofs.Common.{refl, ap, sym, ◌∙◌}
use borrow.Author.Rules.{sfits_of}
use mir.Syntax.{w32}
use mir.ValLaws.{to_z-of_z}
use Rattle.words.specs.LittleEndian.{to_signed}
use Rattle.words.proofs.Twos.{to_signed-is}
use Rattle.words.proofs.word.I32Word.read.Goals as goal

pub returns : goal.returns
returns c =
    to_z-of_z w32 c.cast_signed.result (sfits_of c.cast_signed.type_inv)
    ∙ c.cast_signed.ensures ∙ sym (to_signed-is w32 4 refl c.read.result) ∙ ap (to_signed 4) c.read.ensures
