use Rattle.std.proofs.Common.{refl, ap, sym, ◌∙◌}
use borrow.Author.Rules.{sfits_of}
use mir.Syntax.{w64}
use mir.ValLaws.{to_z-of_z}
use Rattle.words.specs.LittleEndian.{to_signed}
use Rattle.words.proofs.Twos.{to_signed-is}
use Rattle.words.proofs.word.I64Word.read.Goals as goal

pub returns : goal.returns
returns c =
    to_z-of_z w64 c.cast_signed.result (sfits_of c.cast_signed.type_inv)
    ∙ c.cast_signed.ensures ∙ sym (to_signed-is w64 8 refl c.read.result) ∙ ap (to_signed 8) c.read.ensures
