use Rattle.std.proofs.Common.{◌∙◌, ap, arith}
use mir.Syntax.{w32}
use Rattle.words.specs.LittleEndian.{bytes_of}
use Rattle.words.proofs.Digits.{length-bytes_of}
use Rattle.words.proofs.Machine.{le_bytes, put-sets}
use Rattle.words.proofs.word.U32Word.write.Goals as goal

pub returns : goal.returns
returns c =
    let a = c.args in
    put-sets a.at 4 a.bytes.now (bytes_of 4 a.self) c.copy_from_slice.new.self c.requires (length-bytes_of 4 a.self)
    (c.copy_from_slice.ensures.after ∙ c.to_le_bytes.ensures ∙ le_bytes w32 _ ∙ ap (bytes_of 4) (omega arith))
