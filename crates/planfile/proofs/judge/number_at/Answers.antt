-- `number_at` meets its contract.
use mathlib.Core.Path.{◌∙◌, sym}
use Rattle.words.specs.LittleEndian.{number}
use Rattle.words.proofs.Blocks.{decoded_at}
use Rattle.planfile.proofs.judge.number_at.Goals as goal

pub returns : goal.returns
unfolding number
returns c = c.read.ensures ∙ sym (decoded_at number 4 c.args.file.now c.args.k c.requires)
