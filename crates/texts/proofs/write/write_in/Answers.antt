-- `write_in` meets its contract: the lists are decoded as far as they can reach.
use mathlib.Core.Path.{ap, ◌∙◌}
use Rattle.lent.specs.Code.Nets.{net_of}
use Rattle.lent.specs.Word.{word}
use Rattle.texts.proofs.TextWrites.{decoded_matrix}
use Rattle.texts.proofs.write.write_in.Goals as goal

pub returns : goal.returns
returns c =
    decoded_matrix (net_of c.args.net.now) _ c.decode.ensures (record { returns = c.word_of.ensures ∙ ap word c.write.ensures.result_value; leaves = c.write.ensures.text_after })
