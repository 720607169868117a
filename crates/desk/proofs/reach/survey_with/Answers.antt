-- `survey_with` meets its contract: the lists are decoded as far as they can reach.
use Rattle.words.specs.LittleEndian.{signed}
use Rattle.lent.specs.Code.Nets.{net_of}
use Rattle.desk.proofs.Surveys.{survey-cut}
use Rattle.desk.proofs.reach.survey_with.Goals as goal

pub returns : goal.returns
returns g c =
    let a = c.args in
    survey-cut (net_of a.bytes.now.net) (signed 4 a.movements.now) a.asked.t a.asked.row c.decode.ensures c.decode-2.ensures c.survey_of.ensures
