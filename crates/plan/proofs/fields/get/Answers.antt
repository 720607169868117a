-- `fields::get`: the numbers from a record's place on are the record.
use Rattle.plan.proofs.FlatRecords.{record_fields}
use Rattle.plan.proofs.fields.get.Goals as goal

pub returns : goal.returns
returns c = let a = c.args in record_fields a.numbers.now a.i
