-- `read` meets its contract.
use borrow.Author.Tests.{lt-ltb}
use Rattle.std.proofs.lemmas.Result.{err_from_is_err_and}
use Rattle.base.proofs.Each.{each_all}
use lib.Dec.{ltb}
use mathlib.Core.Bool.{◌&&◌}
use Rattle.market.specs.Parse.{Triplet}
use Rattle.compress.specs.Code.Entries.{listed}
use Rattle.market.proofs.Accepted.{Inner, parse-accepted}
use Rattle.compress.proofs.rows.Replies.{placed-rejected}
use Rattle.reader.proofs.read.Goals as goal

pub lend-requires : goal.lend-requires
lend-requires c =
    let n = c.in_ok-n.n in
    let a = parse-accepted _ _ _ c.in_ok-n.ensures in
    record { rows = a.rows; inside = each_all (Inner n) (λ (t : Triplet). ltb t.row n && ltb t.column n) (λ t h. rw (lt-ltb t.row n h.0, lt-ltb t.column n h.1)) (listed c.parse_text.new.list) a.inner }

pub returns-in_err-n : goal.returns-in_err-n
returns-in_err-n c =
    let r = err_from_is_err_and c.from_residual.result c.from_residual.ensures.1 in
    let p = placed-rejected c.args.starts.now c.args.columns.now c.args.values.now c.in_err-n.ensures in
    rw (r.1, r.2) (record { result_value = p.reply; starts_after = p.starts; columns_after = p.columns; values_after = p.values })
