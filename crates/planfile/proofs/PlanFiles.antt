-- Each plan has one file, and each file is the file of one plan; in bytes too.
use mathlib.Core.Path.{◌≡◌, sym, ap, ◌∙◌}
use mathlib.Core.Bool.{true}
use mathlib.Core.List.{List, ◌++◌}
use Prim.Native.Nat.{ℕ, ◌+◌, ◌*◌, ◌/◌, ◌≤◌}
use native.Mathlib.Omega.{arith}
use lib.Dec.{ltb}
use lib.ListN.{length, drop}
use lib.Seq.{take_at, length-take-le}
use borrow.Author.Tests.{ltb-true, lt-ltb}
use Rattle.base.specs.Replies.{accepted}
use Rattle.base.proofs.Each.{Each, each_append, each_take, all-each, each_all}
use Rattle.base.proofs.Replies.{lent-accepted}
use Rattle.plan.specs.Groups.{Plan, width, flat, plan_of}
use Rattle.plan.proofs.FlatRecords.{length-records, flat-records, plan-flat}
use Rattle.words.specs.LittleEndian.{number, unsigned, unsigned_bytes}
use Rattle.words.proofs.Blocks.{length_decoded}
use Rattle.words.proofs.Bytes.{IsByte, numbers-small}
use Rattle.words.proofs.Codes.{unsigned-append}
use Rattle.planfile.specs.File.{file_size, is_carried, file_of, plan_from}
use Rattle.planfile.specs.Calls.{lent_plan, write_plan_reply, read_plan_reply}
use Rattle.planfile.specs.Code.Room.{Writable}
use Rattle.planfile.specs.PlanFiles.{are_bytes, file_written, order_read, groups_read, Written, ReadAs, PlanFiles}
use Rattle.planfile.proofs.Files.{Small, file-size, file_made, plan-back, file_read, file_back, plan-carried}
use Rattle.planfile.proofs.Parts.{write-accepted}

pub each-byte : (bytes : List ℕ) → are_bytes bytes ≡ true → Each IsByte bytes
unfolding are_bytes
each-byte bytes h = all-each IsByte (λ b. ltb b 256) (λ b t. ltb-true b 256 t) bytes h

same-plan : (p q : Plan) → is_carried p ≡ true → is_carried q ≡ true → file_of p ≡ file_of q → p ≡ q
same-plan p q hp hq e = sym (plan-back p hp) ∙ ap plan_from e ∙ plan-back q hq

-- ---- a plan that is written from bytes

module _ (n : ℕ) (order groups : List ℕ) (count : ℕ) (old : List ℕ) (written : Written n order groups count old) where
  abbrev p : Plan
  p = lent_plan n order groups count

  fillable : Writable n order groups count (length old)
  fillable = write-accepted n order groups count (length old) written.size written.accepts

  rows_long : length p.order ≡ n
  unfolding plan_of
  rows_long = length-take-le n (unsigned 4 order) (rw (length_decoded number 4 order) fillable.rows)

  groups_long : length p.groups ≡ count
  unfolding plan_of
  groups_long = length-records count (unsigned 4 groups)

  small-order : Each Small p.order
  unfolding plan_of
  small-order = each_take Small n (unsigned 4 order) (numbers-small order (each-byte order written.order_bytes))

  small-groups : Each Small (flat p.groups)
  unfolding plan_of
  small-groups =
      rw (flat-records count (unsigned 4 groups) (rw (length_decoded number 4 groups) fillable.fields))
      (each_take Small (width * count) (unsigned 4 groups) (numbers-small groups (each-byte groups written.groups_bytes)))

  carried : is_carried p ≡ true
  unfolding is_carried
  carried =
      rw (rows_long, groups_long, fillable.sized)
      (each_all Small (λ v. ltb v 4294967296) (λ v h. lt-ltb v 4294967296 h) (p.order ++ flat p.groups) (each_append Small p.order (flat p.groups) small-order small-groups))

  -- the bytes that are left
  written_is : file_written n order groups count old ≡ file_of p
  unfolding file_written
  written_is =
      let size : length (file_of p) ≡ file_size n count = rw (rows_long, groups_long) at (file-size p carried) in
      rw (lent-accepted (file_of p) old (write_plan_reply n order groups count (length old)) written.size written.accepts)
      (take_at (file_of p) (drop (length (file_of p)) old) (file_size n count) size)

  module _ (new_order new_groups : List ℕ) (rows : n ≤ length new_order / 4) (fields : width * count ≤ length new_groups / 4) where
    accepts : read_plan_reply (file_of p) new_order new_groups ≡ accepted (n + 65536 * count)
    accepts = rw (rows_long, groups_long) at (file_read p carried new_order new_groups (rw rows_long rows) (rw groups_long fields))

    order-left : order_read (file_of p) new_order new_groups ≡ unsigned_bytes 4 p.order ++ drop (length (unsigned_bytes 4 p.order)) new_order
    unfolding order_read
    order-left = rw (plan-back p carried) (lent-accepted (unsigned_bytes 4 p.order) new_order (read_plan_reply (file_of p) new_order new_groups) (n + 65536 * count) accepts)

    groups-left : groups_read (file_of p) new_order new_groups ≡ unsigned_bytes 4 (flat p.groups) ++ drop (length (unsigned_bytes 4 (flat p.groups))) new_groups
    unfolding groups_read
    groups-left = rw (plan-back p carried) (lent-accepted (unsigned_bytes 4 (flat p.groups)) new_groups (read_plan_reply (file_of p) new_order new_groups) (n + 65536 * count) accepts)

    leaves : lent_plan n (order_read (file_of p) new_order new_groups) (groups_read (file_of p) new_order new_groups) count ≡ p
    leaves =
        let order_rest : List ℕ = drop (length (unsigned_bytes 4 p.order)) new_order in
        let groups_rest : List ℕ = drop (length (unsigned_bytes 4 (flat p.groups))) new_groups in
        rw (
          order-left,
          groups-left,
          unsigned-append 4 (omega arith) p.order small-order order_rest,
          unsigned-append 4 (omega arith) (flat p.groups) small-groups groups_rest,
        )
        (rw groups_long at (plan-flat p n (unsigned 4 order_rest) (unsigned 4 groups_rest) rows_long))

    read_as : ReadAs n count p (file_written n order groups count old) new_order new_groups
    read_as = rw written_is (record { accepts = accepts; leaves = leaves })

pub plan_files : PlanFiles
plan_files = record {
  of-plan = λ p ok. record {
    made = file_made p ok;
    back = plan-back p ok;
    only = λ file bytes is e. sym (file_back file is (each-byte file bytes)) ∙ ap file_of e;
  };
  of_file = λ file bytes ok. record { carried = plan-carried file ok (each-byte file bytes); written = file_back file ok (each-byte file bytes) };
  same = same-plan;
  read_back = λ n order groups count old w new_order new_groups rows fields. read_as n order groups count old w new_order new_groups rows fields;
  same_bytes = λ n order groups count old w m order' groups' count' old' w' e.
      same-plan (lent_plan n order groups count) (lent_plan m order' groups' count') (carried n order groups count old w) (carried m order' groups' count' old' w')
      (sym (written_is n order groups count old w) ∙ e ∙ written_is m order' groups' count' old' w');
}
