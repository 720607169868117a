-- `join`: the checks in turn, the gathering, the sort into full rows.
use mathlib.Core.Bool.{not}
use mathlib.Core.Path.{ap}
use mathlib.Core.Path.{◌≡◌, refl, sym}
use mathlib.Core.Bool.{true}
use native.Mathlib.Omega.{arith}
use Prim.Native.Nat.{ℕ, ◌+◌, ◌*◌, ◌≤◌}
use lib.Dec.{leb}
use lib.ListN.{length, length-replicate}
use Rattle.base.proofs.Booleans.{fails, holds}
use Rattle.base.proofs.Lists.{length-filter-le, get_d_zeros}
use Rattle.matrix.specs.Limits.{max_rows}
use Rattle.matrix.specs.Matrix.{Matrix, is_matrix}
use Rattle.matrix.specs.Held.{held}
use Rattle.matrix.proofs.Matrix.{matrix_facts}
use Rattle.joined.specs.Joined.{joined_rows, are_places}
use Rattle.joined.specs.Code.Rows.{Sewing}
use Rattle.compress.proofs.entries.Listed.{listed_few}
use Rattle.joined.proofs.Gathering.{many-rows}
use Rattle.joined.proofs.Joining.{in-rows, placed_joins, first_unmade, second_unmade, misplaced, unlimited, other_length, tested_places, rows_are}
use Rattle.joined.proofs.join.Goals as goal

pub returns-then-not-is_matrix : goal.returns-then-not-is_matrix
returns-then-not-is_matrix c =
    let q = first_unmade _ _ _ _ _ _ (fails c.is_matrix.ensures (ap not c.if-not-is_matrix.true)) in
    record { reply = q.0; lent_starts = q.1.0; lent_columns = q.1.1.0; lent_values = q.1.1.1 }

pub returns-then-not-is_matrix-2 : goal.returns-then-not-is_matrix-2
returns-then-not-is_matrix-2 c =
    let one : Matrix = held c.args.first.now in
    let first_made : is_matrix one ≡ true = holds c.is_matrix.ensures (ap not c.if-not-is_matrix.false) in
    let q = second_unmade _ _ _ _ _ _ first_made (fails c.is_matrix-2.ensures (ap not c.if-not-is_matrix-2.true)) in
    record { reply = q.0; lent_starts = q.1.0; lent_columns = q.1.1.0; lent_values = q.1.1.1 }

pub returns-then-places-second : goal.returns-then-places-second
returns-then-places-second c =
    let one : Matrix = held c.args.first.now in
    let first_made : is_matrix one ≡ true = holds c.is_matrix.ensures (ap not c.if-not-is_matrix.false) in
    let two : Matrix = held c.args.second.now in
    let second-made : is_matrix two ≡ true = holds c.is_matrix-2.ensures (ap not c.if-not-is_matrix-2.false) in
    let q = misplaced _ _ _ _ _ _ first_made second-made (other_length _ _ _ c.if-places-second.true) in
    record { reply = q.0; lent_starts = q.1.0; lent_columns = q.1.1.0; lent_values = q.1.1.1 }

pub overflow_add-n : goal.overflow_add-n
overflow_add-n c =
    let one : Matrix = held c.args.first.now in
    let two : Matrix = held c.args.second.now in
    let first_made : is_matrix one ≡ true = holds c.is_matrix.ensures (ap not c.if-not-is_matrix.false) in
    let second-made : is_matrix two ≡ true = holds c.is_matrix-2.ensures (ap not c.if-not-is_matrix-2.false) in
    let few-rows : (c.args.first.now.n + c.count_from.result ≤ 2 * max_rows) × (length c.args.places.now ≤ max_rows) = let a = (matrix_facts one first_made).few in
    let b = (matrix_facts two second-made).few in
    omega (arith, c.count_from.ensures, length-filter-le (leb c.args.first.now.n) c.args.places.now, c.if-places-second.false) in
    let f = few-rows in omega arith

pub put_tenants-requires : goal.put_tenants-requires
put_tenants-requires c =
    let one : Matrix = held c.args.first.now in
    let two : Matrix = held c.args.second.now in
    let first_made : is_matrix one ≡ true = holds c.is_matrix.ensures (ap not c.if-not-is_matrix.false) in
    let second-made : is_matrix two ≡ true = holds c.is_matrix-2.ensures (ap not c.if-not-is_matrix-2.false) in
    let few-rows : (c.args.first.now.n + c.count_from.result ≤ 2 * max_rows) × (length c.args.places.now ≤ max_rows) = let a = (matrix_facts one first_made).few in
    let b = (matrix_facts two second-made).few in
    omega (arith, c.count_from.ensures, length-filter-le (leb c.args.first.now.n) c.args.places.now, c.if-places-second.false) in
    let f = few-rows in (f.0, f.1, length-replicate {A = ℕ} (2 * max_rows) 0, λ k. get_d_zeros (2 * max_rows) k)

pub returns-then-not-put_tenants : goal.returns-then-not-put_tenants
returns-then-not-put_tenants c =
    let one : Matrix = held c.args.first.now in
    let first_made : is_matrix one ≡ true = holds c.is_matrix.ensures (ap not c.if-not-is_matrix.false) in
    let two : Matrix = held c.args.second.now in
    let second-made : is_matrix two ≡ true = holds c.is_matrix-2.ensures (ap not c.if-not-is_matrix-2.false) in
    let rows : c.args.first.now.n + c.count_from.result ≡ joined_rows one c.args.places.now = rows_are one two c.args.places.now c.count_from.ensures in
    let tested : are_places one two c.args.places.now ≡ c.put_tenants.result = tested_places one two c.args.places.now c.if-places-second.false rows c.put_tenants.ensures.test in
    let q = misplaced _ _ _ _ _ _ first_made second-made (fails (sym tested) (ap not c.if-not-put_tenants.true)) in
    record { reply = q.0; lent_starts = q.1.0; lent_columns = q.1.1.0; lent_values = q.1.1.1 }

pub returns-then-n-gt-MAX_ROWS : goal.returns-then-n-gt-MAX_ROWS
returns-then-n-gt-MAX_ROWS c =
    let one : Matrix = held c.args.first.now in
    let first_made : is_matrix one ≡ true = holds c.is_matrix.ensures (ap not c.if-not-is_matrix.false) in
    let two : Matrix = held c.args.second.now in
    let second-made : is_matrix two ≡ true = holds c.is_matrix-2.ensures (ap not c.if-not-is_matrix-2.false) in
    let rows : c.args.first.now.n + c.count_from.result ≡ joined_rows one c.args.places.now = rows_are one two c.args.places.now c.count_from.ensures in
    let tested : are_places one two c.args.places.now ≡ c.put_tenants.result = tested_places one two c.args.places.now c.if-places-second.false rows c.put_tenants.ensures.test in
    let placed : are_places one two c.args.places.now ≡ true = holds (sym tested) (ap not c.if-not-put_tenants.false) in
    let oka = first_made in
    let okb = second-made in
    let q = unlimited _ _ _ _ _ _ oka okb placed (many-rows _ _ _ oka okb placed (omega (arith, c.if-n-gt-MAX_ROWS.true, rows))) in
    record { reply = q.0; lent_starts = q.1.0; lent_columns = q.1.1.0; lent_values = q.1.1.1 }

pub gather-requires : goal.gather-requires
gather-requires c =
    let one : Matrix = held c.args.first.now in
    let two : Matrix = held c.args.second.now in
    let rows : c.args.first.now.n + c.count_from.result ≡ joined_rows one c.args.places.now = rows_are one two c.args.places.now c.count_from.ensures in
    let first_made : is_matrix one ≡ true = holds c.is_matrix.ensures (ap not c.if-not-is_matrix.false) in
    let second-made : is_matrix two ≡ true = holds c.is_matrix-2.ensures (ap not c.if-not-is_matrix-2.false) in
    let tested : are_places one two c.args.places.now ≡ c.put_tenants.result = tested_places one two c.args.places.now c.if-places-second.false rows c.put_tenants.ensures.test in
    let placed : are_places one two c.args.places.now ≡ true = holds (sym tested) (ap not c.if-not-put_tenants.false) in
    let sewing : Sewing one two c.args.places.now (c.args.first.now.n + c.count_from.result) = record { first = first_made; second = second-made; placed = placed; rows = rows; few = c.if-n-gt-MAX_ROWS.false } in
    (sewing, c.put_tenants.ensures.tenants (holds refl (ap not c.if-not-put_tenants.false)))

pub returns-in_default : goal.returns-in_default
returns-in_default c =
    let one : Matrix = held c.args.first.now in
    let two : Matrix = held c.args.second.now in
    let first_made : is_matrix one ≡ true = holds c.is_matrix.ensures (ap not c.if-not-is_matrix.false) in
    let second-made : is_matrix two ≡ true = holds c.is_matrix-2.ensures (ap not c.if-not-is_matrix-2.false) in
    let rows : c.args.first.now.n + c.count_from.result ≡ joined_rows one c.args.places.now = rows_are one two c.args.places.now c.count_from.ensures in
    let tested : are_places one two c.args.places.now ≡ c.put_tenants.result = tested_places one two c.args.places.now c.if-places-second.false rows c.put_tenants.ensures.test in
    let placed : are_places one two c.args.places.now ≡ true = holds (sym tested) (ap not c.if-not-put_tenants.false) in
    let q = unlimited _ _ _ _ _ _ first_made second-made placed c.in_default.ensures in
    record { reply = q.0; lent_starts = q.1.0; lent_columns = q.1.1.0; lent_values = q.1.1.1 }

pub lend-requires : goal.lend-requires
lend-requires c =
    let one : Matrix = held c.args.first.now in
    let two : Matrix = held c.args.second.now in
    let first_made : is_matrix one ≡ true = holds c.is_matrix.ensures (ap not c.if-not-is_matrix.false) in
    let second-made : is_matrix two ≡ true = holds c.is_matrix-2.ensures (ap not c.if-not-is_matrix-2.false) in
    let rows : c.args.first.now.n + c.count_from.result ≡ joined_rows one c.args.places.now = rows_are one two c.args.places.now c.count_from.ensures in
    let tested : are_places one two c.args.places.now ≡ c.put_tenants.result = tested_places one two c.args.places.now c.if-places-second.false rows c.put_tenants.ensures.test in
    let placed : are_places one two c.args.places.now ≡ true = holds (sym tested) (ap not c.if-not-put_tenants.false) in
    let sewing : Sewing one two c.args.places.now (c.args.first.now.n + c.count_from.result) = record { first = first_made; second = second-made; placed = placed; rows = rows; few = c.if-n-gt-MAX_ROWS.false } in
    in-rows _ _ _ _ sewing c.in-Some.ensures

pub returns : goal.returns
returns c =
    let one : Matrix = held c.args.first.now in
    let two : Matrix = held c.args.second.now in
    let first_made : is_matrix one ≡ true = holds c.is_matrix.ensures (ap not c.if-not-is_matrix.false) in
    let second-made : is_matrix two ≡ true = holds c.is_matrix-2.ensures (ap not c.if-not-is_matrix-2.false) in
    let rows : c.args.first.now.n + c.count_from.result ≡ joined_rows one c.args.places.now = rows_are one two c.args.places.now c.count_from.ensures in
    let tested : are_places one two c.args.places.now ≡ c.put_tenants.result = tested_places one two c.args.places.now c.if-places-second.false rows c.put_tenants.ensures.test in
    let placed : are_places one two c.args.places.now ≡ true = holds (sym tested) (ap not c.if-not-put_tenants.false) in
    let sewing : Sewing one two c.args.places.now (c.args.first.now.n + c.count_from.result) = record { first = first_made; second = second-made; placed = placed; rows = rows; few = c.if-n-gt-MAX_ROWS.false } in
    let q = placed_joins _ _ _ _ sewing c.in-Some.ensures (listed_few c.gather.new.list) (rw (c.lend.ensures.rows, c.lend.ensures.entries) at c.place_rows.ensures) in
    record { reply = q.0; lent_starts = q.1.0; lent_columns = q.1.1.0; lent_values = q.1.1.1 }
