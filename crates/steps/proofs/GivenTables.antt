-- The tables of an accepted job in lent lists: its upper triangle, and what a step needs of them.
use mathlib.Core.Path.{◌≡◌, sym, ap, ◌∙◌}
use mathlib.Core.List.{List, ◌∷◌}
use Prim.Native.Nat.{ℕ, ◌/◌, ◌<◌}
use native.Mathlib.Omega.{arith}
use lib.IntN.{ℤ, pos}
use lib.ListN.{length, get_or, take}
use lib.Seq.{get_or-take}
use Rattle.matrix.specs.Limits.{max_rows}
use Rattle.matrix.specs.Matrix.{displacement, matrix_of}
use Rattle.plan.specs.Groups.{plan_of}
use Rattle.run.specs.Job.{Job, job_of, row_at}
use Rattle.run.specs.Updates.{displacement_at, later, count, accesses, next}
use Rattle.tables.specs.Code.Laid.{Laid, Bounded}
use Rattle.upper.specs.Code.Upper.{upper_to, Displaced, UpperLaid}
use Rattle.upper.proofs.UpperRows.{upper_whole}
use Rattle.upper.proofs.PlacedRows.{placed_same}
use Rattle.steps.specs.Code.Updates.{Triangle}
use Rattle.steps.specs.Code.Steps.{RowTables, StepTables, UpdatesAhead}
use Rattle.steps.proofs.TableUpdates.{updates-are, row_below, begun-before, triangle-row, table-update, entry-inside}

-- the displacements in plan order are the job's
pub job_displaced : (n : ℕ) (starts columns : List ℕ) (values : List ℤ) {x : List ℤ} (order groups : List ℕ) (count : ℕ) {displaced : List ℤ} → Displaced n x order displaced
    → (p : ℕ) → p < n → get_or displaced p (pos 0) ≡ displacement_at (job_of (matrix_of n starts columns values) x order groups count) p
unfolding job_of plan_of row_at displacement_at
job_displaced n starts columns values {x} order groups count d p l = d.is p l ∙ ap (displacement x) (sym (get_or-take n order p 0 l))

-- the whole upper triangle of the lists, in parts that have room, is the job's
pub triangle-of : {n : ℕ} {starts columns : List ℕ} {values x : List ℤ} {order : List ℕ} (groups : List ℕ) (count : ℕ) {parts at : List ℕ} {displaced beside : List ℤ}
    → Displaced n x order displaced → UpperLaid (matrix_of n starts columns values) (take n order) parts at beside
    → Triangle (job_of (matrix_of n starts columns values) x order groups count) parts displaced at beside
unfolding job_of plan_of row_at displacement_at
triangle-of {n} {starts} {columns} {values} {x} {order} groups count {parts} d t =
    let j : Job = job_of (matrix_of n starts columns values) x order groups count in
    record {
      displacements = job_displaced n starts columns values order groups count d;
      next = t.next;
      placed = placed_same j.matrix j.plan.order parts (λ p. upper_to j.matrix j.plan.order p n) (λ p. p ∷ later j p) (upper_whole j) t.placed;
      room = λ p l. omega (arith, t.parts.room p l, ap length (upper_whole j p l));
    }

-- what a step needs of the tables to know its row
pub row_tables : (j : Job) {first row begins leaves ends : List ℕ} → Laid j first row begins leaves ends → Bounded j.matrix.n first row leaves → RowTables j.matrix.n first row begins leaves
row_tables j laid b = record { bounded = b; begun = λ w k l h. begun-before j laid w l k (omega (arith, updates-are j laid.counted w l)) }

-- .. of as many rows as a matrix may have, if nobody asks for fewer
pub row_tables-most : (j : Job) {first row begins leaves ends : List ℕ} → Laid j first row begins leaves ends → Bounded j.matrix.n first row leaves → RowTables max_rows first row begins leaves
row_tables-most j laid b = record {
  bounded = record { rising = b.rising; rows_few = omega arith; row_low = λ k. omega (arith, b.row_low k, b.rows_few); leaf_low = b.leaf_low };
  begun = (row_tables j laid b).begun;
}

-- .. and its update
pub step_tables : (j : Job) {first row begins parts leaves ends at : List ℕ} {displaced beside : List ℤ} → Laid j first row begins leaves ends → Bounded j.matrix.n first row leaves
    → Triangle j parts displaced at beside → StepTables j.matrix.n first row begins parts leaves at beside
step_tables j {first} {row} {begins} {parts} laid b t = record {
  bounded = b;
  at_low = t.placed.at_low;
  long = t.placed.beside_long ∙ sym t.placed.at_long;
  room = omega (arith, t.placed.at_long);
  begun = λ w k l h. begun-before j laid w l k (omega (arith, updates-are j laid.counted w l));
  inside = λ w k l h. entry-inside j laid w l k (omega (arith, updates-are j laid.counted w l)) parts (λ p low. omega (arith, t.room p low, t.placed.at_long));
}

-- all updates are the job's, whatever the picks
pub triangle-ahead : (j : Job) {first row begins parts leaves ends at : List ℕ} {displaced beside : List ℤ} → Laid j first row begins leaves ends → Triangle j parts displaced at beside
    → (made : List ℕ) (picks : ℕ) → UpdatesAhead j made picks first row begins parts displaced at beside
unfolding next accesses
triangle-ahead j {first} {row} laid t made picks = record {
  is = λ new w l from to left. table-update j laid w l (count new w / 2) (omega (arith, left)) (triangle-row j t _ (row_below j laid w l (count new w / 2) (omega (arith, left))));
}
