-- The updates that a schedule can reach, by the parts of their rows alone.
use mathlib.Core.Path.{◌≡◌, ap}
use mathlib.Core.List.{List}
use Prim.Native.Nat.{ℕ, ◌+◌, ◌/◌, ◌≤◌, ◌<◌}
use native.Mathlib.Omega.{arith}
use lib.IntN.{ℤ, pos}
use lib.ListN.{length, get_or}
use Rattle.run.specs.Job.{Job}
use Rattle.run.specs.Updates.{count, displacement_at, updates, accesses, next}
use Rattle.tables.specs.Code.Laid.{max_updates, Laid, Bounded}
use Rattle.upper.proofs.UpperRows.{upper_whole}
use Rattle.steps.specs.Code.Steps.{StepTables, UpdatesAhead}
use Rattle.steps.proofs.TableUpdates.{RowFound, updates-are, row_below, begun-before, table-update, entry-inside}
use Rattle.ahead.specs.Code.Ahead.{PartsAhead}

module _ (j : Job) {first row begins leaves ends : List ℕ} (laid : Laid j first row begins leaves ends) {made : List ℕ} {picks : ℕ} {parts at : List ℕ} {beside : List ℤ}
    (r : PartsAhead j.matrix j.plan.order first row made picks parts at beside) where
  -- the tables as the picks need them
  pub ahead_tables : Bounded j.matrix.n first row leaves → length beside ≡ length at → length at ≤ max_updates → StepTables j.matrix.n first row begins parts leaves at beside
  ahead_tables b long room = record {
    bounded = b;
    at_low = r.at_low;
    long = long;
    room = room;
    begun = λ w k l h. begun-before j laid w l k (omega (arith, updates-are j laid.counted w l));
    inside = λ w k l h. entry-inside j laid w l k (omega (arith, updates-are j laid.counted w l)) parts (λ p low. omega (arith, r.room p low, ap length (upper_whole j p low)));
  }

  -- the updates are the job's
  pub ahead-updates : {displaced : List ℤ} → ((p : ℕ) → p < j.matrix.n → get_or displaced p (pos 0) ≡ displacement_at j p) → UpdatesAhead j made picks first row begins parts displaced at beside
  unfolding next accesses
  ahead-updates {displaced} d = record {
    is = λ new w l from to left.
        let k : ℕ = count new w / 2 in
        let low : k < length (updates j w) = omega (arith, left) in
        let found : RowFound j parts displaced at beside (get_or row (get_or first w 0 + k) 0) = record {
          low = row_below j laid w l k low;
          displacements = d;
          at_low = r.at_low;
          part = r.is w (get_or first w 0 + k) l (omega arith) (omega arith) (omega (arith, updates-are j laid.counted w l));
        } in
        table-update j laid w l k low found;
  }
