-- Planned plans are sound, also in the lists that the planner's call leaves.
use mathlib.Core.Path.{◌≡◌}
use mathlib.Core.Bool.{Bool, true, ◌&&◌}
use mathlib.Core.List.{List, [], ◌∷◌, ◌++◌}
use Prim.Native.Nat.{ℕ, ◌*◌, ◌/◌, ◌≤◌}
use native.Mathlib.Omega.{arith}
use lib.Dec.{leb}
use lib.ListN.{length, get_or, drop, length-append}
use borrow.Author.Tests.{leb-true, le-leb}
use Rattle.base.specs.Replies.{Reply, accepted, in_turn}
use Rattle.base.proofs.Booleans.{and_left, and_right, conj_first, conj_at}
use Rattle.base.proofs.Replies.{lent-accepted}
use Rattle.matrix.specs.Matrix.{Matrix, is_matrix, neighbours, matrix_check}
use Rattle.matrix.proofs.Matrix.{graph}
use Rattle.plan.specs.Groups.{Plan, width, flat}
use Rattle.plan.specs.Sound.{max_workers, max_groups, max_distance, is_distance, beyond, is_sound, is_sound_at, plan_lent, is_plan, is_plan_at, check_reply}
use Rattle.plan.proofs.FlatRecords.{length-flat, plan-flat}
use Rattle.plan.proofs.Distances.{distances}
use Rattle.plan.proofs.Sound.{sound-long}
use Rattle.race.specs.Planner.{plan, are_parameters, plan_reply}
use Rattle.race.specs.PlannedSound.{order_left, groups_left, PlanRoom, PlanLeft, PlannedSound}
use Rattle.race.proofs.Planned.{rows_few, rows-sound}

-- parameters are within their limits
pub record Limits (w p k : ℕ) : Type 0 where
  pub some : 1 ≤ w
  pub workers : w ≤ max_workers
  pub share : p ≤ 100
  pub distance : is_distance k ≡ true
  pub far : (1 ≤ k) × (k ≤ max_distance)

pub limits : (w p k : ℕ) → are_parameters w p k ≡ true → Limits w p k
unfolding are_parameters is_distance
limits w p k ok = record {
  some = leb-true 1 w (conj_first (leb 1 w) tests ok);
  workers = leb-true w max_workers (at 0);
  share = omega (arith, leb-true p 99 (at 2));
  distance = at 3;
  far = (leb-true 1 k (and_left (leb 1 k) (leb k max_distance) (at 3)), leb-true k max_distance (and_right (leb 1 k) (leb k max_distance) (at 3)));
}
  where
    tests : List Bool
    tests = leb w max_workers ∷ leb 50 p ∷ leb p 99 ∷ (leb 1 k && leb k max_distance) ∷ []

    at : (i : ℕ) → get_or tests i true ≡ true
    at = conj_at (leb 1 w) tests ok

module _ (m : Matrix) (w p k : ℕ) where
  abbrev made : Plan
  made = plan m w p k

  module _ (ok : is_matrix m ≡ true) (given : are_parameters w p k ≡ true) where
    made-sound : is_sound_at k m made ≡ true
    unfolding is_sound_at plan
    made-sound = let l = limits w p k given in rows-sound (neighbours m) m.n (record { reach = k; p = p }) (graph m ok) l.far.0 w l.some l.workers

    made-few : length made.groups ≤ 481
    unfolding plan
    made-few = let l = limits w p k given in rows_few (neighbours m) m.n (record { reach = k; p = p }) (graph m ok) l.far.0 w l.workers

    -- the plan's order has all rows
    pub made_long : length made.order ≡ m.n
    unfolding is_sound_at
    made_long = sound-long (beyond (neighbours m) k) m.n made.order made.groups made-sound

    -- lists that begin with the plan hold a plan that passes what it passes
    made-lent : (test : Plan → Bool) → test made ≡ true → (rows numbers : List ℕ) → plan_lent test m (made.order ++ rows) (flat made.groups ++ numbers) (length made.groups) ≡ true
    made-lent test passed rows numbers =
        let long : m.n ≤ length (made.order ++ rows) = omega (arith, length-append made.order rows, made_long) in
        let room : width * length made.groups ≤ length (flat made.groups ++ numbers) = omega (arith, length-append (flat made.groups) numbers, length-flat made.groups) in
        rw (
          plan-flat made m.n rows numbers made_long,
          passed,
          le-leb m.n (length (made.order ++ rows)) long,
          le-leb (length made.groups) max_groups (omega (arith, made-few)),
          le-leb (width * length made.groups) (length (flat made.groups ++ numbers)) room,
        )

    module _ (order groups : List ℕ) (room : PlanRoom m w p k order groups) where
      -- lists with room are accepted
      made-accepted : plan_reply m w p k (length order) (length groups) ≡ accepted (length made.groups)
      unfolding plan_reply matrix_check in_turn
      made-accepted = rw (ok, given, le-leb m.n (length order) room.rows, le-leb (length made.groups) (length groups / width) (omega arith))

      -- they then begin with the plan
      left-lent : (test : Plan → Bool) → test made ≡ true → plan_lent test m (order_left m w p k order groups) (groups_left m w p k order groups) (length made.groups) ≡ true
      unfolding order_left groups_left
      left-lent test passed =
          let reply : Reply = plan_reply m w p k (length order) (length groups) in
          rw (lent-accepted made.order order reply (length made.groups) made-accepted, lent-accepted (flat made.groups) groups reply (length made.groups) made-accepted)
          (made-lent test passed (drop (length made.order) order) (drop (length (flat made.groups)) groups))

      made-left : PlanLeft m w p k order groups
      unfolding check_reply matrix_check is_plan is_plan_at in_turn
      made-left = record {
        accepts = made-accepted;
        passes = rw (ok, (limits w p k given).distance, left-lent (is_sound_at k m) made-sound);
        runs = λ enough. left-lent (is_sound m) (distances.enough m made k ok enough made-sound);
      }

-- the theorem
pub planned-sound : PlannedSound
planned-sound = record {
  sound = made-sound;
  few = made-few;
  left = λ m w p k order groups ok given. made-left m w p k ok given order groups;
}
