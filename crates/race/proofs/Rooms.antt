-- The rooms of the lent lists cut to what a plan can need, and what an accepted call of the planner has checked.
use mathlib.Core.Path.{◌≡◌}
use mathlib.Core.Bool.{true}
use mathlib.Core.List.{List, [], ◌∷◌}
use Prim.Native.Nat.{ℕ, ◌*◌, ◌/◌, ◌≤◌, min}
use native.Mathlib.Nat.{min_comm}
use native.Mathlib.Omega.{arith}
use lib.Dec.{leb}
use lib.ListN.{length}
use borrow.Author.Tests.{leb-true, le-leb}
use Rattle.base.specs.Refusals as why
use Rattle.base.specs.Replies.{accepted, refused, Check, check, in_turn, room_for}
use Rattle.base.proofs.Booleans.{both_ways, leb-min}
use Rattle.base.proofs.Replies.{in_turn-same, accepted-all}
use Rattle.matrix.specs.Limits.{max_rows}
use Rattle.matrix.specs.Matrix.{Matrix, is_matrix, matrix_check}
use Rattle.matrix.proofs.Matrix.{matrix_facts}
use Rattle.plan.specs.Groups.{width, flat}
use Rattle.plan.specs.Code.Room.{max_fields}
use Rattle.plan.proofs.FlatRecords.{length-flat}
use Rattle.race.specs.Planner.{plan, are_parameters, plan_reply}
use Rattle.race.proofs.PlannedSound.{planned-sound, made_long}

-- ---- the reply

groups-cut : (count b y : ℕ) → count ≤ 481 → max_fields ≤ y → leb count (min b y / width) ≡ leb count (b / width)
groups-cut count b y few enough =
    both_ways (leb count (min b y / width)) (leb count (b / width))
    (λ t. le-leb count (b / width) (omega (arith, leb-true count (min b y / width) t)))
    (λ t. le-leb count (min b y / width) (omega (arith, leb-true count (b / width) t)))

module _ (m : Matrix) (w p k : ℕ) where
  -- rooms that are cut to no less than a plan can need give the same reply
  pub rooms_cut : (a b x y : ℕ) → max_rows ≤ x → max_fields ≤ y → plan_reply m w p k (min a x) (min b y) ≡ plan_reply m w p k a b
  unfolding plan_reply matrix_check
  rooms_cut a b x y hx hy =
      in_turn-same refused (matrix_check m) _ _ _ _ (λ ok.
      in_turn-same refused (check why.bad_parameter (are_parameters w p k)) _ _ _ _ (λ are.
      rw (min_comm a x, leb-min m.n x a (omega (arith, (matrix_facts m ok).few)), groups-cut (length (plan m w p k).groups) b y (planned-sound.few m w p k ok are) hy)))

  -- what an accepted call of so many groups has checked
  pub record Planned (a b count : ℕ) : Type 0 where
    pub matrix : is_matrix m ≡ true
    pub order-size : length (plan m w p k).order ≡ m.n
    pub groups-size : length (flat (plan m w p k).groups) ≡ width * count
    pub order-room : m.n ≤ a
    pub groups-room : width * count ≤ b

  pub planned : (a b count : ℕ) → plan_reply m w p k a b ≡ accepted count → Planned a b count
  unfolding plan_reply matrix_check in_turn
  planned a b count e =
      let made = length (plan m w p k).groups in
      let checks : List Check = matrix_check m ∷ check why.bad_parameter (are_parameters w p k) ∷ room_for m.n a ∷ room_for made (b / width) ∷ [] in
      let all = accepted-all checks (accepted made) count e in
      let told : accepted made ≡ accepted count = rw (all.0, all.1.0, all.1.1.0, all.1.1.1.0) at e in
      let same : made ≡ count = cc in
      record {
        matrix = all.0;
        order-size = made_long m w p k all.0 all.1.0;
        groups-size = rw (← same) (length-flat (plan m w p k).groups);
        order-room = leb-true m.n a all.1.1.0;
        groups-room = omega (arith, leb-true made (b / width) all.1.1.1.0);
      }
