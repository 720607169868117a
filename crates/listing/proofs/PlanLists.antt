-- The plan in the lists that the planner's call leaves, and what is written for it.
use mathlib.Core.Path.{◌≡◌, refl, ◌∙◌}
use mathlib.Core.Bool.{Bool, true, false, cond}
use mathlib.Core.List.{List}
use Prim.Native.Nat.{ℕ, ◌≤◌}
use native.Mathlib.Omega.{arith}
use lib.ListN.{length, drop}
use Rattle.base.specs.Replies.{Reply, accepted, refused, in_turn, lent}
use Rattle.base.specs.Refusals as why
use Rattle.base.proofs.Replies.{lent-accepted}
use Rattle.matrix.specs.Matrix.{Matrix, is_matrix, matrix_check}
use Rattle.matrix.proofs.Matrix.{matrix_facts}
use Rattle.matrix.specs.Limits.{max_rows}
use Rattle.plan.specs.Code.Room.{max_fields}
use Rattle.plan.specs.Groups.{Plan, flat, plan_of}
use Rattle.plan.proofs.FlatRecords.{plan-flat}
use Rattle.race.specs.Planner.{plan, are_parameters, plan_reply}
use Rattle.race.proofs.PlannedSound.{made_long, planned-sound}
use Rattle.listing.specs.Listing.{net_distance, parameters, planned, plan_listing, refused_line}

-- the first k records of a flat list, and an order, are the plan
pub record Left (m : Matrix) (w p k : ℕ) (order groups : List ℕ) : Type 0 where
  pub few : k ≤ 481
  pub listed : planned m (parameters w p) ≡ plan_listing (plan_of m.n order groups k)

module _ (m : Matrix) (w p : ℕ) (is : is_matrix m ≡ true) (order groups : List ℕ) (rows : length order ≡ max_rows) (room : length groups ≡ max_fields) where
  abbrev made : Plan
  made = plan m w p net_distance

  abbrev reply : Reply
  reply = plan_reply m w p net_distance (length order) (length groups)

  -- the lists have room for every plan: only the parameters are refused
  reply-is : (t : Bool) → are_parameters w p net_distance ≡ t → reply ≡ cond t (accepted (length made.groups)) (refused why.bad_parameter 0)
  unfolding plan_reply matrix_check in_turn
  reply-is true e = (planned-sound.left m w p net_distance order groups is e (record { rows = omega (arith, (matrix_facts m is).few); records = omega (arith, planned-sound.few m w p net_distance is e) })).accepts
  reply-is false e = rw (is, e)

  pub planned-refused : (q k : ℕ) → refused q k ≡ reply → planned m (parameters w p) ≡ refused_line q k
  unfolding planned
  planned-refused q k r = go (are_parameters w p net_distance) refl
    where
      go : (t : Bool) → are_parameters w p net_distance ≡ t → cond t (plan_listing made) (refused_line why.bad_parameter 0) ≡ refused_line q k
      go true e = let z = r ∙ reply-is true e in cc
      go false e = let z = r ∙ reply-is false e in cc

  pub planned-accepted : (k : ℕ) → accepted k ≡ reply → (order' groups' : List ℕ) → order' ≡ lent reply made.order order → groups' ≡ lent reply (flat made.groups) groups → Left m w p k order' groups'
  unfolding planned
  planned-accepted k r order' groups' o g = go (are_parameters w p net_distance) refl
    where
      go : (t : Bool) → are_parameters w p net_distance ≡ t → Left m w p k order' groups'
      go true e =
          let a = reply-is true e in
          let count : k ≡ length made.groups = let z = r ∙ a in cc in
          let order_is = o ∙ lent-accepted made.order order reply (length made.groups) a in
          let groups_are = g ∙ lent-accepted (flat made.groups) groups reply (length made.groups) a in
          let plan-is = plan-flat made m.n (drop (length made.order) order) (drop (length (flat made.groups)) groups) (made_long m w p net_distance is e) in
          record { few = rw count (planned-sound.few m w p net_distance is e); listed = rw (e, count, order_is, groups_are, plan-is) }
      go false e = let z = r ∙ reply-is false e in let y : ◌≡◌ {A = ℕ} 0 1 = cc in absurd (omega arith)
