-- What the planner's call leaves in a flat array, for a slice of so many structs.
use mathlib.Core.Path.{◌≡◌, refl, ap, ◌∙◌}
use mathlib.Core.List.{List, ◌++◌, map, append_assoc}
use Prim.Native.Nat.{ℕ, ◌+◌, ◌*◌, ◌≤◌, min}
use native.Mathlib.Omega.{arith}
use lib.ListN.{length, take, drop, length-map}
use lib.Seq.{length-take-le}
use Rattle.base.specs.Replies.{Reply, accepted, refused, lent}
use Rattle.matrix.specs.Limits.{max_rows}
use Rattle.matrix.specs.Matrix.{Matrix}
use Rattle.plan.specs.Groups.{width, flat}
use Rattle.plan.specs.Sound.{max_groups}
use Rattle.plan.specs.Code.Room.{max_fields}
use Rattle.plan.proofs.FlatRecords.{records-flat, length-flat}
use Rattle.race.specs.Planner.{plan, plan_reply}
use Rattle.plan.specs.declared.fields.Group.{Group}
use Rattle.race.proofs.Rooms.{rooms_cut, planned}
use Rattle.groups.specs.Structs.{of_group}
use Rattle.groups.specs.Code.Flattened.{gathered}
use Rattle.groups.proofs.Gathering.{gathered_none}

-- how many groups a reply accepts
abbrev pub count_of : Reply → ℕ
count_of (accepted count) = count
count_of (refused number place) = 0

module _ (m : Matrix) (w p k : ℕ) (a room : ℕ) where
  -- the reply to a call with so much room for the groups
  abbrev reply : Reply
  reply = plan_reply m w p k a (width * room)

  -- it is the same with no more room than a plan can need
  pub same-reply : plan_reply m w p k a (min (width * room) max_fields) ≡ reply
  same-reply =
      let all : min a (a + max_rows) ≡ a = omega arith in
      rw all at (rooms_cut m w p k a (width * room) (a + max_rows) max_fields (omega arith) (omega arith))

  -- so many records fit a plan and the slice
  pub reply-fits : (count_of reply ≤ max_groups) × (count_of reply ≤ room)
  reply-fits = go reply refl
    where
      go : (r : Reply) → reply ≡ r → (count_of r ≤ max_groups) × (count_of r ≤ room)
      go (accepted c) e =
          let fits = (planned m w p k a (width * room) c e).groups-room in
          let few = (planned m w p k a (min (width * room) max_fields) c (same-reply ∙ e)).groups-room in
          (omega arith, omega arith)
      go (refused q s) e = (omega arith, omega arith)

  -- the numbers that the call leaves, and what stands after them: their groups, written to a slice
  pub reply-groups : (old rest : List ℕ) (gs : List Group) → gathered (count_of reply) (lent reply (flat (plan m w p k).groups) old ++ rest) gs ≡ lent reply (map of_group (plan m w p k).groups) gs
  unfolding lent gathered
  reply-groups old rest gs = go reply refl
    where
      go : (r : Reply) → reply ≡ r → gathered (count_of r) (lent r (flat (plan m w p k).groups) old ++ rest) gs ≡ lent r (map of_group (plan m w p k).groups) gs
      go (accepted c) e =
          let hs = (plan m w p k).groups in
          let count : length hs ≡ c = omega (arith, (planned m w p k a (width * room) c e).groups-size, length-flat hs) in
          rw (append_assoc (flat hs) (drop (length (flat hs)) old) rest, ← count, records-flat hs (drop (length (flat hs)) old ++ rest), length-map hs of_group)
      go (refused q s) e = gathered_none (old ++ rest) gs

-- the planner's call with the first numbers of an array
module _ (m : Matrix) (w p k a room size : ℕ) (s : size ≡ width * min room max_groups) (zeros : List ℕ) (long : length zeros ≡ max_fields) where
  pub told : plan_reply m w p k a (length (take size zeros)) ≡ plan_reply m w p k a (width * room)
  told =
      let e : length (take size zeros) ≡ min (width * room) max_fields = omega (arith, length-take-le size zeros (omega arith)) in
      rw e (same-reply m w p k a room)

  module _ (part : List ℕ) (count : ℕ) (is : accepted count ≡ plan_reply m w p k a (length (take size zeros))) where
    pub fits : (count ≤ max_groups) × (count ≤ room)
    fits = rw (← ap count_of (is ∙ told)) at (reply-fits m w p k a room)

    pub left : (gs : List Group) → part ≡ lent (plan_reply m w p k a (length (take size zeros))) (flat (plan m w p k).groups) (take size zeros)
        → gathered count (part ++ drop size zeros) gs ≡ lent (plan_reply m w p k a (width * room)) (map of_group (plan m w p k).groups) gs
    left gs e = rw (e, told, ap count_of (is ∙ told)) (reply-groups m w p k a room (take size zeros) (drop size zeros) gs)
