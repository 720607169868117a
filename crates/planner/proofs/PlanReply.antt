-- The reply of a call of the planner, case by case, and what the lent lists then hold.
use mathlib.Core.Path.{◌≡◌, refl, sym, ◌∙◌}
use mathlib.Core.Bool.{true}
use mathlib.Core.List.{List, ◌++◌}
use Prim.Native.Nat.{ℕ, ◌*◌, ◌/◌, ◌≤◌, ◌<◌}
use native.Mathlib.Omega.{arith}
use lib.ListN.{length, take, drop}
use lib.Seq.{length-take-le}
use borrow.Author.Tests.{le-leb, lt-leb}
use Rattle.base.specs.Replies.{Reply, accepted, refused, in_turn, lent}
use Rattle.base.proofs.Replies.{lent-refused, lent-accepted}
use Rattle.matrix.specs.Matrix.{Matrix, is_matrix, matrix_check}
use Rattle.levels.specs.Code.Rows.{Rows, adj_of}
use Rattle.levels.proofs.Rows.{pattern-neighbours, rows-of}
use Rattle.plan.specs.Groups.{Plan, width, flat}
use Rattle.race.specs.Planner.{plan_rows, plan, are_parameters, plan_reply}
use Rattle.cycle.specs.Code.Records.{Holds}
use Rattle.race.proofs.PlannedSound.{planned-sound}

module _ (m : Matrix) (w p k : ℕ) (order groups : List ℕ) where
  -- the plan and the reply
  abbrev made : Plan
  made = plan m w p k

  abbrev reply : Reply
  reply = plan_reply m w p k (length order) (length groups)

  -- a reply, and the lists after it
  abbrev pub Replied : Reply → (order' groups' : List ℕ) → Type 0
  Replied r order' groups' = (r ≡ reply) × ((order' ≡ lent reply made.order order) × (groups' ≡ lent reply (flat made.groups) groups))

  refuses : (number place : ℕ) → reply ≡ refused number place → Replied (refused number place) order groups
  refuses number place e = (sym e, (sym (lent-refused made.order order reply number place e), sym (lent-refused (flat made.groups) groups reply number place e)))

  module _ (is : is_matrix m ≡ true) where
    -- what the planner needs
    pub rows : Rows m.n m.starts m.columns
    rows = rows-of m is

    module _ (are : are_parameters w p k ≡ true) where
      -- once all is planned
      module _ (long : m.n ≤ length order) {before list records : List ℕ} {count : ℕ}
          (held : Holds (plan_rows (adj_of m.n m.starts m.columns) m.n (record { reach = k; p = p }) w) 0 before list records count) where
        held' : Holds made 0 before list records count
        unfolding plan
        held' = rw (pattern-neighbours m) at held

        count_is : count ≡ length made.groups
        count_is = held'.count_is ∙ omega arith

        pub count-few : count ≤ 481
        count-few = omega (arith, count_is, planned-sound.few m w p k is are)

        pub refuses_groups : length groups / width < count → Replied (refused 9 count) order groups
        unfolding plan_reply matrix_check in_turn
        refuses_groups l =
            refuses 9 count (rw (is, are, le-leb m.n (length order) long, ← count_is, lt-leb count (length groups / width) l))

        pub accepts : count ≤ length groups / width → length list ≡ m.n → width * count ≤ length records
            → Replied (accepted count) (list ++ drop m.n order) (take (width * count) records ++ drop (width * count) groups)
        unfolding plan_reply matrix_check in_turn
        accepts l list-long room =
            let e : reply ≡ accepted count = rw (is, are, le-leb m.n (length order) long, ← count_is, le-leb count (length groups / width) l) in
            let taken : length (take (width * count) records) ≡ width * count = length-take-le (width * count) records room in
            let order_is : list ≡ made.order = held'.order_is in
            let groups_are : take (width * count) records ≡ flat made.groups = held'.records_are in
            let o : list ++ drop m.n order ≡ made.order ++ drop (length made.order) order = rw (← order_is, list-long) refl in
            let g : take (width * count) records ++ drop (width * count) groups ≡ flat made.groups ++ drop (length (flat made.groups)) groups = rw (← groups_are, taken) refl in
            (sym e, (o ∙ sym (lent-accepted made.order order reply count e), g ∙ sym (lent-accepted (flat made.groups) groups reply count e)))
