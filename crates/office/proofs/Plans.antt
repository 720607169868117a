-- The planner's call: lists of the matrix that are cut, and the plan stored in the lent lists.
use mathlib.Core.Path.{◌≡◌, sym, ap, ◌∙◌}
use mathlib.Core.Bool.{true}
use mathlib.Core.List.{List, ◌++◌}
use Prim.Native.Nat.{ℕ, ◌*◌, ◌/◌, ◌≤◌, min}
use native.Mathlib.Omega.{arith}
use lib.ListN.{length, take}
use lib.Seq.{length-take-le}
use Rattle.base.specs.Replies.{Reply, accepted, refused, lent}
use Rattle.base.proofs.Replies.{in_turn-same, lent_same, lent-refused}
use Rattle.matrix.specs.Limits.{max_rows}
use Rattle.matrix.specs.Matrix.{Matrix, is_matrix, matrix_check}
use Rattle.matrix.proofs.Cut.{cut, cut-matrix, cut-neighbours}
use Rattle.plan.specs.Groups.{Plan, flat, width}
use Rattle.race.specs.Planner.{plan, plan_reply}
use Rattle.race.proofs.Rooms.{rooms_cut, planned}
use Rattle.words.specs.LittleEndian.{bytes_of, unsigned_bytes, stored}
use Rattle.plan.specs.Code.Room.{max_fields}
use Rattle.lent.specs.Word.{word}
use Rattle.office.specs.Lent.{plan_in, PlanAnswered}
use Rattle.lent.proofs.Answers.{Begins, begins, begins-stored}

-- ---- the reply

module _ (m : Matrix) (w p k : ℕ) where
  -- a matrix whose lists are cut has the same plan
  plan-cut : is_matrix m ≡ true → plan (cut m) w p k ≡ plan m w p k
  unfolding plan
  plan-cut ok = rw (cut-neighbours m ok)

  reply-cut : (a b : ℕ) → plan_reply (cut m) w p k a b ≡ plan_reply m w p k a b
  unfolding plan_reply matrix_check
  reply-cut a b = rw (cut-matrix m) (in_turn-same refused (matrix_check m) _ _ _ _ (λ ok. rw (plan-cut ok)))

-- the lists that a call decodes, cut, for the whole ones
pub decoded_matrix : (m : Matrix) (w p k : ℕ) {c : Matrix} {order groups : List ℕ} {r : ℕ} {new_order new_groups : List ℕ} → c ≡ cut m
    → PlanAnswered c w p k order groups r new_order new_groups → PlanAnswered m w p k order groups r new_order new_groups
decoded_matrix m w p k {order = order} {groups = groups} e t =
    let u = rw e at t in
    let same = reply-cut m w p k (length order / 4) (length groups / 4) in
    let alike : (count : ℕ) → plan_in m w p k order groups ≡ accepted count → plan (cut m) w p k ≡ plan m w p k = λ count ok. plan-cut m w p k (planned m w p k _ _ count ok).matrix in
    record {
      returns = u.returns ∙ ap word same;
      order-left = u.order-left ∙ ap (λ (q : Reply). lent q (unsigned_bytes 4 (plan (cut m) w p k).order) order) same ∙ lent_same _ _ _ order (λ count ok. ap (λ (o : Plan). unsigned_bytes 4 o.order) (alike count ok));
      groups-left = u.groups-left ∙ ap (λ (q : Reply). lent q (unsigned_bytes 4 (flat (plan (cut m) w p k).groups)) groups) same ∙ lent_same _ _ _ groups (λ count ok. ap (λ (o : Plan). unsigned_bytes 4 (flat o.groups)) (alike count ok));
    }

-- ---- a plan made in arrays

-- the reply of a call to which the first i and j numbers of two arrays are lent on
pub same-reply : (m : Matrix) (w p k : ℕ) (order groups order_bytes group_bytes : List ℕ) {i j : ℕ} → (max_rows ≤ length order) × (max_fields ≤ length groups)
    → i ≡ min (length order_bytes / 4) (length order) → j ≡ min (length group_bytes / 4) (length groups)
    → plan_reply m w p k (length (take i order)) (length (take j groups)) ≡ plan_in m w p k order_bytes group_bytes
same-reply m w p k order groups order_bytes group_bytes {i} {j} enough ei ej =
    rw (length-take-le i order (omega arith), length-take-le j groups (omega arith), ei, ej)
    (rooms_cut m w p k (length order_bytes / 4) (length group_bytes / 4) (length order) (length groups) enough.0 enough.1)

-- two arrays begin with the plan of so many groups that an accepted call gives
pub record Held (m : Matrix) (w p k : ℕ) (order_bytes group_bytes : List ℕ) (count : ℕ) (order groups : List ℕ) : Type 0 where
  pub reply : accepted count ≡ plan_in m w p k order_bytes group_bytes
  pub order-begins : Begins order (plan m w p k).order m.n
  pub groups_begin : Begins groups (flat (plan m w p k).groups) (width * count)
  pub order-room : m.n ≤ length order_bytes / 4
  pub groups-room : width * count ≤ length group_bytes / 4

module _ {m : Matrix} {w p k : ℕ} {order_bytes group_bytes : List ℕ} {r : Reply} (same : r ≡ plan_in m w p k order_bytes group_bytes) where
  -- a refused call leaves the lent lists
  pub plan-refused : {q place v : ℕ} → refused q place ≡ r → v ≡ word (refused q place) → PlanAnswered m w p k order_bytes group_bytes v order_bytes group_bytes
  plan-refused {q} {place} e f =
      let reply = sym (e ∙ same) in
      record { returns = f ∙ ap word (sym reply); order-left = sym (lent-refused _ order_bytes _ q place reply); groups-left = sym (lent-refused _ group_bytes _ q place reply) }

  -- an accepted one holds the plan in the arrays; `more` is what is in them past the part that is lent on
  pub plan-held : {count : ℕ} → accepted count ≡ r → {os gs : List ℕ} (old_order old_groups : List ℕ)
      → os ≡ lent r (plan m w p k).order old_order → gs ≡ lent r (flat (plan m w p k).groups) old_groups
      → (more_order more_groups : List ℕ) → Held m w p k order_bytes group_bytes count (os ++ more_order) (gs ++ more_groups)
  plan-held {count} e old_order old_groups eo eg more_order more_groups =
      let made = planned m w p k (length order_bytes / 4) (length group_bytes / 4) count (sym (e ∙ same)) in
      record {
        reply = e ∙ same;
        order-begins = begins (sym e) _ _ eo more_order made.order-size;
        groups_begin = begins (sym e) _ _ eg more_groups made.groups-size;
        order-room = made.order-room;
        groups-room = made.groups-room;
      }

-- .. and stores it
pub plan-stored : {m : Matrix} {w p k : ℕ} {order_bytes group_bytes : List ℕ} {count : ℕ} {order groups : List ℕ} → Held m w p k order_bytes group_bytes count order groups
    → {v : ℕ} {new_order new_groups : List ℕ} → v ≡ word (accepted count)
    → new_order ≡ stored (unsigned_bytes 4 (take (length order_bytes / 4) (take m.n order))) order_bytes
    → new_groups ≡ stored (unsigned_bytes 4 (take (length group_bytes / 4) (take (width * count) groups))) group_bytes
    → PlanAnswered m w p k order_bytes group_bytes v new_order new_groups
plan-stored {order_bytes = order_bytes} {group_bytes = group_bytes} h f go gg = record {
  returns = f ∙ ap word h.reply;
  order-left = begins-stored h.order-begins (bytes_of 4) 4 order_bytes (sym h.reply) h.order-room go;
  groups-left = begins-stored h.groups_begin (bytes_of 4) 4 group_bytes (sym h.reply) h.groups-room gg;
}
