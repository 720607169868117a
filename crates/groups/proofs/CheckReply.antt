-- The reply of the check of a plan, from the flat list of its groups.
use mathlib.Core.Path.{◌≡◌, refl, sym, ap, ◌∙◌}
use mathlib.Core.Bool.{Bool, true, false}
use mathlib.Core.List.{List, [], ◌++◌, map, append-nil}
use Prim.Native.Nat.{ℕ, ◌*◌, ◌≤◌, ◌<◌}
use native.Mathlib.Omega.{arith}
use lib.Dec.{leb}
use lib.ListN.{length, take, drop, length-append, length-map, take-append-drop}
use lib.Seq.{take-length}
use borrow.Author.Tests.{leb-true, leb-false, lt-leb, le-leb}
use Rattle.base.proofs.Booleans.{and_false}
use Rattle.matrix.specs.Matrix.{Matrix}
use Rattle.plan.specs.Groups as plan
use Rattle.plan.specs.Groups.{width, flat, plan_of, group_of}
use Rattle.plan.specs.Sound.{max_groups, is_plan_at, check_reply}
use Rattle.plan.proofs.FlatRecords.{records-flat, length-flat}
use Rattle.plan.specs.declared.fields.Group.{Group}
use Rattle.groups.specs.Code.Flattened.{few, Flattened}

module _ (m : Matrix) (order : List ℕ) (k : ℕ) where
  same-reply : (ns ms : List ℕ) (c d : ℕ) → is_plan_at k m order ns c ≡ is_plan_at k m order ms d → check_reply m order ns c k ≡ check_reply m order ms d k
  unfolding check_reply
  same-reply ns ms c d e = rw e

  -- past 512 records no list is a plan
  too_many : (ns : List ℕ) (c : ℕ) → max_groups < c → is_plan_at k m order ns c ≡ false
  unfolding is_plan_at
  too_many ns c l = rw (lt-leb c max_groups l, and_false (leb m.n (length order)))

  pub reply_too_many : (ns ms : List ℕ) (c d : ℕ) → max_groups < c → max_groups < d → check_reply m order ns c k ≡ check_reply m order ms d k
  reply_too_many ns ms c d l h = same-reply ns ms c d (too_many ns c l ∙ sym (too_many ms d h))

  -- what stands after the records is not read
  unread : (hs : List plan.Group) (rest : List ℕ) → is_plan_at k m order (flat hs ++ rest) (length hs) ≡ is_plan_at k m order (flat hs) (length hs)
  unfolding is_plan_at plan_of
  unread hs rest =
      let long : width * length hs ≤ length (flat hs ++ rest) = omega (arith, length-append (flat hs) rest, length-flat hs) in
      let alone : plan.records (length hs) (flat hs) ≡ hs = rw (append-nil (flat hs)) at (records-flat hs []) in
      rw (le-leb (width * length hs) (length (flat hs ++ rest)) long, le-leb (width * length hs) (length (flat hs)) (omega (arith, length-flat hs)), records-flat hs rest, alone)

  pub reply_flattened : (gs : List Group) (ns : List ℕ) → Flattened gs ns → check_reply m order ns (length gs) k ≡ check_reply m order (flat (map group_of gs)) (length gs) k
  reply_flattened gs ns f = go (leb (length gs) max_groups) refl
    where
      hs : List plan.Group
      hs = map group_of gs

      go : (b : Bool) → leb (length gs) max_groups ≡ b → check_reply m order ns (length gs) k ≡ check_reply m order (flat hs) (length gs) k
      go false e = reply_too_many ns (flat hs) (length gs) (length gs) (leb-false (length gs) max_groups e) (leb-false (length gs) max_groups e)
      go true e =
          let all : few gs ≡ length gs = omega (arith, leb-true (length gs) max_groups e) in
          let begins : take (width * length gs) ns ≡ flat hs = rw (all, take-length gs) at f.is in
          let splits : ns ≡ flat hs ++ drop (width * length gs) ns = sym (take-append-drop (width * length gs) ns) ∙ ap (λ (l : List ℕ). l ++ drop (width * length gs) ns) begins in
          let count : length gs ≡ length hs = sym (length-map gs group_of) in
          same-reply ns (flat hs) (length gs) (length gs) (rw (splits, count) (unread hs (drop (width * length hs) ns)))
