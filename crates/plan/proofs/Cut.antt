-- Lent lists of a plan cut to what a plan can need: places of the order and records. They are a plan if the whole lists
-- are.
use mathlib.Core.Path.{◌≡◌, refl, ap}
use mathlib.Core.Bool.{Bool, true, false, ◌&&◌}
use mathlib.Core.List.{List}
use Prim.Native.Nat.{ℕ, zero, suc, ◌*◌, ◌-◌, ◌≤◌, min}
use native.Mathlib.Omega.{arith}
use lib.Dec.{leb}
use lib.ListN.{length, take, drop, length-take}
use lib.Seq.{get_or-take, take-take}
use borrow.Author.Tests.{leb-true}
use Rattle.base.proofs.Booleans.{and_false, leb-min}
use Rattle.base.proofs.Lists.{take-drop}
use Rattle.matrix.specs.Limits.{max_rows}
use Rattle.matrix.specs.Matrix.{Matrix, is_matrix}
use Rattle.matrix.proofs.Cut.{cut, cut-neighbours}
use Rattle.plan.specs.Groups.{Plan, width, of_fields, records, plan_of}
use Rattle.plan.specs.Sound.{max_groups, apart, beyond, sound, is_sound, is_sound_at, plan_lent}
use Rattle.plan.specs.Code.Room.{max_fields}

-- ---- records

records-cut : (count most : ℕ) (ns : List ℕ) → width * count ≤ most → records count (take most ns) ≡ records count ns
unfolding records of_fields
records-cut zero most ns h = refl
records-cut (suc k) most ns h =
    let first : of_fields (take most ns) ≡ of_fields ns =
    rw (
      get_or-take most ns 0 0 (omega arith),
      get_or-take most ns 1 0 (omega arith),
      get_or-take most ns 2 0 (omega arith),
      get_or-take most ns 3 0 (omega arith),
      get_or-take most ns 4 0 (omega arith),
      get_or-take most ns 5 0 (omega arith),
      get_or-take most ns 6 0 (omega arith),
    ) in
    rw (first, ← take-drop width most ns, records-cut k (most - width) (drop width ns) (omega arith))

-- ---- the test

module _ (m : Matrix) (order groups : List ℕ) (count : ℕ) (few : m.n ≤ max_rows) where
  -- cut, the lists hold the same plan if its records fit
  pub plan-kept : width * count ≤ max_fields → plan_of m.n (take max_rows order) (take max_fields groups) count ≡ plan_of m.n order groups count
  unfolding plan_of
  plan-kept h = rw (take-take m.n max_rows order few, records-cut count max_fields groups h)

  -- cut, the lists are a plan that passes a test if and only if they were
  pub cut-lent : (test : Plan → Bool) → plan_lent test m (take max_rows order) (take max_fields groups) count ≡ plan_lent test m order groups count
  cut-lent test = rw (length-take max_rows order, length-take max_fields groups, leb-min m.n max_rows (length order) few) (go (leb count max_groups) refl)
    where
      before : Bool
      before = leb m.n (length order)

      go : (b : Bool) → leb count max_groups ≡ b
          → before && leb count max_groups && leb (width * count) (min max_fields (length groups)) && test (plan_of m.n (take max_rows order) (take max_fields groups) count)
          ≡ before && leb count max_groups && leb (width * count) (length groups) && test (plan_of m.n order groups count)
      go true e =
          let fits : width * count ≤ max_fields = omega (arith, leb-true count max_groups e) in
          rw (leb-min (width * count) max_fields (length groups) fits, plan-kept fits)
      go false e = rw (e, and_false before)

-- a matrix whose lists are cut has the same sound plans, at every distance
pub cut-sound : (m : Matrix) (p : Plan) → is_matrix m ≡ true → is_sound (cut m) p ≡ is_sound m p
unfolding is_sound
cut-sound m p ok = ap (λ (adj : ℕ → List ℕ). sound (apart adj) m.n p.order p.groups) (cut-neighbours m ok)

pub cut-sound_at : (k : ℕ) (m : Matrix) (p : Plan) → is_matrix m ≡ true → is_sound_at k (cut m) p ≡ is_sound_at k m p
unfolding is_sound_at
cut-sound_at k m p ok = ap (λ (adj : ℕ → List ℕ). sound (beyond adj k) m.n p.order p.groups) (cut-neighbours m ok)
