-- `is_plan_at` as the passes of the check, in the code's order.
use mathlib.Core.Path.{◌≡◌, refl, sym, ap, ◌∙◌}
use mathlib.Core.Bool.{Bool, true, false, ◌&&◌}
use mathlib.Core.List.{List, [], ◌∷◌}
use Prim.Native.Nat.{ℕ, ◌*◌, ◌≤◌, ◌<◌}
use native.Mathlib.Omega.{arith}
use lib.Dec.{leb}
use lib.ListN.{length, take}
use borrow.Author.Tests.{le-leb, lt-leb}
use Rattle.base.proofs.Booleans.{and_false}
use Rattle.matrix.specs.Matrix.{Matrix, neighbours}
use Rattle.plan.specs.Groups.{Group, width, records, plan_of}
use Rattle.plan.specs.Sound.{max_groups, each_once, depth_first, beyond, all_sound, sound, is_sound_at, is_plan_at}
use Rattle.plan.specs.Code.Checks.{record_at, below_whole, stands_depth_first}
use Rattle.sound.specs.Code.Whole.{is_whole}
use Rattle.plan.proofs.FlatRecords.{records_at, length-records}

and_assoc : (a b c : Bool) → (a && b) && c ≡ a && (b && c)
and_assoc true b c = refl
and_assoc false b c = refl

and_swap : (a b c : Bool) → a && (b && c) ≡ b && (a && c)
and_swap true b c = refl
and_swap false b c = sym (and_false b)

-- the passes over a plan's lists
abbrev pub passes : (k : ℕ) → Matrix → (order groups : List ℕ) (count : ℕ) → Bool
passes k m order groups count =
    is_whole m.n (record_at groups 0)
    && (each_once m.n (take m.n order)
    && (stands_depth_first count groups && all_sound (beyond (neighbours m) k) (take m.n order) (below_whole count groups) 0 (records count groups)))

sound-parts : (far : List ℕ → List ℕ → Bool) (n : ℕ) (order : List ℕ) (g : Group) (gs : List Group) → length (g ∷ gs) ≤ max_groups
    → sound far n order (g ∷ gs) ≡ is_whole n g && (each_once n order && (depth_first (0 ∷ []) 1 gs && all_sound far order gs 0 (g ∷ gs)))
unfolding sound is_whole
sound-parts far n order g gs l = rw (le-leb (length (g ∷ gs)) max_groups l) (simp and_assoc) ∙ and_swap (each_once n order) (is_whole n g) (depth_first (0 ∷ []) 1 gs && all_sound far order gs 0 (g ∷ gs))

module _ (k : ℕ) (m : Matrix) (order groups : List ℕ) (count : ℕ) where
  abbrev n : ℕ
  n = m.n

  abbrev answer : Bool
  answer = is_plan_at k m order groups count

  -- lists that are too short, no group, too many groups
  pub order-short : length order < n → answer ≡ false
  unfolding is_plan_at
  order-short l = rw (lt-leb n (length order) l)

  pub no-groups : count < 1 → answer ≡ false
  unfolding is_plan_at is_sound_at plan_of sound records
  no-groups l = let e : count ≡ 0 = omega arith in rw e (and_false (leb n (length order) && leb 0 max_groups && leb (width * 0) (length groups)))

  pub many-groups : max_groups < count → answer ≡ false
  unfolding is_plan_at
  many-groups l = rw (lt-leb count max_groups l, and_false (leb n (length order)))

  pub groups-short : length groups < width * count → answer ≡ false
  unfolding is_plan_at
  groups-short l = rw (lt-leb (width * count) (length groups) l, and_false (leb n (length order) && leb count max_groups))

  -- otherwise the passes decide
  pub plan-passes : n ≤ length order → 1 ≤ count → count ≤ max_groups → width * count ≤ length groups → answer ≡ passes k m order groups count
  unfolding is_plan_at is_sound_at plan_of
  plan-passes a b c d =
      rw (le-leb n (length order) a, le-leb count max_groups c, le-leb (width * count) (length groups) d)
      (ap (sound (beyond (neighbours m) k) n (take n order)) first
      ∙ sound-parts (beyond (neighbours m) k) n (take n order) (record_at groups 0) (below_whole count groups) (omega (arith, ap length first, length-records count groups))
      ∙ ap (λ (gs : List Group). is_whole n (record_at groups 0) && (each_once n (take n order) && (stands_depth_first count groups && all_sound (beyond (neighbours m) k) (take n order) (below_whole count groups) 0 gs))) (sym first))
    where
      first : records count groups ≡ record_at groups 0 ∷ below_whole count groups
      first = records_at count 0 groups b
