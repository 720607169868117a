-- The records of a plan, cut from a longer list, are all those of the cut list.
use mathlib.Core.Path.{◌≡◌, sym, ap, ◌∙◌}
use mathlib.Core.List.{List, [], ◌++◌, append-nil}
use Prim.Native.Nat.{ℕ, ◌*◌, ◌/◌, ◌≤◌}
use native.Mathlib.Omega.{arith}
use lib.ListN.{length, take, length-take}
use Rattle.plan.specs.Groups.{width, records, flat}
use Rattle.plan.proofs.FlatRecords.{length-records, flat-records, records-flat}
use Rattle.run.specs.Job.{Job}
use Rattle.layout.specs.Code.UpdateTable.{Planned}

module _ (groups : List ℕ) (count : ℕ) (fits : width * count ≤ length groups) where
  abbrev pub cut : List ℕ
  cut = take (width * count) groups

  pub cut-count : length cut / width ≡ count
  cut-count = omega (arith, length-take (width * count) groups)

  -- they are the plan's
  pub cut-records : records count cut ≡ records count groups
  cut-records =
      rw (← flat-records count groups fits, ← append-nil (flat (records count groups)))
      (ap (λ (k : ℕ). records k (flat (records count groups) ++ [])) (sym (length-records count groups)) ∙ records-flat (records count groups) [])

-- .. and so are those of an accepted job
pub planned-cut : {j : Job} {groups sizes : List ℕ} {count : ℕ} → Planned j groups count sizes → Planned j (take (width * count) groups) (length (take (width * count) groups) / width) sizes
planned-cut {groups = groups} {count = count} g = record {
  sized = g.sized;
  groups_are = rw (cut-count groups count g.groups_long, cut-records groups count g.groups_long) g.groups_are;
  groups_long = omega (arith, g.groups_long, cut-count groups count g.groups_long, length-take (width * count) groups);
}
