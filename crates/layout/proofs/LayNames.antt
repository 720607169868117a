-- A leaf's rows, by the record that the code reads.
use mathlib.Core.Path.{◌≡◌}
use mathlib.Core.Bool.{false}
use mathlib.Core.List.{List}
use Prim.Native.Nat.{ℕ, ◌+◌, ◌≤◌, ◌<◌}
use native.Mathlib.Omega.{arith}
use lib.ListN.{get_or}
use Rattle.plan.specs.Groups.{group_of}
use Rattle.plan.specs.Code.Checks.{record_at, below_whole}
use Rattle.plan.specs.declared.fields.Group as code
use Rattle.run.specs.Job.{Job}
use Rattle.tables.specs.Code.Laid.{has_child, next_of, Counted}
use Rattle.layout.specs.Code.UpdateTable.{Planned, Stretch, Filled, Walked, reached}
use Rattle.layout.proofs.UpdateRoom.{room}
use Rattle.layout.proofs.LeafRows.{Read, read}

-- the numbers fit
pub record Fits (i w place : ℕ) : Type 0 where
  pub record_low : i < 512
  pub low : w < 16
  pub few : place ≤ 69632

pub record EndFits (end first : ℕ) : Type 0 where
  pub few : end ≤ 69632
  pub rises : first ≤ end

module _ {j : Job} {groups sizes : List ℕ} {count i : ℕ} (g : Planned j groups count sizes) (l : i < count) (no : has_child i (below_whole count groups) ≡ false)
    {r : code.Group} (is : group_of r ≡ record_at groups i) where
  leaf : Read g i l no r
  leaf = read g i l no is

  pub leaf-stretch : Stretch j i r.first r.start (r.start + r.length)
  leaf-stretch = leaf.stretch

  module _ {next row begins leaves ends : List ℕ} (t : Walked j (reached count groups i) i next row begins leaves ends) where
    -- the place of its worker's next update, and the rows before it
    pub place-is : get_or next r.first 0 ≡ next_of j r.first r.start
    place-is = rw leaf.starts (t.nexts _ leaf.stretch.worker)

    pub filled-before : Filled j r.start row begins leaves
    filled-before = rw leaf.starts t.filled

    pub leaf-fits : Fits i r.first (get_or next r.first 0)
    leaf-fits =
        let h = leaf.stretch in
        record { record_low = h.record_low; low = h.worker; few = omega (arith, place-is, h.rises, h.inside, room j g.sized.accepted r.first r.start h.worker (omega (arith, h.rises, h.inside))) }

  -- the place after them
  pub end-fits : {first : List ℕ} → Counted j first → {end : ℕ} → end ≡ next_of j r.first (r.start + r.length) → EndFits end (get_or first r.first 0)
  end-fits k e =
      let h = leaf.stretch in
      record { few = omega (arith, e, room j g.sized.accepted r.first (r.start + r.length) h.worker h.inside); rises = omega (arith, e, k.is r.first (omega (arith, h.worker))) }
