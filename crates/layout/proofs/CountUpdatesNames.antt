-- The numbers of a leaf's updates, by the record that the code reads.
use mathlib.Core.Path.{◌≡◌, refl, sym, subst}
use mathlib.Core.Bool.{Bool, true, false, not, true≢false}
use mathlib.Core.List.{List}
use Prim.Native.Nat.{ℕ, ◌+◌, ◌≤◌, ◌<◌}
use native.Mathlib.Omega.{arith}
use native.Mathlib.Numerals.{add-one}
use lib.ListN.{length, get_or, set}
use Rattle.plan.specs.Groups.{group_of}
use Rattle.plan.specs.Code.Checks.{record_at, below_whole}
use Rattle.plan.specs.declared.fields.Group as code
use Rattle.run.specs.Job.{Job}
use Rattle.run.specs.Updates.{up_to}
use Rattle.tables.specs.Code.Laid.{has_child}
use Rattle.layout.specs.Code.UpdateTable.{Planned, Numbers, reached}
use Rattle.layout.proofs.UpdateRoom.{room}
use Rattle.layout.proofs.LeafRows.{Read, read}
use Rattle.layout.proofs.CountRows.{numbers-leaf}

-- what the code says of a leaf
pub childless : {b x : Bool} → b ≡ not x → b ≡ true → x ≡ false
childless {x = true} e h = let q : false ≡ true = cc in absurd (true≢false (sym q))
childless {x = false} e h = refl

pub with_child : {b x : Bool} → b ≡ not x → b ≡ false → x ≡ true
with_child {x = true} e h = refl
with_child {x = false} e h = let q : true ≡ false = cc in absurd (true≢false q)

-- the numbers fit
pub record Fits (w number updates : ℕ) : Type 0 where
  pub low : w < 16
  pub few : number + updates ≤ 69632

module _ {j : Job} {groups sizes : List ℕ} {count i : ℕ} (g : Planned j groups count sizes) (l : i < count) (no : has_child i (below_whole count groups) ≡ false)
    {r : code.Group} (is : group_of r ≡ record_at groups i) {first : List ℕ} (n : Numbers j (reached count groups i) first) where
  q : Read g i l no r
  q = read g i l no is

  before : Numbers j r.start first
  before = subst (λ (p : ℕ). Numbers j p first) (sym q.starts) n

  module _ (updates : ℕ) (more : length (up_to j r.first r.start) + updates ≡ length (up_to j r.first (r.start + r.length))) where
    pub leaf-fits : Fits r.first (get_or first (r.first + 1) 0) updates
    leaf-fits = record { low = q.stretch.worker; few = omega (arith, more, before.is _ q.stretch.worker, room j g.sized.accepted _ _ q.stretch.worker q.stretch.inside) }

    pub leaf-numbers : Numbers j (reached count groups (i + 1)) (set first (r.first + 1) (get_or first (r.first + 1) 0 + updates))
    leaf-numbers = rw (add-one i, ← q.ends) (numbers-leaf q.stretch before updates more)
