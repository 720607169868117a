-- A record that has a child has the next record as one, where the records stand depth first.
use mathlib.Core.Path.{◌≡◌, sym, ap, ◌∙◌}
use mathlib.Core.Logic.{◌⊎◌, inl, inr, ◌≢◌}
use mathlib.Core.Bool.{true, false, not}
use mathlib.Core.List.{List, [], ◌∷◌}
use Prim.Native.Nat.{ℕ, zero, suc, ◌+◌, ◌≤◌, ◌<◌}
use native.Mathlib.Omega.{arith}
use lib.ListN.{length, get_or, drop, length-drop}
use lib.Seq.{get_or-drop}
use lib.Dec.{eqb}
use borrow.Author.Tests.{eq-eqb, ne_eqb}
use Rattle.base.specs.Lists.{is_empty}
use Rattle.base.proofs.Booleans.{same_or}
use Rattle.plan.specs.Groups.{Group, records, of_fields}
use Rattle.plan.specs.Sound.{children}
use Rattle.plan.specs.Code.Checks.{record_at, below_whole, stands_depth_first}
use Rattle.plan.proofs.Records.{Down, before-one, down}
use Rattle.plan.proofs.FlatRecords.{length-records}
use Rattle.plan.proofs.Nested.{children-ended, children-later, children_at, children-over}
use Rattle.tables.specs.Code.Laid.{has_child}
use Rattle.layout.proofs.Reached.{has-child, record_get}

down_at : (k : ℕ) (gs : List Group) → Down k gs → (i : ℕ) (d : Group) → i < length gs → (get_or gs i d).parent < k + i
down_at k [] h i d l = absurd (omega arith)
down_at k (g ∷ gs) h zero d l = omega (arith, h.0)
down_at k (g ∷ gs) h (suc i) d l = omega (arith, down_at (suc k) gs h.1 i d (omega arith))

module _ (count : ℕ) (ns : List ℕ) (nested : stands_depth_first count ns ≡ true) (i : ℕ) where
  by_next : {gs : List Group} → children i (drop (i + 1) (records count ns)) ≡ gs → has_child i (below_whole count ns) ≡ not (is_empty gs)
  by_next e = has-child i (below_whole count ns) ∙ ap (λ (gs : List Group). not (is_empty gs)) (children-later count ns nested i ∙ e)

  -- the last record has none
  pub last_none : count ≤ i + 1 → has_child i (below_whole count ns) ≡ false
  last_none l = by_next (children-over count i (i + 1) ns l)

  module _ (l : i + 1 < count) where
    -- the next record's parent stands before it
    pub parent-before : (record_at ns (i + 1)).parent < i + 1
    parent-before =
        let d : Group = of_fields [] in
        let e : 1 + i ≡ i + 1 = omega arith in
        let h = down_at 1 (below_whole count ns) (down (0 ∷ []) 1 (below_whole count ns) before-one nested) i d (omega (arith, length-drop 1 (records count ns), length-records count ns)) in
        rw (get_or-drop 1 (records count ns) i d, e, record_get count ns (i + 1) d l) at h

    pub next-child : has_child i (below_whole count ns) ≡ eqb (record_at ns (i + 1)).parent i
    next-child = go (same_or (record_at ns (i + 1)).parent i)
      where
        go : ((record_at ns (i + 1)).parent ≡ i) ⊎ ((record_at ns (i + 1)).parent ≢ i) → has_child i (below_whole count ns) ≡ eqb (record_at ns (i + 1)).parent i
        go (inl e) = by_next (children_at count i (i + 1) ns l e) ∙ sym (eq-eqb (record_at ns (i + 1)).parent i e)
        go (inr d) = by_next (children-ended count ns nested i (i + 1) (omega arith) l (omega (arith, parent-before, d))) ∙ sym (ne_eqb (record_at ns (i + 1)).parent i d)
